use Rattle.std.proofs.Common.{◌≡◌, sym, ap, ◌∙◌, subst, arith, ℕ, ◌+◌, ◌≤◌, false, nat_eq, eqb-true, List, [], ◌∷◌, ◌++◌, take, set, length, length-set, Some, Contains}
use Rattle.std.proofs.lemmas.List.{take_more_set, length-take-le}
use Rattle.hk_fix.specs.Meaning.{told_page}
use Rattle.hk_families.specs.Sample.{first_need, second_need, SampleView, sample_meaning, Fits}
use Rattle.hk_families.specs.SampleLaws.{left-distinct, needs-apart}
use Rattle.hk_families.proofs.SampleSteps.{first-told, second-told, meaning-second, waits-first, waits-second, the-second}
use Rattle.hk_families.proofs.sample.SamplerCompiler.answer.Goals as goal
use Rattle.hk_families.proofs.sample.SamplerCompiler.answer.Goals.{in-Some-2, in-None-2}

pub take_out-requires-clause-distinct : goal.take_out-requires-clause-distinct
take_out-requires-clause-distinct c =
    let s = c.self.inside in
    rw (c.self.invariant.7, c.self.invariant.4, c.self.invariant.5) (left-distinct (first_need s.item) (second_need s.item) s.one s.two (needs-apart s.item))

pub invariant_of-self-then-eq-2 : goal.invariant_of-self-then-eq-2
invariant_of-self-then-eq-2 c =
    let s = c.self.inside in
    let i = c.self.invariant in
    let v : SampleView = record { item = s.item; one = s.one; two = s.two; is_saved = s.is_saved; is_asked = s.is_asked; is_ended = s.is_ended; is_spent = s.is_spent; seen = take s.count s.seen } in
    let first : c.args.pair ≡ s.first = eqb-true c.args.pair s.first (sym c.eq.ensures ∙ c.if-eq.true) in
    let pair : c.args.pair ≡ first_need s.item = first ∙ i.4 in
    let apart : nat_eq s.first s.second ≡ false = rw (i.4, i.5) (needs-apart s.item) in
    let has : Contains (sample_meaning v).awaits (first_need s.item) = subst (λ (p : ℕ). Contains (sample_meaning v).awaits p) pair (subst (λ (w : SampleView). Contains (sample_meaning w).awaits c.args.pair) (sym c.self.view_is) c.requires) in
    let told = first-told v i.0 c.args.page has in
    let three : length s.seen ≡ 3 = i.8 in
    let count : s.count ≤ 2 = omega (arith, told.1, length-take-le s.count s.seen (omega (arith, three, i.1))) in
    let seen : take (s.count + 1) (set s.seen s.count c.args.pair) ≡ take s.count s.seen ++ first_need s.item ∷ [] = take_more_set s.seen s.count c.args.pair (omega (arith, three, count)) ∙ ap (λ (p : ℕ). take s.count s.seen ++ p ∷ []) pair in (
      subst (λ (l : List ℕ). Fits (record v { one = Some c.args.page; seen = l })) (sym seen) told.0,
      omega (arith, count),
      i.2,
      i.3,
      i.4,
      i.5,
      i.6,
      waits-first s.first s.second c.args.pair s.one s.two c.args.page s.waits.items c.take_out.new.pairs.items c.take_out.ensures i.7 first apart,
      length-set s.seen s.count c.args.pair ∙ i.8,
    )

pub invariant_of-self-else-eq-2 : goal.invariant_of-self-else-eq-2
invariant_of-self-else-eq-2 c =
    let s = c.self.inside in
    let i = c.self.invariant in
    let v : SampleView = record { item = s.item; one = s.one; two = s.two; is_saved = s.is_saved; is_asked = s.is_asked; is_ended = s.is_ended; is_spent = s.is_spent; seen = take s.count s.seen } in
    let given : Contains (sample_meaning v).awaits c.args.pair = subst (λ (w : SampleView). Contains (sample_meaning w).awaits c.args.pair) (sym c.self.view_is) c.requires in
    let other : nat_eq c.args.pair (first_need s.item) ≡ false = sym (ap (nat_eq c.args.pair) i.4) ∙ (sym c.eq.ensures ∙ c.if-eq.false) in
    let pair : c.args.pair ≡ second_need s.item = the-second v c.args.pair given other in
    let second : c.args.pair ≡ s.second = pair ∙ sym i.5 in
    let apart : nat_eq s.first s.second ≡ false = rw (i.4, i.5) (needs-apart s.item) in
    let told = second-told v i.0 c.args.page (subst (λ (p : ℕ). Contains (sample_meaning v).awaits p) pair given) in
    let three : length s.seen ≡ 3 = i.8 in
    let count : s.count ≤ 2 = omega (arith, told.1, length-take-le s.count s.seen (omega (arith, three, i.1))) in
    let seen : take (s.count + 1) (set s.seen s.count c.args.pair) ≡ take s.count s.seen ++ second_need s.item ∷ [] = take_more_set s.seen s.count c.args.pair (omega (arith, three, count)) ∙ ap (λ (p : ℕ). take s.count s.seen ++ p ∷ []) pair in (
      subst (λ (l : List ℕ). Fits (record v { two = Some c.args.page; seen = l })) (sym seen) told.0,
      omega (arith, count),
      i.2,
      i.3,
      i.4,
      i.5,
      i.6,
      waits-second s.first s.second c.args.pair s.one s.two c.args.page s.waits.items c.take_out.new.pairs.items c.take_out.ensures i.7 second apart,
      length-set s.seen s.count c.args.pair ∙ i.8,
    )

pub returns-else-eq : goal.returns-else-eq
returns-else-eq c =
    let s = c.self.inside in
    let i = c.self.invariant in
    let v : SampleView = record { item = s.item; one = s.one; two = s.two; is_saved = s.is_saved; is_asked = s.is_asked; is_ended = s.is_ended; is_spent = s.is_spent; seen = take s.count s.seen } in
    let given : Contains (sample_meaning v).awaits c.args.pair = subst (λ (w : SampleView). Contains (sample_meaning w).awaits c.args.pair) (sym c.self.view_is) c.requires in
    let other : nat_eq c.args.pair (first_need s.item) ≡ false = sym (ap (nat_eq c.args.pair) i.4) ∙ (sym c.eq.ensures ∙ c.if-eq.false) in
    let pair : c.args.pair ≡ second_need s.item = the-second v c.args.pair given other in
    let same : sample_meaning (record v { two = Some c.args.page; seen = take (s.count + 1) (set s.seen s.count c.args.pair) }) ≡ told_page (sample_meaning c.args.self.now) c.args.pair c.args.page =
    meaning-second v i.0 c.args.page (take (s.count + 1) (set s.seen s.count c.args.pair)) (subst (λ (p : ℕ). Contains (sample_meaning v).awaits p) pair given) ∙ (ap (λ (p : ℕ). told_page (sample_meaning v) p c.args.page) (sym pair) ∙ ap (λ (w : SampleView). told_page (sample_meaning w) c.args.pair c.args.page) c.self.view_is) in
    elim c.match-self-2.branch [ in-Some-2 w ↦ ap sample_meaning w.self-is ∙ same | in-None-2 w ↦ ap sample_meaning w.self-is ∙ same ]
