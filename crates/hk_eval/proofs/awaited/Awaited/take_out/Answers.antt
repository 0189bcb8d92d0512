-- What is left is what isn't that pair.
use Rattle.std.proofs.Common.{◌≡◌, sym, ap, ◌∙◌, subst, arith, ℕ, ◌+◌, ◌<◌, ◌≤◌, List, length, drop, get_or, filter, not, nat_eq}
use Rattle.std.specs.List.{IsDistinct, remove}
use Rattle.hk_eval.proofs.Awaiting.{place-in, front-out, later-out, distinct-out}
use Rattle.hk_eval.proofs.awaited.Awaited.take_out.Goals as goal

pub invariant_of-self : goal.invariant_of-self
invariant_of-self c =
    let xs = c.self.inside.pairs.items in
    let a = c.self.inside.answered in
    let lent : c.as_slice.result.now ≡ drop a xs = c.as_slice.ensures ∙ sym c.self.view_is in
    let within : 0 < length (drop a xs) = subst (λ (l : List ℕ). 0 < length l) lent (subst (λ n. n < length c.as_slice.result.now) c.if-place-eq0.true c.place_among-place.ensures.within) in
    let found : get_or (drop a xs) 0 0 ≡ c.args.pair = subst (λ (l : List ℕ). get_or l 0 0 ≡ c.args.pair) lent (subst (λ n. get_or c.as_slice.result.now n 0 ≡ c.args.pair) c.if-place-eq0.true c.place_among-place.ensures.found) in
    let place : a + 0 < length xs = place-in xs a 0 within in
    (omega (arith, place), subst (IsDistinct nat_eq) (sym (front-out xs a c.args.pair within found c.self.invariant.1)) (distinct-out c.args.pair (drop a xs) c.self.invariant.1))

pub returns-then-place-eq0 : goal.returns-then-place-eq0
returns-then-place-eq0 c =
    let xs = c.self.inside.pairs.items in
    let a = c.self.inside.answered in
    let lent : c.as_slice.result.now ≡ drop a xs = c.as_slice.ensures ∙ sym c.self.view_is in
    let within : 0 < length (drop a xs) = subst (λ (l : List ℕ). 0 < length l) lent (subst (λ n. n < length c.as_slice.result.now) c.if-place-eq0.true c.place_among-place.ensures.within) in
    let found : get_or (drop a xs) 0 0 ≡ c.args.pair = subst (λ (l : List ℕ). get_or l 0 0 ≡ c.args.pair) lent (subst (λ n. get_or c.as_slice.result.now n 0 ≡ c.args.pair) c.if-place-eq0.true c.place_among-place.ensures.found) in
    front-out xs a c.args.pair within found c.self.invariant.1 ∙ ap (filter (λ q. not (nat_eq c.args.pair q))) c.self.view_is

pub invariant_of-self-else-place-eq0 : goal.invariant_of-self-else-place-eq0
invariant_of-self-else-place-eq0 c =
    let xs = c.self.inside.pairs.items in
    let a = c.self.inside.answered in
    let i = c.place_among-place.result in
    let lent : c.as_slice.result.now ≡ drop a xs = c.as_slice.ensures ∙ sym c.self.view_is in
    let within : i < length (drop a xs) = subst (λ (l : List ℕ). i < length l) lent c.place_among-place.ensures.within in
    let found : get_or (drop a xs) i 0 ≡ c.args.pair = subst (λ (l : List ℕ). get_or l i 0 ≡ c.args.pair) lent c.place_among-place.ensures.found in
    let left : drop a c.remove.new.self.items ≡ filter (λ q. not (nat_eq c.args.pair q)) (drop a xs) = ap (drop a) c.remove.ensures.items ∙ later-out xs a i c.args.pair within found c.self.invariant.1 in
    let place : a + i < length xs = place-in xs a i within in
    let count = c.remove.ensures.len in
    (omega (arith, place, count, c.self.inside.pairs.ok.0, c.remove.new.self.ok.0), subst (IsDistinct nat_eq) (sym left) (distinct-out c.args.pair (drop a xs) c.self.invariant.1))

pub returns-else-place-eq0 : goal.returns-else-place-eq0
returns-else-place-eq0 c =
    let xs = c.self.inside.pairs.items in
    let a = c.self.inside.answered in
    let i = c.place_among-place.result in
    let lent : c.as_slice.result.now ≡ drop a xs = c.as_slice.ensures ∙ sym c.self.view_is in
    let within : i < length (drop a xs) = subst (λ (l : List ℕ). i < length l) lent c.place_among-place.ensures.within in
    let found : get_or (drop a xs) i 0 ≡ c.args.pair = subst (λ (l : List ℕ). get_or l i 0 ≡ c.args.pair) lent c.place_among-place.ensures.found in
    ap (drop a) c.remove.ensures.items ∙ (later-out xs a i c.args.pair within found c.self.invariant.1 ∙ ap (filter (λ q. not (nat_eq c.args.pair q))) c.self.view_is)
