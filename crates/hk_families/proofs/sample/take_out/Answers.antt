use Rattle.std.proofs.Common.{◌≡◌, sym, ap, ◌∙◌, arith, ℕ, ◌<◌, List, get_or, remove, length, eqb-true}
use Rattle.std.proofs.lemmas.Grind.{get_or_default_zero}
use Rattle.hk_families.specs.SampleLaws.{taken-out}
use Rattle.hk_families.proofs.sample.take_out.Goals as goal

pub returns-then-eq : goal.returns-then-eq
returns-then-eq c =
    let old : List ℕ = c.args.pairs.now.items in
    let i = c.loop-i.i in
    let pair = c.args.pair in
    let lt : i < length old = omega (arith, c.loop-i-test.true, c.len-i-end.ensures, c.args.pairs.now.ok) in
    let found : c.index.result.now ≡ pair = eqb-true c.index.result.now pair (sym c.eq.ensures ∙ c.if-eq.true) in
    let at : get_or old i 0 ≡ pair = sym (get_or_default_zero old i c.index.result.now lt) ∙ (sym (c.index.ensures ∙ ap (λ l. get_or l i c.index.result.now) c.loop-i.invariant.same) ∙ found) in
    c.remove.ensures.items ∙ (ap (λ (l : List ℕ). remove l i) c.loop-i.invariant.same ∙ taken-out old i pair lt at c.requires.distinct)

pub returns : goal.returns
returns c =
    let k = c.requires.has.0 in
    let lt : k < length c.args.pairs.now.items = c.requires.has.1 in
    absurd (c.loop-i.invariant.before k (omega (arith, lt, c.loop-i-test.false, c.len-i-end.ensures, c.args.pairs.now.ok))
    (ap (λ l. get_or l k 0) c.loop-i.invariant.same ∙ (sym (get_or_default_zero c.args.pairs.now.items k c.args.pair lt) ∙ c.requires.has.2)))
