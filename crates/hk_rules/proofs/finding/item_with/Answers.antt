use Rattle.std.proofs.Common.{◌≡◌, ◌+◌, ◌/◌, ◌-◌, sym, ap, ◌∙◌, arith, zero-add, Some, get_or}
use Rattle.hk_base.specs.Identifier.{ident_cmp}
use Rattle.hk_rules.proofs.Searching.{hit, miss}
use Rattle.hk_rules.proofs.finding.item_with.Goals as goal

pub returns-in-Equal : goal.returns-in-Equal
returns-in-Equal c =
    let middle = c.loop-low.low + (c.loop-low.high - c.loop-low.low) / 2 in
    ap Some (sym (zero-add middle)) ∙ sym (hit c.args.id.now 0 c.args.items.now middle c.index-items-middle.result c.requires.sorted (omega arith) (sym c.in-Equal.ensures))

pub returns : goal.returns
returns c =
    let low = c.loop-low.low in
    let same : c.loop-low.high ≡ c.loop-low.low = omega arith in
    sym (miss c.args.id.now 0 c.args.items.now c.loop-low.low c.requires.sorted (omega arith)
    (λ m d is.
    let at : c.loop-low.low - 1 ≡ m = omega (arith, is) in
    ap (λ n. ident_cmp c.args.id.now (get_or c.args.items.now n d).0) (sym at) ∙ c.loop-low.invariant.below d (omega (arith, is)))
    (λ d l. ap (λ n. ident_cmp c.args.id.now (get_or c.args.items.now n d).0) (sym same) ∙ c.loop-low.invariant.above d (omega (arith, l, same))))
