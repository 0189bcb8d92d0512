use Rattle.std.proofs.Common.{◌≡◌, sym, ap, ◌∙◌, arith, ℕ, ◌+◌, ◌<◌, List, [], ◌∷◌, ◌++◌, Bool, false, true, length, take, get_or}
use Rattle.std.proofs.lemmas.List.{length-replicate, length-set, take_more}
use Rattle.hk_fix.specs.Facts.{is_in}
use Rattle.hk_build.proofs.Showing.{mark-more, no-marks}
use Rattle.hk_build.proofs.shown.marked.Goals as goal

pub loop-item-init : goal.loop-item-init
loop-item-init c =
    record {
      count = ap length c.in_ok-marks.ensures ∙ length-replicate c.args.count false;
      marks = λ i lt. ap (λ (l : List Bool). get_or l i false) c.in_ok-marks.ensures ∙ no-marks c.args.count i;
    }

pub mark-requires : goal.mark-requires
mark-requires c =
    let items : List ℕ = c.args.items.now in
    let at = c.loop-item.item-index in
    let below : get_or items at c.item-item.result < c.args.count = c.requires at c.item-item.result c.loop-item-test.true in
    let same : c.item-item.result ≡ get_or items at c.item-item.result = c.item-item.is in
    omega (arith, below, same, c.loop-item.invariant.count)

pub loop-item-preserved : goal.loop-item-preserved
loop-item-preserved c =
    let items : List ℕ = c.args.items.now in
    let at = c.loop-item.item-index in
    let p = c.item-item.result in
    let below : get_or items at p < c.args.count = c.requires at p c.loop-item-test.true in
    let same : p ≡ get_or items at p = c.item-item.is in
    let lt : p < length c.loop-item.marks.items = omega (arith, below, same, c.loop-item.invariant.count) in
    let next : take (at + 1) items ≡ take at items ++ p ∷ [] = take_more items at p c.loop-item-test.true ∙ ap (λ (q : ℕ). take at items ++ q ∷ []) (sym same) in
    record {
      count = ap length c.mark.ensures ∙ (length-set c.loop-item.marks.items p true ∙ c.loop-item.invariant.count);
      marks = λ i less.
          ap (λ (l : List Bool). get_or l i false) c.mark.ensures
          ∙ (mark-more c.loop-item.marks.items (take at items) p i lt (c.loop-item.invariant.marks i less) ∙ ap (λ (l : List ℕ). is_in l i) (sym next));
    }
