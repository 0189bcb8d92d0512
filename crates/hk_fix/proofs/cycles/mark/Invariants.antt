use Rattle.std.proofs.Common.{◌≡◌, ℕ, ◌<◌, length, take, cond, false, true}
use Rattle.hk_fix.specs.Facts.{is_in}
use Rattle.hk_fix.specs.Walks.{place_at, place_by}
use Rattle.hk_fix.proofs.cycles.mark.Given as goal

abbrev pub invariant-loop-item : goal.invariant-loop-item
invariant-loop-item l = (q : ℕ) → q < length l.fn.places → place_at l.places q ≡ cond (is_in (take l.item-index l.around) q) (place_by true false) (place_at l.fn.places q)
