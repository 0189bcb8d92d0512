use Rattle.std.proofs.Common.{◌≡◌, ℕ, true, take}
use Rattle.std.specs.List.{AllByRecursion}
use Rattle.hk_eval.specs.Told.{told_pages, is_listed}
use Rattle.hk_eval.proofs.told.Told.reserve.Given as goal

abbrev pub invariant-loop-pair : goal.invariant-loop-pair
invariant-loop-pair l = ((q : ℕ) → told_pages l.self q ≡ told_pages l.initial.self q) × AllByRecursion (λ p. is_listed l.self p ≡ true) (take l.pair-index l.pairs)
