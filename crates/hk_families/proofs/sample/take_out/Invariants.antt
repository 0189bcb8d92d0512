use Rattle.std.proofs.Common.{◌≡◌, ℕ, ◌<◌, get_or}
use Rattle.hk_families.proofs.sample.take_out.Given as goal

abbrev pub invariant-loop-i : goal.invariant-loop-i
invariant-loop-i l = record { same : l.pairs.items ≡ l.fn.pairs.items; before : (k : ℕ) → k < l.i → get_or l.pairs.items k 0 ≡ l.pair → ⊥ }
