use Rattle.std.proofs.Common.{◌≡◌, Some}
use Rattle.hk_turn_trials.proofs.decks.fill.Given as goal

abbrev pub invariant-loop-number : goal.invariant-loop-number
invariant-loop-number l = l.owner.key ≡ Some l.bound
