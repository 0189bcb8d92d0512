use Rattle.std.proofs.Common.{◌≡◌, ◌<◌, ℕ, [], length, get_or}
use Rattle.hk_eval.specs.PlanTable.{traits_at}
use Rattle.hk_store.specs.Traits.{sha_digests}
use Rattle.hk_replay.proofs.known.all_traits.Given as goal

abbrev pub invariant-loop-number : goal.invariant-loop-number
invariant-loop-number l = (length l.traits.items ≡ l.number) × ((item : ℕ) → item < l.number → get_or l.traits.items item [] ≡ sha_digests.traits (traits_at l.plan item))
