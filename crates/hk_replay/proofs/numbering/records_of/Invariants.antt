use Rattle.std.proofs.Common.{◌≡◌, ◌≤◌, ◌<◌, ℕ, length, drop}
use Rattle.hk_rules.specs.Plan.{id_at}
use Rattle.hk_store.specs.Traits.{sha_digests}
use Rattle.hk_reuse.specs.Entries.{entries_in}
use Rattle.hk_replay.specs.Adding.{view_at}
use Rattle.hk_replay.specs.Numbered.{numbered_by}
use Rattle.hk_replay.specs.PlanItems.{items_of}
use Rattle.hk_replay.proofs.numbering.records_of.Given as goal

abbrev pub invariant-loop-at : goal.invariant-loop-at
invariant-loop-at l = (l.at ≤ length l.stored) × (length l.by_item.items ≡ length l.plan.items) × ((i : ℕ) → i < length l.plan.items → view_at l.by_item.items i ≡ numbered_by sha_digests (items_of l.plan) i (entries_in (drop l.at l.stored) (id_at l.plan i)))

abbrev pub decreases-loop-at : goal.decreases-loop-at
decreases-loop-at l = l.at
