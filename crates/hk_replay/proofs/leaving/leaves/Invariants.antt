use Rattle.std.proofs.Common.{◌≡◌, ◌≤◌, length, take}
use Rattle.std.specs.Prelude.{filter_map}
use Rattle.hk_chain.specs.Kept.{at_place}
use Rattle.hk_fix.specs.Report.{ending_at, upto}
use Rattle.hk_store.specs.Traits.{sha_digests}
use Rattle.hk_reuse.specs.Image.{entry_by}
use Rattle.hk_replay.specs.PlanItems.{items_of}
use Rattle.hk_replay.proofs.leaving.leaves.Given as goal

abbrev pub invariant-loop-number : goal.invariant-loop-number
invariant-loop-number l =
    (filter_map (λ i. entry_by sha_digests (items_of l.plan) (ending_at l.results.outcomes) (at_place l.results.pages) i (ending_at l.results.outcomes i)) (upto l.number) ≡ take l.at l.kept)
    × (l.at ≤ length l.kept)
