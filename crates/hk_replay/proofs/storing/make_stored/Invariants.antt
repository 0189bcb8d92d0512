use Rattle.std.proofs.Common.{◌≡◌}
use Rattle.std.specs.Prelude.{filter_map}
use Rattle.hk_chain.specs.Kept.{at_place}
use Rattle.hk_fix.specs.Report.{ending_at, upto}
use Rattle.hk_store.specs.Traits.{sha_digests}
use Rattle.hk_reuse.specs.Image.{entry_by}
use Rattle.hk_replay.specs.PlanItems.{items_of}
use Rattle.hk_replay.proofs.storing.make_stored.Given as goal

abbrev pub invariant-loop-number : goal.invariant-loop-number
invariant-loop-number l = l.entries.items ≡ filter_map (λ i. entry_by sha_digests (items_of l.plan) (ending_at l.results.outcomes) (at_place l.results.pages) i (ending_at l.results.outcomes i)) (upto l.number)
