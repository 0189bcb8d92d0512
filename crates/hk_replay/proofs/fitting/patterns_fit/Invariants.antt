use Rattle.std.proofs.Common.{◌≡◌, drop}
use Rattle.std.specs.List.{list_all}
use Rattle.hk_reuse.specs.Fits.{pattern_fits}
use Rattle.hk_replay.specs.PlanItems.{items_of}
use Rattle.hk_replay.proofs.fitting.patterns_fit.Given as goal

abbrev pub invariant-loop-found : goal.invariant-loop-found
invariant-loop-found l = list_all (pattern_fits (items_of l.plan)) l.records ≡ list_all (pattern_fits (items_of l.plan)) (drop l.found-index l.records)
