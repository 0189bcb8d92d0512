use Rattle.std.proofs.Common.{◌≡◌, drop}
use Rattle.std.specs.List.{list_all}
use Rattle.hk_eval.specs.PlanTable.{table_of}
use Rattle.hk_store.specs.Traits.{sha_digests}
use Rattle.hk_reuse.specs.Fits.{ask_fits}
use Rattle.hk_replay.proofs.fitting.asks_fit.Given as goal

abbrev pub invariant-loop-ask : goal.invariant-loop-ask
invariant-loop-ask l = list_all (ask_fits sha_digests (table_of l.plan)) l.asks ≡ list_all (ask_fits sha_digests (table_of l.plan)) (drop l.ask-index l.asks)
