-- How an item ended, as plain data.
use Rattle.hk_fix.specs.declared.results.Outcome.{Outcome}
use Rattle.hk_fix.specs.declared.results.Outcome.TheVariants.{Done, Failed, Waiting}
use Rattle.hk_fix.specs.Fix.{Ending, finished, faulted, waiting}

abbrev pub outcome_view : Outcome → Ending
outcome_view (Done facts) = finished facts
outcome_view (Failed f) = faulted f
outcome_view (Waiting pairs) = waiting pairs.items
