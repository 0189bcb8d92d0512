use Rattle.hk_honest.proofs.Runs.{run-ok, run-report}
use Rattle.hk_honest.proofs.Said.{ok-said, report-said}
use Rattle.hk_honest.proofs.builds.builds_over_honest_stores_are_clean.Goals as goal

pub returns-clause-ok : goal.returns-clause-ok
returns-clause-ok c = run-ok

pub returns-clause-report : goal.returns-clause-report
returns-clause-report c = run-report

pub returns-clause-summed : goal.returns-clause-summed
returns-clause-summed c = ok-said

pub returns-clause-named : goal.returns-clause-named
returns-clause-named c = report-said
