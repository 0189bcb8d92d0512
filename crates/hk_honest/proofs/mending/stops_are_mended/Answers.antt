use Rattle.hk_honest.proofs.Runs.{run-ok, run-report}
use Rattle.hk_honest.proofs.Stops.{answered, kept-elsewhere, kept-unsaid, left-honest, store-after}
use Rattle.hk_honest.proofs.mending.stops_are_mended.Goals as goal

pub returns-clause-store : goal.returns-clause-store
returns-clause-store c = store-after

pub returns-clause-elsewhere : goal.returns-clause-elsewhere
returns-clause-elsewhere c = kept-elsewhere

pub returns-clause-unsaid : goal.returns-clause-unsaid
returns-clause-unsaid c = kept-unsaid

pub returns-clause-honest : goal.returns-clause-honest
returns-clause-honest c = left-honest

pub returns-clause-ok : goal.returns-clause-ok
returns-clause-ok c = λ plan cache after old new r b. run-ok plan after old new b (left-honest plan cache after r)

pub returns-clause-report : goal.returns-clause-report
returns-clause-report c = λ plan cache after old new r b. run-report plan after old new b (left-honest plan cache after r)

pub returns-clause-answers : goal.returns-clause-answers
returns-clause-answers c = λ plan cache after old new status r b faultless. answered plan after old new status b (left-honest plan cache after r) faultless
