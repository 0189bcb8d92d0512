use Rattle.hk_sites.proofs.Runs.{runs-same, pages-same, ends-same, entries-same}
use Rattle.hk_sites.proofs.building.runs_are_deeds.Goals as goal

pub returns-clause-runs : goal.returns-clause-runs
returns-clause-runs c = runs-same

pub returns-clause-pages : goal.returns-clause-pages
returns-clause-pages c = pages-same

pub returns-clause-ends : goal.returns-clause-ends
returns-clause-ends c = λ plan item made lt. ends-same plan made item lt

pub returns-clause-entries : goal.returns-clause-entries
returns-clause-entries c = λ dig plan made. entries-same plan made dig
