use Rattle.hk_reuse.proofs.Examples.{are-apart, uses-own, nothing-changed, other-page, same-page, new-cycle}
use Rattle.hk_reuse.proofs.rows.worked_rows.Goals as goal

pub returns-clause-apart : goal.returns-clause-apart
returns-clause-apart c = λ before after. are-apart before after

pub returns-clause-own : goal.returns-clause-own
returns-clause-own c = λ first. uses-own first

pub returns-clause-nothing_changed : goal.returns-clause-nothing_changed
returns-clause-nothing_changed c = nothing-changed

pub returns-clause-other_page : goal.returns-clause-other_page
returns-clause-other_page c = other-page

pub returns-clause-same_page : goal.returns-clause-same_page
returns-clause-same_page c = same-page

pub returns-clause-cycle : goal.returns-clause-cycle
returns-clause-cycle c = new-cycle
