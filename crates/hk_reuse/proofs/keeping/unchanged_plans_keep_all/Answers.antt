use Rattle.hk_reuse.proofs.Unchanged.{self-apart, done-kept}
use Rattle.hk_reuse.proofs.keeping.unchanged_plans_keep_all.Goals as goal

pub returns-clause-apart : goal.returns-clause-apart
returns-clause-apart c = λ dig site s. self-apart dig site s

pub returns-clause-kept : goal.returns-clause-kept
returns-clause-kept c = λ dig site i s own lt t. done-kept dig site s own i lt t
