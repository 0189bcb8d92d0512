use Rattle.hk_store.proofs.PatternTexts.{pattern-told, same-pattern}
use Rattle.hk_store.proofs.laws.patterns_are_told.Goals as goal

pub returns-clause-equal : goal.returns-clause-equal
returns-clause-equal c = same-pattern

pub returns-clause-told : goal.returns-clause-told
returns-clause-told c = pattern-told
