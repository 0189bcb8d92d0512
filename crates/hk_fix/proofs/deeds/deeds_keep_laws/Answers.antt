use Rattle.hk_fix.specs.DeedLaws.{interpret-then, deeds-chains}
use Rattle.hk_fix.proofs.deeds.deeds_keep_laws.Goals as goal

pub returns-clause-laws : goal.returns-clause-laws
returns-clause-laws c = λ deeds are. deeds-chains deeds are

pub returns-clause-in_turn : goal.returns-clause-in_turn
returns-clause-in_turn c = λ table own first next. interpret-then table own first next
