-- The laws of the numbers in a rules file hold.
use Rattle.hk_laws.proofs.FieldPlaceLemmas
use Rattle.hk_laws.proofs.FileUseLemmas
use Rattle.hk_laws.proofs.numbers.number_laws.Goals as goal

pub returns-clause-first_uses : goal.returns-clause-first_uses
returns-clause-first_uses c = FileUseLemmas.numbers_by_first_use

pub returns-clause-places : goal.returns-clause-places
returns-clause-places c = FieldPlaceLemmas.fields_tell_places
