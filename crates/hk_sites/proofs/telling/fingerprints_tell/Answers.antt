use Rattle.hk_sites.proofs.Fingerprints.{recipe-fits, texts-tell}
use Rattle.hk_sites.proofs.telling.fingerprints_tell.Goals as goal

pub returns-clause-fits : goal.returns-clause-fits
returns-clause-fits c = λ plan item made limits lt. recipe-fits plan made limits item lt

pub returns-clause-texts : goal.returns-clause-texts
returns-clause-texts c = texts-tell
