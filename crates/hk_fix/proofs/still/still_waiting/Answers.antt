use Rattle.hk_fix.proofs.StillWaits.{waits-on}
use Rattle.hk_fix.proofs.still.still_waiting.Goals as goal

pub returns : goal.returns
returns c = λ lay run laws i k m l p lt e ext some none. waits-on lay run laws i k m l p lt e ext some none
