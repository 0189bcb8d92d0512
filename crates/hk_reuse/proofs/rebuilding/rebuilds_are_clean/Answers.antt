use Rattle.std.proofs.Common.{refl}
use Rattle.hk_reuse.proofs.Sites.{rebuilt-same, endings-same, image-same, replays-same, known-same}
use Rattle.hk_reuse.proofs.rebuilding.rebuilds_are_clean.Goals as goal

pub returns-clause-pages : goal.returns-clause-pages
returns-clause-pages c = λ dig old new p. rebuilt-same dig old new p.was p.now p.apart p.told

pub returns-clause-ends : goal.returns-clause-ends
returns-clause-ends c = λ dig old new i p lt. endings-same dig old new p.was p.now p.apart p.told i lt

pub returns-clause-entries : goal.returns-clause-entries
returns-clause-entries c = λ dig old new p. image-same dig old new p.was p.now p.apart p.told

pub returns-clause-runs : goal.returns-clause-runs
returns-clause-runs c = λ dig old new i k p lt within. replays-same dig old new p.was p.now p.apart p.told i lt k within

pub returns-clause-rounds : goal.returns-clause-rounds
returns-clause-rounds c = λ dig old new n p. known-same dig old new p.was p.now p.apart p.told n

pub returns-clause-anew : goal.returns-clause-anew
returns-clause-anew c = λ dig site. refl
