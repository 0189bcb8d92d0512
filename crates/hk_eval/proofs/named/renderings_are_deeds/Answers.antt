use Rattle.std.proofs.Common.{sym}
use Rattle.hk_eval.proofs.NamedQuiet.{quiet-render}
use Rattle.hk_eval.proofs.NamedRenderings.{render-same}
use Rattle.hk_eval.proofs.named.renderings_are_deeds.Goals as goal

pub returns-clause-same : goal.returns-clause-same
returns-clause-same c = λ plan items patterns table own reached tree here told closed i. sym (render-same plan items patterns table told own reached closed tree here i)

pub returns-clause-quiet : goal.returns-clause-quiet
returns-clause-quiet c = λ table contexts tree here once have. quiet-render table once contexts have tree here
