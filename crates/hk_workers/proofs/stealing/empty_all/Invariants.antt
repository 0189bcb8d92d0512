use Rattle.std.proofs.Common.{◌≡◌, All, Some}
use Rattle.hk_workers.specs.Working.{IsBoardFor}
use Rattle.hk_workers.proofs.stealing.empty_all.Given as goal

abbrev pub invariant-loop-own : goal.invariant-loop-own
invariant-loop-own g l =
    All (λ o. o.key ≡ Some l.about.value) l.owners.items × IsBoardFor g.M.Compiler.run g.M.Compiler.shape g.M.Compiler.meaning l.about.value l.board

abbrev pub decreases-loop-own : goal.decreases-loop-own
decreases-loop-own g l = goal.left-loop-own g l
