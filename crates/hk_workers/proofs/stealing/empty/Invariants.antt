use Rattle.std.proofs.Common.{◌≡◌, Some}
use Rattle.hk_workers.specs.Working.{IsBoardFor}
use Rattle.hk_workers.proofs.stealing.empty.Given as goal

abbrev pub invariant-loop : goal.invariant-loop
invariant-loop g l =
    (l.own.key ≡ Some l.about.value) × IsBoardFor g.M.Compiler.run g.M.Compiler.shape g.M.Compiler.meaning l.about.value l.board
