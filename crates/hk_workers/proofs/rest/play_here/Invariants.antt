use Rattle.hk_workers.specs.Working.{IsBoardFor, IsPlay}
use Rattle.hk_workers.proofs.rest.play_here.Given as goal

abbrev pub invariant-loop : goal.invariant-loop
invariant-loop g l =
    IsBoardFor g.M.Compiler.run g.M.Compiler.shape g.M.Compiler.meaning l.about.value l.board × IsPlay g.M.Compiler.run g.M.Compiler.shape l.about.value (g.M.Compiler.meaning l.machine)
