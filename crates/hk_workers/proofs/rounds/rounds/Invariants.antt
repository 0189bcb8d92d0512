use Rattle.hk_workers.specs.Working.{IsBoardFor}
use Rattle.hk_workers.proofs.rounds.rounds.Given as goal

abbrev pub invariant-loop : goal.invariant-loop
invariant-loop g l = IsBoardFor g.K.M.Compiler.run g.K.M.Compiler.shape g.K.M.Compiler.meaning l.about.value l.board
