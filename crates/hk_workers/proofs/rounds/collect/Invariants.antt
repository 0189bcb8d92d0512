use Rattle.std.proofs.Common.{All}
use Rattle.hk_workers.specs.Working.{IsBoardFor}
use Rattle.hk_workers.specs.Rounds.{IsReadySlot}
use Rattle.hk_workers.proofs.rounds.collect.Given as goal

abbrev pub invariant-loop : goal.invariant-loop
invariant-loop g l =
    IsBoardFor g.M.Compiler.run g.M.Compiler.shape g.M.Compiler.meaning l.about.value l.board × All (IsReadySlot g.M.Compiler.run g.M.Compiler.shape g.M.Compiler.meaning l.about.value) l.slots.items
