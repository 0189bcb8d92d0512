use Rattle.std.proofs.Common.{All}
use Rattle.hk_workers.specs.Working.{IsBoardFor}
use Rattle.hk_workers.specs.Rounds.{IsPolledSlot}
use Rattle.hk_workers.proofs.rounds.hand_over.Given as goal

abbrev pub invariant-loop-slot : goal.invariant-loop-slot
invariant-loop-slot g l =
    IsBoardFor g.M.Compiler.run g.M.Compiler.shape g.M.Compiler.meaning l.about.value l.board × All (IsPolledSlot g.M.Compiler.run g.M.Compiler.shape g.M.Compiler.meaning l.about.value) l.slot-iterator.rest.items
