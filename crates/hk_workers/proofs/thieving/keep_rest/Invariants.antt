use Rattle.std.proofs.Common.{◌≡◌}
use Rattle.hk_lock.specs.Lawful.{IsLawfulFor}
use Rattle.hk_workers.specs.Working.{IsBoardFor}
use Rattle.hk_workers.proofs.thieving.keep_rest.Given as goal

abbrev pub invariant-loop : goal.invariant-loop
invariant-loop g l =
    IsLawfulFor (IsBoardFor g.M.Compiler.run g.M.Compiler.shape g.M.Compiler.meaning) l.seat.view.key l.board × (l.own.deck ≡ l.initial.own.deck) × (l.own.key ≡ l.seat.view.key)
