use Rattle.std.proofs.Common.{◌≡◌}
use Rattle.hk_lock.specs.Lawful.{IsLawfulFor}
use Rattle.hk_workers.specs.Working.{IsBoardFor}
use Rattle.hk_workers.proofs.pool.drain.Given as goal

abbrev pub invariant-loop : goal.invariant-loop
invariant-loop g l =
    IsLawfulFor (IsBoardFor g.M.Compiler.run g.M.Compiler.shape g.M.Compiler.meaning) l.initial.pass.view.key l.board × (l.pass.queue ≡ l.ready.id) × (l.pass.view.key ≡ l.initial.pass.view.key)
