use Rattle.std.proofs.Common.{◌≡◌}
use Rattle.hk_lock.specs.Lawful.{IsLawfulFor}
use Rattle.hk_workers.specs.Working.{IsPlay}
use Rattle.hk_workers.proofs.working.play.Given as goal

abbrev pub invariant-loop : goal.invariant-loop
invariant-loop g l =
    (l.seat.lock ≡ l.lock) × (l.seat.view ≡ l.initial.seat.view) × IsLawfulFor (IsPlay g.M.Compiler.run g.M.Compiler.shape) l.initial.seat.view.key (g.M.Compiler.meaning l.machine)
