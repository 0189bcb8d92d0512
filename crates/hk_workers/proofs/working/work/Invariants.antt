use Rattle.std.proofs.Common.{◌≡◌}
use Rattle.hk_workers.proofs.working.work.Given as goal

abbrev pub invariant-loop : goal.invariant-loop
invariant-loop g l =
    (l.seat.lock ≡ l.desk.lock) × (l.seat.view ≡ l.initial.seat.view) × (l.pass.queue ≡ l.desk.ready.id) × (l.pass.view.key ≡ l.initial.seat.view.key)
