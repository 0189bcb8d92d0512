use Rattle.std.proofs.Common.{◌≡◌}
use Rattle.hk_workers.proofs.thieving.work_by.Given as goal

abbrev pub invariant-loop : goal.invariant-loop
invariant-loop g l =
    (l.seat.lock ≡ l.lock) × (l.seat.view ≡ l.initial.seat.view) × (l.own.deck ≡ l.initial.own.deck) × (l.own.key ≡ l.initial.seat.view.key) × (l.others.items ≡ l.initial.others.items)
