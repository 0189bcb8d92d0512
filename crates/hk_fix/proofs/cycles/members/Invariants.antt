use Rattle.std.proofs.Common.{◌≡◌, ◌-◌, ◌<◌, ◌++◌, true, length}
use Rattle.hk_fix.specs.Facts.{is_in}
use Rattle.hk_fix.specs.Report.{trail, before, members}
use Rattle.hk_fix.proofs.cycles.members.Given as goal

abbrev pub invariant-loop : goal.invariant-loop
invariant-loop l =
    record {
      in_range : l.current < length l.leads;
      rest : l.found.items ++ before l.item (trail l.leads (length l.leads - l.counter) l.current) ≡ members l.leads l.item;
      comes : is_in (trail l.leads (length l.leads - l.counter) l.current) l.item ≡ true;
    }
