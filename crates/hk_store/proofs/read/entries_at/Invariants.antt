use Rattle.std.proofs.Common.{◌-◌, ◌≤◌, List, []}
use Rattle.hk_store.specs.Entry.{EntryView}
use Rattle.hk_store.specs.Reading.{Outcome, each}
use Rattle.hk_store.specs.StoreReading.{an_entry}
use Rattle.hk_store.proofs.read.entries_at.Given as goal

-- what the rest gives, all give
abbrev pub invariant-loop-done : goal.invariant-loop-done
invariant-loop-done l =
    record {
      few : l._done ≤ l.count;
      gives : (o : Outcome (List EntryView)) → each (l.count - l._done) an_entry l.entries.items l.rest o → each l.count an_entry [] l.bytes o;
    }
