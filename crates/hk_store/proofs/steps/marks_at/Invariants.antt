use Rattle.std.proofs.Common.{◌≡◌, ◌-◌, ◌≤◌, List, [], length}
use Rattle.std.specs.Prelude.{map}
use Rattle.hk_store.specs.Entry.{MarkView}
use Rattle.hk_store.specs.Found.{HasKeys, HasNames}
use Rattle.hk_store.specs.Marks.{mark_view}
use Rattle.hk_store.specs.Reading.{Outcome, each}
use Rattle.hk_store.specs.Stored.{asked_keys, saved_names}
use Rattle.hk_store.specs.StoreReading.{a_mark}
use Rattle.hk_store.proofs.steps.marks_at.Given as goal

-- what the rest gives, all give, and the sets have the keys and the names of the marks so far
abbrev pub invariant-loop-done : goal.invariant-loop-done
invariant-loop-done l =
    record {
      few : l.done ≤ l.count;
      long : length l.marks.items ≡ l.done;
      gives : (o : Outcome (List MarkView)) → each (l.count - l.done) (a_mark l.count) (map mark_view l.marks.items) l.rest o → each l.count (a_mark l.count) [] l.bytes o;
      asked : HasKeys l.asked (asked_keys (map mark_view l.marks.items));
      saved : HasNames l.saved (saved_names (map mark_view l.marks.items));
    }
