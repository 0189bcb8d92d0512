use Rattle.std.proofs.Common.{◌-◌, ◌≤◌, List, []}
use Rattle.hk_base.specs.Identifier.{Ident}
use Rattle.hk_store.specs.Reading.{Outcome, each}
use Rattle.hk_store.specs.StoreReading.{an_id_after}
use Rattle.hk_store.proofs.parts.ids_at.Given as goal

-- what the rest gives, all give
abbrev pub invariant-loop-done : goal.invariant-loop-done
invariant-loop-done l =
    record {
      few : l._done ≤ l.count;
      gives : (o : Outcome (List Ident)) → each (l.count - l._done) an_id_after l.ids.items l.rest o → each l.count an_id_after [] l.bytes o;
    }
