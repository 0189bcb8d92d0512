use Rattle.std.proofs.Common.{◌-◌, ◌≤◌, List, []}
use Rattle.hk_store.specs.Entry.{MatchView}
use Rattle.hk_store.specs.Reading.{Outcome, each}
use Rattle.hk_store.specs.StoreReading.{a_match}
use Rattle.hk_store.proofs.parts.matches_at.Given as goal

-- what the rest gives, all give
abbrev pub invariant-loop-done : goal.invariant-loop-done
invariant-loop-done l =
    record {
      few : l._done ≤ l.count;
      gives : (o : Outcome (List MatchView)) → each (l.count - l._done) (λ earlier. a_match) l.matches.items l.rest o → each l.count (λ earlier. a_match) [] l.bytes o;
    }
