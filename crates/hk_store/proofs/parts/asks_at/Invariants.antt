use Rattle.std.proofs.Common.{◌-◌, ◌≤◌, List, [], ◌++◌}
use Rattle.hk_fix.specs.Table.{Key}
use Rattle.hk_store.specs.Entry.{AskView}
use Rattle.hk_store.specs.Found.{HasKeys}
use Rattle.hk_store.specs.Reading.{Outcome, each}
use Rattle.hk_store.specs.Stored.{keys_of_asks}
use Rattle.hk_store.specs.StoreReading.{an_ask}
use Rattle.hk_store.proofs.parts.asks_at.Given as goal

-- what the rest gives, all give, and the set has the keys of the asks so far
abbrev pub invariant-loop-done : goal.invariant-loop-done
invariant-loop-done l =
    record {
      few : l._done ≤ l.count;
      gives : (keys : List Key) → HasKeys l.fn.seen keys → (o : Outcome (List AskView)) → each (l.count - l._done) (λ group. an_ask (keys ++ keys_of_asks group)) l.asks.items l.rest o → each l.count (λ group. an_ask (keys ++ keys_of_asks group)) [] l.bytes o;
      seen : (keys : List Key) → HasKeys l.fn.seen keys → HasKeys l.seen (keys ++ keys_of_asks l.asks.items);
    }
