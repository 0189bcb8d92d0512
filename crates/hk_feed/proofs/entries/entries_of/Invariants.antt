use Rattle.std.proofs.Common.{◌≡◌, ◌++◌, drop}
use Rattle.hk_chain.specs.Kept.{at_place}
use Rattle.hk_rules.specs.Plan.{lookups}
use Rattle.hk_feed.specs.Entries.{entries_of}
use Rattle.hk_feed.proofs.entries.entries_of.Given as goal

-- the entries so far and those of the rest are all
abbrev pub invariant-loop-item : goal.invariant-loop-item
invariant-loop-item l = l.entries.items ++ entries_of (lookups l.plan) (at_place l.pages) l.name (drop l.item-index l.items) ≡ entries_of (lookups l.plan) (at_place l.pages) l.name l.items
