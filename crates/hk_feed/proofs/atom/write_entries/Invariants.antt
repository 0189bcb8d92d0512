use Rattle.std.proofs.Common.{◌≡◌, ◌++◌, drop, string_bytes}
use Rattle.std.specs.List.{flat_map}
use Rattle.hk_rules.specs.Plan.{lookups}
use Rattle.hk_feed.specs.FeedText.{atom_entry}
use Rattle.hk_feed.proofs.atom.write_entries.Given as goal

-- the text so far and that of the rest are all
abbrev pub invariant-loop-entry : goal.invariant-loop-entry
invariant-loop-entry l = string_bytes l.out ++ flat_map (atom_entry (lookups l.plan) l.feed.root) (drop l.entry-index l.entries) ≡ string_bytes l.fn.out ++ flat_map (atom_entry (lookups l.plan) l.feed.root) l.entries
