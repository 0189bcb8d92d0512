use Rattle.std.proofs.Common.{◌≡◌, ◌++◌, drop, string_bytes}
use Rattle.std.specs.List.{flat_map}
use Rattle.hk_rules.specs.Plan.{lookups}
use Rattle.hk_feed.specs.FeedText.{rss_item}
use Rattle.hk_feed.proofs.rss.write_items.Given as goal

-- the text so far and that of the rest are all
abbrev pub invariant-loop-entry : goal.invariant-loop-entry
invariant-loop-entry l = string_bytes l.out ++ flat_map (rss_item (lookups l.plan) l.feed.root) (drop l.entry-index l.entries) ≡ string_bytes l.fn.out ++ flat_map (rss_item (lookups l.plan) l.feed.root) l.entries
