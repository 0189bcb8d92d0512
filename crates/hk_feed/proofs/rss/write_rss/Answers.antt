use Rattle.std.proofs.Common.{◌≡◌, ◌++◌, List, ℕ, string_bytes}
use Rattle.std.specs.List.{flat_map}
use Rattle.hk_rules.specs.Plan.{Lookups, lookups}
use Rattle.hk_feed.specs.FeedText.{rss_start, rss_head, rss_item, rss_end}
use Rattle.hk_feed.proofs.Writing.{written-then}
use Rattle.hk_feed.proofs.rss.write_rss.Goals as goal

pub returns : goal.returns
returns c =
    let plan : Lookups = lookups c.args.plan.now in
    let p1 : List ℕ = rss_start in
    let p2 : List ℕ = rss_head c.args.feed.now in
    let p3 : List ℕ = flat_map (rss_item plan c.args.feed.now.root) c.args.entries.now in
    let p4 : List ℕ = rss_end in
    let from-3 : string_bytes c.end_channel.new.out ≡ string_bytes c.write_head.new.out ++ (p3 ++ p4) = written-then (string_bytes c.write_head.new.out) (string_bytes c.write_items.new.out) (string_bytes c.end_channel.new.out) p3 p4 c.in_ok-write_items.ensures c.in_ok-end_channel.ensures in
    let from-2 : string_bytes c.end_channel.new.out ≡ string_bytes c.begin_channel.new.out ++ (p2 ++ (p3 ++ p4)) = written-then (string_bytes c.begin_channel.new.out) (string_bytes c.write_head.new.out) (string_bytes c.end_channel.new.out) p2 (p3 ++ p4) c.in_ok-write_head.ensures from-3 in
    written-then (string_bytes c.args.out.now) (string_bytes c.begin_channel.new.out) (string_bytes c.end_channel.new.out) p1 (p2 ++ (p3 ++ p4)) c.in_ok-begin_channel.ensures from-2
