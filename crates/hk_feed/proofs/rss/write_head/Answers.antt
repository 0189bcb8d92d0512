use Rattle.std.proofs.Common.{◌≡◌, ◌++◌, List, ℕ, string_bytes}
use Rattle.hk_feed.specs.FeedText.{title_line, link_line, slash_after, description_line}
use Rattle.hk_feed.proofs.Writing.{written-then}
use Rattle.hk_feed.proofs.rss.write_head.Goals as goal

pub returns : goal.returns
returns c =
    let p1 : List ℕ = title_line c.args.feed.now.title in
    let p2 : List ℕ = link_line (slash_after c.args.feed.now.root) in
    let p3 : List ℕ = description_line c.args.feed.now.description in
    let from-2 : string_bytes c.write_description.new.out ≡ string_bytes c.write_feed_title.new.out ++ (p2 ++ p3) = written-then (string_bytes c.write_feed_title.new.out) (string_bytes c.write_site.new.out) (string_bytes c.write_description.new.out) p2 p3 c.in_ok-write_site.ensures c.in_ok-write_description.ensures in
    written-then (string_bytes c.args.out.now) (string_bytes c.write_feed_title.new.out) (string_bytes c.write_description.new.out) p1 (p2 ++ p3) c.in_ok-write_feed_title.ensures from-2
