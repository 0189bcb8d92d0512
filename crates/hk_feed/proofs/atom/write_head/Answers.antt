use Rattle.std.proofs.Common.{◌≡◌, ◌++◌, List, ℕ, string_bytes}
use Rattle.hk_feed.specs.FeedText.{title_line, subtitle_line, self_lines, link_to, author_line}
use Rattle.hk_feed.proofs.Writing.{written-then}
use Rattle.hk_feed.proofs.atom.write_head.Goals as goal

pub returns : goal.returns
returns c =
    let p1 : List ℕ = title_line c.args.feed.now.title in
    let p2 : List ℕ = subtitle_line c.args.feed.now.description in
    let p3 : List ℕ = self_lines c.args.feed.now.root (link_to c.args.feed.now.root c.args.feed.now.target) in
    let p4 : List ℕ = author_line c.args.feed.now in
    let from-3 : string_bytes c.write_author.new.out ≡ string_bytes c.write_subtitle.new.out ++ (p3 ++ p4) = written-then (string_bytes c.write_subtitle.new.out) (string_bytes c.write_addresses.new.out) (string_bytes c.write_author.new.out) p3 p4 c.in_ok-write_addresses.ensures c.in_ok-write_author.ensures in
    let from-2 : string_bytes c.write_author.new.out ≡ string_bytes c.write_feed_title.new.out ++ (p2 ++ (p3 ++ p4)) = written-then (string_bytes c.write_feed_title.new.out) (string_bytes c.write_subtitle.new.out) (string_bytes c.write_author.new.out) p2 (p3 ++ p4) c.in_ok-write_subtitle.ensures from-3 in
    written-then (string_bytes c.args.out.now) (string_bytes c.write_feed_title.new.out) (string_bytes c.write_author.new.out) p1 (p2 ++ (p3 ++ p4)) c.in_ok-write_feed_title.ensures from-2
