use Rattle.std.proofs.Common.{◌≡◌, ◌++◌, List, ℕ, string_bytes}
use Rattle.hk_rules.specs.Plan.{Lookups, lookups}
use Rattle.hk_feed.specs.FeedText.{entry_start, title_line, atom_links, link_of, updated_line, date_text, atom_dates, content_lines}
use Rattle.hk_feed.specs.Titles.{title_at}
use Rattle.hk_feed.proofs.Writing.{written-then}
use Rattle.hk_feed.proofs.atom.write_entry.Goals as goal

pub returns : goal.returns
returns c =
    let plan : Lookups = lookups c.args.plan.now in
    let p1 : List ℕ = entry_start in
    let p2 : List ℕ = title_line (title_at plan c.args.entry.now.item) in
    let p3 : List ℕ = atom_links (link_of plan c.args.feed.now.root c.args.entry.now.item) in
    let p4 : List ℕ = updated_line (date_text plan atom_dates c.args.entry.now.item) in
    let p5 : List ℕ = content_lines c.args.entry.now in
    let from-4 : string_bytes c.write_content.new.out ≡ string_bytes c.write_item_links.new.out ++ (p4 ++ p5) = written-then (string_bytes c.write_item_links.new.out) (string_bytes c.write_item_date.new.out) (string_bytes c.write_content.new.out) p4 p5 c.in_ok-write_item_date.ensures c.in_ok-write_content.ensures in
    let from-3 : string_bytes c.write_content.new.out ≡ string_bytes c.write_item_title.new.out ++ (p3 ++ (p4 ++ p5)) = written-then (string_bytes c.write_item_title.new.out) (string_bytes c.write_item_links.new.out) (string_bytes c.write_content.new.out) p3 (p4 ++ p5) c.in_ok-write_item_links.ensures from-4 in
    let from-2 : string_bytes c.write_content.new.out ≡ string_bytes c.begin_entry.new.out ++ (p2 ++ (p3 ++ (p4 ++ p5))) = written-then (string_bytes c.begin_entry.new.out) (string_bytes c.write_item_title.new.out) (string_bytes c.write_content.new.out) p2 (p3 ++ (p4 ++ p5)) c.in_ok-write_item_title.ensures from-3 in
    written-then (string_bytes c.args.out.now) (string_bytes c.begin_entry.new.out) (string_bytes c.write_content.new.out) p1 (p2 ++ (p3 ++ (p4 ++ p5))) c.in_ok-begin_entry.ensures from-2
