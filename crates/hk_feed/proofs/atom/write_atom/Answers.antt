use Rattle.std.proofs.Common.{◌≡◌, ◌++◌, List, ℕ, string_bytes}
use Rattle.std.specs.List.{flat_map}
use Rattle.hk_rules.specs.Plan.{Lookups, lookups}
use Rattle.hk_feed.specs.FeedText.{atom_start, atom_head, updated_line, updated, atom_entry, atom_end}
use Rattle.hk_feed.proofs.Writing.{written-then}
use Rattle.hk_feed.proofs.atom.write_atom.Goals as goal

pub returns : goal.returns
returns c =
    let plan : Lookups = lookups c.args.plan.now in
    let p1 : List ℕ = atom_start in
    let p2 : List ℕ = atom_head c.args.feed.now in
    let p3 : List ℕ = updated_line (updated plan c.args.entries.now) in
    let p4 : List ℕ = flat_map (atom_entry plan c.args.feed.now.root) c.args.entries.now in
    let p5 : List ℕ = atom_end in
    let from-4 : string_bytes c.end_feed.new.out ≡ string_bytes c.write_feed_date.new.out ++ (p4 ++ p5) = written-then (string_bytes c.write_feed_date.new.out) (string_bytes c.write_entries.new.out) (string_bytes c.end_feed.new.out) p4 p5 c.in_ok-write_entries.ensures c.in_ok-end_feed.ensures in
    let from-3 : string_bytes c.end_feed.new.out ≡ string_bytes c.write_head.new.out ++ (p3 ++ (p4 ++ p5)) = written-then (string_bytes c.write_head.new.out) (string_bytes c.write_feed_date.new.out) (string_bytes c.end_feed.new.out) p3 (p4 ++ p5) c.in_ok-write_feed_date.ensures from-4 in
    let from-2 : string_bytes c.end_feed.new.out ≡ string_bytes c.begin_feed.new.out ++ (p2 ++ (p3 ++ (p4 ++ p5))) = written-then (string_bytes c.begin_feed.new.out) (string_bytes c.write_head.new.out) (string_bytes c.end_feed.new.out) p2 (p3 ++ (p4 ++ p5)) c.in_ok-write_head.ensures from-3 in
    written-then (string_bytes c.args.out.now) (string_bytes c.begin_feed.new.out) (string_bytes c.end_feed.new.out) p1 (p2 ++ (p3 ++ (p4 ++ p5))) c.in_ok-begin_feed.ensures from-2
