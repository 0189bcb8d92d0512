use Rattle.std.proofs.Common.{◌≡◌, ◌++◌, List, ℕ, string_bytes}
use Rattle.std.specs.Prelude.{codes}
use Rattle.hk_feed.specs.FeedText.{element, href_line, slash_after, id_line}
use Rattle.hk_feed.proofs.Writing.{written-then}
use Rattle.hk_feed.proofs.atom.write_self.Goals as goal

pub returns : goal.returns
returns c =
    let p1 : List ℕ = element (codes "<link href=\"") c.args.itself.now (codes "\" rel=\"self\"/>\n") in
    let p2 : List ℕ = href_line (slash_after c.args.root.now) in
    let p3 : List ℕ = id_line c.args.itself.now in
    let from-2 : string_bytes c.write_id.new.out ≡ string_bytes c.write_element.new.out ++ (p2 ++ p3) = written-then (string_bytes c.write_element.new.out) (string_bytes c.write_site.new.out) (string_bytes c.write_id.new.out) p2 p3 c.in_ok-write_site.ensures c.in_ok-write_id.ensures in
    written-then (string_bytes c.args.out.now) (string_bytes c.write_element.new.out) (string_bytes c.write_id.new.out) p1 (p2 ++ p3) c.in_ok-write_element.ensures from-2
