use Rattle.std.proofs.Common.{◌<◌, drop, length, arith, sym}
use Rattle.std.proofs.lemmas.List.{length-drop}
use Rattle.hk_html.specs.Scan.{ahead, part_ahead}
use Rattle.hk_html.proofs.FrontLemmas.{part_front_of, first_part-attribute}
use Rattle.hk_html.proofs.ReadsLemmas.{ReadsPart-bare_of}
use Rattle.hk_html.proofs.scan.Scan.part.Goals as goal

pub returns-in-Bare : goal.returns-in-Bare
returns-in-Bare c =
    let old = c.args.self.now in
    let some : 0 < length (ahead old) = omega (arith, length-drop old.at old.body.now) in
    let front = part_front_of (ahead old) some in
    let same = rw (c.first-byte.ensures.value, c.rest_of-rest.ensures) at (first_part-attribute c.first-byte.result (drop 1 (ahead old)) (sym c.if-is_white.ensures) c.if-byte-eq47.false) in
    let sizes = rw (c.rest_of-rest.ensures, ← same) at c.in-Bare.ensures.sizes in
    ReadsPart-bare_of old c.skip-in-Bare.new.self c.in-Bare.count (part_ahead old) front.rest front.same sizes c.skip-in-Bare.ensures

pub returns-in_ok-valued-in-Valued : goal.returns-in_ok-valued-in-Valued
returns-in_ok-valued-in-Valued c =
    let old = c.args.self.now in
    let some : 0 < length (ahead old) = omega (arith, length-drop old.at old.body.now) in
    let front = part_front_of (ahead old) some in
    let same = rw (c.first-byte.ensures.value, c.rest_of-rest.ensures) at (first_part-attribute c.first-byte.result (drop 1 (ahead old)) (sym c.if-is_white.ensures) c.if-byte-eq47.false) in
    let sizes = rw (c.rest_of-rest.ensures, ← same) at c.in-Valued.ensures.sizes in
    c.in_ok-valued-in-Valued.ensures (part_ahead old) front.rest front.same sizes
