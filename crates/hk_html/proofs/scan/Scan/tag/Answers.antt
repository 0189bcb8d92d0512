use Rattle.std.proofs.Common.{◌≡◌, ◌<◌, length, drop, arith, sym, ◌∙◌}
use Rattle.std.specs.List.{take_while}
use Rattle.std.proofs.lemmas.List.{length-drop, drop-drop}
use Rattle.hk_html.specs.Kind.{is_tag_byte}
use Rattle.hk_html.specs.Piece.{raw_text}
use Rattle.hk_html.specs.Scan.{ahead}
use Rattle.hk_html.proofs.PiecesLemmas.{ReadsPiece-tag, ReadsPiece-unfinished}
use Rattle.hk_html.proofs.scan.Scan.tag.Goals as goal

pub returns-then-branch : goal.returns-then-branch
returns-then-branch c =
    let old = c.args.self.now in
    let s3 = c.skip-then-branch.new.self in
    let some : 0 < length (ahead old) = omega (arith, length-drop old.at old.body.now) in
    let read = rw c.if-branch.true at c.in_ok-parts.ensures in
    let rest : c.rest_of-rest.result.now ≡ drop 1 (ahead old) = c.rest_of-rest.ensures ∙ sym (drop-drop 1 old.at old.body.now) in
    let name : c.front_of-name.result.now ≡ take_while is_tag_byte (drop 1 (ahead old)) = rw (c.front_of-name.ensures, c.tag_name_len.ensures.value, rest) in
    let body : s3.body.now ≡ old.body.now = c.skip-then-branch.ensures.body ∙ read.2.body ∙ c.skip.ensures.body in
    let raw : c.raw_len-raw.result ≡ length (raw_text c.front_of-name.result.now (ahead s3)) = rw (body, ← c.rest_of.ensures) c.raw_len-raw.ensures.value in
    ReadsPiece-tag old c.skip.new.self c.parts.new.self s3 c.skip-then-branch-2.new.self c.front_of-name.result.now read.0 c.raw_len-raw.result
    some name c.skip.ensures read.1 read.2 read.3 read.4 c.skip-then-branch.ensures raw c.skip-then-branch-2.ensures

pub returns-else-branch : goal.returns-else-branch
returns-else-branch c =
    let old = c.args.self.now in
    let read = rw c.if-branch.false at c.in_ok-parts.ensures in
    let rest : c.rest_of-rest.result.now ≡ drop 1 (ahead old) = c.rest_of-rest.ensures ∙ sym (drop-drop 1 old.at old.body.now) in
    let name : c.front_of-name.result.now ≡ take_while is_tag_byte (drop 1 (ahead old)) = rw (c.front_of-name.ensures, c.tag_name_len.ensures.value, rest) in
    let kept : c.len-kept.result ≡ length old.links.items = c.len-kept.ensures ∙ old.links.ok.0 in
    ReadsPiece-unfinished old c.skip.new.self c.parts.new.self c.give_up.new.self c.front_of-name.result.now old.ordered c.requires name c.skip.ensures read
    c.give_up.ensures.body (rw kept at c.give_up.ensures.links) c.give_up.ensures.from c.give_up.ensures.at
