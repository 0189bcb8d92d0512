use Rattle.std.proofs.Common.{◌≡◌, ◌<◌, ◌+◌, length, drop, arith, sym, true, nat_eq, codes, min}
use Rattle.std.specs.List.{starts_with}
use Rattle.std.proofs.lemmas.List.{length-drop}
use Rattle.hk_html.specs.Place.{place_of_word}
use Rattle.hk_html.specs.Scan.{ahead}
use Rattle.hk_html.proofs.PiecesLemmas.{ReadsPiece-comment}
use Rattle.hk_html.proofs.scan.Scan.piece.Goals as goal

pub returns-then-starts_with : goal.returns-then-starts_with
returns-then-starts_with c =
    let old = c.args.self.now in
    let some : 0 < length (ahead old) = omega (arith, length-drop old.at old.body.now) in
    let begins : starts_with nat_eq (ahead old) (codes "<!--") ≡ true = rw (← c.rest_of-rest.ensures) (sym c.if-starts_with.ensures.value) in
    let count : c.comment_len.result ≡ min (place_of_word (codes "-->") (drop 4 (ahead old)) + 7) (length (ahead old)) = rw (← c.rest_of-rest.ensures) c.comment_len.ensures in
    ReadsPiece-comment old c.skip.new.self c.comment_len.result some begins count c.skip.ensures
