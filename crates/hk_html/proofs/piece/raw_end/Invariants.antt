use Rattle.std.proofs.Common.{◌≡◌, ◌+◌, drop}
use Rattle.hk_html.specs.Place as place
use Rattle.hk_html.specs.Piece as spec
use Rattle.hk_html.proofs.piece.raw_end.Given as goal

abbrev pub invariant-loop-at : goal.invariant-loop-at
invariant-loop-at l = place.first_place (spec.ends_raw_text l.name) l.text ≡ l.at + place.first_place (spec.ends_raw_text l.name) (drop l.at l.text)
