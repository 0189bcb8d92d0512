use Rattle.std.proofs.Common.{◌≡◌, ◌+◌, drop}
use Rattle.hk_html.specs.Place as spec
use Rattle.hk_html.proofs.place.place_of_word.Given as goal

abbrev pub invariant-loop-at : goal.invariant-loop-at
invariant-loop-at l = spec.place_of_word l.word l.text ≡ l.at + spec.place_of_word l.word (drop l.at l.text)
