-- Steps over a list, one after another, that may each refuse.
use Rattle.std.specs.Prelude.{List, [], ◌∷◌, Result, Ok}
use Rattle.hk_rules_file.specs.TableForm.{and_then}

-- what a step makes of what there is, with each element in turn, or the first fault
abbrev pub in_turn : {S X F : Type 0} → (S → X → Result S F) → List X → S → Result S F
in_turn step [] start = Ok start
in_turn step (x ∷ xs) start = and_then (step start x) (in_turn step xs)
