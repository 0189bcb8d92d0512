-- Lists in an order, by a test of whether one comes before another.
use Rattle.std.specs.Prelude.{Bool, cond, List, [], ◌∷◌}

-- one more in front of those of the same place, behind all that come before
abbrev pub put_by : {X : Type 0} → (X → X → Bool) → X → List X → List X
put_by before x [] = x ∷ []
put_by before x (y ∷ ys) = cond (before y x) (y ∷ put_by before x ys) (x ∷ y ∷ ys)

-- in the order; those of the same place stay as they stand
abbrev pub sorted_by : {X : Type 0} → (X → X → Bool) → List X → List X
sorted_by before [] = []
sorted_by before (x ∷ xs) = put_by before x (sorted_by before xs)
