-- Ascending numbers.
use Rattle.std.specs.Prelude.{ℕ, ◌==◌, nat_lt, List, [], ◌∷◌, if◌then◌else◌}

-- a number among ascending ones
abbrev pub put : ℕ → List ℕ → List ℕ
put n [] = n ∷ []
put n (m ∷ ms) = if nat_lt m n then m ∷ put n ms else (if m == n then m ∷ ms else n ∷ m ∷ ms)

abbrev pub puts : List ℕ → List ℕ → List ℕ
puts ms [] = ms
puts ms (n ∷ ns) = puts (put n ms) ns
