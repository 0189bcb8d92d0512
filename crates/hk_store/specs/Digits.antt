-- Numbers as they are written.
use Rattle.std.specs.Prelude.{ℕ, Bool, false, ◌||◌, not, ◌==◌, ◌+◌, ◌*◌, ◌-◌, [], ◌∷◌, length}
use Rattle.hk_base.specs.Bytes.{Bytes}

-- there is a byte, and no 0 in front of others
abbrev pub begins_plain : Bytes → Bool
begins_plain [] = false
begins_plain (c ∷ cs) = not (c == 48) || length (c ∷ cs) == 1

-- what digits stand for, after a number so far
abbrev pub read_on : ℕ → Bytes → ℕ
read_on n [] = n
read_on n (c ∷ cs) = read_on (10 * n + (c - 48)) cs
