-- The random numbers of a generated site: a linear congruential generator of 31 bits.
use Rattle.std.specs.Prelude.{ℕ, zero, suc, ◌+◌, ◌*◌, ◌/◌, ◌%◌}
use Rattle.hk_gen.specs.declared.random.Draws.{Draws}

-- the state that a number gives to begin with
abbrev pub start : ℕ → ℕ
start number = number % 2147483648

-- the state after one draw
abbrev pub next : ℕ → ℕ
next state = (1103515245 * state + 12345) % 2147483648

-- the number drawn with this new state
abbrev pub drawn : ℕ → ℕ
drawn state = state / 65536

-- the state after the three draws of a post, and what they give
abbrev pub after_draws : ℕ → ℕ
after_draws state = next (next (next state))

abbrev pub draws : ℕ → Draws
draws state = record { first = drawn (next state); second = drawn (next (next state)); third = drawn (next (next (next state))) }

-- the state before the draws of the post at a place, counted from 0
unfoldable pub before : ℕ → ℕ → ℕ
before number zero = start number
before number (suc place) = after_draws (before number place)
