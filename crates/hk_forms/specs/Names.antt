-- The names that a rules file gives: of snapshots and of contexts.
use Rattle.std.specs.Prelude.{ℕ, Bool, false, ◌&&◌, ◌||◌, not, ◌==◌, nat_le, length, Option, Some, None}
use Rattle.std.specs.List.{list_all, slice_get}
use Rattle.hk_base.specs.Bytes.{Bytes}

abbrev pub is_letter : ℕ → Bool
is_letter b = (nat_le 65 b && nat_le b 90) || (nat_le 97 b && nat_le b 122)

abbrev pub is_digit : ℕ → Bool
is_digit b = nat_le 48 b && nat_le b 57

-- a byte of a name: a letter, a digit, `_` or `-`
abbrev pub is_name_byte : ℕ → Bool
is_name_byte b = (is_letter b || is_digit b) || (b == 95 || b == 45)

-- 1 to 64 bytes of names
abbrev pub is_context_name : Bytes → Bool
is_context_name text = (nat_le 1 (length text) && nat_le (length text) 64) && list_all is_name_byte text

abbrev pub begins_snapshot : Option ℕ → Bool
begins_snapshot (Some b) = not (b == 95)
begins_snapshot None = false

-- the same, and the first is no `_`
abbrev pub is_snapshot_name : Bytes → Bool
is_snapshot_name text = begins_snapshot (slice_get text 0) && is_context_name text
