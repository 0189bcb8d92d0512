-- Numbers as words write them.
use Rattle.std.specs.Prelude.{ℕ, Bool, ◌&&◌, if◌then◌else◌, nat_le, length, Option, Some, None}
use Rattle.std.specs.Str.{all_ascii_digits}
use Rattle.std.specs.Str.Parse.{digits_value}
use Rattle.hk_base.specs.Bytes.{Bytes}

-- one to ten digits, which write a number from `least` to `most`
abbrev pub is_number_in : ℕ → ℕ → Bytes → Bool
is_number_in least most text =
    all_ascii_digits text && nat_le 1 (length text) && nat_le (length text) 10 && nat_le least (digits_value 10 text) && nat_le (digits_value 10 text) most

abbrev pub number_in : ℕ → ℕ → Bytes → Option ℕ
number_in least most text = if is_number_in least most text then Some (digits_value 10 text) else None
