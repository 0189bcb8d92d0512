-- Where a line of a text ends.
use Rattle.std.specs.Prelude.{ℕ, ◌+◌, ◌-◌, ◌==◌, Option, Some, None, length, take, drop, position, if◌then◌else◌}
use Rattle.std.specs.List.{slice_get}
use Rattle.hk_base.specs.Bytes.{Bytes}

-- how many bytes stand before the first LF
abbrev pub before_feed : Bytes → Option ℕ
before_feed bytes = position (λ b. b == 10) bytes

-- how many bytes of a line stand before a CR at its end, by the last byte
abbrev pub without_return_by : Bytes → Option ℕ → ℕ
without_return_by line (Some b) = if b == 13 then length line - 1 else length line
without_return_by line None = length line

abbrev pub without_return : Bytes → ℕ
without_return line = without_return_by line (slice_get line (length line - 1))

abbrev pub end_by : Bytes → ℕ → Option ℕ → ℕ
end_by bytes from (Some count) = from + without_return (take count (drop from bytes))
end_by bytes from None = length bytes

abbrev pub next_by : Bytes → ℕ → Option ℕ → ℕ
next_by bytes from (Some count) = from + count + 1
next_by bytes from None = length bytes

-- where the line that begins at `from` ends, without its LF and one CR before that
abbrev pub line_end : Bytes → ℕ → ℕ
line_end bytes from = end_by bytes from (before_feed (drop from bytes))

-- where the line after it begins
abbrev pub line_next : Bytes → ℕ → ℕ
line_next bytes from = next_by bytes from (before_feed (drop from bytes))
