-- The way from a target up to the root of its site.
use Rattle.std.specs.Prelude.{ℕ, zero, suc, ◌==◌, codes, replicate}
use Rattle.std.specs.List.{count_by, join_with_byte}
use Rattle.hk_base.specs.Bytes.{Bytes}

-- `.` at no level, else `..` as often, joined by `/`
abbrev pub root_at : ℕ → Bytes
root_at zero = codes "."
root_at (suc level) = join_with_byte 47 (replicate (suc level) (codes ".."))

-- a target lies as many levels down as it has `/`
abbrev pub level_of : Bytes → ℕ
level_of target = count_by (λ b. b == 47) target

abbrev pub root_of : Bytes → Bytes
root_of target = root_at (level_of target)
