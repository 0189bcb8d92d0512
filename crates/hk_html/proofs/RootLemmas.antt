-- One level more.
use Rattle.std.proofs.Common.{◌≡◌, ℕ, zero, suc, ◌+◌, ◌≤◌, codes, ◌++◌, replicate, arith, refl, ap}
use Rattle.std.specs.List.{join_with_byte}
use Rattle.hk_html.specs.Root.{root_at}

joined : (level : ℕ) → join_with_byte 47 (replicate (suc (suc level)) (codes "..")) ≡ join_with_byte 47 (replicate (suc level) (codes "..")) ++ codes "/.."
joined zero = refl
joined (suc level) = ap (λ rest. codes "../" ++ rest) (joined level)

pub root_at-more : (level : ℕ) → 1 ≤ level → root_at (level + 1) ≡ root_at level ++ codes "/.."
root_at-more zero some = absurd (omega arith)
root_at-more (suc level) some = let more : suc level + 1 ≡ suc (suc level) = omega arith in rw more (joined level)
