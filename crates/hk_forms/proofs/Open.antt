-- Patterns and routes that are open: one less for what stands in them.
use Rattle.std.proofs.Common.{◌≡◌, ℕ, zero, suc, ◌-◌, ◌<◌, ap, arith}
use Rattle.std.specs.Prelude.{option_and_then}
use Rattle.toml.specs.Data.{Data, as_str, as_array, as_table}
use Rattle.hk_forms.specs.Members.{only}
use Rattle.hk_forms.specs.PatternForm.{pattern_at, pattern_by}
use Rattle.hk_forms.specs.RouteForm.{route_at, route_by}

pub pattern_at-open : (n : ℕ) (d : Data) → 0 < n → pattern_by (pattern_at (n - 1)) (as_str d) (option_and_then only (as_table d)) ≡ pattern_at n d
pattern_at-open zero d h = absurd (omega arith)
pattern_at-open (suc n) d h =
    let less : suc n - 1 ≡ n = omega arith in
    ap (λ m. pattern_by (pattern_at m) (as_str d) (option_and_then only (as_table d))) less

pub route_at-open : (n : ℕ) (d : Data) → 0 < n → route_by (pattern_at (n - 1)) (route_at (n - 1)) (as_str d) (as_array d) (as_table d) ≡ route_at n d
route_at-open zero d h = absurd (omega arith)
route_at-open (suc n) d h =
    let less : suc n - 1 ≡ n = omega arith in
    ap (λ m. route_by (pattern_at m) (route_at m) (as_str d) (as_array d) (as_table d)) less
