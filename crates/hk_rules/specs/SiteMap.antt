-- Sites by their targets.
use Rattle.std.specs.Prelude.{ℕ, List, Option, Vec}
use Rattle.std.specs.declared.alloc.Global.{Global}
use Rattle.std.specs.Map.{lookup}
use Rattle.std.specs.Ordering.{nat_cmp, is_eq}
use Rattle.std.specs.Cmp.Lexicographic.{slice_cmp}
use Rattle.hk_base.specs.Bytes.{Bytes}
use Rattle.hk_rules.specs.declared.site.Site.{Site}

-- the site in a map whose target is this path
abbrev pub site_in : List (Vec ℕ Global × Site) → Bytes → Option Site
site_in sites path = lookup (λ target. is_eq (slice_cmp nat_cmp path target.items)) sites
