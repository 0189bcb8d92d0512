-- What is told of a generated site.
use Rattle.std.specs.Prelude.{ℕ, zero, suc, ◌+◌, cond, is_some, length}
use Rattle.hk_base.specs.Bytes.{Bytes}
use Rattle.hk_build.specs.Build.{image}
use Rattle.hk_gen.specs.Line.{line}
use Rattle.hk_reuse.specs.Entries.{no_entries}
use Rattle.hk_rules.specs.Plan.{lookups}
use Rattle.hk_rules.specs.PlanView.{PlanView}

-- how many of the first items have a target
abbrev pub with_target : PlanView → ℕ → ℕ
with_target plan zero = 0
with_target plan (suc item) = with_target plan item + cond (is_some ((lookups plan).target_of item)) 1 0

-- the items, the pages, and the trailer of the store that a clean build leaves
abbrev pub site_line : PlanView → Bytes
site_line plan = line (length plan.items) (with_target plan (length plan.items)) (image plan no_entries)
