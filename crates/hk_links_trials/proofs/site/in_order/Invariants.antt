use Rattle.std.proofs.Common.{◌≡◌, ◌++◌, length, map}
use Rattle.hk_base.specs.Bytes.{Bytes}
use Rattle.hk_chain.specs.declared.page.Page.{Page}
use Rattle.hk_links_trials.proofs.site.in_order.Given as goal

-- the targets so far and those that are left are all
abbrev pub invariant-loop-target : goal.invariant-loop-target
invariant-loop-target l = record {
  ordered : l.targets.items ++ map (λ (e : Bytes × Page). e.0) l.target-iterator ≡ map (λ (e : Bytes × Page). e.0) l.fn.by_target.entries;
  paired : length l.targets.items ≡ length l.pages.items;
}
