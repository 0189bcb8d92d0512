use Rattle.std.proofs.Common.{◌≡◌, map}
use Rattle.hk_base.specs.Bytes.{Bytes}
use Rattle.hk_chain.specs.declared.page.Page.{Page}
use Rattle.hk_build.specs.Pages.{placed_out}
use Rattle.hk_build.proofs.links.apart.Given as goal

abbrev pub invariant-loop-out : goal.invariant-loop-out
invariant-loop-out l = record {
  targets : l.targets.items ≡ map (λ (e : Bytes × Page). e.0) (map placed_out l.yielded);
  pages : l.pages.items ≡ map (λ (e : Bytes × Page). e.1) (map placed_out l.yielded);
}
