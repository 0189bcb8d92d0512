use Rattle.std.proofs.Common.{◌≡◌}
use Rattle.hk_chain.specs.Kept.{at_place}
use Rattle.hk_build.specs.Pages.{item_pages, over}
use Rattle.hk_build.proofs.PageMaps.{pages-upto}
use Rattle.hk_build.proofs.pages.pages_by_target.Given as goal

-- the pages of the items that are left, put over what is there, are all
abbrev pub invariant-loop-item : goal.invariant-loop-item
invariant-loop-item l = over (pages-upto l.plan (at_place l.known) l.item) l.pages.entries ≡ item_pages l.plan (at_place l.known)
