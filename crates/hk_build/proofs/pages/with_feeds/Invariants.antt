use Rattle.std.proofs.Common.{◌≡◌}
use Rattle.hk_chain.specs.Kept.{at_place}
use Rattle.hk_build.specs.Pages.{feed_pages, over}
use Rattle.hk_build.proofs.PageMaps.{feeds-upto}
use Rattle.hk_build.proofs.pages.with_feeds.Given as goal

-- the feeds that are left, put over what is there, are all
abbrev pub invariant-loop-place : goal.invariant-loop-place
invariant-loop-place l =
    over (feeds-upto l.plan (at_place l.results.pages) l.feeds l.place) l.pages.entries
    ≡ over (feed_pages l.plan (at_place l.results.pages)) l.fn.pages.entries
