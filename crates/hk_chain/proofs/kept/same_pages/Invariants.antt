use Rattle.std.proofs.Common.{◌≡◌, take}
use Rattle.hk_chain.proofs.kept.same_pages.Given as goal

abbrev pub invariant-loop-page : goal.invariant-loop-page
invariant-loop-page l = l.same.items ≡ take l.page-index l.pages
