-- One build after another, each over the entries that the one before left.
use Rattle.std.specs.Prelude.{List, [], ◌∷◌}
use Rattle.hk_store.specs.Digests.{Digests}
use Rattle.hk_reuse.specs.Entries.{Entries}
use Rattle.hk_reuse.specs.Image.{entries_of}
use Rattle.hk_reuse.specs.Rebuilt.{rebuilt, reendings, ArePlansApart}
use Rattle.hk_reuse.specs.Site.{Site, items_of}

-- the entries that a build leaves
abbrev pub left : Digests → Site → Entries → Entries
left dig site entries = entries_of dig (items_of site) (reendings dig site entries) (rebuilt dig site entries)

abbrev pub left_after : Digests → Entries → List Site → Entries
left_after dig entries [] = entries
left_after dig entries (site ∷ sites) = left_after dig (left dig site entries) sites

abbrev pub last_of : Site → List Site → Site
last_of site [] = site
last_of site (next ∷ sites) = last_of next sites

-- each plan and the next
abbrev pub AreLinked : Digests → Site → List Site → Type 0
AreLinked dig site [] = Unit {0}
AreLinked dig site (next ∷ sites) = ArePlansApart dig site next × AreLinked dig next sites
