-- Any chain of builds that starts without entries leaves what its last clean build leaves.
use Rattle.std.proofs.Common.{◌≡◌, refl, ap, ◌∙◌, List, [], ◌∷◌}
use Rattle.hk_store.specs.Digests.{Digests}
use Rattle.hk_reuse.specs.Builds.{left, left_after, last_of, AreLinked}
use Rattle.hk_reuse.specs.Entries.{no_entries}
use Rattle.hk_reuse.specs.Image.{image}
use Rattle.hk_reuse.specs.Rebuilt.{ArePlansApart}
use Rattle.hk_reuse.specs.Site.{Site}
use Rattle.hk_reuse.proofs.Sites.{image-same}

clean-first : (dig : Digests) (site : Site) → left dig site no_entries ≡ image dig site
clean-first dig site = refl

after-image : (dig : Digests) (site : Site) (sites : List Site) → AreLinked dig site sites → left_after dig (image dig site) sites ≡ image dig (last_of site sites)
after-image dig site [] h = refl
after-image dig site (next ∷ sites) h =
    let p : ArePlansApart dig site next = h.0 in
    ap (λ e. left_after dig e sites) (image-same dig site next p.was p.now p.apart p.told) ∙ after-image dig next sites h.1

pub builds-left : (dig : Digests) (site : Site) (sites : List Site) → AreLinked dig site sites → left_after dig no_entries (site ∷ sites) ≡ image dig (last_of site sites)
builds-left dig site sites h = ap (λ e. left_after dig e sites) (clean-first dig site) ∙ after-image dig site sites h
