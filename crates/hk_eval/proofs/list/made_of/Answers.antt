use Rattle.std.proofs.Common.{◌≡◌, sym, ap, ◌∙◌, subst, List, ◌<◌, length, map, Ok, Err}
use Rattle.hk_chain.specs.declared.page.Page.{Page}
use Rattle.hk_eval.specs.Asking.{other_kind}
use Rattle.hk_eval.specs.Groups.{told_page}
use Rattle.hk_eval.specs.Lists.{places_of}
use Rattle.hk_eval.specs.Placing.{placing_of, placed_by}
use Rattle.hk_eval.specs.Told.{told_pages}
use Rattle.hk_eval.specs.declared.place.Place.{Place}
use Rattle.hk_eval.proofs.Grouping.{other-in}
use Rattle.hk_eval.proofs.Placings.{placed-ok, placed-lacks, places-items, AllItems}
use Rattle.hk_eval.proofs.list.made_of.Goals as goal

pub ordered-requires : goal.ordered-requires
ordered-requires c =
    let pages : List Page = map (told_page (told_pages c.args.told.now)) c.args.pairs.now in
    let all : List Place = places_of c.args.listing.now.context c.args.items.now pages in
    let is : Ok c.in-Places.places.items ≡ placed_by all (other_kind c.args.items.now pages) = ap placing_of (sym c.in-Places.is) ∙ c.in_ok-places.ensures in
    subst (AllItems (λ i. i < length c.args.plan.now.items)) (sym (placed-ok all c.in-Places.places.items (other_kind c.args.items.now pages) is)) (places-items (λ i. i < length c.args.plan.now.items) c.args.listing.now.context c.args.items.now pages c.requires.items)

pub id-requires : goal.id-requires
id-requires c =
    let pages : List Page = map (told_page (told_pages c.args.told.now)) c.args.pairs.now in
    let all : List Place = places_of c.args.listing.now.context c.args.items.now pages in
    let is : Err c.in-Lacks.item ≡ placed_by all (other_kind c.args.items.now pages) = ap placing_of (sym c.in-Lacks.is) ∙ c.in_ok-places.ensures in
    other-in (λ i. i < length c.args.plan.now.items) c.args.items.now pages c.in-Lacks.item c.requires.items (placed-lacks all c.in-Lacks.item (other_kind c.args.items.now pages) is)
