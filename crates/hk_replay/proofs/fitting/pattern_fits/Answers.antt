use Rattle.std.proofs.Common.{◌≡◌, sym, ap, subst, ◌∙◌, ◌<◌, Some, None, map, length, false}
use Rattle.std.specs.Prelude.{bytes_eq}
use Rattle.std.specs.List.{AllByRecursion, position_from}
use Rattle.std.specs.Cmp.Lexicographic.{pointwise}
use Rattle.std.specs.Ordering.{eq_by_cmp}
use Rattle.hk_base.specs.Identifier.{ident_cmp}
use Rattle.hk_eval.specs.PlanTable.{pattern_texts}
use Rattle.hk_rules.specs.Plan.{id_at, pattern_at}
use Rattle.hk_rules.proofs.ItemNumbers.{matches_in-below}
use Rattle.hk_store.specs.Entry.{MatchView}
use Rattle.hk_reuse.specs.Fits.{pattern_fits}
use Rattle.hk_replay.specs.PlanItems.{items_of}
use Rattle.hk_replay.proofs.Matching.{fits-none, fits-some, matches-same, place-below}
use Rattle.hk_replay.proofs.fitting.pattern_fits.Goals as goal

pub matches-requires : goal.matches-requires
matches-requires c =
    let plan = c.args.plan.now in
    let text = c.found.inside.text in
    let some : position_from (λ own. bytes_eq own text) 0 (pattern_texts plan) ≡ Some c.in-Some.number = ap (λ l. position_from (λ own. bytes_eq own text) 0 l) (sym c.requires.known.texts) ∙ (ap (λ t. position_from (λ own. bytes_eq own t) 0 c.args.known.now.texts) (sym c.as_slice.ensures) ∙ (sym c.place.ensures ∙ c.in-Some.is)) in
    place-below plan text c.in-Some.number some

pub are_same-requires : goal.are_same-requires
are_same-requires c =
    let plan = c.args.plan.now in
    let same = c.matches.ensures ∙ matches-same plan c.in-Some.number in
    subst (AllByRecursion (λ i. i < length plan.items)) (sym same) (matches_in-below plan.items (pattern_at plan c.in-Some.number))

pub returns-in-Some : goal.returns-in-Some
returns-in-Some c =
    let plan = c.args.plan.now in
    let text = c.found.inside.text in
    let some : position_from (λ own. bytes_eq own text) 0 (pattern_texts plan) ≡ Some c.in-Some.number = ap (λ l. position_from (λ own. bytes_eq own text) 0 l) (sym c.requires.known.texts) ∙ (ap (λ t. position_from (λ own. bytes_eq own t) 0 c.args.known.now.texts) (sym c.as_slice.ensures) ∙ (sym c.place.ensures ∙ c.in-Some.is)) in
    let same = c.matches.ensures ∙ matches-same plan c.in-Some.number in
    subst (λ (m : MatchView). c.are_same.result ≡ pattern_fits (items_of plan) m) c.found.view_is
    (c.are_same.ensures ∙ ((λ i. pointwise (eq_by_cmp ident_cmp) (map (id_at plan) (same i)) (c.deref.ensures.value i)) ∙ sym (fits-some plan _ c.in-Some.number some)))

pub returns-in-None : goal.returns-in-None
returns-in-None c =
    let plan = c.args.plan.now in
    let none : position_from (λ own. bytes_eq own c.found.inside.text) 0 (pattern_texts plan) ≡ None = ap (λ l. position_from (λ own. bytes_eq own c.found.inside.text) 0 l) (sym c.requires.known.texts) ∙ (ap (λ t. position_from (λ own. bytes_eq own t) 0 c.args.known.now.texts) (sym c.as_slice.ensures) ∙ (sym c.place.ensures ∙ c.in-None.is)) in
    subst (λ (m : MatchView). false ≡ pattern_fits (items_of plan) m) c.found.view_is (sym (fits-none plan _ none))
