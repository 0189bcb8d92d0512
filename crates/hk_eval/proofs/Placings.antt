-- Places made one after another.
use Rattle.std.proofs.Common.{◌≡◌, refl, sym, ap, ◌∙◌, subst, arith, ℕ, suc, ◌+◌, ◌<◌, ◌≤◌, Bool, true, false, List, [], ◌∷◌, ◌++◌, append_assoc, append-nil, drop, drop-cons, drop_of_length-le, length, map, get_or, Option, Some, None, Result, Ok, Err}
use Rattle.std.specs.List.{AllByRecursion}
use Rattle.std.specs.Option.{unwrap_or}
use Rattle.hk_chain.specs.declared.context.Order.{Order}
use Rattle.hk_chain.specs.declared.context.Order.TheVariants as orders
use Rattle.hk_chain.specs.declared.page.Page.{Page}
use Rattle.hk_fix.specs.Pages.{Pages}
use Rattle.hk_meta.specs.declared.date.Moment.{Moment}
use Rattle.hk_rules.specs.Plan.{Lookups}
use Rattle.hk_eval.specs.Asking.{no_bytes, is_text, other_by, other_kind}
use Rattle.hk_eval.specs.Fields.{date_at}
use Rattle.hk_eval.specs.Groups.{told_page}
use Rattle.hk_eval.specs.Lists.{places_of, Dated, with_date, dated, chronological, reversed, ordered}
use Rattle.hk_eval.specs.Placing.{placed_by}
use Rattle.hk_eval.specs.declared.place.Place.{Place}

-- ---- the pages of a list's items

-- the places so far, and those of the rest
abbrev pub PlacedTo : Pages → ℕ → List ℕ → List ℕ → List Place → ℕ → Type 0
PlacedTo k context items pairs places i =
    (places_of context items (map (told_page k) pairs) ≡ places ++ places_of context (drop i items) (map (told_page k) (drop i pairs)))
    × (other_kind items (map (told_page k) pairs) ≡ other_kind (drop i items) (map (told_page k) (drop i pairs)))

rest-from : (xs : List ℕ) (i x : ℕ) → i < length xs → x ≡ get_or xs i x → drop i xs ≡ x ∷ drop (i + 1) xs
rest-from xs i x lt at = let e : i + 1 ≡ suc i = omega arith in rw e (drop-cons xs i x lt ∙ ap (λ y. y ∷ drop (suc i) xs) (sym at))

module _ (k : Pages) (context : ℕ) (items pairs : List ℕ) (i item pair : ℕ) (page : Page) (same : length items ≡ length pairs) (lt : i < length pairs) (item-at : item ≡ get_or items i item) (pair-at : pair ≡ get_or pairs i pair) (told : k pair ≡ Some page) where
  pairs-left : map (told_page k) (drop i pairs) ≡ page ∷ map (told_page k) (drop (i + 1) pairs)
  pairs-left = ap (map (told_page k)) (rest-from pairs i pair lt pair-at) ∙ ap (λ o. unwrap_or o no_bytes ∷ map (told_page k) (drop (i + 1) pairs)) told

  items-left : drop i items ≡ item ∷ drop (i + 1) items
  items-left = rest-from items i item (omega (arith, same)) item-at

  -- one more place
  pub place-turn : (old new : List Place) (b : Bool) → b ≡ is_text page.kind → b ≡ true → new ≡ old ++ record { item = item; page = page; context = context } ∷ [] → PlacedTo k context items pairs old i → PlacedTo k context items pairs new (i + 1)
  place-turn old new b is text more was =
      let rest : List Page = map (told_page k) (drop (i + 1) pairs) in (
        was.0 ∙ (ap (λ l. old ++ places_of context l (map (told_page k) (drop i pairs))) items-left ∙ (ap (λ l. old ++ places_of context (item ∷ drop (i + 1) items) l) pairs-left
            ∙ (sym (append_assoc old (record { item = item; page = page; context = context } ∷ []) (places_of context (drop (i + 1) items) rest)) ∙ ap (λ l. l ++ places_of context (drop (i + 1) items) rest) (sym more)))),
        was.1 ∙ (ap (λ l. other_kind l (map (told_page k) (drop i pairs))) items-left ∙ (ap (λ l. other_kind (item ∷ drop (i + 1) items) l) pairs-left
            ∙ ap (λ t. other_by item t (other_kind (drop (i + 1) items) rest)) (sym is ∙ text))),
      )

  -- this page isn't text
  pub place-other : (old : List Place) (b : Bool) → b ≡ is_text page.kind → b ≡ false → PlacedTo k context items pairs old i → Err item ≡ placed_by (places_of context items (map (told_page k) pairs)) (other_kind items (map (told_page k) pairs))
  place-other old b is no_text was =
      sym (ap (placed_by (places_of context items (map (told_page k) pairs))) (was.1 ∙ (ap (λ l. other_kind l (map (told_page k) (drop i pairs))) items-left ∙ (ap (λ l. other_kind (item ∷ drop (i + 1) items) l) pairs-left
      ∙ ap (λ t. other_by item t (other_kind (drop (i + 1) items) (map (told_page k) (drop (i + 1) pairs)))) (sym is ∙ no_text)))))

-- no item is left
pub place-end : (k : Pages) (context : ℕ) (items pairs : List ℕ) (i : ℕ) (places : List Place) → length items ≡ length pairs → length pairs ≤ i → PlacedTo k context items pairs places i → Ok places ≡ placed_by (places_of context items (map (told_page k) pairs)) (other_kind items (map (told_page k) pairs))
place-end k context items pairs i places same over was =
    let none : drop i items ≡ [] = drop_of_length-le items (omega (arith, same)) in
    let all : places_of context items (map (told_page k) pairs) ≡ places = was.0 ∙ (ap (λ l. places ++ places_of context l (map (told_page k) (drop i pairs))) none ∙ append-nil places) in
    let kinds : other_kind items (map (told_page k) pairs) ≡ None = was.1 ∙ ap (λ l. other_kind l (map (told_page k) (drop i pairs))) none in
    sym (ap (λ o. placed_by (places_of context items (map (told_page k) pairs)) o) kinds ∙ ap Ok all)

-- ---- dates

-- those that were found, and these
abbrev pub after_dates : List Dated → Result (List Dated) ℕ → Result (List Dated) ℕ
after_dates found (Ok ds) = Ok (found ++ ds)
after_dates found (Err item) = Err item

pub dates-turn : (old new : List Dated) (place : Place) (date : Moment) (r : Result (List Dated) ℕ) → new ≡ old ++ record { date = date; place = place } ∷ [] → after_dates old (with_date place (Some date) r) ≡ after_dates new r
dates-turn old new place date (Ok ds) e = ap Ok (sym (append_assoc old (record { date = date; place = place } ∷ []) ds) ∙ ap (λ l. l ++ ds) (sym e))
dates-turn old new place date (Err item) e = refl

-- one more date
pub dates-step : (plan : Lookups) (all : List Place) (old new : List Dated) (left rest : List Place) (place : Place) (date : Moment) → dated plan all ≡ after_dates old (dated plan left) → left ≡ place ∷ rest → date_at plan place.item ≡ Some date → new ≡ old ++ record { date = date; place = place } ∷ [] → dated plan all ≡ after_dates new (dated plan rest)
dates-step plan all old new left rest place date was step at more =
    was ∙ (ap (λ l. after_dates old (dated plan l)) step ∙ (ap (λ o. after_dates old (with_date place o (dated plan rest))) at ∙ dates-turn old new place date (dated plan rest) more))

-- ---- what the places of a result are of

pub placed-ok : (ps qs : List Place) (o : Option ℕ) → Ok qs ≡ placed_by ps o → qs ≡ ps
placed-ok ps qs None e = cc
placed-ok ps qs (Some i) e = cc

pub placed-lacks : (ps : List Place) (i : ℕ) (o : Option ℕ) → Err i ≡ placed_by ps o → o ≡ Some i
placed-lacks ps i None e = cc
placed-lacks ps i (Some j) e = let s : j ≡ i = cc in ap Some s

module _ (P : ℕ → Type 0) where
  abbrev pub AllItems : List Place → Type 0
  AllItems ps = AllByRecursion (λ (p : Place). P p.item) ps

  pub places-items : (context : ℕ) (items : List ℕ) (pages : List Page) → AllByRecursion P items → AllItems (places_of context items pages)
  places-items context [] pages h = tt
  places-items context (i ∷ items) [] h = tt
  places-items context (i ∷ items) (x ∷ pages) h = (h.0, places-items context items pages h.1)

  -- an item whose date is wanting is that of a place
  dated-lacks : (plan : Lookups) (ps : List Place) (i : ℕ) → AllItems ps → dated plan ps ≡ Err i → P i
  dated-lacks plan [] i h e = cc
  dated-lacks plan (p ∷ ps) i h e = at (date_at plan p.item) (dated plan ps) refl e (λ w. dated-lacks plan ps i h.1 w)
    where
      at : (o : Option Moment) (r : Result (List Dated) ℕ) → dated plan ps ≡ r → with_date p o r ≡ Err i → (dated plan ps ≡ Err i → P i) → P i
      at None r q w rec = let s : p.item ≡ i = cc in subst P s h.0
      at (Some date) (Ok ds) q w rec = cc
      at (Some date) (Err j) q w rec = rec (q ∙ (let s : j ≡ i = cc in ap Err s))

  chronological-lacks : (r : Result (List Dated) ℕ) (i : ℕ) → chronological r ≡ Err i → r ≡ Err i
  chronological-lacks (Ok ds) i e = cc
  chronological-lacks (Err j) i e = let s : j ≡ i = cc in ap Err s

  reversed-lacks : (r : Result (List Place) ℕ) (i : ℕ) → reversed r ≡ Err i → r ≡ Err i
  reversed-lacks (Ok ps) i e = cc
  reversed-lacks (Err j) i e = let s : j ≡ i = cc in ap Err s

  pub ordered-lacks : (plan : Lookups) (order : Order) (ps : List Place) (i : ℕ) → AllItems ps → ordered plan order ps ≡ Err i → P i
  ordered-lacks plan orders.Id ps i h e = cc
  ordered-lacks plan orders.Chronological ps i h e = dated-lacks plan ps i h (chronological-lacks (dated plan ps) i e)
  ordered-lacks plan orders.Recent ps i h e = dated-lacks plan ps i h (chronological-lacks (dated plan ps) i (reversed-lacks (chronological (dated plan ps)) i e))
