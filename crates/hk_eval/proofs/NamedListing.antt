-- The places of a list by names are those by numbers.
use Rattle.std.proofs.Common.{◌≡◌, refl, sym, ap, ◌∙◌, ℕ, ◌<◌, Bool, true, false, cond, List, [], ◌∷◌, map, Option, Some, None, Result, Ok, Err, option_map}
use mathlib.Core.List.{reverse_aux}
use Rattle.std.specs.List.{AllByRecursion}
use Rattle.std.specs.Ordering.{is_lt}
use Rattle.std.proofs.lemmas.List.{take-map}
use Rattle.hk_base.specs.Bytes.{Bytes}
use Rattle.hk_base.specs.Identifier.{Ident}
use Rattle.hk_chain.specs.declared.context.Order.{Order}
use Rattle.hk_chain.specs.declared.context.Order.TheVariants as orders
use Rattle.hk_chain.specs.declared.page.Page.{Page}
use Rattle.hk_fix.specs.Deed.{asking, answers, interpret}
use Rattle.hk_fix.specs.Table.{Traits, Table}
use Rattle.hk_fix.specs.Task.{Task, gives, ◌▷◌}
use Rattle.hk_fix.specs.TaskLaws.{bind_assoc}
use Rattle.hk_meta.specs.declared.date.Moment.{Moment}
use Rattle.hk_rules.specs.Plan.{Lookups}
use Rattle.hk_eval.specs.PlanTable.{IsTableOf}
use Rattle.hk_rules.specs.Recipe.{context_name}
use Rattle.hk_eval.specs.Asking.{ask_all, other_kind}
use Rattle.hk_eval.specs.Fields.{date_at}
use Rattle.hk_eval.specs.Lists.{places_of, Dated, with_date, dated, is_earlier, by_date, place_in, chronological, reversed, ordered, limited, limited_task, places_by, places_task, list_task}
use Rattle.hk_eval.specs.NamedAsking.{keys_named, other_named}
use Rattle.hk_eval.specs.NamedLists.{named_places, DatedPlace, add_dated, dated_places, comes_earlier, places_by_date, undated, in_time, backwards, in_order, at_most, limited_deed, places_deed_by, places_deed, list_deed}
use Rattle.hk_eval.specs.NamedPlaces.{named_place, named_listing}
use Rattle.hk_eval.specs.NamedValue.{NamedPlace}
use Rattle.hk_eval.specs.Value.{Listing}
use Rattle.hk_eval.specs.declared.place.Place.{Place}
use Rattle.hk_eval.proofs.NamedAsks.{group_traits, group-same, match-same, other-same}
use Rattle.hk_chain.specs.Sorting.{put_by, sorted_by}

-- ---- order and limit

module _ (plan : Lookups) where
  abbrev one : Dated → DatedPlace
  one d = record { date = d.date; place = named_place plan d.place }

  abbrev named_dated : Result (List Dated) ℕ → Result (List DatedPlace) Ident
  named_dated (Ok ds) = Ok (map one ds)
  named_dated (Err item) = Err (plan.id item)

  abbrev named_result : Result (List Place) ℕ → Result (List NamedPlace) Ident
  named_result (Ok ps) = Ok (map (named_place plan) ps)
  named_result (Err item) = Err (plan.id item)

  add-same : (p : Place) (o : Option Moment) (r : Result (List Dated) ℕ) → add_dated (named_place plan p) o (named_dated r) ≡ named_dated (with_date p o r)
  add-same p None r = refl
  add-same p (Some date) (Ok ds) = refl
  add-same p (Some date) (Err item) = refl

  dated-same : (ps : List Place) → dated_places (map (named_place plan) ps) ≡ named_dated (dated plan ps)
  dated-same [] = refl
  dated-same (p ∷ ps) = ap (add_dated (named_place plan p) (date_at plan p.item)) (dated-same ps) ∙ add-same p (date_at plan p.item) (dated plan ps)

  put-same : (d : Dated) (es : List Dated) → put_by comes_earlier (one d) (map one es) ≡ map one (put_by is_earlier d es)
  put-same d [] = refl
  put-same d (e ∷ es) = at (is_earlier e d) (put-same d es)
    where
      at : (b : Bool) → put_by comes_earlier (one d) (map one es) ≡ map one (put_by is_earlier d es) → cond b (one e ∷ put_by comes_earlier (one d) (map one es)) (one d ∷ one e ∷ map one es) ≡ map one (cond b (e ∷ put_by is_earlier d es) (d ∷ e ∷ es))
      at true w = ap (λ l. one e ∷ l) w
      at false w = refl

  by-date-same : (ds : List Dated) → places_by_date (map one ds) ≡ map one (by_date ds)
  by-date-same [] = refl
  by-date-same (d ∷ ds) = ap (put_by comes_earlier (one d)) (by-date-same ds) ∙ put-same d (by_date ds)

  undated-same : (ds : List Dated) → map undated (map one ds) ≡ map (named_place plan) (map place_in ds)
  undated-same [] = refl
  undated-same (d ∷ ds) = ap (λ l. named_place plan d.place ∷ l) (undated-same ds)

  in-time-same : (r : Result (List Dated) ℕ) → in_time (named_dated r) ≡ named_result (chronological r)
  in-time-same (Ok ds) = ap Ok (ap (map undated) (by-date-same ds) ∙ undated-same (by_date ds))
  in-time-same (Err item) = refl

  reverse-onto : (ps qs : List Place) → reverse_aux (map (named_place plan) ps) (map (named_place plan) qs) ≡ map (named_place plan) (reverse_aux ps qs)
  reverse-onto [] qs = refl
  reverse-onto (p ∷ ps) qs = reverse-onto ps (p ∷ qs)

  backwards-same : (r : Result (List Place) ℕ) → backwards (named_result r) ≡ named_result (reversed r)
  backwards-same (Ok ps) = ap Ok (reverse-onto ps [])
  backwards-same (Err item) = refl

  chronological-same : (ps : List Place) → in_time (dated_places (map (named_place plan) ps)) ≡ named_result (chronological (dated plan ps))
  chronological-same ps = ap in_time (dated-same ps) ∙ in-time-same (dated plan ps)

  order-same : (order : Order) (ps : List Place) → in_order order (map (named_place plan) ps) ≡ named_result (ordered plan order ps)
  order-same orders.Id ps = refl
  order-same orders.Chronological ps = chronological-same ps
  order-same orders.Recent ps = ap backwards (chronological-same ps) ∙ backwards-same (chronological (dated plan ps))

  limit-same : (limit : Option ℕ) (ps : List Place) → at_most limit (map (named_place plan) ps) ≡ map (named_place plan) (limited limit ps)
  limit-same None ps = refl
  limit-same (Some most) ps = take-map (named_place plan) most ps

-- ---- the places

module _ (plan : Lookups) (items patterns : ℕ) (table : Table) (told : IsTableOf plan items patterns table) (own : Ident) where
  abbrev pub named_all : List Place → Task (List NamedPlace)
  named_all ps = gives (map (named_place plan) ps)

  places-same : (name : Bytes) (context : ℕ) (is : List ℕ) (xs : List Page) → AllByRecursion (λ i. i < items) is → named_places (context_name plan context) (map plan.id is) (answers xs (group_traits plan items patterns table told own name is)) ≡ map (named_place plan) (places_of context is xs)
  places-same name context [] xs h = refl
  places-same name context (i ∷ is) [] h = refl
  places-same name context (i ∷ is) (x ∷ xs) h =
      ap (λ (t : Traits). record { id = plan.id i; page = x; traits = t; context = context_name plan context } ∷ named_places (context_name plan context) (map plan.id is) (answers xs (group_traits plan items patterns table told own name is))) (told.traits i h.0)
      ∙ ap (λ l. named_place plan (record { item = i; page = x; context = context }) ∷ l) (places-same name context is xs h.1)

  limited-same : (limit : Option ℕ) (r : Result (List Place) ℕ) → interpret table own (limited_deed limit (named_result plan r)) ≡ limited_task plan limit r ▷ named_all
  limited-same limit (Ok ps) = ap gives (limit-same plan limit ps)
  limited-same limit (Err item) = refl

  by-same : (l : Listing) (ps : List Place) (o : Option ℕ) → interpret table own (places_deed_by (named_listing plan l) (map (named_place plan) ps) (option_map plan.id o)) ≡ places_by plan l ps o ▷ named_all
  by-same l ps None = ap (λ r. interpret table own (limited_deed l.limit r)) (order-same plan l.order ps) ∙ limited-same l.limit (ordered plan l.order ps)
  by-same l ps (Some item) = refl

  listed-same : (l : Listing) (is : List ℕ) → AllByRecursion (λ i. i < items) is → (xs : List Page) → interpret table own (places_deed (named_listing plan l) (map plan.id is) (answers xs (group_traits plan items patterns table told own l.snapshot is))) ≡ places_task plan l is xs ▷ named_all
  listed-same l is h xs =
      let ts = group_traits plan items patterns table told own l.snapshot is in
      ap (λ ps. interpret table own (places_deed_by (named_listing plan l) ps (other_named (map plan.id is) (answers xs ts)))) (places-same l.snapshot l.context is xs h)
      ∙ ap (λ o. interpret table own (places_deed_by (named_listing plan l) (map (named_place plan) (places_of l.context is xs)) o)) (other-same plan items patterns table told own is xs ts)
      ∙ by-same l (places_of l.context is xs) (other_kind is xs)

  -- a list by names is the list by numbers
  pub list-same : (l : Listing) → l.pattern < patterns → interpret table own (list_deed (named_listing plan l)) ≡ list_task plan l ▷ named_all
  unfolding list_task
  list-same l lt =
      let is = plan.matches l.pattern in
      match-same plan items patterns table told own l.pattern lt (λ ids. asking (keys_named l.snapshot ids) (places_deed (named_listing plan l) ids)) (ask_all plan l.snapshot is ▷ places_task plan l is ▷ named_all)
      (group-same plan items patterns table told own l.snapshot is (told.matched l.pattern) (places_deed (named_listing plan l) (map plan.id is)) (λ xs. places_task plan l is xs ▷ named_all) (listed-same l is (told.matched l.pattern))
      ∙ sym (bind_assoc (ask_all plan l.snapshot is) (places_task plan l is) named_all))
