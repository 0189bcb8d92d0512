-- What holds of all that a task may give: lists that a lookup gives have numbers of the plan, and so have a list's places.
use Rattle.std.proofs.Common.{◌≡◌, sym, ap, subst, ℕ, zero, suc, ◌<◌, Bool, true, false, cond, List, [], ◌∷◌, ◌++◌, map, reverse, take, Option, Some, None, Result, Ok, Err}
use Rattle.std.proofs.lemmas.List.{reverse-append}
use Rattle.std.specs.List.{AllByRecursion}
use Rattle.std.specs.Ordering.{is_lt}
use Rattle.hk_base.specs.Bytes.{Bytes}
use Rattle.hk_chain.specs.Facts.{FactsView}
use Rattle.hk_chain.specs.declared.context.Field.{Field}
use Rattle.hk_chain.specs.declared.context.Field.TheVariants as fields
use Rattle.hk_chain.specs.declared.context.Order.{Order}
use Rattle.hk_chain.specs.declared.context.Order.TheVariants as orders
use Rattle.hk_chain.specs.declared.page.Page.{Page}
use Rattle.hk_fix.specs.Pages.{Pages, lacking, all_pages}
use Rattle.hk_fix.specs.Task.{Task, gives, fails, asks, notes, ◌▷◌, End, done, Run, run, answered}
use Rattle.hk_html.specs.Teasers.{teaser_of}
use Rattle.hk_meta.specs.Metadata.{value_of}
use Rattle.hk_meta.specs.declared.date.Moment.{Moment}
use Rattle.hk_rules.specs.Plan.{Lookups}
use Rattle.hk_eval.specs.Asking.{need_text, ask_text, ask_all, other_kind}
use Rattle.hk_eval.specs.Fields.{text_if_any, flag_if, body_text, teaser_text, fits, own_task, value_task, or_task, first_task, field_task, date_at}
use Rattle.hk_eval.specs.Lists.{places_of, Dated, with_date, dated, is_earlier, by_date, place_in, chronological, reversed, ordered, limited, limited_task, places_by, places_task, list_task}
use Rattle.hk_eval.specs.Renderable.{IsRenderableField, IsRenderable}
use Rattle.hk_eval.specs.Replies.{look_end, listed_end, Comes, RunsOn, IsListingWithin, IsPlaceWithin, ArePlacesWithin}
use Rattle.hk_eval.specs.Value.{Listing, Value, absent, text, flag, list}
use Rattle.hk_eval.specs.declared.listed.Listed.{Listed}
use Rattle.hk_eval.specs.declared.listed.Listed.TheVariants as lists
use Rattle.hk_eval.specs.declared.look.Look.{Look}
use Rattle.hk_eval.specs.declared.look.Look.TheVariants as looks
use Rattle.hk_eval.specs.declared.place.Place.{Place}
use Rattle.hk_chain.specs.Sorting.{put_by, sorted_by}

abbrev pub AllGive : {A : Type 0} → (A → Type 0) → Task A → Type 0
AllGive G (gives x) = G x
AllGive G (fails e) = Unit {0}
AllGive G (asks ps f) = (xs : List Page) → AllGive G (f xs)
AllGive G (notes n t) = AllGive G t

pub give-bind : {A B : Type 0} (G : B → Type 0) (t : Task A) (f : A → Task B) → ((x : A) → AllGive G (f x)) → AllGive G (t ▷ f)
give-bind G (gives x) f h = h x
give-bind G (fails e) f h = tt
give-bind G (asks ps k) f h = λ xs. give-bind G (k xs) f h
give-bind G (notes n t) f h = give-bind G t f h

pub give-good : {A B : Type 0} (F : A → Type 0) (G : B → Type 0) (t : Task A) (f : A → Task B) → AllGive F t → ((x : A) → F x → AllGive G (f x)) → AllGive G (t ▷ f)
give-good F G (gives x) f g h = h x g
give-good F G (fails e) f g h = tt
give-good F G (asks ps k) f g h = λ xs. give-good F G (k xs) f (g xs) h
give-good F G (notes n t) f g h = give-good F G t f g h

done-same : {A : Type 0} (x y : A) → (let e : End A = done x in e) ≡ done y → x ≡ y
done-same x y e = cc

pub give-end : {A : Type 0} (G : A → Type 0) (t : Task A) (k : Pages) (x : A) → AllGive G t → (run t k).end ≡ done x → G x
give-end G (gives y) k x g e = subst G (done-same y x e) g
give-end G (fails f) k x g e = cc
give-end G (asks ps f) k x g e = at (λ xs w. give-end G (f xs) k x (g xs) w) (all_pages k ps) e
  where
    at : ((xs : List Page) → (run (f xs) k).end ≡ done x → G x) → (o : Option (List Page)) → (answered ps (lacking k ps) (λ xs. run (f xs) k) o).end ≡ done x → G x
    at onward None w = cc
    at onward (Some xs) w = onward xs w
give-end G (notes n t) k x g e = give-end G t k x g e

-- ---- lookups

module _ (contexts patterns : ℕ) where
  abbrev pub IsValueWithin : Value → Type 0
  IsValueWithin absent = Unit {0}
  IsValueWithin (text bytes) = Unit {0}
  IsValueWithin flag = Unit {0}
  IsValueWithin (list l) = (l.pattern < patterns) × (l.context < contexts)

  text-within : (o : Option Bytes) → IsValueWithin (text_if_any o)
  text-within None = tt
  text-within (Some bytes) = tt

  flag-within : (b : Bool) → IsValueWithin (flag_if b)
  flag-within true = tt
  flag-within false = tt

  own-within : (plan : Lookups) (here : Place) (key : Bytes) (field : Field) → IsRenderableField contexts patterns field → AllGive IsValueWithin (own_task plan here key field)
  own-within plan here key fields.Body h = give-bind IsValueWithin (need_text (plan.id here.item) here.page) body_text (λ x. tt)
  own-within plan here key fields.Metadata h = text-within (value_of key (plan.meta here.item))
  own-within plan here key fields.Url h = text-within _
  own-within plan here key fields.Path h = tt
  own-within plan here key fields.Title h = tt
  own-within plan here key (fields.Const own bytes) h = tt
  own-within plan here key (fields.Date own pattern) h = text-within _
  own-within plan here key (fields.Bool own set) h = flag-within set
  own-within plan here key (fields.Teaser own name) h = give-bind IsValueWithin (ask_text plan (plan.id here.item) name) teaser_text (λ x. text-within (teaser_of x.body))
  own-within plan here key (fields.List own pattern snapshot order limit context) h = h

  value-within : (plan : Lookups) (here : Place) (key : Bytes) (field : Field) → IsRenderableField contexts patterns field → AllGive IsValueWithin (value_task plan here key field)
  value-within plan here key field h = elim (fits field key) as (λ b. AllGive IsValueWithin (let t : Task Value = cond b (own_task plan here key field) (gives absent) in t)) [
    | true ↦ own-within plan here key field h
    | false ↦ tt
  ]

  or-within : (t : Task Value) (v : Value) → AllGive IsValueWithin t → IsValueWithin v → AllGive IsValueWithin (or_task t v)
  or-within t absent g h = g
  or-within t (text bytes) g h = tt
  or-within t flag g h = tt
  or-within t (list l) g h = h

  first-within : (plan : Lookups) (here : Place) (key : Bytes) (fs : List Field) → AllByRecursion (IsRenderableField contexts patterns) fs → AllGive IsValueWithin (first_task plan here key fs)
  first-within plan here key [] h = tt
  first-within plan here key (f ∷ fs) h =
      give-good IsValueWithin IsValueWithin (value_task plan here key f) (or_task (first_task plan here key fs)) (value-within plan here key f h.0) (λ v g. or-within (first_task plan here key fs) v (first-within plan here key fs h.1) g)

  -- a list that was found
  pub look-within : (plan : Lookups) (items : ℕ) (here : Place) (key : Bytes) (k : Pages) (old new : List ℕ) (v : Look) → IsRenderable plan items contexts patterns → here.context < contexts → RunsOn old new (run (field_task plan here key) k) (look_end v) → IsListingWithin contexts patterns v
  unfolding field_task
  look-within plan items here key k old new looks.Absent fit lt h = tt
  look-within plan items here key k old new (looks.Lent bytes) fit lt h = tt
  look-within plan items here key k old new (looks.Made bytes) fit lt h = tt
  look-within plan items here key k old new looks.Flag fit lt h = tt
  look-within plan items here key k old new (looks.List l) fit lt h =
      give-end IsValueWithin (first_task plan here key (plan.context here.context).fields) k _ (first-within plan here key (plan.context here.context).fields (fit.fields here.context lt)) (ap (λ (r : Run Value). r.end) h.2)
  look-within plan items here key k old new (looks.Asks p) fit lt h = tt
  look-within plan items here key k old new (looks.Fails e) fit lt h = tt

-- ---- lists

module _ (P : Place → Type 0) where
  all-append : (ps qs : List Place) → AllByRecursion P ps → AllByRecursion P qs → AllByRecursion P (ps ++ qs)
  all-append [] qs a b = b
  all-append (p ∷ ps) qs a b = (a.0, all-append ps qs a.1 b)

  all-reverse : (ps : List Place) → AllByRecursion P ps → AllByRecursion P (reverse ps)
  all-reverse [] a = tt
  all-reverse (p ∷ ps) a = subst (AllByRecursion P) (sym (reverse-append (p ∷ []) ps)) (all-append (reverse ps) (p ∷ []) (all-reverse ps a.1) (a.0, tt))

  all-take : (n : ℕ) (ps : List Place) → AllByRecursion P ps → AllByRecursion P (take n ps)
  all-take zero ps a = tt
  all-take (suc n) [] a = tt
  all-take (suc n) (p ∷ ps) a = (a.0, all-take n ps a.1)

  all-limited : (limit : Option ℕ) (ps : List Place) → AllByRecursion P ps → AllByRecursion P (limited limit ps)
  all-limited None ps a = a
  all-limited (Some most) ps a = all-take most ps a

  abbrev AllDated : List Dated → Type 0
  AllDated ds = AllByRecursion (λ (d : Dated). P d.place) ds

  all-put : (d : Dated) (ds : List Dated) → P d.place → AllDated ds → AllDated (put_by is_earlier d ds)
  all-put d [] p a = (p, tt)
  all-put d (e ∷ ds) p a = elim (is_earlier e d) as (λ b. AllDated (cond b (e ∷ put_by is_earlier d ds) (d ∷ e ∷ ds))) [
    | true ↦ (a.0, all-put d ds p a.1)
    | false ↦ (p, a)
  ]

  all-by_date : (ds : List Dated) → AllDated ds → AllDated (by_date ds)
  all-by_date [] a = tt
  all-by_date (d ∷ ds) a = all-put d (by_date ds) a.0 (all-by_date ds a.1)

  all-undated : (ds : List Dated) → AllDated ds → AllByRecursion P (map place_in ds)
  all-undated [] a = tt
  all-undated (d ∷ ds) a = (a.0, all-undated ds a.1)

  -- what holds of all places of a result
  abbrev AllOk : Result (List Place) ℕ → Type 0
  AllOk (Ok ps) = AllByRecursion P ps
  AllOk (Err i) = Unit {0}

  abbrev AllDatedOk : Result (List Dated) ℕ → Type 0
  AllDatedOk (Ok ds) = AllDated ds
  AllDatedOk (Err i) = Unit {0}

  all-with : (p : Place) (o : Option Moment) (r : Result (List Dated) ℕ) → P p → AllDatedOk r → AllDatedOk (with_date p o r)
  all-with p None r a b = tt
  all-with p (Some date) (Ok ds) a b = (a, b)
  all-with p (Some date) (Err i) a b = tt

  all-dated : (plan : Lookups) (ps : List Place) → AllByRecursion P ps → AllDatedOk (dated plan ps)
  all-dated plan [] a = tt
  all-dated plan (p ∷ ps) a = all-with p (date_at plan p.item) (dated plan ps) a.0 (all-dated plan ps a.1)

  all-chronological : (r : Result (List Dated) ℕ) → AllDatedOk r → AllOk (chronological r)
  all-chronological (Ok ds) a = all-undated (by_date ds) (all-by_date ds a)
  all-chronological (Err i) a = tt

  all-reversed : (r : Result (List Place) ℕ) → AllOk r → AllOk (reversed r)
  all-reversed (Ok ps) a = all-reverse ps a
  all-reversed (Err i) a = tt

  all-ordered : (plan : Lookups) (order : Order) (ps : List Place) → AllByRecursion P ps → AllOk (ordered plan order ps)
  all-ordered plan orders.Id ps a = a
  all-ordered plan orders.Chronological ps a = all-chronological (dated plan ps) (all-dated plan ps a)
  all-ordered plan orders.Recent ps a = all-reversed (chronological (dated plan ps)) (all-chronological (dated plan ps) (all-dated plan ps a))

  all-limited_task : (plan : Lookups) (limit : Option ℕ) (r : Result (List Place) ℕ) → AllOk r → AllGive (AllByRecursion P) (limited_task plan limit r)
  all-limited_task plan limit (Ok ps) a = all-limited limit ps a
  all-limited_task plan limit (Err i) a = tt

  pub all-places : (plan : Lookups) (l : Listing) (ps : List Place) (o : Option ℕ) → AllByRecursion P ps → AllGive (AllByRecursion P) (places_by plan l ps o)
  all-places plan l ps None a = all-limited_task plan l.limit (ordered plan l.order ps) (all-ordered plan l.order ps a)
  all-places plan l ps (Some i) a = tt

module _ (items contexts : ℕ) where
  within-places : (context : ℕ) (is : List ℕ) (xs : List Page) → context < contexts → AllByRecursion (λ i. i < items) is → AllByRecursion (IsPlaceWithin items contexts) (places_of context is xs)
  within-places context [] xs lt h = tt
  within-places context (i ∷ is) [] lt h = tt
  within-places context (i ∷ is) (x ∷ xs) lt h = ((h.0, lt), within-places context is xs lt h.1)

  pub list-within : (plan : Lookups) (patterns : ℕ) (l : Listing) → IsRenderable plan items contexts patterns → l.context < contexts → AllGive (AllByRecursion (IsPlaceWithin items contexts)) (list_task plan l)
  unfolding list_task
  list-within plan patterns l fit lt =
      give-bind (AllByRecursion (IsPlaceWithin items contexts)) (ask_all plan l.snapshot (plan.matches l.pattern)) (places_task plan l (plan.matches l.pattern))
      (λ xs. all-places (IsPlaceWithin items contexts) plan l (places_of l.context (plan.matches l.pattern) xs) (other_kind (plan.matches l.pattern) xs) (within-places l.context (plan.matches l.pattern) xs lt (fit.matched l.pattern)))

  -- the places that were made
  pub listed-within : (plan : Lookups) (patterns : ℕ) (l : Listing) (k : Pages) (old new : FactsView) (v : Listed) → IsRenderable plan items contexts patterns → l.context < contexts → Comes k (list_task plan l) old (listed_end v) new → ArePlacesWithin items contexts v
  listed-within plan patterns l k old new (lists.Places ps) fit lt h = give-end (AllByRecursion (IsPlaceWithin items contexts)) (list_task plan l) k ps.items (list-within plan patterns l fit lt) (ap (λ (r : Run (List Place)). r.end) h.1)
  listed-within plan patterns l k old new (lists.Asks ps) fit lt h = tt
  listed-within plan patterns l k old new (lists.Fails e) fit lt h = tt
