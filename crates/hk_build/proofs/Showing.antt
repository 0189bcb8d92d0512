-- The events of the items that are compiled are those that a build shows.
use Rattle.std.proofs.Common.{◌≡◌, refl, sym, ap, ◌∙◌, subst, arith, ℕ, zero, suc, ◌+◌, ◌-◌, ◌<◌, Bool, true, false, not, cond, ◌||◌, List, [], ◌∷◌, ◌++◌, length, filter, reverse, get_or, replicate, All, nat_eq, eqb-true, Result, Ok, Err, IfOk, Vec}
use Rattle.std.specs.declared.alloc.Global.{Global}
use Rattle.std.specs.List.{AllByRecursion}
use Rattle.std.proofs.lemmas.List.{get_or-reverse, length-reverse, get_or-set_same, get_or-set_other}
use Rattle.std.proofs.lemmas.List.Elements.{All-from_recursion, recursion_from_All}
use Rattle.std.proofs.Math.ListN.{set}
use Rattle.hk_base.specs.Bytes.{Bytes}
use Rattle.hk_base.specs.declared.refusal.NoMemory.{NoMemory}
use Rattle.hk_chain.specs.declared.page.Page.{Page}
use Rattle.hk_chain.specs.Layout.{Shape, IsShape, pairs}
use Rattle.hk_fix.specs.declared.event.Event.{Event}
use Rattle.hk_fix.specs.declared.event.Event.TheVariants.{Begin, Saved, Done, Failed}
use Rattle.hk_fix.specs.Facts.{is_in}
use Rattle.hk_fix.specs.Fix.{IsComplete, Seeds, MayFollow, LawfulNewest}
use Rattle.hk_fix.specs.Pages.{Pages}
use Rattle.hk_fix.specs.Report.{upto}
use Rattle.hk_fix.specs.Task.{Run}
use Rattle.hk_machine.specs.Machine.{plan_shape}
use Rattle.hk_reuse.specs.Entries.{Entries}
use Rattle.hk_reuse.specs.Histories.{item_of_event, others}
use Rattle.hk_reuse.specs.Site.{no_seeds}
use Rattle.hk_rules.specs.Pairs.{layout}
use Rattle.hk_rules.specs.Plan.{lookups}
use Rattle.hk_rules.specs.PlanView.{PlanView}
use Rattle.hk_sites.specs.PlanSite.{items_of}
use Rattle.hk_sites.specs.Rebuilding.{keeps}
use Rattle.hk_store.specs.Traits.{sha_digests}
use Rattle.hk_texts.specs.TraceText.{IsEventWithin, trace_text}
use Rattle.hk_build.specs.Build as build
use Rattle.hk_build.specs.Build.{compiled, run_of, shown}
use Rattle.hk_build.specs.Ended.{IsBuild}
use Rattle.hk_build.specs.declared.ended.Build.{Build}
use Rattle.hk_build.specs.Shown.{marked_events}
use Rattle.hk_build.proofs.CompiledItems.{count, in-compiled}
use Rattle.hk_build.proofs.Numbers.{shape-is, shape-items}

-- ---- the numbers in a history

module _ (lay : Shape) (go : ℕ → Pages → Run Page) (seeds : Seeds) where
  follows-within : (h : List Event) (e : Event) → MayFollow lay go seeds h e → IsEventWithin lay.items (pairs lay) e
  follows-within h (Begin i) may = may.in_range
  follows-within h (Saved p) may = may.in_range
  follows-within h (Done i) may = may.in_range
  follows-within h (Failed i) may = may.in_range

  lawful-within : (h : List Event) → LawfulNewest lay go seeds h → AllByRecursion (IsEventWithin lay.items (pairs lay)) h
  lawful-within [] law = tt
  lawful-within (e ∷ h) law = (follows-within h e law.1, lawful-within h law.2)

all-reversed : {X : Type 0} (P : X → Type 0) (xs : List X) → All P (reverse xs) → All P xs
all-reversed P xs h = λ k d lt.
    let place : ℕ = length xs - 1 - k in
    let there : place < length (reverse xs) = omega (arith, length-reverse xs, lt) in
    let within : place < length xs = omega (arith, lt) in
    let back : length xs - 1 - place ≡ k = omega (arith, lt) in
    subst P (get_or-reverse xs place d within ∙ ap (λ n. get_or xs n d) back) (h place d there)

pub history-within : (lay : Shape) (go : ℕ → Pages → Run Page) (seeds : Seeds) (h : List Event) → IsComplete lay go seeds h → All (IsEventWithin lay.items (pairs lay)) h
history-within lay go seeds h is = all-reversed (IsEventWithin lay.items (pairs lay)) h (All-from_recursion (IsEventWithin lay.items (pairs lay)) (reverse h) (lawful-within lay go seeds (reverse h) is.lawful))

-- ---- marks

in-more : (xs : List ℕ) (p i : ℕ) → is_in (xs ++ p ∷ []) i ≡ (is_in xs i || (nat_eq i p || false))
in-more [] p i = refl
in-more (x ∷ xs) p i = elim (nat_eq i x) as (λ b. (b || is_in (xs ++ p ∷ []) i) ≡ ((b || is_in xs i) || (nat_eq i p || false))) [ true ↦ refl | false ↦ in-more xs p i ]

or-true : (b : Bool) → (b || true) ≡ true
or-true true = refl
or-true false = refl

or-false : (b : Bool) → (b || false) ≡ b
or-false true = refl
or-false false = refl

-- one item more is marked
pub mark-more : (marks : List Bool) (xs : List ℕ) (p i : ℕ) → p < length marks → get_or marks i false ≡ is_in xs i → get_or (set marks p true) i false ≡ is_in (xs ++ p ∷ []) i
mark-more marks xs p i lt e = at (nat_eq i p) refl ∙ sym (in-more xs p i)
  where
    at : (b : Bool) → nat_eq i p ≡ b → get_or (set marks p true) i false ≡ (is_in xs i || (nat_eq i p || false))
    at true t =
        let one : p ≡ i = sym (eqb-true i p t) in
        ap (λ n. get_or (set marks p true) n false) (sym one) ∙ get_or-set_same marks p true false lt
        ∙ sym (ap (λ b. is_in xs i || (b || false)) t ∙ or-true (is_in xs i))
    at false t = get_or-set_other marks p i true false (λ w. grind (arith, w, t)) ∙ e ∙ sym (ap (λ b. is_in xs i || (b || false)) t ∙ or-false (is_in xs i))

pub no-marks : (n i : ℕ) → get_or (replicate n false) i false ≡ false
no-marks zero i = refl
no-marks (suc n) zero = refl
no-marks (suc n) (suc i) = no-marks n i

-- ---- marked events

module _ (lay : Shape) (shape : IsShape lay) (marks : List Bool) (kept : ℕ → Bool) (free : (i : ℕ) → i < lay.items → get_or marks i false ≡ not (kept i)) where
  item-within : (e : Event) → IsEventWithin lay.items (pairs lay) e → item_of_event lay e < lay.items
  item-within (Begin i) h = h
  item-within (Saved p) h = shape.in_items p h
  item-within (Done i) h = h
  item-within (Failed i) h = h

  one-event : (e : Event) (rest : List Event) (b : Bool) → cond (not b) (e ∷ []) [] ++ rest ≡ cond b rest (e ∷ rest)
  one-event e rest true = refl
  one-event e rest false = refl

  pub marked-others : (h : List Event) → AllByRecursion (IsEventWithin lay.items (pairs lay)) h → marked_events lay marks h ≡ others lay kept h
  marked-others [] w = refl
  marked-others (e ∷ h) w =
      ap (λ b. cond b (e ∷ []) [] ++ marked_events lay marks h) (free (item_of_event lay e) (item-within e w.0))
      ∙ ap (λ l. cond (not (kept (item_of_event lay e))) (e ∷ []) [] ++ l) (marked-others h w.1)
      ∙ one-event e (others lay kept h) (kept (item_of_event lay e))

others-all : (P : Event → Type 0) (lay : Shape) (kept : ℕ → Bool) (h : List Event) → AllByRecursion P h → AllByRecursion P (others lay kept h)
others-all P lay kept [] w = tt
others-all P lay kept (e ∷ h) w = elim (kept (item_of_event lay e)) as (λ b. AllByRecursion P (cond b (others lay kept h) (e ∷ others lay kept h))) [
  | true ↦ others-all P lay kept h w.1
  | false ↦ (w.0, others-all P lay kept h w.1)
]

-- ---- a build

filter-below : (test : ℕ → Bool) (n : ℕ) (xs : List ℕ) → AllByRecursion (λ i. i < n) xs → AllByRecursion (λ i. i < n) (filter test xs)
filter-below test n [] h = tt
filter-below test n (x ∷ xs) h = elim (test x) as (λ b. AllByRecursion (λ i. i < n) (cond b (x ∷ filter test xs) (filter test xs))) [
  | true ↦ (h.0, filter-below test n xs h.1)
  | false ↦ filter-below test n xs h.1
]

below-snoc : (n : ℕ) (xs : List ℕ) (x : ℕ) → AllByRecursion (λ i. i < n) xs → x < n → AllByRecursion (λ i. i < n) (xs ++ x ∷ [])
below-snoc n [] x h lt = (lt, tt)
below-snoc n (y ∷ xs) x h lt = (h.0, below-snoc n xs x h.1 lt)

upto-below : (n m : ℕ) → n < suc m → AllByRecursion (λ i. i < m) (upto n)
upto-below zero m le = tt
upto-below (suc n) m le = below-snoc m (upto n) n (upto-below n m (omega arith)) (omega arith)

module _ (plan : PlanView) (entries : Entries) (b : Build) (h : IsBuild plan entries b) where
  abbrev lay : Shape
  lay = plan_shape plan

  compiled-below : AllByRecursion (λ i. i < (items_of plan).table.layout.items) (compiled plan entries)
  unfolding compiled build.pages
  compiled-below = filter-below (λ i. not (keeps sha_digests plan entries i)) (items_of plan).table.layout.items (upto (items_of plan).table.layout.items) (upto-below (items_of plan).table.layout.items (items_of plan).table.layout.items (omega arith))

  -- the items that were compiled are the layout's
  pub items-below : (n : ℕ) → n ≡ lay.items → All (λ i. i < n) b.compiled.items
  items-below n e =
      let m : (items_of plan).table.layout.items ≡ n = count plan ∙ sym (e ∙ shape-items plan) in
      subst (λ (is : List ℕ). All (λ i. i < n) is) (sym h.compiled) (subst (λ k. All (λ i. i < k) (compiled plan entries)) m (All-from_recursion (λ i. i < (items_of plan).table.layout.items) (compiled plan entries) compiled-below))

  pub history-in : (l : Shape) → l ≡ lay → All (IsEventWithin l.items (pairs l)) b.results.history
  history-in l e = subst (λ (s : Shape). All (IsEventWithin s.items (pairs s)) b.results.history) (sym e) (history-within lay (run_of plan entries) no_seeds b.results.history h.results.complete)

  -- the events of the items that were compiled
  pub shown-is : (l : Shape) → l ≡ lay → IsShape l → (marks : List Bool) → ((i : ℕ) → i < l.items → get_or marks i false ≡ is_in b.compiled.items i)
      → (out : List Event) → out ≡ marked_events l marks b.results.history → out ≡ shown plan entries b.results.history
  shown-is l e shape marks are out is =
      let kept : ℕ → Bool = keeps sha_digests plan entries in
      let free : (i : ℕ) → i < l.items → get_or marks i false ≡ not (kept i) =
      λ i lt. are i lt ∙ ap (λ (xs : List ℕ). is_in xs i) h.compiled ∙ in-compiled plan entries i (subst (λ n. i < n) (ap (λ (s : Shape). s.items) e ∙ shape-items plan) lt) in
      is ∙ marked-others l shape marks kept free b.results.history (recursion_from_All (IsEventWithin l.items (pairs l)) b.results.history (history-in l e)) ∙ ap (λ (s : Shape). others s kept b.results.history) e

  pub shown-in : (out : List Event) → out ≡ shown plan entries b.results.history → All (IsEventWithin (length plan.items) (pairs (layout plan.items))) out
  shown-in out e =
      let all : AllByRecursion (IsEventWithin lay.items (pairs lay)) (shown plan entries b.results.history) = others-all (IsEventWithin lay.items (pairs lay)) lay (keeps sha_digests plan entries) b.results.history (recursion_from_All (IsEventWithin lay.items (pairs lay)) b.results.history (history-in lay refl)) in
      let each : All (IsEventWithin lay.items (pairs lay)) out = All-from_recursion (IsEventWithin lay.items (pairs lay)) out (subst (AllByRecursion (IsEventWithin lay.items (pairs lay))) (sym e) all) in
      subst (λ n. All (IsEventWithin n (pairs (layout plan.items))) out) (shape-items plan) (subst (λ (s : Shape). All (IsEventWithin lay.items (pairs s)) out) (shape-is plan) each)

-- the events that are gathered by marks, if memory wasn't wanting
pub shown-result : (plan : PlanView) (b : Build) (l : Shape) → l ≡ plan_shape plan → IsShape l → (marks : List Bool) → ((i : ℕ) → i < l.items → get_or marks i false ≡ is_in b.compiled.items i)
    → (read : List Bool) → read ≡ marks → (history : List Event) → history ≡ b.results.history
    → (result : Result (Vec Event Global) NoMemory) → IfOk result (λ v. v.items ≡ marked_events l read history)
    → IfOk result (λ v. (entries : Entries) → IsBuild plan entries b → v.items ≡ shown plan entries b.results.history)
shown-result plan b l e shape marks are read read-is history history-is (Err x) h = tt
shown-result plan b l e shape marks are read read-is history history-is (Ok v) h =
    λ entries built. shown-is plan entries b built l e shape marks are v.items (h ∙ (λ i. marked_events l (read-is i) (history-is i)))

-- and their lines
pub traced : (plan : PlanView) (b : Build) (events : List Event) → ((entries : Entries) → IsBuild plan entries b → events ≡ shown plan entries b.results.history)
    → (read : List Event) → read ≡ events → (result : Result Bytes NoMemory) → IfOk result (λ t. t ≡ trace_text (lookups plan) read)
    → IfOk result (λ t. (entries : Entries) → IsBuild plan entries b → t ≡ trace_text (lookups plan) (shown plan entries b.results.history))
traced plan b events are read read-is (Err x) h = tt
traced plan b events are read read-is (Ok t) h = λ entries built. h ∙ ap (trace_text (lookups plan)) (read-is ∙ are entries built)
