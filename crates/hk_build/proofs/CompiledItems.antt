-- Kept items have ended, and exactly the items that are compiled begin in a history without their events.
use Rattle.std.proofs.Common.{◌≡◌, refl, sym, ap, ◌∙◌, subst, arith, ℕ, zero, suc, ◌+◌, ◌<◌, Bool, true, false, not, cond, ◌&&◌, ◌||◌, List, [], ◌∷◌, ◌++◌, length, filter, reverse, Option, Some, None, nat_eq, nat_lt, eqb-true, ltb-true}
use Rattle.std.proofs.lemmas.List.{length-append, length-map}
use Rattle.hk_chain.specs.declared.page.Page.{Page}
use Rattle.hk_chain.specs.Layout.{Shape}
use Rattle.hk_eval.specs.PlanTable.{table_of}
use Rattle.hk_fix.proofs.Waits.{stands-reverse}
use Rattle.hk_fix.specs.declared.event.Event.{Event}
use Rattle.hk_fix.specs.declared.event.Event.TheVariants.{Begin, Saved, Done, Failed}
use Rattle.hk_fix.specs.Facts.{is_in, whole_log}
use Rattle.hk_fix.specs.Fix.{IsComplete, IsSetting, ends_with, is_finished, stands, status}
use Rattle.hk_fix.specs.Pages.{Pages}
use Rattle.hk_fix.specs.Report.{upto}
use Rattle.hk_fix.specs.Task.{Mark, End, done, fault, waits, Run, run}
use Rattle.hk_fix.specs.TaskLaws.{follow}
use Rattle.hk_machine.specs.Machine.{plan_run, plan_shape}
use Rattle.hk_reuse.proofs.Cutoffs.{kept-if_unchanged}
use Rattle.hk_reuse.proofs.Histories.{others-complete, seeds-sown}
use Rattle.hk_reuse.proofs.Tests.{and-both}
use Rattle.hk_reuse.specs.Entries.{AreFormed, Entries, IsFormed, no_entries}
use Rattle.hk_reuse.specs.Fits.{fits, is_own}
use Rattle.hk_reuse.specs.Histories.{item_of_event, others}
use Rattle.hk_reuse.specs.Kept.{asks_unchanged, is_through, kept_by}
use Rattle.hk_reuse.specs.Over.{finish_run, over_by, over_entry}
use Rattle.hk_reuse.specs.Replay.{Attempt, through, broke, pattern_numbers, attempt_of}
use Rattle.hk_reuse.specs.Site.{Items, no_seeds}
use Rattle.hk_rules.specs.MadePlan.{IsMadePlan}
use Rattle.hk_rules.specs.Pairs.{count_of}
use Rattle.hk_rules.specs.Plan.{id_at, lookups}
use Rattle.hk_rules.specs.PlanView.{PlanView}
use Rattle.hk_sites.proofs.KeptItems.{unchanged-kept}
use Rattle.hk_sites.proofs.Lawful.{setting}
use Rattle.hk_sites.specs.PlanSite.{items_of}
use Rattle.hk_sites.specs.Rebuilding.{keeps, pages_by}
use Rattle.hk_store.specs.Digests.{Digests}
use Rattle.hk_store.specs.Entry.{EntryView}
use Rattle.hk_store.specs.Traits.{sha_digests}
use Rattle.hk_build.specs.Build as build
use Rattle.hk_build.specs.Build.{compiled, ending, reused, run_of, seeds, shown}
use Rattle.hk_build.specs.Built.{left}
use Rattle.hk_build.proofs.HonestBuilds.{left-clean}
use Rattle.hk_build.proofs.Numbers.{shape-items}

-- ---- a replay that goes through is done

through-ends : (inner : Run Page) (ns : List ℕ) (log : List Mark) (e : End Attempt) → is_through e ≡ true → (x : Page) × ((follow log e (finish_run inner ns)).end ≡ done x)
through-ends inner ns log (done (through x)) t = (x, refl)
through-ends inner ns log (done (broke kept)) t = cc
through-ends inner ns log (fault e) t = cc
through-ends inner ns log (waits ps) t = cc

kept-done : (dig : Digests) (items : Items) (entries : Entries) (inner : ℕ → Pages → Run Page) (i : ℕ) (k : Pages) (o : Option EntryView) → kept_by dig items k i o ≡ true
    → (x : Page) × ((over_by dig items entries inner i o k).end ≡ done x)
kept-done dig items entries inner i k None t = cc
kept-done dig items entries inner i k (Some e) t =
    let begun = run (attempt_of dig items i e) k in
    let w = and-both (fits dig items i e) (is_through begun.end) t in
    let d : (x : Page) × ((over_entry dig items entries inner i e k).end ≡ done x) = through-ends (inner i k) (pattern_numbers items.table e) begun.log begun.end w.1 in
    (d.0, subst (λ b. (cond b (over_entry dig items entries inner i e k) (inner i k)).end ≡ done d.0) (sym w.0) d.1)

module _ (plan : PlanView) (entries : Entries) where
  abbrev over_run : ℕ → Pages → Run Page
  over_run = run_of plan entries

  abbrev F : Pages
  F = pages_by plan over_run

  abbrev kept : ℕ → Bool
  kept = keeps sha_digests plan entries

  done-finished : (i : ℕ) (x : Page) → (over_run i F).end ≡ done x → is_finished (status (plan_shape plan) over_run no_seeds i) ≡ true
  unfolding status
  done-finished i x e = ap (λ z. is_finished (ends_with (whole_log (plan_shape plan) i (over_run i F)) z)) e

  finishes : (i : ℕ) → kept i ≡ true → (i < (plan_shape plan).items) × (is_finished (status (plan_shape plan) over_run no_seeds i) ≡ true)
  unfolding lookups table_of
  finishes i t =
      let items = items_of plan in
      let w = and-both (nat_lt i items.table.layout.items) (kept_by sha_digests items F i (entries (items.id i))) t in
      let d : (x : Page) × ((over_run i F).end ≡ done x) = kept-done sha_digests items entries (plan_run plan) i F (entries (items.id i)) w.1 in
      (ltb-true i items.table.layout.items w.0, done-finished i d.0 d.1)

  pub kept-history : IsMadePlan plan → AreFormed entries → (h : List Event) → IsComplete (plan_shape plan) over_run no_seeds h
      → IsComplete (plan_shape plan) over_run (seeds plan entries) (shown plan entries h)
  kept-history made formed h all =
      let given : IsSetting (plan_shape plan) over_run no_seeds = setting sha_digests plan made entries formed in
      others-complete (plan_shape plan) over_run over_run given.shape given.laws given.laws
      (λ i lt k within. record { saves = refl; ends = refl; facts = λ x e. refl }) refl kept finishes h all

  pub seeded-setting : IsMadePlan plan → AreFormed entries → IsSetting (plan_shape plan) over_run (seeds plan entries)
  seeded-setting made formed =
      let given : IsSetting (plan_shape plan) over_run no_seeds = setting sha_digests plan made entries formed in
      record {
        shape = given.shape;
        laws = given.laws;
        sown =
            seeds-sown (plan_shape plan) over_run over_run given.shape given.laws given.laws
            (λ i lt k within. record { saves = refl; ends = refl; facts = λ x e. refl }) refl kept finishes;
      }

-- ---- what begins

false-of : (b c : Bool) → b ≡ true → (not b && c) ≡ false
false-of b c e = rw e refl

begins : (lay : Shape) (kept : ℕ → Bool) (i : ℕ) (h : List Event) → stands (Begin i) (others lay kept h) ≡ (not (kept i) && stands (Begin i) h)
begins lay kept i [] = at (kept i)
  where
    at : (b : Bool) → false ≡ (not b && false)
    at true = refl
    at false = refl
begins lay kept i (Begin j ∷ h) = at (kept j) (nat_eq i j) refl refl (begins lay kept i h)
  where
    at : (b c : Bool) → kept j ≡ b → nat_eq i j ≡ c → stands (Begin i) (others lay kept h) ≡ (not (kept i) && stands (Begin i) h)
        → stands (Begin i) (cond b (others lay kept h) (Begin j ∷ others lay kept h)) ≡ (not (kept i) && (c || stands (Begin i) h))
    at true true k e r = r ∙ false-of (kept i) (stands (Begin i) h) (ap kept (eqb-true i j e) ∙ k) ∙ sym (false-of (kept i) true (ap kept (eqb-true i j e) ∙ k))
    at true false k e r = r
    at false true k e r = let free : kept i ≡ false = ap kept (eqb-true i j e) ∙ k in rw (e, free) refl
    at false false k e r = rw e r
begins lay kept i (Saved p ∷ h) = elim (kept (item_of_event lay (Saved p))) as (λ b. stands (Begin i) (cond b (others lay kept h) (Saved p ∷ others lay kept h)) ≡ (not (kept i) && stands (Begin i) h)) [
  | true ↦ begins lay kept i h
  | false ↦ begins lay kept i h
]
begins lay kept i (Done j ∷ h) = elim (kept j) as (λ b. stands (Begin i) (cond b (others lay kept h) (Done j ∷ others lay kept h)) ≡ (not (kept i) && stands (Begin i) h)) [
  | true ↦ begins lay kept i h
  | false ↦ begins lay kept i h
]
begins lay kept i (Failed j ∷ h) = elim (kept j) as (λ b. stands (Begin i) (cond b (others lay kept h) (Failed j ∷ others lay kept h)) ≡ (not (kept i) && stands (Begin i) h)) [
  | true ↦ begins lay kept i h
  | false ↦ begins lay kept i h
]

-- each item begins in a complete history
all-begin : (lay : Shape) (go : ℕ → Pages → Run Page) (h : List Event) → IsComplete lay go no_seeds h → (i : ℕ) → i < lay.items → stands (Begin i) h ≡ true
all-begin lay go h all i lt = sym (stands-reverse (Begin i) h) ∙ at (stands (Begin i) (reverse h)) refl
  where
    at : (b : Bool) → stands (Begin i) (reverse h) ≡ b → b ≡ true
    at true e = refl
    at false e = absurd (all.nothing_follows (Begin i) e (record { in_range = lt; unseeded = refl }))

-- ---- lists of items

in-append : (xs ys : List ℕ) (i : ℕ) → is_in (xs ++ ys) i ≡ (is_in xs i || is_in ys i)
in-append [] ys i = refl
in-append (x ∷ xs) ys i = elim (nat_eq i x) as (λ b. (b || is_in (xs ++ ys) i) ≡ ((b || is_in xs i) || is_in ys i)) [ true ↦ refl | false ↦ in-append xs ys i ]

or-true : (b : Bool) → (b || true) ≡ true
or-true true = refl
or-true false = refl

in-upto : (n i : ℕ) → i < n → is_in (upto n) i ≡ true
in-upto zero i lt = absurd (omega arith)
in-upto (suc n) i lt = in-append (upto n) (n ∷ []) i ∙ at (nat_eq i n) refl (λ less. in-upto n i less)
  where
    at : (b : Bool) → nat_eq i n ≡ b → (i < n → is_in (upto n) i ≡ true) → (is_in (upto n) i || (b || false)) ≡ true
    at true e earlier = or-true (is_in (upto n) i)
    at false e earlier = let less : i < n = grind (arith, e, lt) in ap (λ b. b || false) (earlier less)

in-filter : (test : ℕ → Bool) (xs : List ℕ) (i : ℕ) → is_in (filter test xs) i ≡ (test i && is_in xs i)
in-filter test [] i = at (test i)
  where
    at : (b : Bool) → false ≡ (b && false)
    at true = refl
    at false = refl
in-filter test (x ∷ xs) i = at (test x) (nat_eq i x) refl refl (in-filter test xs i)
  where
    at : (b c : Bool) → test x ≡ b → nat_eq i x ≡ c → is_in (filter test xs) i ≡ (test i && is_in xs i)
        → is_in (cond b (x ∷ filter test xs) (filter test xs)) i ≡ (test i && (c || is_in xs i))
    at true true t e r = let own : test i ≡ true = ap test (eqb-true i x e) ∙ t in rw (e, own) refl
    at true false t e r = rw e r
    at false true t e r = let own : test i ≡ false = ap test (eqb-true i x e) ∙ t in r ∙ rw own refl
    at false false t e r = r

in-filter-upto : (test : ℕ → Bool) (n i : ℕ) → i < n → is_in (filter test (upto n)) i ≡ test i
in-filter-upto test n i lt = in-filter test (upto n) i ∙ ap (λ b. test i && b) (in-upto n i lt) ∙ at (test i)
  where
    at : (b : Bool) → (b && true) ≡ b
    at true = refl
    at false = refl

both-parts : (test : ℕ → Bool) (xs : List ℕ) → length (filter (λ i. not (test i)) xs) + length (filter test xs) ≡ length xs
both-parts test [] = refl
both-parts test (x ∷ xs) = at (test x) (both-parts test xs)
  where
    at : (b : Bool) → length (filter (λ i. not (test i)) xs) + length (filter test xs) ≡ length xs
        → length (cond (not b) (x ∷ filter (λ i. not (test i)) xs) (filter (λ i. not (test i)) xs)) + length (cond b (x ∷ filter test xs) (filter test xs)) ≡ length (x ∷ xs)
    at true e = omega (arith, e)
    at false e = omega (arith, e)

count-numbers : (n : ℕ) → length (upto n) ≡ n
count-numbers zero = refl
count-numbers (suc n) = length-append (upto n) (n ∷ []) ∙ omega (arith, count-numbers n)

-- ---- the items of a build

module _ (plan : PlanView) where
  pub count : (items_of plan).table.layout.items ≡ length plan.items
  unfolding table_of
  count = length-map plan.items count_of

  in-layout : (i : ℕ) → i < length plan.items → i < (items_of plan).table.layout.items
  in-layout i lt = omega (arith, lt, count)

  module _ (entries : Entries) where
    pub in-compiled : (i : ℕ) → i < length plan.items → is_in (compiled plan entries) i ≡ not (keeps sha_digests plan entries i)
    unfolding compiled build.pages
    in-compiled i lt = in-filter-upto (λ j. not (keeps sha_digests plan entries j)) (items_of plan).table.layout.items i (in-layout i lt)

    pub in-reused : (i : ℕ) → i < length plan.items → is_in (reused plan entries) i ≡ keeps sha_digests plan entries i
    unfolding reused
    in-reused i lt = in-filter-upto (keeps sha_digests plan entries) (length plan.items) i lt

    pub kept-or_compiled : length (compiled plan entries) + length (reused plan entries) ≡ length plan.items
    unfolding compiled reused build.pages
    kept-or_compiled =
        ap (λ n. length (filter (λ i. not (keeps sha_digests plan entries i)) (upto n)) + length (filter (keeps sha_digests plan entries) (upto (length plan.items)))) count
        ∙ both-parts (keeps sha_digests plan entries) (upto (length plan.items)) ∙ count-numbers (length plan.items)

    pub compiled-begin : (h : List Event) (i : ℕ) → IsComplete (plan_shape plan) (run_of plan entries) no_seeds h → i < length plan.items
        → stands (Begin i) (shown plan entries h) ≡ is_in (compiled plan entries) i
    compiled-begin h i all lt =
        let free : Bool = not (keeps sha_digests plan entries i) in
        begins (plan_shape plan) (keeps sha_digests plan entries) i h
        ∙ ap (λ b. free && b) (all-begin (plan_shape plan) (run_of plan entries) h all i (omega (arith, lt, shape-items plan)))
        ∙ at free ∙ sym (in-compiled i lt)
      where
        at : (b : Bool) → (b && true) ≡ b
        at true = refl
        at false = refl

    pub cut-off : (i : ℕ) (e : EntryView) → i < length plan.items → entries (id_at plan i) ≡ Some e → IsFormed e → is_own sha_digests (items_of plan) i e ≡ true
        → is_in (compiled plan entries) i ≡ not (asks_unchanged sha_digests (table_of plan) (build.pages plan entries) e)
    unfolding build.pages
    cut-off i e lt had formed own = in-compiled i lt ∙ ap not (kept-if_unchanged sha_digests (items_of plan) entries (pages_by plan (run_of plan entries)) i e (in-layout i lt) had formed.last own)

  pub nothing-compiled : IsMadePlan plan → (i : ℕ) → i < length plan.items → is_finished (ending plan no_entries i) ≡ true → is_in (reused plan (left plan)) i ≡ true
  nothing-compiled made i lt finished =
      in-reused (left plan) i lt ∙ ap (λ es. keeps sha_digests plan es i) (left-clean plan made) ∙ unchanged-kept sha_digests plan i made lt finished
