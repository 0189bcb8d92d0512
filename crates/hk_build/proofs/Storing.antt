-- The results of a build are such as a store is made of, and that store is the build's.
use Rattle.std.proofs.Common.{◌≡◌, refl, sym, ap, ◌∙◌, subst, arith, ℕ, zero, suc, ◌<◌, List, [], ◌∷◌, ◌++◌, append-nil, length, Option, Some, None, is_some, true, All}
use Rattle.std.specs.Prelude.{filter_map}
use Rattle.std.specs.List.{AllByRecursion, cons_option}
use Rattle.std.proofs.lemmas.List.{length-map}
use Rattle.std.proofs.lemmas.List.Elements.{All-from_recursion, recursion_from_All}
use Rattle.hk_chain.specs.declared.page.Page.{Page}
use Rattle.hk_chain.specs.Facts.{FactsView, TraceMark, group, save}
use Rattle.hk_chain.specs.Kept.{at_place}
use Rattle.hk_chain.specs.Layout.{Shape, pairs, item_of, final_of}
use Rattle.hk_chain.specs.Traces.{asked_in, saved_in, AreFacts}
use Rattle.hk_eval.specs.PlanTable.{table_of}
use Rattle.hk_fix.proofs.Firsts.{firsts-all}
use Rattle.hk_fix.proofs.Traces.{went-through, status-facts, status-pages}
use Rattle.hk_fix.proofs.Waits.{over-iff}
use Rattle.hk_fix.specs.Facts.{final_mark, whole_log}
use Rattle.hk_fix.specs.Fix.{Ending, IsSetting, finished, faulted, waiting, is_finished, is_over, status}
use Rattle.hk_fix.specs.Pages.{Pages}
use Rattle.hk_fix.specs.Report.{ending_at, upto}
use Rattle.hk_fix.specs.Results.{ResultsView}
use Rattle.hk_fix.specs.Run.{asks_of}
use Rattle.hk_fix.specs.Task.{saved, note, End, Run}
use Rattle.hk_fix.specs.TaskLaws.{asks_of-append}
use Rattle.hk_machine.specs.Machine.{plan_shape}
use Rattle.hk_replay.specs.Storing.{HavePages, CanStore, facts_by}
use Rattle.hk_reuse.specs.Entries.{AreFormed, Entries}
use Rattle.hk_reuse.specs.Image.{entry_by, entry_list}
use Rattle.hk_reuse.specs.Kept.{out_of_date}
use Rattle.hk_reuse.specs.Site.{Items, no_seeds}
use Rattle.hk_rules.specs.MadePlan.{IsMadePlan}
use Rattle.hk_rules.specs.Pairs.{count_of}
use Rattle.hk_rules.specs.Plan.{lookups}
use Rattle.hk_rules.specs.PlanView.{PlanView}
use Rattle.hk_sites.proofs.Lawful.{left-stored, setting, used-below}
use Rattle.hk_sites.specs.PlanSite.{items_of}
use Rattle.hk_sites.specs.Rebuilding.{ends_by, list_by, pages_by}
use Rattle.hk_store.specs.Digests.{Digests}
use Rattle.hk_store.specs.Entry.{EntryView}
use Rattle.hk_store.specs.Stored.{IsStored}
use Rattle.hk_store.specs.StoreText.{sealed, store_text}
use Rattle.hk_store.specs.Traits.{sha_digests}
use Rattle.hk_texts.specs.DepsText as told
use Rattle.hk_texts.specs.DepsText.{CanTell}
use Rattle.hk_build.specs.Build as build
use Rattle.hk_build.specs.Build.{compiled, ending, endings, image, run_of}
use Rattle.hk_build.specs.Built.{AreResults}
use Rattle.hk_build.specs.Ended.{IsBuild}
use Rattle.hk_build.specs.declared.ended.Build.{Build}
use Rattle.hk_build.proofs.Numbers.{at-upto}

-- ---- lists

module _ {A : Type 0} where
  weaker : (P Q : A → Type 0) → ((x : A) → P x → Q x) → (xs : List A) → AllByRecursion P xs → AllByRecursion Q xs
  weaker P Q f [] h = tt
  weaker P Q f (x ∷ xs) h = (f x h.0, weaker P Q f xs h.1)

  all-snoc : (P : A → Type 0) (xs : List A) (x : A) → AllByRecursion P xs → P x → AllByRecursion P (xs ++ x ∷ [])
  all-snoc P [] x h p = (p, tt)
  all-snoc P (y ∷ xs) x h p = (h.0, all-snoc P xs x h.1 p)

  all-left : (P : A → Type 0) (xs ys : List A) → AllByRecursion P (xs ++ ys) → AllByRecursion P xs
  all-left P [] ys h = tt
  all-left P (x ∷ xs) ys h = (h.0, all-left P xs ys h.1)

  all-right : (P : A → Type 0) (xs ys : List A) → AllByRecursion P (xs ++ ys) → AllByRecursion P ys
  all-right P [] ys h = h
  all-right P (x ∷ xs) ys h = all-right P xs ys h.1

filter-append : {X : Type 0} (f : ℕ → Option X) (xs ys : List ℕ) → filter_map f (xs ++ ys) ≡ filter_map f xs ++ filter_map f ys
filter-append f [] ys = refl
filter-append f (x ∷ xs) ys = at (f x) (filter-append f xs ys)
  where
    at : (o : Option _) → filter_map f (xs ++ ys) ≡ filter_map f xs ++ filter_map f ys → cons_option o (filter_map f (xs ++ ys)) ≡ cons_option o (filter_map f xs) ++ filter_map f ys
    at None e = e
    at (Some y) e = ap (λ l. y ∷ l) e

pub filter-upto : {X : Type 0} (f g : ℕ → Option X) (n : ℕ) → ((i : ℕ) → i < n → f i ≡ g i) → filter_map f (upto n) ≡ filter_map g (upto n)
filter-upto f g zero each = refl
filter-upto f g (suc n) each =
    filter-append f (upto n) (n ∷ [])
    ∙ ap (λ l. l ++ filter_map f (n ∷ [])) (filter-upto f g n (λ i lt. each i (omega arith)))
    ∙ ap (λ o. filter_map g (upto n) ++ cons_option o []) (each n (omega arith))
    ∙ sym (filter-append g (upto n) (n ∷ []))

-- ---- how items end

done-by : (o : Ending) (f : FactsView) → facts_by o ≡ Some f → o ≡ finished f
done-by (finished g) f e = cc
done-by (faulted x) f e = cc
done-by (waiting ps) f e = cc

told-by : (o : Ending) (f : FactsView) → told.facts_by o ≡ Some f → o ≡ finished f
told-by (finished g) f e = cc
told-by (faulted x) f e = cc
told-by (waiting ps) f e = cc

-- the ends of other items say nothing of an entry
pub entry-any : (dig : Digests) (items : Items) (a b : ℕ → Ending) (k : Pages) (i : ℕ) (o : Ending) → entry_by dig items a k i o ≡ entry_by dig items b k i o
entry-any dig items a b k i (finished facts) = refl
entry-any dig items a b k i (faulted x) = refl
entry-any dig items a b k i (waiting ps) = refl

module _ (plan : PlanView) (made : IsMadePlan plan) (entries : Entries) (formed : AreFormed entries) where
  abbrev run : ℕ → Pages → Run Page
  run = run_of plan entries

  abbrev lay : Shape
  lay = plan_shape plan

  abbrev F : Pages
  F = pages_by plan run

  given : IsSetting lay run no_seeds
  given = setting sha_digests plan made entries formed

  abbrev Has : ℕ → Type 0
  Has p = (p < pairs lay) × (is_some (F p) ≡ true)

  module _ (i : ℕ) (lt : i < lay.items) (f : FactsView) (ends : ends_by plan run i ≡ finished f) where
    -- what an item asked for that is done is there
    asked-there : AllByRecursion Has f.asks
    asked-there =
        let r = run i F in
        let w = went-through lay run no_seeds given i f refl ends in
        let there : All (λ p. is_some (F p) ≡ true) (asks_of r.log) = (over-iff lay run no_seeds given.shape given.laws given.sown i lt refl).0 (ap is_over ends) in
        let is-whole : whole_log lay i r ≡ r.log ++ note (saved (final_of lay i) w.0) ∷ [] = ap (λ (v : End Page). r.log ++ final_mark (final_of lay i) v) w.1 in
        let asks : asks_of (whole_log lay i r) ≡ asks_of r.log = ap asks_of is-whole ∙ (asks_of-append r.log (note (saved (final_of lay i) w.0) ∷ []) ∙ append-nil (asks_of r.log)) in
        let each : AllByRecursion Has (asks_of r.log) = recursion_from_All Has (asks_of r.log) (λ k d l. (given.laws.within i F lt k d l, there k d l)) in
        subst (λ (g : FactsView). AllByRecursion Has g.asks) (sym w.2) (firsts-all Has [] (asks_of (whole_log lay i r)) (subst (AllByRecursion Has) (sym asks) each))

    facts : AreFacts lay i f
    facts = status-facts lay run no_seeds given (λ j g less v. cc) i f lt ends

    own-there : (p : ℕ) → p < pairs lay → item_of lay p ≡ i → Has p
    own-there p below own = (below, status-pages lay run no_seeds given p below (ap (λ j. is_finished (status lay run no_seeds j)) own ∙ ap is_finished ends))

    -- and so is what it saved
    saved-there : AllByRecursion Has (saved_in f.trace)
    saved-there =
        let way = facts.saved.0 in
        subst (AllByRecursion Has) (sym facts.saved.2)
        (all-snoc Has way (final_of lay i) (weaker _ Has (λ p h. own-there p h.0 h.1) way facts.saved.1.own)
        (own-there (final_of lay i) (given.shape.in_pairs i lt) (given.shape.own_final i lt)))

  trace-there : (marks : List TraceMark) → AllByRecursion Has (asked_in marks) → AllByRecursion Has (saved_in marks) → AllByRecursion (HavePages plan F) marks
  unfolding lookups
  trace-there [] a s = tt
  trace-there (group ps ∷ marks) a s = (all-left Has ps (asked_in marks) a, trace-there marks (all-right Has ps (asked_in marks) a) s)
  trace-there (save p ∷ marks) a s = (s.0, trace-there marks a s.1)

  within : (i : ℕ) → i < length plan.items → i < lay.items
  unfolding lookups
  within i lt = omega (arith, lt, length-map plan.items count_of)

  module _ (r : ResultsView) (h : AreResults plan entries r) where
    pages-are : at_place r.pages ≡ F
    unfolding build.pages
    pages-are = h.pages

    ends-at : (i : ℕ) → i < length plan.items → ending_at r.outcomes i ≡ ends_by plan run i
    unfolding endings
    ends-at i lt = ap (λ es. ending_at es i) h.endings ∙ at-upto (ending plan entries) (length plan.items) i (waiting []) lt

    -- a store can be made of the results
    pub can-store : CanStore plan r
    can-store i f lt e =
        let ends : ends_by plan run i ≡ finished f = sym (ends-at i lt) ∙ done-by (ending_at r.outcomes i) f e in
        let less = within i lt in
        let trace : AllByRecursion (HavePages plan F) f.trace = trace-there f.trace (subst (AllByRecursion Has) (sym (facts i less f ends).asked) (asked-there i less f ends)) (saved-there i less f ends) in
        record {
          patterns = used-below sha_digests plan made entries formed i f lt ends;
          trace = subst (λ (k : Pages). AllByRecursion (HavePages plan k) f.trace) (sym pages-are) trace;
        }

    -- what was asked for and used by the items that are done is the plan's
    pub can-tell : CanTell (length plan.items) (pairs lay) (length plan.patterns) r.outcomes
    can-tell i f lt e =
        let ends : ends_by plan run i ≡ finished f = sym (ends-at i lt) ∙ told-by (ending_at r.outcomes i) f e in
        record {
          asks = All-from_recursion (λ p. p < pairs lay) f.asks (weaker Has (λ p. p < pairs lay) (λ p h. h.0) f.asks (asked-there i (within i lt) f ends));
          patterns = All-from_recursion (λ n. n < length plan.patterns) f.patterns (used-below sha_digests plan made entries formed i f lt ends);
        }

    count : (items_of plan).table.layout.items ≡ length plan.items
    unfolding table_of
    count = length-map plan.items count_of

    -- its entries are those of the build
    pub left-same : entry_list sha_digests (items_of plan) (ending_at r.outcomes) (at_place r.pages) ≡ list_by sha_digests plan run
    left-same =
        let items = items_of plan in
        let now : ℕ → Ending = ending_at r.outcomes in
        let then : ℕ → Ending = ends_by plan run in
        ap (λ (k : Pages). entry_list sha_digests items now k) pages-are
        ∙ filter-upto (λ i. entry_by sha_digests items now F i (now i)) (λ i. entry_by sha_digests items then F i (then i)) items.table.layout.items
        (λ i lt. entry-any sha_digests items now then F i (now i) ∙ ap (entry_by sha_digests items then F i) (ends-at i (omega (arith, lt, count))))

    pub left-is_store : (left : List EntryView) → left ≡ entry_list sha_digests (items_of plan) (ending_at r.outcomes) (at_place r.pages) → IsStored left
    left-is_store left e = subst IsStored (sym (e ∙ left-same)) (left-stored sha_digests plan made entries formed)

    -- what the build gives
    pub build-of : (b : Build) → b.results ≡ r → b.compiled.items ≡ out_of_date sha_digests (items_of plan) (at_place r.pages) entries
        → (left : List EntryView) → left ≡ entry_list sha_digests (items_of plan) (ending_at r.outcomes) (at_place r.pages) → b.store ≡ sealed (store_text left) → IsBuild plan entries b
    unfolding compiled image build.pages
    build-of b same others left left-is text =
        record {
          results = subst (AreResults plan entries) (sym same) h;
          compiled = others ∙ ap (λ (k : Pages). out_of_date sha_digests (items_of plan) k entries) pages-are;
          store = text ∙ ap (λ (es : List EntryView). sealed (store_text es)) (left-is ∙ left-same);
        }
