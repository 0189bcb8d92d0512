-- What an item waits for in the fixpoint, and histories read from either end.
use Rattle.std.proofs.Common.{◌≡◌, ◌↔◌, refl, sym, ap, ◌∙◌, subst, ℕ, ◌<◌, Bool, true, false, not, ◌||◌, inl, inr, List, [], ◌∷◌, ◌++◌, length, reverse, Option, Some, None, is_some, is_none, nat_eq, All, filter, arith, eq-eqb}
use Rattle.std.specs.List.{AllByRecursion}
use Rattle.std.proofs.lemmas.List.{reverse-append, get_or_past}
use Rattle.std.proofs.Math.Bool.{or_comm, or_assoc}
use Rattle.std.proofs.lemmas.List.Elements.{recursion_from_All, All-weaker, All-filter, filter_passes}
use Rattle.hk_chain.specs.declared.page.Page.{Page}
use Rattle.hk_chain.specs.Facts.{FactsView}
use Rattle.hk_chain.specs.Kept.{KeptView, IsKept}
use Rattle.hk_chain.specs.Layout.{Shape, IsShape, pairs, item_of, final_of}
use Rattle.hk_fix.specs.declared.event.Event.{Event}
use Rattle.hk_fix.specs.declared.event.Event.TheVariants.{Done, Failed}
use Rattle.hk_fix.specs.Pages.{Pages, lacking}
use Rattle.hk_fix.specs.Task.{Mark, End, done, fault, waits, Run}
use Rattle.hk_fix.specs.Run.{asks_of, finished_page, page_of, lacked, is_wait, IsRun}
use Rattle.hk_fix.specs.Facts.{whole_log}
use Rattle.hk_fix.specs.Fix.{Seeds, IsSeeds, seeded, Ending, finished, faulted, waiting, is_finished, is_over, ends_with, ending_of, fix, status, same_event, stands, HasEnded, Blocks, LawfulNewest, after, seeds_of}
use Rattle.hk_fix.proofs.Orders.{clash, decide, the_some, none-of, page-snapshot, page-final, asked-known, closed, known-upward, settled, sound}

-- histories from either end

stands-append : (e : Event) (a b : List Event) → stands e (a ++ b) ≡ (stands e a || stands e b)
stands-append e [] b = refl
stands-append e (x ∷ a) b = ap (λ t. same_event e x || t) (stands-append e a b) ∙ sym (or_assoc (same_event e x) (stands e a) (stands e b))

or_false : (b : Bool) → (b || false) ≡ b
or_false true = refl
or_false false = refl

pub stands-reverse : (e : Event) (h : List Event) → stands e (reverse h) ≡ stands e h
stands-reverse e [] = refl
stands-reverse e (x ∷ h) =
    ap (stands e) (reverse-append (x ∷ []) h)
    ∙ (stands-append e (reverse h) (x ∷ []) ∙ (ap (λ t. t || (same_event e x || false)) (stands-reverse e h) ∙ (or_comm (stands e h) (same_event e x || false) ∙ ap (λ t. t || stands e h) (or_false (same_event e x)))))

pub ended-reverse : (h : List Event) (i : ℕ) (e : Ending) → HasEnded (reverse h) i e → HasEnded h i e
ended-reverse h i (finished facts) w = (sym (stands-reverse (Done i) h) ∙ w.0, sym (stands-reverse (Failed i) h) ∙ w.1)
ended-reverse h i (faulted f) w = (sym (stands-reverse (Failed i) h) ∙ w.0, sym (stands-reverse (Done i) h) ∙ w.1)
ended-reverse h i (waiting ps) w =
    sym (ap (λ t. t || stands (Failed i) (reverse h)) (stands-reverse (Done i) h) ∙ ap (λ t. stands (Done i) h || t) (stands-reverse (Failed i) h)) ∙ w

-- what is lacking

filter-nothing : (test : ℕ → Bool) (xs : List ℕ) → AllByRecursion (λ x. test x ≡ false) xs → filter test xs ≡ []
filter-nothing test [] h = refl
filter-nothing test (x ∷ xs) h = rw h.0 (filter-nothing test xs h.1)

none-if-some : {A : Type 0} (o : Option A) → is_some o ≡ true → is_none o ≡ false
none-if-some None e = cc
none-if-some (Some x) e = refl

some-if-none : {A : Type 0} (o : Option A) → is_none o ≡ true → is_some o ≡ false
some-if-none None e = refl
some-if-none (Some x) e = cc

waits-or-not : {A : Type 0} (e : End A) → ((l : List ℕ) → e ≡ waits l → ⊥) → is_wait e ≡ false
waits-or-not (done x) h = refl
waits-or-not (fault f) h = refl
waits-or-not (waits l) h = absurd (h l refl)

empty-wait : (l : List ℕ) → 0 < length l → l ≡ [] → ⊥
empty-wait l lt e = let z : length l ≡ 0 = ap length e in omega arith

waiting-of : (log : List Mark) (e : End Page) (l : List ℕ) → ends_with log e ≡ waiting l → e ≡ waits l
waiting-of log (done x) l w = cc
waiting-of log (fault f) l w = cc
waiting-of log (waits ps) l w = let q : ps ≡ l = cc in ap waits q

done-of : (log : List Mark) (e : End Page) → is_finished (ends_with log e) ≡ true → (x : Page) × (e ≡ done x)
done-of log (done x) w = (x, refl)
done-of log (fault f) w = cc
done-of log (waits ps) w = cc

over-or-waits : (log : List Mark) (e : End Page) → is_over (ends_with log e) ≡ not (is_wait e)
over-or-waits log (done x) = refl
over-or-waits log (fault f) = refl
over-or-waits log (waits ps) = refl

not-true : (b : Bool) → not b ≡ true → b ≡ false
not-true true e = cc
not-true false e = refl

module _ (lay : Shape) (run : ℕ → Pages → Run Page) (seeds : Seeds) (shape : IsShape lay) (laws : IsRun lay run) (sown : IsSeeds lay seeds) where
  -- a run that has asked for known pairs alone doesn't wait
  known-ends : (i : ℕ) (k : Pages) → i < lay.items → All (λ p. is_some (k p) ≡ true) (asks_of (run i k).log) → is_wait (run i k).end ≡ false
  known-ends i k lt h =
      waits-or-not (run i k).end (λ l e. empty-wait l (laws.some i k l lt e)
      (ap lacked (sym e) ∙ (sym (laws.waiting i k lt) ∙ filter-nothing (λ p. is_none (k p)) (asks_of (run i k).log)
      (recursion_from_All (λ p. is_none (k p) ≡ false) (asks_of (run i k).log) (All-weaker (λ p. is_some (k p) ≡ true) (λ p. is_none (k p) ≡ false) (λ p s. none-if-some (k p) s) (asks_of (run i k).log) h)))))

  pub ends-iff : (i : ℕ) → i < lay.items → (is_wait (run i (fix lay run seeds)).end ≡ false) ↔ All (λ p. is_some (fix lay run seeds p) ≡ true) (asks_of (run i (fix lay run seeds)).log)
  ends-iff i lt = (asked-known lay run seeds shape laws sown i (fix lay run seeds) lt, known-ends i (fix lay run seeds) lt)

  -- and so an item without seeds is done or fails exactly where it asked for known pairs alone
  pub over-iff : (i : ℕ) → i < lay.items → seeded seeds i ≡ false → (is_over (status lay run seeds i) ≡ true) ↔ All (λ p. is_some (fix lay run seeds p) ≡ true) (asks_of (run i (fix lay run seeds)).log)
  unfolding status
  over-iff i lt free =
      let same : is_over (status lay run seeds i) ≡ not (is_wait (run i (fix lay run seeds)).end) =
      ap (λ o. is_over (ending_of lay i (run i (fix lay run seeds)) o)) (none-of (seeds.facts i) free) ∙ over-or-waits (whole_log lay i (run i (fix lay run seeds))) (run i (fix lay run seeds)).end in
      (λ e. (ends-iff i lt).0 (not-true (is_wait (run i (fix lay run seeds)).end) (sym same ∙ e)), λ h. same ∙ ap not ((ends-iff i lt).1 h))

  -- the pages of a finished item are known
  done-known : (p : ℕ) (x : Page) → p < pairs lay → seeded seeds (item_of lay p) ≡ false → (run (item_of lay p) (fix lay run seeds)).end ≡ done x → is_some (fix lay run seeds p) ≡ true
  done-known p x lt free e =
      let some : is_some (page_of lay (item_of lay p) (run (item_of lay p) (fix lay run seeds)) p) ≡ true =
      elim (decide (nat_eq p (final_of lay (item_of lay p)))) [
        | inl t ↦ ap is_some (page-final lay (item_of lay p) (run (item_of lay p) (fix lay run seeds)) p t ∙ ap finished_page e)
        | inr f ↦ ap is_some (page-snapshot lay (item_of lay p) (run (item_of lay p) (fix lay run seeds)) p f)
            ∙ laws.all (item_of lay p) (fix lay run seeds) p x (shape.in_items p lt) e lt refl (λ q. clash (nat_eq p (final_of lay (item_of lay p))) f (is-last p q))
      ] in
      let v : (y : Page) × (page_of lay (item_of lay p) (run (item_of lay p) (fix lay run seeds)) p ≡ Some y) = the_some (page_of lay (item_of lay p) (run (item_of lay p) (fix lay run seeds)) p) some in
      ap is_some (closed lay run seeds shape laws sown p v.0 lt free v.1)
    where
      is-last : (p : ℕ) → p ≡ final_of lay (item_of lay p) → nat_eq p (final_of lay (item_of lay p)) ≡ true
      is-last p q = eq-eqb p (final_of lay (item_of lay p)) q

  seed-known : (p : ℕ) → p < pairs lay → seeded seeds (item_of lay p) ≡ true → is_some (fix lay run seeds p) ≡ true
  unfolding fix
  seed-known p lt s =
      let v : (x : Page) × (seeds.pages p ≡ Some x) = the_some (seeds.pages p) (sown.each p lt ∙ s) in
      ap is_some (known-upward lay run seeds shape laws sown (pairs lay) p v.0 v.1)

  -- the item of a pair that isn't known isn't finished
  pub unknown-unfinished : (p : ℕ) → p < pairs lay → is_none (fix lay run seeds p) ≡ true → is_finished (status lay run seeds (item_of lay p)) ≡ false
  unfolding status
  unknown-unfinished p lt none =
      elim (decide (is_finished (status lay run seeds (item_of lay p)))) [
        | inr f ↦ f
        | inl t ↦ clash (is_some (fix lay run seeds p)) (some-if-none (fix lay run seeds p) none) (elim (decide (seeded seeds (item_of lay p))) [
          | inl s ↦ seed-known p lt s
          | inr s ↦
              let w : is_finished (ending_of lay (item_of lay p) (run (item_of lay p) (fix lay run seeds)) None) ≡ true = rw (none-of (seeds.facts (item_of lay p)) s) at t in
              let d : (x : Page) × ((run (item_of lay p) (fix lay run seeds)).end ≡ done x) = done-of (whole_log lay (item_of lay p) (run (item_of lay p) (fix lay run seeds))) (run (item_of lay p) (fix lay run seeds)).end w in
              done-known p d.0 lt s d.1
        ])
      ]

  waits-are : (i : ℕ) (l : List ℕ) → i < lay.items → (run i (fix lay run seeds)).end ≡ waits l → Blocks lay (status lay run seeds) l
  waits-are i l lt e =
      let same : lacking (fix lay run seeds) (asks_of (run i (fix lay run seeds)).log) ≡ l = laws.waiting i (fix lay run seeds) lt ∙ ap lacked e in
      record {
        some = laws.some i (fix lay run seeds) l lt e;
        each = subst (All (λ p. (p < pairs lay) × (is_finished (status lay run seeds (item_of lay p)) ≡ false))) same
            (λ k d m. let none : is_none (fix lay run seeds _) ≡ true = filter_passes (λ p. is_none (fix lay run seeds p)) (asks_of (run i (fix lay run seeds)).log) k d m in
            let below : _ < pairs lay = All-filter (λ p. is_none (fix lay run seeds p)) (λ p. p < pairs lay) (asks_of (run i (fix lay run seeds)).log) (laws.within i (fix lay run seeds) lt) k d m in
            (below, unknown-unfinished _ below none));
      }

  pub waiting-blocks : (i : ℕ) (l : List ℕ) → i < lay.items → status lay run seeds i ≡ waiting l → Blocks lay (status lay run seeds) l
  unfolding status
  waiting-blocks i l lt e =
      elim (decide (seeded seeds i)) [
        | inl s ↦
            let v : (f : FactsView) × (seeds.facts i ≡ Some f) = the_some (seeds.facts i) s in
            let w : finished v.0 ≡ waiting l = rw v.1 at e in cc
        | inr s ↦
            let w : ends_with (whole_log lay i (run i (fix lay run seeds))) (run i (fix lay run seeds)).end ≡ waiting l = rw (none-of (seeds.facts i) s) at e in
            waits-are i l lt (waiting-of (whole_log lay i (run i (fix lay run seeds))) (run i (fix lay run seeds)).end l w)
      ]

  -- what is known after a lawful history is in the fixpoint, so that an item ends as it does there
  pub ends-early : (h : List Event) (i : ℕ) → LawfulNewest lay run seeds h → i < lay.items → is_wait (run i (after lay run seeds h)).end ≡ false → run i (fix lay run seeds) ≡ run i (after lay run seeds h)
  ends-early h i lawful lt still = settled lay run seeds shape laws sown i (after lay run seeds h) (fix lay run seeds) lt (sound lay run seeds shape laws sown h lawful) still

-- kept pages and facts are seeds
pub kept-sown : (lay : Shape) (kept : KeptView) → IsKept lay kept → IsSeeds lay (seeds_of kept)
kept-sown lay kept is =
    record {
      each = is.each;
      none = λ p le. get_or_past kept.pages p None (omega (arith, is.page_count));
    }
