-- A complete history leaves the pages of the least fixpoint.
use Rattle.std.proofs.Common.{◌≡◌, ◌≢◌, refl, sym, ap, ◌∙◌, subst, ℕ, zero, suc, ◌+◌, ◌<◌, ◌≤◌, Bool, true, false, cond, ◌||◌, ◌⊎◌, inl, inr, List, [], ◌∷◌, ◌++◌, Option, Some, None, is_some, is_none, nat_eq, nat_lt, All, filter, arith, eqb-true, ltb-true, ltb-false, lt-ltb, le-ltb, eq-eqb}
use Rattle.std.specs.List.{AllByRecursion}
use Rattle.std.proofs.lemmas.List.Elements.{All-from_recursion, All-weaker}
use Rattle.hk_chain.specs.declared.page.Page.{Page}
use Rattle.hk_chain.specs.Layout.{Shape, IsShape, pairs, item_of, final_of}
use Rattle.hk_fix.specs.declared.event.Event.{Event}
use Rattle.hk_fix.specs.declared.event.Event.TheVariants.{Begin, Saved, Done, Failed}
use Rattle.hk_fix.specs.Pages.{Pages, Extends, Begins}
use Rattle.hk_fix.specs.Task.{used, saved, Mark, asked, note, End, done, fault, waits, Run}
use Rattle.hk_fix.specs.Run.{Save, asks_of, saves_of, page_in, snapshot, finished_page, page_of, lacked, is_wait, IsRun}
use Rattle.hk_fix.specs.Facts.{whole_log}
use Rattle.hk_fix.specs.Fix.{Seeds, IsSeeds, seeded, ends_with, or_else, round, known, fix, status, after, stands, ended, is_done, is_fault, MayEnd, MayFollow, LawfulNewest, CompleteNewest, HasEnded}

-- tests and options

pub clash : {A : Type 0} (b : Bool) → b ≡ false → b ≡ true → A
clash b p q = cc

pub decide : (b : Bool) → (b ≡ true) ⊎ (b ≡ false)
decide true = inl refl
decide false = inr refl

pub or_cases : (a b : Bool) → (a || b) ≡ true → (a ≡ true) ⊎ (b ≡ true)
or_cases true b e = inl refl
or_cases false b e = inr e

pub or_right : (a b : Bool) → b ≡ true → (a || b) ≡ true
or_right true b e = refl
or_right false b e = e

pub neither : (a b : Bool) → a ≡ false → b ≡ false → (a || b) ≡ false
neither true b p q = p
neither false b p q = q

pub the_some : {A : Type 0} (o : Option A) → is_some o ≡ true → (x : A) × (o ≡ Some x)
the_some None e = cc
the_some (Some x) e = (x, refl)

pub is_some-of : {A : Type 0} (o : Option A) (x : A) → o ≡ Some x → is_some o ≡ true
is_some-of o x e = ap is_some e

pub is_some-ne : {A : Type 0} (o : Option A) → o ≢ None → is_some o ≡ true
is_some-ne None h = absurd (h refl)
is_some-ne (Some x) h = refl

pub none-of : {A : Type 0} (o : Option A) → is_some o ≡ false → o ≡ None
none-of None e = refl
none-of (Some x) e = cc

pub page_in-append : (xs ys : List Save) (p : ℕ) (x : Page) → page_in xs p ≡ Some x → page_in (xs ++ ys) p ≡ Some x
page_in-append [] ys p x e = cc
page_in-append (s ∷ xs) ys p x e =
    elim (nat_eq s.pair p) as (λ b. cond b (Some s.page) (page_in xs p) ≡ Some x → cond b (Some s.page) (page_in (xs ++ ys) p) ≡ Some x) [
      | true ↦ λ h. h
      | false ↦ λ h. page_in-append xs ys p x h
    ] e

pub or_else_keeps : (o n : Option Page) (x : Page) → o ≡ Some x → or_else o n ≡ Some x
or_else_keeps None n x e = cc
or_else_keeps (Some y) n x e = e

-- how many of the first n pairs are known
pub count : Pages → ℕ → ℕ
count k zero = 0
count k (suc n) = cond (is_some (k n)) 1 0 + count k n

pub one_each : (b : Bool) → cond b 1 0 ≤ 1
one_each true = omega arith
one_each false = omega arith

pub count-le : (k : Pages) (n : ℕ) → count k n ≤ n
unfolding count
count-le k zero = omega arith
count-le k (suc n) = omega (arith, count-le k n, one_each (is_some (k n)))

pub grows_at : (o m : Option Page) → ((x : Page) → o ≡ Some x → m ≡ Some x) → cond (is_some o) 1 0 ≤ cond (is_some m) 1 0
grows_at None None h = omega arith
grows_at None (Some y) h = omega arith
grows_at (Some x) m h = rw (h x refl) (omega arith)

pub same_at : (o m : Option Page) → ((x : Page) → o ≡ Some x → m ≡ Some x) → cond (is_some m) 1 0 ≤ cond (is_some o) 1 0 → m ≡ o
same_at None None h e = refl
same_at None (Some y) h e = absurd (omega arith)
same_at (Some x) m h e = h x refl

pub count-grows : (k m : Pages) (n : ℕ) → Extends k m → count k n ≤ count m n
unfolding count
count-grows k m zero ext = omega arith
count-grows k m (suc n) ext = omega (arith, count-grows k m n ext, grows_at (k n) (m n) (ext n))

pub count-same : (k m : Pages) (n : ℕ) → Extends k m → count m n ≤ count k n → (p : ℕ) → p < n → m p ≡ k p
unfolding count
count-same k m zero ext e p h = absurd (omega arith)
count-same k m (suc n) ext e p h =
    let below : count k n ≤ count m n = count-grows k m n ext in
    let here : cond (is_some (k n)) 1 0 ≤ cond (is_some (m n)) 1 0 = grows_at (k n) (m n) (ext n) in
    elim (decide (nat_eq p n)) [
      | inl q ↦ rw (eqb-true p n q) (same_at (k n) (m n) (ext n) (omega arith))
      | inr q ↦ count-same k m n ext (omega arith) p (elim (decide (nat_lt p n)) [ inl l ↦ ltb-true p n l | inr g ↦ clash (nat_eq p n) q (eq-eqb p n (omega (arith, ltb-false p n g))) ])
    ]

pub with_new_cases : (k : Pages) (q : ℕ) (o : Option Page) (p : ℕ) (x : Page) → or_else (k p) (cond (nat_eq q p) o None) ≡ Some x → (k p ≡ Some x) ⊎ ((q ≡ p) × (o ≡ Some x))
with_new_cases k q o p x e =
    elim (k p) as (λ v. or_else v (cond (nat_eq q p) o None) ≡ Some x → (v ≡ Some x) ⊎ ((q ≡ p) × (o ≡ Some x))) [
      | None ↦ λ h. inr (elim (nat_eq q p) as (λ b. nat_eq q p ≡ b → cond b o None ≡ Some x → (q ≡ p) × (o ≡ Some x)) [ true ↦ λ t w. (eqb-true q p t, w) | false ↦ λ t w. cc ] refl h)
      | Some y ↦ λ h. inl h
    ] e

pub with_new_has : (k : Pages) (q : ℕ) (o : Option Page) → is_some o ≡ true → is_some (or_else (k q) (cond (nat_eq q q) o None)) ≡ true
with_new_has k q o e =
    elim (k q) as (λ v. is_some (or_else v (cond (nat_eq q q) o None)) ≡ true) [
      | None ↦ rw (eq-eqb q q refl) e
      | Some y ↦ refl
    ]

pub saves_of-append : (a b : List Mark) → saves_of (a ++ b) ≡ saves_of a ++ saves_of b
saves_of-append [] b = refl
saves_of-append (asked ps ∷ a) b = saves_of-append a b
saves_of-append (note (used n) ∷ a) b = saves_of-append a b
saves_of-append (note (saved p x) ∷ a) b = ap (λ l. record { pair = p; page = x } ∷ l) (saves_of-append a b)

-- where a filter keeps nothing, each element fails the test
pub filter-none : (test : ℕ → Bool) (xs : List ℕ) → filter test xs ≡ [] → AllByRecursion (λ x. test x ≡ false) xs
filter-none test [] e = tt
filter-none test (x ∷ xs) e =
    elim (test x) as (λ b. test x ≡ b → cond b (x ∷ filter test xs) (filter test xs) ≡ [] → (test x ≡ false) × AllByRecursion (λ y. test y ≡ false) xs) [
      | true ↦ λ t w. cc
      | false ↦ λ t w. (t, filter-none test xs w)
    ] refl e

pub known-of : {A : Type 0} (o : Option A) → is_none o ≡ false → is_some o ≡ true
known-of None e = cc
known-of (Some x) e = refl

pub lacks-nothing : {A : Type 0} (e : End A) → is_wait e ≡ false → lacked e ≡ []
lacks-nothing (done x) w = refl
lacks-nothing (fault f) w = refl
lacks-nothing (waits ps) w = cc

pub page-no_wait : (e : End Page) (x : Page) → finished_page e ≡ Some x → is_wait e ≡ false
page-no_wait (done y) x h = refl
page-no_wait (fault f) x h = refl
page-no_wait (waits ps) x h = cc

pub done-page : (e : End Page) → is_done e ≡ true → is_some (finished_page e) ≡ true
done-page (done x) h = refl
done-page (fault f) h = cc
done-page (waits ps) h = cc

pub done-no_wait : (e : End Page) → is_done e ≡ true → is_wait e ≡ false
done-no_wait (done x) h = refl
done-no_wait (fault f) h = cc
done-no_wait (waits ps) h = cc

pub fault-no_wait : (e : End Page) → is_fault e ≡ true → is_wait e ≡ false
fault-no_wait (done x) h = cc
fault-no_wait (fault f) h = refl
fault-no_wait (waits ps) h = cc

pub fault-no_page : (e : End Page) → is_fault e ≡ true → is_some (finished_page e) ≡ false
fault-no_page (done x) h = cc
fault-no_page (fault f) h = refl
fault-no_page (waits ps) h = cc

pub wait-no_page : (e : End Page) → is_wait e ≡ true → is_some (finished_page e) ≡ false
wait-no_page (done x) h = cc
wait-no_page (fault f) h = refl
wait-no_page (waits ps) h = refl

pub fault-no_done : {A : Type 0} (e : End Page) → is_fault e ≡ true → is_done e ≡ true → A
fault-no_done (done x) f d = cc
fault-no_done (fault g) f d = cc
fault-no_done (waits ps) f d = cc

-- of a pair that is not the last, the page is the one that was saved on the way
pub page-snapshot : (lay : Shape) (i : ℕ) (r : Run Page) (p : ℕ) → nat_eq p (final_of lay i) ≡ false → page_of lay i r p ≡ snapshot r p
page-snapshot lay i r p e = rw e refl

pub page-final : (lay : Shape) (i : ℕ) (r : Run Page) (p : ℕ) → nat_eq p (final_of lay i) ≡ true → page_of lay i r p ≡ finished_page r.end
page-final lay i r p e = rw e refl

module _ (lay : Shape) (run : ℕ → Pages → Run Page) (seeds : Seeds) (shape : IsShape lay) (laws : IsRun lay run) (sown : IsSeeds lay seeds) where
  pub saves-grow : (i : ℕ) (k m : Pages) (p : ℕ) (x : Page) → i < lay.items → Extends k m → snapshot (run i k) p ≡ Some x → snapshot (run i m) p ≡ Some x
  saves-grow i k m p x lt ext e =
      let more : Begins (run i k).log (run i m).log = laws.grows i k m lt ext in
      ap (λ (l : List Mark). page_in (saves_of l) p) more.1 ∙ (ap (λ (l : List Save). page_in l p) (saves_of-append (run i k).log more.0) ∙ page_in-append (saves_of (run i k).log) (saves_of more.0) p x e)

  -- a run that doesn't wait has asked for known pairs alone
  pub asked-known : (i : ℕ) (k : Pages) → i < lay.items → is_wait (run i k).end ≡ false → All (λ p. is_some (k p) ≡ true) (asks_of (run i k).log)
  asked-known i k lt still =
      All-weaker (λ p. is_none (k p) ≡ false) (λ p. is_some (k p) ≡ true) (λ p h. known-of (k p) h) (asks_of (run i k).log)
      (All-from_recursion (λ p. is_none (k p) ≡ false) (asks_of (run i k).log) (filter-none (λ p. is_none (k p)) (asks_of (run i k).log) (laws.waiting i k lt ∙ lacks-nothing (run i k).end still)))

  -- where a run doesn't wait, more known pages change nothing
  pub settled : (i : ℕ) (k m : Pages) → i < lay.items → Extends k m → is_wait (run i k).end ≡ false → run i m ≡ run i k
  settled i k m lt ext still =
      laws.same i k m lt (All-weaker (λ p. is_some (k p) ≡ true) (λ p. m p ≡ k p) agree (asks_of (run i k).log) (asked-known i k lt still))
    where
      agree : (p : ℕ) → is_some (k p) ≡ true → m p ≡ k p
      agree p h = let v : (x : Page) × (k p ≡ Some x) = the_some (k p) h in ext p v.0 v.1 ∙ sym v.1

  pub monotone : (i : ℕ) (k m : Pages) (p : ℕ) (x : Page) → i < lay.items → Extends k m → page_of lay i (run i k) p ≡ Some x → page_of lay i (run i m) p ≡ Some x
  monotone i k m p x lt ext e =
      elim (nat_eq p (final_of lay i)) as (λ b. cond b (finished_page (run i k).end) (snapshot (run i k) p) ≡ Some x → cond b (finished_page (run i m).end) (snapshot (run i m) p) ≡ Some x) [
        | true ↦ λ h. ap (λ (r : Run Page). finished_page r.end) (settled i k m lt ext (page-no_wait (run i k).end x h)) ∙ h
        | false ↦ λ h. saves-grow i k m p x lt ext h
      ] e

  pub not-last : (i : ℕ) (k : Pages) (p : ℕ) (x : Page) → i < lay.items → snapshot (run i k) p ≡ Some x → nat_eq p (final_of lay i) ≡ false
  not-last i k p x lt e =
      elim (decide (nat_eq p (final_of lay i))) [
        | inl t ↦ absurd ((laws.own i k p x lt e).2 (eqb-true p (final_of lay i) t))
        | inr f ↦ f
      ]

  pub on-the-way : (i : ℕ) (k : Pages) (p : ℕ) (x : Page) → i < lay.items → snapshot (run i k) p ≡ Some x → page_of lay i (run i k) p ≡ Some x
  on-the-way i k p x lt e = page-snapshot lay i (run i k) p (not-last i k p x lt e) ∙ e

  pub at-last : (i : ℕ) (k : Pages) (x : Page) → finished_page (run i k).end ≡ Some x → page_of lay i (run i k) (final_of lay i) ≡ Some x
  at-last i k x e = page-final lay i (run i k) (final_of lay i) (eq-eqb (final_of lay i) (final_of lay i) refl) ∙ e

  pub round-grows : (k m : Pages) → Extends k m → Extends (round lay run seeds k) (round lay run seeds m)
  round-grows k m ext p x e =
      elim (nat_lt p (pairs lay)) as (λ b. nat_lt p (pairs lay) ≡ b
      → cond b (cond (seeded seeds (item_of lay p)) (seeds.pages p) (page_of lay (item_of lay p) (run (item_of lay p) k) p)) None ≡ Some x
      → cond b (cond (seeded seeds (item_of lay p)) (seeds.pages p) (page_of lay (item_of lay p) (run (item_of lay p) m) p)) None ≡ Some x) [
        | true ↦ λ t. elim (seeded seeds (item_of lay p)) as (λ s. cond s (seeds.pages p) (page_of lay (item_of lay p) (run (item_of lay p) k) p) ≡ Some x → cond s (seeds.pages p) (page_of lay (item_of lay p) (run (item_of lay p) m) p) ≡ Some x) [
          | true ↦ λ h. h
          | false ↦ λ h. monotone (item_of lay p) k m p x (shape.in_items p (ltb-true p (pairs lay) t)) ext h
        ]
        | false ↦ λ t h. cc
      ] refl e

  pub known-grows : (n : ℕ) → Extends (known lay run seeds n) (known lay run seeds (suc n))
  known-grows zero p x e =
      elim (decide (nat_lt p (pairs lay))) [
        | inl t ↦ rw (t, sym (sown.each p (ltb-true p (pairs lay) t)), is_some-of (seeds.pages p) x e) e
        | inr t ↦ clash (is_some (seeds.pages p)) (ap is_some (sown.none p (ltb-false p (pairs lay) t))) (ap is_some e)
      ]
  known-grows (suc n) p x e = round-grows (known lay run seeds n) (known lay run seeds (suc n)) (known-grows n) p x e

  pub known-outside : (n : ℕ) (p : ℕ) → pairs lay ≤ p → known lay run seeds n p ≡ None
  known-outside zero p h = sown.none p h
  known-outside (suc n) p h = rw (le-ltb p (pairs lay) h) refl

  -- two neighbouring rounds that agree below the pairs are one
  pub alike : (n : ℕ) → ((p : ℕ) → p < pairs lay → known lay run seeds (suc n) p ≡ known lay run seeds n p) → known lay run seeds (suc n) ≡ known lay run seeds n
  alike n h = λ j p. here p j
    where
      here : (p : ℕ) → known lay run seeds (suc n) p ≡ known lay run seeds n p
      here p =
          elim (decide (nat_lt p (pairs lay))) [
            | inl t ↦ h p (ltb-true p (pairs lay) t)
            | inr t ↦ known-outside (suc n) p (ltb-false p (pairs lay) t) ∙ sym (known-outside n p (ltb-false p (pairs lay) t))
          ]

  abbrev pub size : ℕ → ℕ
  size n = count (known lay run seeds n) (pairs lay)

  -- a round adds a page, or is the same as the one before
  pub steps : (n : ℕ) → (known lay run seeds (suc n) ≡ known lay run seeds n) ⊎ (size n < size (suc n))
  steps n =
      elim (decide (nat_lt (size n) (size (suc n)))) [
        | inl t ↦ inr (ltb-true (size n) (size (suc n)) t)
        | inr t ↦ inl (alike n (count-same (known lay run seeds n) (known lay run seeds (suc n)) (pairs lay) (known-grows n) (ltb-false (size n) (size (suc n)) t)))
      ]

  pub grown : (n : ℕ) → (known lay run seeds (suc n) ≡ known lay run seeds n) ⊎ (n < size (suc n))
  grown zero =
      elim (steps zero) [
        | inl e ↦ inl e
        | inr l ↦ inr (omega arith)
      ]
  grown (suc n) =
      elim (grown n) [
        | inl e ↦ inl (ap (round lay run seeds) e)
        | inr l ↦ elim (steps (suc n)) [
          | inl e ↦ inl e
          | inr m ↦ inr (omega arith)
        ]
      ]

  pub fix-fixed : round lay run seeds (fix lay run seeds) ≡ fix lay run seeds
  unfolding fix
  fix-fixed =
      elim (grown (pairs lay)) [
        | inl e ↦ e
        | inr l ↦ absurd (omega (arith, count-le (known lay run seeds (suc (pairs lay))) (pairs lay)))
      ]

  pub known-upward : (n : ℕ) → Extends seeds.pages (known lay run seeds n)
  known-upward zero p x e = e
  known-upward (suc n) p x e = known-grows n p x (known-upward n p x e)

  -- what an item without seeds saves in the fixpoint is in it
  pub closed : (p : ℕ) (x : Page) → p < pairs lay → seeded seeds (item_of lay p) ≡ false → page_of lay (item_of lay p) (run (item_of lay p) (fix lay run seeds)) p ≡ Some x → fix lay run seeds p ≡ Some x
  closed p x lt free e = sym (ap (λ (k : Pages). k p) fix-fixed) ∙ rw (lt-ltb p (pairs lay) lt, free) e

  -- histories

  pub after-grows : (e : Event) (h : List Event) → Extends (after lay run seeds h) (after lay run seeds (e ∷ h))
  after-grows (Begin i) h p x e = e
  after-grows (Saved q) h p x e = or_else_keeps (after lay run seeds h p) _ x e
  after-grows (Done i) h p x e = or_else_keeps (after lay run seeds h p) _ x e
  after-grows (Failed i) h p x e = e

  pub still-some : (e : Event) (h : List Event) (p : ℕ) → is_some (after lay run seeds h p) ≡ true → is_some (after lay run seeds (e ∷ h) p) ≡ true
  still-some e h p s =
      let v : (x : Page) × (after lay run seeds h p ≡ Some x) = the_some (after lay run seeds h p) s in
      is_some-of (after lay run seeds (e ∷ h) p) v.0 (after-grows e h p v.0 v.1)

  pub from-seeds : (h : List Event) → Extends seeds.pages (after lay run seeds h)
  from-seeds [] p x e = e
  from-seeds (v ∷ h) p x e = after-grows v h p x (from-seeds h p x e)

  pub begun-free : (h : List Event) (i : ℕ) → LawfulNewest lay run seeds h → stands (Begin i) h ≡ true → (i < lay.items) × (seeded seeds i ≡ false)
  begun-free [] i l s = cc
  begun-free (Begin j ∷ h) i l s =
      elim (or_cases (nat_eq i j) (stands (Begin i) h) s) [
        | inl e ↦ rw (eqb-true i j e) (l.1.in_range, l.1.unseeded)
        | inr t ↦ begun-free h i l.2 t
      ]
  begun-free (Saved q ∷ h) i l s = begun-free h i l.2 s
  begun-free (Done j ∷ h) i l s = begun-free h i l.2 s
  begun-free (Failed j ∷ h) i l s = begun-free h i l.2 s

  -- what is known of an item without seeds, its run saves
  pub justified : (h : List Event) → LawfulNewest lay run seeds h → (p : ℕ) (x : Page) → p < pairs lay → seeded seeds (item_of lay p) ≡ false → after lay run seeds h p ≡ Some x → page_of lay (item_of lay p) (run (item_of lay p) (after lay run seeds h)) p ≡ Some x
  justified [] l p x lt free e = clash (is_some (seeds.pages p)) (sown.each p lt ∙ free) (ap is_some e)
  justified (Begin i ∷ h) l p x lt free e = justified h l.2 p x lt free e
  justified (Failed i ∷ h) l p x lt free e = justified h l.2 p x lt free e
  justified (Saved q ∷ h) l p x lt free e =
      monotone (item_of lay p) (after lay run seeds h) (after lay run seeds (Saved q ∷ h)) p x (shape.in_items p lt) (after-grows (Saved q) h)
      (elim (with_new_cases (after lay run seeds h) q (snapshot (run (item_of lay q) (after lay run seeds h)) q) p x e) [
        | inl w ↦ justified h l.2 p x lt free w
        | inr w ↦ subst (λ (r : ℕ). page_of lay (item_of lay r) (run (item_of lay r) (after lay run seeds h)) r ≡ Some x) w.0
            (on-the-way (item_of lay q) (after lay run seeds h) q x (shape.in_items q l.1.in_range) w.1)
      ])
  justified (Done i ∷ h) l p x lt free e =
      monotone (item_of lay p) (after lay run seeds h) (after lay run seeds (Done i ∷ h)) p x (shape.in_items p lt) (after-grows (Done i) h)
      (elim (with_new_cases (after lay run seeds h) (final_of lay i) (finished_page (run i (after lay run seeds h)).end) p x e) [
        | inl w ↦ justified h l.2 p x lt free w
        | inr w ↦
            let own : item_of lay p ≡ i = ap (item_of lay) (sym w.0) ∙ shape.own_final i l.1.in_range in
            rw own (subst (λ (r : ℕ). page_of lay i (run i (after lay run seeds h)) r ≡ Some x) w.0 (at-last i (after lay run seeds h) x w.1))
      ])

  -- nothing but the fixpoint's pages is known
  pub sound : (h : List Event) → LawfulNewest lay run seeds h → Extends (after lay run seeds h) (fix lay run seeds)
  unfolding fix
  sound [] l p x e = known-upward (pairs lay) p x e
  sound (Begin i ∷ h) l p x e = sound h l.2 p x e
  sound (Failed i ∷ h) l p x e = sound h l.2 p x e
  sound (Saved q ∷ h) l p x e =
      elim (with_new_cases (after lay run seeds h) q (snapshot (run (item_of lay q) (after lay run seeds h)) q) p x e) [
        | inl w ↦ sound h l.2 p x w
        | inr w ↦
            let lt : item_of lay q < lay.items = shape.in_items q l.1.in_range in
            subst (λ (r : ℕ). fix lay run seeds r ≡ Some x) w.0
            (closed q x l.1.in_range (begun-free h (item_of lay q) l.2 l.1.begun).1
            (monotone (item_of lay q) (after lay run seeds h) (fix lay run seeds) q x lt (sound h l.2) (on-the-way (item_of lay q) (after lay run seeds h) q x lt w.1)))
      ]
  sound (Done i ∷ h) l p x e =
      elim (with_new_cases (after lay run seeds h) (final_of lay i) (finished_page (run i (after lay run seeds h)).end) p x e) [
        | inl w ↦ sound h l.2 p x w
        | inr w ↦
            let own : item_of lay (final_of lay i) ≡ i = shape.own_final i l.1.in_range in
            subst (λ (r : ℕ). fix lay run seeds r ≡ Some x) w.0
            (closed (final_of lay i) x (shape.in_pairs i l.1.in_range) (rw own (begun-free h i l.2 l.1.begun).1)
            (rw own (monotone i (after lay run seeds h) (fix lay run seeds) (final_of lay i) x l.1.in_range (sound h l.2) (at-last i (after lay run seeds h) x w.1))))
      ]

  pub stood-known : (h : List Event) → LawfulNewest lay run seeds h → (p : ℕ) → stands (Saved p) h ≡ true → is_some (after lay run seeds h p) ≡ true
  stood-known [] l p s = cc
  stood-known (Begin j ∷ h) l p s = stood-known h l.2 p s
  stood-known (Failed j ∷ h) l p s = stood-known h l.2 p s
  stood-known (Done j ∷ h) l p s = still-some (Done j) h p (stood-known h l.2 p s)
  stood-known (Saved q ∷ h) l p s =
      elim (or_cases (nat_eq p q) (stands (Saved p) h) s) [
        | inl e ↦ rw (eqb-true p q e) (with_new_has (after lay run seeds h) q (snapshot (run (item_of lay q) (after lay run seeds h)) q) l.1.saves)
        | inr t ↦ still-some (Saved q) h p (stood-known h l.2 p t)
      ]

  pub record Ended (h : List Event) (i : ℕ) (test : End Page → Bool) : Type 0 where
    pub in_range : i < lay.items
    pub free : seeded seeds i ≡ false
    pub ends : test (run i (after lay run seeds h)).end ≡ true
    pub has : (p : ℕ) → is_some (page_of lay i (run i (after lay run seeds h)) p) ≡ true → is_some (after lay run seeds h p) ≡ true

  pub ended-stays : (e : Event) (h : List Event) (i : ℕ) (test : End Page → Bool) → ((x : End Page) → test x ≡ true → is_wait x ≡ false) → Ended h i test → Ended (e ∷ h) i test
  ended-stays e h i test still was =
      let same : run i (after lay run seeds (e ∷ h)) ≡ run i (after lay run seeds h) = settled i (after lay run seeds h) (after lay run seeds (e ∷ h)) was.in_range (after-grows e h) (still (run i (after lay run seeds h)).end was.ends) in
      record {
        in_range = was.in_range;
        free = was.free;
        ends = ap (λ (r : Run Page). test r.end) same ∙ was.ends;
        has = λ p s. still-some e h p (was.has p (sym (ap (λ (r : Run Page). is_some (page_of lay i r p)) same) ∙ s));
      }

  -- an item that is done had saved all its pairs
  pub finishing : (h : List Event) (i : ℕ) → LawfulNewest lay run seeds h → MayEnd lay run seeds h i is_done → Ended (Done i ∷ h) i is_done
  finishing h i l may =
      let same : run i (after lay run seeds (Done i ∷ h)) ≡ run i (after lay run seeds h) = settled i (after lay run seeds h) (after lay run seeds (Done i ∷ h)) may.in_range (after-grows (Done i) h) (done-no_wait (run i (after lay run seeds h)).end may.ends) in
      record {
        in_range = may.in_range;
        free = (begun-free h i l may.begun).1;
        ends = ap (λ (r : Run Page). is_done r.end) same ∙ may.ends;
        has = λ p s. elim (decide (nat_eq p (final_of lay i))) [
          | inl e ↦ rw (eqb-true p (final_of lay i) e) (with_new_has (after lay run seeds h) (final_of lay i) (finished_page (run i (after lay run seeds h)).end) (done-page (run i (after lay run seeds h)).end may.ends))
          | inr e ↦
              still-some (Done i) h p (stood-known h l p
              (may.snapshots p (sym (ap is_some (page-snapshot lay i (run i (after lay run seeds h)) p e)) ∙ (sym (ap (λ (r : Run Page). is_some (page_of lay i r p)) same) ∙ s))))
        ];
      }

  pub way-of : (i : ℕ) (k : Pages) (p : ℕ) → is_some (finished_page (run i k).end) ≡ false → is_some (page_of lay i (run i k) p) ≡ true → is_some (snapshot (run i k) p) ≡ true
  way-of i k p none s =
      elim (decide (nat_eq p (final_of lay i))) [
        | inl e ↦ clash (is_some (finished_page (run i k).end)) none (sym (ap is_some (page-final lay i (run i k) p e)) ∙ s)
        | inr e ↦ sym (ap is_some (page-snapshot lay i (run i k) p e)) ∙ s
      ]

  pub failing : (h : List Event) (i : ℕ) → LawfulNewest lay run seeds h → MayEnd lay run seeds h i is_fault → Ended (Failed i ∷ h) i is_fault
  failing h i l may =
      record {
        in_range = may.in_range;
        free = (begun-free h i l may.begun).1;
        ends = may.ends;
        has = λ p s. stood-known h l p (may.snapshots p (way-of i (after lay run seeds h) p (fault-no_page (run i (after lay run seeds h)).end may.ends) s));
      }

  pub done-ended : (h : List Event) (i : ℕ) → LawfulNewest lay run seeds h → stands (Done i) h ≡ true → Ended h i is_done
  done-ended [] i l s = cc
  done-ended (Begin j ∷ h) i l s = ended-stays (Begin j) h i is_done done-no_wait (done-ended h i l.2 s)
  done-ended (Saved q ∷ h) i l s = ended-stays (Saved q) h i is_done done-no_wait (done-ended h i l.2 s)
  done-ended (Failed j ∷ h) i l s = ended-stays (Failed j) h i is_done done-no_wait (done-ended h i l.2 s)
  done-ended (Done j ∷ h) i l s =
      elim (or_cases (nat_eq i j) (stands (Done i) h) s) [
        | inl e ↦ subst (λ (n : ℕ). Ended (Done j ∷ h) n is_done) (sym (eqb-true i j e)) (finishing h j l.2 l.1)
        | inr t ↦ ended-stays (Done j) h i is_done done-no_wait (done-ended h i l.2 t)
      ]

  pub failed-ended : (h : List Event) (i : ℕ) → LawfulNewest lay run seeds h → stands (Failed i) h ≡ true → Ended h i is_fault
  failed-ended [] i l s = cc
  failed-ended (Begin j ∷ h) i l s = ended-stays (Begin j) h i is_fault fault-no_wait (failed-ended h i l.2 s)
  failed-ended (Saved q ∷ h) i l s = ended-stays (Saved q) h i is_fault fault-no_wait (failed-ended h i l.2 s)
  failed-ended (Done j ∷ h) i l s = ended-stays (Done j) h i is_fault fault-no_wait (failed-ended h i l.2 s)
  failed-ended (Failed j ∷ h) i l s =
      elim (or_cases (nat_eq i j) (stands (Failed i) h) s) [
        | inl e ↦ subst (λ (n : ℕ). Ended (Failed j ∷ h) n is_fault) (sym (eqb-true i j e)) (failing h j l.2 l.1)
        | inr t ↦ ended-stays (Failed j) h i is_fault fault-no_wait (failed-ended h i l.2 t)
      ]

  module _ (h : List Event) (all : CompleteNewest lay run seeds h) where
    -- where nothing may follow, an event that might stands
    pub must : (e : Event) → MayFollow lay run seeds h e → stands e h ≡ true
    must e may =
        elim (decide (stands e h)) [
          | inl t ↦ t
          | inr f ↦ absurd (all.nothing_follows e f may)
        ]

    pub begun : (i : ℕ) → i < lay.items → seeded seeds i ≡ false → stands (Begin i) h ≡ true
    begun i lt free = must (Begin i) (record { in_range = lt; unseeded = free })

    abbrev pub now : ℕ → Run Page
    now i = run i (after lay run seeds h)

    pub some-own : (i p : ℕ) → i < lay.items → is_some (snapshot (now i) p) ≡ true → (p < pairs lay) × (item_of lay p ≡ i)
    some-own i p lt s =
        let v : (x : Page) × (snapshot (now i) p ≡ Some x) = the_some (snapshot (now i) p) s in
        let own : (p < pairs lay) × (item_of lay p ≡ i) × (p ≢ final_of lay i) = laws.own i (after lay run seeds h) p v.0 lt v.1 in
        (own.0, own.1)

    -- of an item that goes on, each snapshot below n stands
    pub snapshots-below : (n p : ℕ) → p < n → p < pairs lay → seeded seeds (item_of lay p) ≡ false → ended (item_of lay p) h ≡ false → is_some (snapshot (now (item_of lay p)) p) ≡ true → stands (Saved p) h ≡ true
    snapshots-below zero p below lt free going s = absurd (omega arith)
    snapshots-below (suc n) p below lt free going s =
        must (Saved p) (record {
          in_range = lt;
          begun = begun (item_of lay p) (shape.in_items p lt) free;
          going = going;
          saves = s;
          earlier = λ q before has.
              let own : (q < pairs lay) × (item_of lay q ≡ item_of lay p) = some-own (item_of lay p) q (shape.in_items p lt) has in
              snapshots-below n q (omega arith) own.0 (rw own.1 free) (rw own.1 going) (rw own.1 has);
        })

    pub snapshots : (i : ℕ) → i < lay.items → seeded seeds i ≡ false → ended i h ≡ false → (p : ℕ) → is_some (snapshot (now i) p) ≡ true → stands (Saved p) h ≡ true
    snapshots i lt free going p s =
        let own : (p < pairs lay) × (item_of lay p ≡ i) = some-own i p lt s in
        snapshots-below (suc p) p (omega arith) own.0 (rw own.1 free) (rw own.1 going) (rw own.1 s)

    -- an item that goes on hasn't finished, nor met a fault
    pub unfinished : (i : ℕ) → i < lay.items → seeded seeds i ≡ false → stands (Done i) h ≡ false → stands (Failed i) h ≡ false → is_wait (now i).end ≡ true
    unfinished i lt free d f =
        let going : ended i h ≡ false = neither (stands (Done i) h) (stands (Failed i) h) d f in
        elim (now i).end as (λ e. (now i).end ≡ e → is_wait e ≡ true) [
          | done x ↦ λ e. clash (stands (Done i) h) d
              (must (Done i) (record { in_range = lt; begun = begun i lt free; going = going; ends = ap is_done e; snapshots = snapshots i lt free going }))
          | fault x ↦ λ e. clash (stands (Failed i) h) f
              (must (Failed i) (record { in_range = lt; begun = begun i lt free; going = going; ends = ap is_fault e; snapshots = snapshots i lt free going }))
          | waits ps ↦ λ e. refl
        ] refl

    -- of an item without seeds, all that its run saves is known
    pub present : (i p : ℕ) → i < lay.items → seeded seeds i ≡ false → is_some (page_of lay i (now i) p) ≡ true → is_some (after lay run seeds h p) ≡ true
    present i p lt free s =
        elim (decide (stands (Done i) h)) [
          | inl d ↦ (done-ended h i all.lawful d).has p s
          | inr d ↦ elim (decide (stands (Failed i) h)) [
            | inl f ↦ (failed-ended h i all.lawful f).has p s
            | inr f ↦
                let going : ended i h ≡ false = neither (stands (Done i) h) (stands (Failed i) h) d f in
                stood-known h all.lawful p (snapshots i lt free going p (way-of i (after lay run seeds h) p (wait-no_page (now i).end (unfinished i lt free d f)) s))
          ]
        ]

    -- and all of the fixpoint
    pub reaches : (n : ℕ) → Extends (known lay run seeds n) (after lay run seeds h)
    reaches zero p x e = from-seeds h p x e
    reaches (suc n) p x e =
        elim (decide (nat_lt p (pairs lay))) [
          | inl t ↦
              let below : p < pairs lay = ltb-true p (pairs lay) t in
              elim (decide (seeded seeds (item_of lay p))) [
                | inl s ↦ from-seeds h p x (sym (rw (t, s) refl) ∙ e)
                | inr s ↦
                    let lt : item_of lay p < lay.items = shape.in_items p below in
                    let here : page_of lay (item_of lay p) (run (item_of lay p) (known lay run seeds n)) p ≡ Some x = sym (rw (t, s) refl) ∙ e in
                    let later : page_of lay (item_of lay p) (now (item_of lay p)) p ≡ Some x = monotone (item_of lay p) (known lay run seeds n) (after lay run seeds h) p x lt (reaches n) here in
                    let v : (y : Page) × (after lay run seeds h p ≡ Some y) = the_some (after lay run seeds h p) (present (item_of lay p) p lt s (ap is_some later)) in
                    v.1 ∙ sym (justified h all.lawful p v.0 below s v.1) ∙ later
              ]
          | inr f ↦ clash (is_some (known lay run seeds (suc n) p)) (ap is_some (known-outside (suc n) p (ltb-false p (pairs lay) f))) (ap is_some e)
        ]

    pub pages-are : after lay run seeds h ≡ fix lay run seeds
    unfolding fix
    pages-are = λ j p. here p j
      where
        here : (p : ℕ) → after lay run seeds h p ≡ fix lay run seeds p
        here p =
            elim (after lay run seeds h p) as (λ o. after lay run seeds h p ≡ o → o ≡ fix lay run seeds p) [
              | None ↦ λ e. elim (fix lay run seeds p) as (λ o. fix lay run seeds p ≡ o → None ≡ o) [
                | None ↦ λ g. refl
                | Some y ↦ λ g. sym e ∙ reaches (pairs lay) p y g
              ] refl
              | Some x ↦ λ e. sym (sound h all.lawful p x e)
            ] refl

    pub outcome : (i : ℕ) → i < lay.items → seeded seeds i ≡ false → HasEnded h i (ends_with (whole_log lay i (now i)) (now i).end)
    outcome i lt free =
        elim (decide (stands (Done i) h)) [
          | inl d ↦ as-done (now i).end (whole_log lay i (now i)) (done-ended h i all.lawful d).ends d
              (elim (decide (stands (Failed i) h)) [
                | inl f ↦ fault-no_done (now i).end (failed-ended h i all.lawful f).ends (done-ended h i all.lawful d).ends
                | inr f ↦ f
              ])
          | inr d ↦ elim (decide (stands (Failed i) h)) [
            | inl f ↦ as-fault (now i).end (whole_log lay i (now i)) (failed-ended h i all.lawful f).ends f d
            | inr f ↦ as-wait (now i).end (whole_log lay i (now i)) (unfinished i lt free d f) (neither (stands (Done i) h) (stands (Failed i) h) d f)
          ]
        ]
      where
        as-done : (e : End Page) (log : List Mark) → is_done e ≡ true → stands (Done i) h ≡ true → stands (Failed i) h ≡ false → HasEnded h i (ends_with log e)
        as-done (done x) log t s n = (s, n)
        as-done (fault x) log t s n = cc
        as-done (waits ps) log t s n = cc

        as-fault : (e : End Page) (log : List Mark) → is_fault e ≡ true → stands (Failed i) h ≡ true → stands (Done i) h ≡ false → HasEnded h i (ends_with log e)
        as-fault (done x) log t s n = cc
        as-fault (fault x) log t s n = (s, n)
        as-fault (waits ps) log t s n = cc

        as-wait : (e : End Page) (log : List Mark) → is_wait e ≡ true → ended i h ≡ false → HasEnded h i (ends_with log e)
        as-wait (done x) log t s = cc
        as-wait (fault x) log t s = cc
        as-wait (waits ps) log t s = s

    pub ends-are : (i : ℕ) → i < lay.items → seeded seeds i ≡ false → HasEnded h i (status lay run seeds i)
    unfolding status
    ends-are i lt free = rw (none-of (seeds.facts i) free, ← pages-are) (outcome i lt free)
