-- Polls of the inner compiler, under all that is known.
use Rattle.std.proofs.Common.{◌≡◌, refl, sym, ap, ◌∙◌, subst, arith, ℕ, zero, suc, ◌+◌, ◌-◌, ◌<◌, ◌≤◌, Bool, true, false, cond, ◌||◌, ◌⊎◌, inl, inr, List, [], ◌∷◌, ◌++◌, append-nil, length, length-append, take, Option, Some, None, Result, Ok, is_none, nat_eq, eqb-true, eq-eqb}
use Rattle.std.proofs.Math.Path.{fun_ext}
use Rattle.std.specs.List.{AllByRecursion, IsDistinct, slice_get}
use Rattle.std.proofs.lemmas.List.Elements.{All-from_recursion}
use Rattle.hk_base.specs.declared.refusal.NoMemory.{NoMemory}
use Rattle.hk_chain.specs.declared.page.Page.{Page}
use Rattle.hk_chain.specs.declared.fault.Fault.{Fault}
use Rattle.hk_chain.specs.Facts.{FactsView}
use Rattle.hk_chain.specs.Layout.{Shape}
use Rattle.hk_fix.specs.declared.polled.Polled.{Polled}
use Rattle.hk_fix.specs.declared.polled.Polled.TheVariants.{Saved, Ask, Done, Failed}
use Rattle.hk_fix.specs.Calls.{Goes, Polls, to_give}
use Rattle.hk_fix.specs.Pages.{Pages, Extends, Begins, lacking}
use Rattle.hk_fix.specs.Task.{End, done, fault, waits, Run}
use Rattle.hk_fix.specs.Run.{Save, saves_of, asks_of, lacked, IsRun}
use Rattle.hk_fix.specs.Facts.{is_in, facts_of, whole_log}
use Rattle.hk_fix.specs.Fix.{or_else}
use Rattle.hk_fix.specs.Meaning.{Meaning}
use Rattle.hk_fix.specs.TaskLaws.{asks_of-append}
use Rattle.hk_fix.proofs.Orders.{or_cases, or_right, saves_of-append}
use Rattle.hk_fix.proofs.Steps.{in-contains}
use Rattle.hk_fix.proofs.Trails.{in-append, or_left}
use Rattle.hk_reuse.proofs.Lists.{all-at}
use Rattle.hk_replay.specs.Going.{both, drop_saves, tell_all, SameKnown, known_run, all_saves, Between, Quiet, Gives}
use Rattle.hk_replay.proofs.Answered.{all-lacking, all-same, all-told}

-- lists
get-begins : {A : Type 0} (xs ys : List A) (n : ℕ) (x : A) → Begins xs ys → slice_get xs n ≡ Some x → slice_get ys n ≡ Some x
get-begins xs ys n x b e = subst (λ l. slice_get l n ≡ Some x) (sym b.1) (at xs n e)
  where
    at : (xs : List _) (n : ℕ) → slice_get xs n ≡ Some x → slice_get (xs ++ b.0) n ≡ Some x
    at [] n e = cc
    at (y ∷ xs) zero e = e
    at (y ∷ xs) (suc n) e = at xs n e

pub get-take : {A : Type 0} (xs : List A) (n : ℕ) (x : A) → slice_get xs n ≡ Some x → (n + 1 ≤ length xs) × (take (n + 1) xs ≡ take n xs ++ x ∷ [])
get-take [] n x e = cc
get-take (y ∷ xs) zero x e = let u : y ≡ x = cc in (omega arith, ap (λ z. z ∷ []) u)
get-take (y ∷ xs) (suc n) x e = let r = get-take xs n x e in let m : suc n + 1 ≡ suc (n + 1) = omega arith in (omega (arith, r.0), ap (λ i. take i (y ∷ xs)) m ∙ ap (λ l. y ∷ l) r.1)

begins-length : {A : Type 0} (xs ys : List A) → Begins xs ys → length xs ≤ length ys
begins-length xs ys b = omega (arith, ap length b.1, length-append xs b.0)

pub drops-append : (kept : ℕ → Bool) (a b : List Save) → drop_saves kept (a ++ b) ≡ drop_saves kept a ++ drop_saves kept b
drops-append kept [] b = refl
drops-append kept (s ∷ a) b =
    elim (kept s.pair) as (λ c. cond c (drop_saves kept (a ++ b)) (s ∷ drop_saves kept (a ++ b)) ≡ cond c (drop_saves kept a) (s ∷ drop_saves kept a) ++ drop_saves kept b) [
      | true ↦ drops-append kept a b
      | false ↦ ap (λ l. s ∷ l) (drops-append kept a b)
    ]

-- what is known to the inner compiler is known
pub ext-both : (it k : Pages) → Extends it (both it k)
ext-both it k p x e = rw e refl

known-all : (k m : Pages) → Extends k m → (ps : List ℕ) → lacking k ps ≡ [] → AllByRecursion (λ p. m p ≡ k p) ps
known-all k m ext [] e = tt
known-all k m ext (p ∷ ps) e = at (k p) refl e (λ w. known-all k m ext ps w)
  where
    at : (o : Option Page) → k p ≡ o → cond (is_none o) (p ∷ lacking k ps) (lacking k ps) ≡ [] → (lacking k ps ≡ [] → AllByRecursion (λ q. m q ≡ k q) ps) → (m p ≡ k p) × AllByRecursion (λ q. m q ≡ k q) ps
    at None w e f = cc
    at (Some x) w e f = (ext p x w ∙ sym w, f e)

-- of the pairs that lack
pub lacks-none : (k : Pages) (ps : List ℕ) → AllByRecursion (λ p. k p ≡ None) (lacking k ps)
lacks-none k [] = tt
lacks-none k (p ∷ ps) = at (k p) refl (lacks-none k ps)
  where
    at : (o : Option Page) → k p ≡ o → AllByRecursion (λ p. k p ≡ None) (lacking k ps) → AllByRecursion (λ p. k p ≡ None) (cond (is_none o) (p ∷ lacking k ps) (lacking k ps))
    at None e rec = (e, rec)
    at (Some x) e rec = rec

lacks-both : (it k : Pages) (ps : List ℕ) → lacking (both it k) ps ≡ lacking k (lacking it ps)
lacks-both it k [] = refl
lacks-both it k (p ∷ ps) =
    elim (it p) as (λ o. cond (is_none (or_else o (k p))) (p ∷ lacking (both it k) ps) (lacking (both it k) ps) ≡ lacking k (cond (is_none o) (p ∷ lacking it ps) (lacking it ps))) [
      | None ↦ rw (lacks-both it k ps) refl
      | Some x ↦ lacks-both it k ps
    ]

in-lacking : (k : Pages) (ps : List ℕ) (p : ℕ) → is_in (lacking k ps) p ≡ true → is_in ps p ≡ true
in-lacking k [] p e = e
in-lacking k (q ∷ ps) p e =
    elim (is_none (k q)) as (λ b. is_in (cond b (q ∷ lacking k ps) (lacking k ps)) p ≡ true → (nat_eq p q || is_in ps p) ≡ true) [
      | true ↦ λ w. elim (or_cases (nat_eq p q) (is_in (lacking k ps) p) w) [
        | inl u ↦ rw u refl
        | inr u ↦ or_right (nat_eq p q) (is_in ps p) (in-lacking k ps p u)
      ]
      | false ↦ λ w. or_right (nat_eq p q) (is_in ps p) (in-lacking k ps p w)
    ] e

-- fewer lack where more is known
module _ (a b : Pages) (ext : (q : ℕ) → b q ≡ None → a q ≡ None) where
  fewer : (ps : List ℕ) → length (lacking b ps) ≤ length (lacking a ps)
  fewer [] = omega arith
  fewer (q ∷ ps) = at (a q) refl (b q) refl (fewer ps)
    where
      at : (o : Option Page) → a q ≡ o → (r : Option Page) → b q ≡ r → length (lacking b ps) ≤ length (lacking a ps) → length (cond (is_none r) (q ∷ lacking b ps) (lacking b ps)) ≤ length (cond (is_none o) (q ∷ lacking a ps) (lacking a ps))
      at None w None u h = omega (arith, h)
      at None w (Some y) u h = omega (arith, h)
      at (Some x) w None u h = let z : Some x ≡ None = sym w ∙ ext q u in cc
      at (Some x) w (Some y) u h = h

  less : (ps : List ℕ) (p : ℕ) (y : Page) → is_in ps p ≡ true → a p ≡ None → b p ≡ Some y → length (lacking b ps) < length (lacking a ps)
  less [] p y i n s = cc
  less (q ∷ ps) p y i n s =
      elim (or_cases (nat_eq p q) (is_in ps p) i) [
        | inl t ↦ let e : p ≡ q = eqb-true p q t in let u : a q ≡ None = ap a (sym e) ∙ n in let v : b q ≡ Some y = ap b (sym e) ∙ s in rw (u, v) (omega (arith, fewer ps))
        | inr t ↦ at (a q) refl (b q) refl (less ps p y t n s)
      ]
    where
      at : (o : Option Page) → a q ≡ o → (r : Option Page) → b q ≡ r → length (lacking b ps) < length (lacking a ps) → length (cond (is_none r) (q ∷ lacking b ps) (lacking b ps)) < length (cond (is_none o) (q ∷ lacking a ps) (lacking a ps))
      at None w None u h = omega (arith, h)
      at None w (Some z) u h = omega (arith, h)
      at (Some x) w None u h = let z : Some x ≡ None = sym w ∙ ext q u in cc
      at (Some x) w (Some z) u h = h

end-waits : (e : End Page) (l : List ℕ) → lacked e ≡ l → 0 < length l → e ≡ waits l
end-waits (done x) l h lt = absurd (omega (arith, ap length h))
end-waits (fault f) l h lt = absurd (omega (arith, ap length h))
end-waits (waits ps) l h lt = ap waits h

first-of : (l : List ℕ) → 0 < length l → (p : ℕ) × (is_in l p ≡ true)
first-of [] lt = absurd (omega (arith, lt))
first-of (p ∷ l) lt = (p, rw (eq-eqb p p refl) refl)

has-page : (k : Pages) (ps : List ℕ) (p : ℕ) → lacking k ps ≡ [] → is_in ps p ≡ true → (x : Page) × (k p ≡ Some x)
has-page k [] p e i = cc
has-page k (q ∷ ps) p e i = at (k q) refl e (or_cases (nat_eq p q) (is_in ps p) i) (λ w t. has-page k ps p w t)
  where
    at : (o : Option Page) → k q ≡ o → cond (is_none o) (q ∷ lacking k ps) (lacking k ps) ≡ [] → (nat_eq p q ≡ true) ⊎ (is_in ps p ≡ true) → (lacking k ps ≡ [] → is_in ps p ≡ true → (x : Page) × (k p ≡ Some x)) → (x : Page) × (k p ≡ Some x)
    at None w e u rec = cc
    at (Some x) w e (inl t) rec = (x, ap k (eqb-true p q t) ∙ w)
    at (Some x) w e (inr t) rec = rec e t

from-none : (b : Bool) (o r : Option Page) → cond b (or_else o r) r ≡ None → r ≡ None
from-none true None r e = e
from-none true (Some x) r e = cc
from-none false o r e = e

-- one compiler's runs, under what it was told and under all that is known
module _ (lay : Shape) (run : ℕ → Pages → Run Page) (laws : IsRun lay run) (i : ℕ) (lt : i < lay.items) (it k : Pages) where
  abbrev r : Run Page
  r = run i it

  abbrev R : Run Page
  R = run i (both it k)

  begins : Begins r.log R.log
  begins = laws.grows i it (both it k) lt (ext-both it k)

  saves-begin : Begins (saves_of r.log) (saves_of R.log)
  saves-begin = (saves_of begins.0, ap saves_of begins.1 ∙ saves_of-append r.log begins.0)

  pub get-known : (n : ℕ) (s : Save) → slice_get (saves_of r.log) n ≡ Some s → slice_get (saves_of R.log) n ≡ Some s
  get-known n s e = get-begins (saves_of r.log) (saves_of R.log) n s saves-begin e

  over-known : lacked r.end ≡ [] → R ≡ r
  over-known e = laws.same i it (both it k) lt (All-from_recursion (λ p. both it k p ≡ it p) (asks_of r.log) (known-all it (both it k) (ext-both it k) (asks_of r.log) (laws.waiting i it lt ∙ e)))

  pub done-known : (x : Page) → r.end ≡ done x → R ≡ r
  done-known x e = over-known (ap lacked e)

  pub fault-known : (f : Fault) → r.end ≡ fault f → R ≡ r
  fault-known f e = over-known (ap lacked e)

  -- where it waits
  module _ (l : List ℕ) (ends : r.end ≡ waits l) where
    lack-l : lacking it (asks_of r.log) ≡ l
    lack-l = laws.waiting i it lt ∙ ap lacked ends

    pub l-untold : AllByRecursion (λ p. it p ≡ None) l
    l-untold = subst (AllByRecursion (λ p. it p ≡ None)) lack-l (lacks-none it (asks_of r.log))

    pub l-distinct : IsDistinct nat_eq l
    l-distinct = laws.once i it l lt ends

    l-asked : (p : ℕ) → is_in l p ≡ true → is_in (asks_of R.log) p ≡ true
    l-asked p e =
        let a : is_in (asks_of r.log) p ≡ true = in-lacking it (asks_of r.log) p (ap (λ q. is_in q p) lack-l ∙ e) in
        ap (λ q. is_in q p) (ap asks_of begins.1 ∙ asks_of-append r.log begins.0) ∙ (in-append (asks_of r.log) (asks_of begins.0) p ∙ or_left (is_in (asks_of r.log) p) (is_in (asks_of begins.0) p) a)

    -- a pair that isn't known is left
    module _ (some : 0 < length (lacking k l)) where
      there : (p : ℕ) × (is_in (lacking k l) p ≡ true)
      there = first-of (lacking k l) some

      unknown : both it k there.0 ≡ None
      unknown =
          let a : it there.0 ≡ None = all-at (λ p. it p ≡ None) l there.0 l-untold (in-lacking k l there.0 there.1) in
          let b : k there.0 ≡ None = all-at (λ p. k p ≡ None) (lacking k l) there.0 (lacks-none k l) there.1 in
          rw (a, b) refl

      pub log-stays : R.log ≡ r.log
      log-stays = laws.still i it (both it k) l there.0 lt ends (ext-both it k) (in-contains l there.0 (in-lacking k l there.0 there.1)) unknown

      pub end-left : R.end ≡ waits (lacking k l)
      end-left = end-waits R.end (lacking k l) (sym (laws.waiting i (both it k) lt) ∙ (ap (λ g. lacking (both it k) (asks_of g)) log-stays ∙ (lacks-both it k (asks_of r.log) ∙ ap (lacking k) lack-l))) some

    -- all are known
    pub all-known : lacking k l ≡ [] → (now : Pages) → ((q : ℕ) → now q ≡ cond (is_in l q) (or_else (k q) (it q)) (it q)) → length (lacking now (asks_of R.log)) < length (lacking it (asks_of R.log))
    all-known none now is =
        let p = first-of l (laws.some i it l lt ends) in
        let n : it p.0 ≡ None = all-at (λ p. it p ≡ None) l p.0 l-untold p.1 in
        let y : (x : Page) × (k p.0 ≡ Some x) = has-page k l p.0 none p.1 in
        less it now (λ q u. from-none (is_in l q) (k q) (it q) (sym (is q) ∙ u)) (asks_of R.log) p.0 y.0 (l-asked p.0 p.1) n (is p.0 ∙ rw (p.1, y.1) refl)

-- what a poll did
pub by-ok : {C : Type 0} (shape : C → Shape) (run : C → ℕ → Pages → Run Page) (now later : Meaning C) (result : Result Polled NoMemory) (got polled : Polled) → result ≡ Ok got → got ≡ polled → Polls shape run now result later → Goes shape run now polled later
by-ok shape run now later result got polled was is h = (subst (λ r. Polls shape run now r later) (was ∙ ap Ok is) h).1

-- polls between two answers
module _ {C : Type 0} (shape : C → Shape) (run : C → ℕ → Pages → Run Page) (k : Pages) (kept : ℕ → Bool) (m : Meaning C) where
  abbrev S : List Save
  S = all_saves run k m

  pub starts : m.awaits ≡ [] → m.has_ended ≡ false → m.given ≤ length (all_saves run k m) → Between run k kept m m
  starts closed going few = record { same = record { common = refl; item = refl; known = λ q. refl }; few = few; dropped = refl; closed = closed; going = going }

  pub item-in : (now : Meaning C) → Between run k kept m now → m.item < (shape m.common).items → now.item < (shape now.common).items
  item-in now b lt = omega (arith, lt, b.same.item, ap (λ c. (shape c).items) b.same.common)

  module _ (now : Meaning C) (b : Between run k kept m now) (laws : IsRun (shape now.common) (run now.common)) (lt : now.item < (shape now.common).items) where
    -- the run is the same one
    same-run : known_run run k now ≡ known_run run k m
    same-run = λ i. run (b.same.common i) (b.same.item i) (fun_ext b.same.known i)

    trans : (later : Meaning C) → SameKnown k now later → SameKnown k m later
    trans later s = record { common = s.common ∙ b.same.common; item = s.item ∙ b.same.item; known = λ q. s.known q ∙ b.same.known q }

    -- a page is saved
    module _ (p : ℕ) (x : Page) (later : Meaning C) (goes : Goes shape run now (Saved p x) later) where
      abbrev s : Save
      s = record { pair = p; page = x }

      at : slice_get S now.given ≡ Some s
      at = ap (λ r. slice_get (saves_of r.log) now.given) (sym same-run) ∙ get-known (shape now.common) (run now.common) laws now.item lt now.told k now.given s goes.0

      here : (now.given + 1 ≤ length S) × (take (now.given + 1) S ≡ take now.given S ++ s ∷ [])
      here = get-take S now.given s at

      dropped-here : drop_saves kept (take (now.given + 1) S) ≡ drop_saves kept (take m.given S) ++ drop_saves kept (s ∷ [])
      dropped-here = ap (drop_saves kept) here.1 ∙ (drops-append kept (take now.given S) (s ∷ []) ∙ ap (λ l. l ++ drop_saves kept (s ∷ [])) b.dropped)

      pub gives-saved : kept p ≡ false → Gives run k kept m later s
      gives-saved out =
          subst (λ n. Gives run k kept m n s) (sym goes.1) (
          record {
            few = here.0;
            dropped = dropped-here ∙ ap (λ c. drop_saves kept (take m.given S) ++ cond c [] (s ∷ [])) out;
            closed = b.closed;
            going = b.going;
          })

      pub passes-saved : kept p ≡ true → Between run k kept m later
      passes-saved there =
          subst (Between run k kept m) (sym goes.1) (
          record {
            same = record { common = b.same.common; item = b.same.item; known = b.same.known };
            few = here.0;
            dropped = dropped-here ∙ (ap (λ c. drop_saves kept (take m.given S) ++ cond c [] (s ∷ [])) there ∙ append-nil (drop_saves kept (take m.given S)));
            closed = b.closed;
            going = b.going;
          })

      pub same-saved : SameKnown k m later
      same-saved = trans later (subst (SameKnown k now) (sym goes.1) (record { common = refl; item = refl; known = λ q. refl }))

      pub less-saved : (length S - later.given) + length (lacking later.told (asks_of (known_run run k m).log)) < (length S - now.given) + length (lacking now.told (asks_of (known_run run k m).log))
      less-saved = subst (λ n. (length S - n.given) + length (lacking n.told (asks_of (known_run run k m).log)) < (length S - now.given) + length (lacking now.told (asks_of (known_run run k m).log))) (sym goes.1) (omega (arith, here.0))

    -- all saves under what it was told were given, and its run is the one under all that is known
    quiet-by : (n : ℕ) → n ≡ now.given → length (to_give run now) ≤ now.given → saves_of (known_run run k now).log ≡ to_give run now → length S ≤ now.given
    quiet-by n e le same = omega (arith, le, ap length same, ap (λ r. length (saves_of r.log)) same-run)

    quiet-at : (later : Meaning C) → later.given ≡ now.given → length (to_give run now) ≤ now.given → saves_of (known_run run k now).log ≡ to_give run now → Quiet run k kept m later
    quiet-at later e le same =
        record {
          few = omega (arith, e, b.few);
          all = omega (arith, e, quiet-by now.given refl le same);
          dropped = ap (λ n. drop_saves kept (take n S)) e ∙ b.dropped;
        }

    -- it ends
    pub done-inner : (x : Page) (facts : FactsView) (later : Meaning C) → Goes shape run now (Done x facts) later → Quiet run k kept m later × ((known_run run k m).end ≡ done x) × (facts ≡ facts_of (whole_log (shape m.common) m.item (known_run run k m))) × (later.awaits ≡ [])
    done-inner x facts later goes =
        let over : known_run run k now ≡ run now.common now.item now.told = done-known (shape now.common) (run now.common) laws now.item lt now.told k x goes.1 in (
          quiet-at later (ap (λ n. n.given) goes.3) goes.0 (ap (λ r. saves_of r.log) over),
          ap (λ r. r.end) (sym same-run ∙ over) ∙ goes.1,
          goes.2 ∙ (ap (λ r. facts_of (whole_log (shape now.common) now.item r)) (sym over ∙ same-run) ∙ (λ i. facts_of (whole_log (shape (b.same.common i)) (b.same.item i) (known_run run k m)))),
          ap (λ n. n.awaits) goes.3 ∙ b.closed,
        )

    pub failed-inner : (f : Fault) (later : Meaning C) → Goes shape run now (Failed f) later → Quiet run k kept m later × ((known_run run k m).end ≡ fault f) × (later.awaits ≡ [])
    failed-inner f later goes =
        let over : known_run run k now ≡ run now.common now.item now.told = fault-known (shape now.common) (run now.common) laws now.item lt now.told k f goes.1 in (
          quiet-at later (ap (λ n. n.given) goes.2) goes.0 (ap (λ r. saves_of r.log) over),
          ap (λ r. r.end) (sym same-run ∙ over) ∙ goes.1,
          ap (λ n. n.awaits) goes.2 ∙ b.closed,
        )

    -- it asks
    module _ (asks : Meaning C) (goes : Goes shape run now Ask asks) where
      abbrev L : List ℕ
      L = asks.awaits

      told-is : asks.told ≡ now.told
      told-is = ap (λ n. n.told) goes.2

      pub ask-untold : AllByRecursion (λ p. asks.told p ≡ None) L
      ask-untold = subst (λ t. AllByRecursion (λ p. t p ≡ None) L) (sym told-is) (l-untold (shape now.common) (run now.common) laws now.item lt now.told k L goes.1)

      pub ask-distinct : IsDistinct nat_eq L
      ask-distinct = l-distinct (shape now.common) (run now.common) laws now.item lt now.told k L goes.1

      module _ (later : Meaning C) (told : later ≡ tell_all k asks asks.awaits) (known : SameKnown k asks later) where
        pub same-asked : SameKnown k m later
        same-asked =
            record {
              common = known.common ∙ (ap (λ n. n.common) goes.2 ∙ b.same.common);
              item = known.item ∙ (ap (λ n. n.item) goes.2 ∙ b.same.item);
              known = λ q. known.known q ∙ (ap (λ t. both t k q) told-is ∙ b.same.known q);
            }

        left : later.awaits ≡ lacking k L
        left = ap (λ n. n.awaits) told ∙ all-lacking k asks ask-distinct ask-untold

        given-is : later.given ≡ now.given
        given-is = ap (λ n. n.given) told ∙ (all-same k (λ n. n.given) (λ n p x. refl) asks asks.awaits ∙ ap (λ n. n.given) goes.2)

        going-is : later.has_ended ≡ false
        going-is = ap (λ n. n.has_ended) told ∙ (all-same k (λ n. n.has_ended) (λ n p x. refl) asks asks.awaits ∙ (ap (λ n. n.has_ended) goes.2 ∙ b.going))

        pub asks-inner : 0 < length later.awaits → Quiet run k kept m later × ((known_run run k m).end ≡ waits later.awaits) × (later.has_ended ≡ false)
        asks-inner some =
            let more : 0 < length (lacking k L) = omega (arith, some, ap length left) in
            let stay : (known_run run k now).log ≡ (run now.common now.item now.told).log = log-stays (shape now.common) (run now.common) laws now.item lt now.told k L goes.1 more in (
              quiet-at later given-is goes.0 (ap saves_of stay),
              ap (λ r. r.end) (sym same-run) ∙ (end-left (shape now.common) (run now.common) laws now.item lt now.told k L goes.1 more ∙ ap waits (sym left)),
              going-is,
            )

        pub goes-on : later.awaits ≡ [] → Between run k kept m later
        goes-on none =
            record {
              same = same-asked;
              few = omega (arith, given-is, b.few);
              dropped = ap (λ n. drop_saves kept (take n S)) given-is ∙ b.dropped;
              closed = none;
              going = going-is;
            }

        pub less-asked : later.awaits ≡ [] → (length S - later.given) + length (lacking later.told (asks_of (known_run run k m).log)) < (length S - now.given) + length (lacking now.told (asks_of (known_run run k m).log))
        less-asked none =
            let fewer-now : length (lacking later.told (asks_of (known_run run k now).log)) < length (lacking now.told (asks_of (known_run run k now).log)) =
            all-known (shape now.common) (run now.common) laws now.item lt now.told k L goes.1 (sym left ∙ none) later.told (λ q. ap (λ n. n.told q) told ∙ (all-told k asks asks.awaits q ∙ ap (λ t. cond (is_in L q) (or_else (k q) (t q)) (t q)) told-is)) in
            let at : length (lacking later.told (asks_of (known_run run k m).log)) < length (lacking now.told (asks_of (known_run run k m).log)) = subst (λ r. length (lacking later.told (asks_of r.log)) < length (lacking now.told (asks_of r.log))) same-run fewer-now in
            omega (arith, given-is, at)
