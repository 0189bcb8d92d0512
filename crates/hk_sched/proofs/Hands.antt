-- A compiler that was handed out: what its polls allow.
use Rattle.std.proofs.Common.{◌≡◌, refl, sym, ap, ◌∙◌, subst, ℕ, ◌<◌, ◌≤◌, Bool, true, false, cond, not, ◌||◌, inl, inr, List, [], ◌∷◌, ◌++◌, length, filter, reverse, Option, Some, None, is_some, is_none, nat_eq, arith, eq-eqb, length-append, All, Contains}
use Rattle.hk_chain.specs.declared.page.Page.{Page}
use Rattle.hk_chain.specs.Kept.{at_place}
use Rattle.hk_chain.specs.Layout.{Shape, pairs}
use Rattle.hk_fix.specs.Calls.{run_of, to_give}
use Rattle.hk_fix.specs.Facts.{is_in}
use Rattle.hk_fix.specs.Fix.{fix}
use Rattle.hk_fix.specs.Meaning.{Meaning}
use Rattle.hk_fix.specs.Pages.{Pages, Extends, Begins, lacking}
use Rattle.hk_fix.specs.Run.{Save, asks_of, saves_of, lacked}
use Rattle.hk_fix.specs.Task.{Mark, waits, Run}
use Rattle.hk_fix.proofs.Orders.{clash, decide, the_some, saves_of-append, sound}
use Rattle.hk_fix.proofs.Steps.{in-contains}
use Rattle.hk_fix.proofs.StillWaits.{waits-on}
use Rattle.hk_sched.specs.Standings.{told_with}
use Rattle.hk_sched.specs.Board.{BoardView, IsBacked}
use Rattle.hk_sched.specs.Lawful.{Key, sown, IsKey, IsAsking, IsMachine, IsLawful}
use Rattle.hk_sched.proofs.Answering.{filter-in}
use Rattle.hk_sched.proofs.Lacks.{none-is}
use Rattle.hk_sched.proofs.Saves.{first_pairs, first-same}
use Rattle.hk_sched.proofs.Taking.{all-by_in, all-in}

filter-alike : (f g : ℕ → Bool) (xs : List ℕ) → ((q : ℕ) → is_in xs q ≡ true → f q ≡ g q) → filter f xs ≡ filter g xs
filter-alike f g [] h = refl
filter-alike f g (x ∷ xs) h =
    rw (h x (rw (eq-eqb x x refl) refl)) (ap (λ (l : List ℕ). cond (g x) (x ∷ l) l) (filter-alike f g xs (λ q e. h q (elim (nat_eq q x) as (λ b. (b || is_in xs q) ≡ true) [ true ↦ refl | false ↦ e ]))))

some-member : (xs : List ℕ) → 0 < length xs → (p : ℕ) × (is_in xs p ≡ true)
some-member [] lt = absurd (omega arith)
some-member (x ∷ xs) lt = (x, rw (eq-eqb x x refl) refl)

member-some : (xs : List ℕ) (p : ℕ) → is_in xs p ≡ true → 0 < length xs
member-some [] p e = cc
member-some (x ∷ xs) p e = omega arith

none-test : (o : Option Page) → is_none o ≡ true → o ≡ None
none-test None e = refl
none-test (Some x) e = cc

length-begins : {A : Type 0} (xs ys rest : List A) → ys ≡ xs ++ rest → length xs ≤ length ys
length-begins xs ys rest e = omega (arith, ap length e, length-append xs rest)

module _ {C : Type 0} (shape : C → Shape) (run : C → ℕ → Pages → Run Page) (key : Key C) (is : IsKey run shape key) where
  abbrev pub R : ℕ → Pages → Run Page
  R = run key.common

  abbrev pub F : Pages
  F = fix key.lay (run key.common) (sown key)

  pub run-is : (m : Meaning C) → m.common ≡ key.common → run_of run m ≡ R m.item m.told
  run-is m e = ap (λ (c : C). run c m.item m.told) e

  pub gives-are : (m : Meaning C) → m.common ≡ key.common → to_give run m ≡ saves_of (R m.item m.told).log
  gives-are m e = ap (λ (r : Run Page). saves_of r.log) (run-is m e)

  -- more pages, more saves
  pub gives-more : (i : ℕ) (k m : Pages) → i < key.lay.items → Extends k m → (rest : List Save) × (saves_of (R i m).log ≡ saves_of (R i k).log ++ rest)
  gives-more i k m lt ext =
      let more : Begins (R i k).log (R i m).log = is.setting.laws.grows i k m lt ext in
      (saves_of more.0, ap saves_of more.1 ∙ saves_of-append (R i k).log more.0)

  -- what a lawful compiler waits for isn't told, and is of the layout
  pub awaits-none : (m : Meaning C) → IsMachine run key m → (p : ℕ) → is_in m.awaits p ≡ true → (m.told p ≡ None) × (p < pairs key.lay)
  awaits-none m lawful p h =
      let asking : IsAsking run m = lawful.asks (member-some m.awaits p h) in
      let end : (R m.item m.told).end ≡ waits m.awaits = ap (λ (r : Run Page). r.end) (sym (run-is m lawful.common)) ∙ asking.stops in
      let lacks : lacking m.told (asks_of (R m.item m.told).log) ≡ m.awaits = is.setting.laws.waiting m.item m.told lawful.in_range ∙ ap lacked end in
      let w = filter-in (λ q. is_none (m.told q)) (asks_of (R m.item m.told).log) p (rw lacks h) in
      (none-test (m.told p) w.1, all-in (λ q. q < pairs key.lay) (asks_of (R m.item m.told).log) (is.setting.laws.within m.item m.told lawful.in_range) p w.0)

  pub awaits-within : (m : Meaning C) → IsMachine run key m → All (λ p. p < pairs key.lay) m.awaits
  awaits-within m lawful = all-by_in (λ p. p < pairs key.lay) m.awaits (λ p h. (awaits-none m lawful p h).1)

  -- a lawful compiler that was answered known pages is lawful
  module _ (m : Meaning C) (lawful : IsMachine run key m) (k : Pages) (within : Extends k F) (ps : List ℕ) (sub : (p : ℕ) → is_in ps p ≡ true → is_in m.awaits p ≡ true) (has : (p : ℕ) → is_in ps p ≡ true → is_some (k p) ≡ true) where
    pub told-grows : Extends m.told (told_with k ps m).told
    told-grows q x e =
        elim (decide (is_in ps q)) [
          | inl t ↦ clash (is_some (m.told q)) (ap is_some (awaits-none m lawful q (sub q t)).0) (ap is_some e)
          | inr f ↦ rw f e
        ]

    told-lacks : (q : ℕ) → is_in m.awaits q ≡ true → is_none ((told_with k ps m).told q) ≡ not (is_in ps q)
    told-lacks q h =
        elim (decide (is_in ps q)) [
          | inl t ↦ rw t (none-is (k q) ∙ ap not (has q t))
          | inr f ↦ rw f (ap is_none (awaits-none m lawful q h).0)
        ]

    gives-same : 0 < length (told_with k ps m).awaits → (R m.item (told_with k ps m).told).log ≡ (R m.item m.told).log
    gives-same lt =
        let v = some-member (told_with k ps m).awaits lt in
        let w = filter-in (λ q. not (is_in ps q)) m.awaits v.0 v.1 in
        let asking : IsAsking run m = lawful.asks (member-some m.awaits v.0 w.0) in
        let end : (R m.item m.told).end ≡ waits m.awaits = ap (λ (r : Run Page). r.end) (sym (run-is m lawful.common)) ∙ asking.stops in
        is.setting.laws.still m.item m.told (told_with k ps m).told m.awaits v.0 lawful.in_range end told-grows (in-contains m.awaits v.0 w.0) (none-test ((told_with k ps m).told v.0) (told-lacks v.0 w.0 ∙ w.1))

    pub told-machine : IsMachine run key (told_with k ps m)
    told-machine =
        record {
          common = lawful.common;
          in_range = lawful.in_range;
          unseeded = lawful.unseeded;
          told = λ q x e. elim (is_in ps q) as (λ b. cond b (k q) (m.told q) ≡ Some x → F q ≡ Some x) [
            | true ↦ λ h. within q x h
            | false ↦ λ h. lawful.told q x h
          ] e;
          few =
              let more = gives-more m.item m.told (told_with k ps m).told lawful.in_range told-grows in
              omega (arith, lawful.few, ap length (gives-are m lawful.common), ap length (gives-are (told_with k ps m) lawful.common), length-begins (saves_of (R m.item m.told).log) (saves_of (R m.item (told_with k ps m).told).log) more.0 more.1);
          asks = λ lt.
              let v = some-member (told_with k ps m).awaits lt in
              let w = filter-in (λ q. not (is_in ps q)) m.awaits v.0 v.1 in
              let asking : IsAsking run m = lawful.asks (member-some m.awaits v.0 w.0) in
              let end : (R m.item m.told).end ≡ waits m.awaits = ap (λ (r : Run Page). r.end) (sym (run-is m lawful.common)) ∙ asking.stops in
              record {
                going = asking.going;
                quiet = asking.quiet;
                gave = omega (arith, asking.gave, ap length (gives-are m lawful.common), ap length (gives-are (told_with k ps m) lawful.common), ap (λ (l : List Mark). length (saves_of l)) (gives-same lt));
                stops =
                    ap (λ (r : Run Page). r.end) (run-is (told_with k ps m) lawful.common)
                    ∙ waits-on key.lay R is.setting.laws m.item m.told (told_with k ps m).told m.awaits v.0 lawful.in_range end told-grows (in-contains m.awaits v.0 w.0) (none-test ((told_with k ps m).told v.0) (told-lacks v.0 w.0 ∙ w.1))
                    ∙ ap waits (filter-alike (λ q. is_none ((told_with k ps m).told q)) (λ q. not (is_in ps q)) m.awaits told-lacks);
              };
        }

    pub told-backed : (l : Pages) (n : ℕ) → n ≤ m.given → ((p : ℕ) → is_in ps p ≡ true → is_some (l p) ≡ true) → IsBacked run l m n → IsBacked run l (told_with k ps m) n
    told-backed l n few knows u =
        record {
          told = λ p h. elim (decide (is_in ps p)) [
            | inl t ↦ knows p t
            | inr f ↦ u.told p (rw f at h)
          ];
          gave = λ p h. u.gave p (subst (λ (xs : List ℕ). Contains xs p) first h);
        }
      where
        more : (rest : List Save) × (saves_of (R m.item (told_with k ps m).told).log ≡ saves_of (R m.item m.told).log ++ rest)
        more = gives-more m.item m.told (told_with k ps m).told lawful.in_range told-grows

        first : first_pairs n (to_give run (told_with k ps m)) ≡ first_pairs n (to_give run m)
        first =
            ap (first_pairs n) (gives-are (told_with k ps m) lawful.common ∙ more.1)
            ∙ first-same (saves_of (R m.item m.told).log) more.0 n (omega (arith, few, lawful.few, ap length (gives-are m lawful.common)))
            ∙ ap (first_pairs n) (sym (gives-are m lawful.common))

  module _ {X : Type 0} (meaning : X → Meaning C) (b : BoardView X C) (l : IsLawful run meaning key b) where
    pub known-within : Extends (at_place b.known) F
    known-within q x e = sound key.lay R (sown key) is.setting.shape is.setting.laws is.setting.sown (reverse b.history) l.history q x (ap (λ (k : Pages). k q) (sym l.known) ∙ e)

    -- what a compiler was told is known, with the same pages
    pub told-known : (m : Meaning C) (n : ℕ) → IsMachine run key m → IsBacked run (at_place b.known) m n → Extends m.told (at_place b.known)
    told-known m n lawful u q x e =
        let v : (y : Page) × (at_place b.known q ≡ Some y) = the_some (at_place b.known q) (u.told q (ap is_some e)) in
        let both : Some v.0 ≡ Some x = sym (known-within q v.0 v.1) ∙ lawful.told q x e in
        v.1 ∙ both
