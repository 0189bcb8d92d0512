-- Items that lead to one another: trails, cycles and what leads into one.
use Rattle.std.proofs.Common.{◌≡◌, refl, sym, ap, ◌∙◌, subst, arith, ℕ, zero, suc, ◌+◌, ◌<◌, ◌≤◌, Bool, true, false, cond, ◌||◌, ◌&&◌, ◌⊎◌, inl, inr, List, [], ◌∷◌, ◌++◌, length, reverse, append_assoc, Option, Some, None, nat_eq, nat_le, eqb-true, eq-eqb, length-append}
use Rattle.std.proofs.lemmas.List.{reverse-append}
use Rattle.std.proofs.lemmas.List.Folds.{list_any-append}
use Rattle.std.proofs.lemmas.Bool.{leb-true, le-leb}
use Rattle.std.specs.List.{AllByRecursion, IsDistinct, list_all}
use Rattle.hk_chain.specs.Kept.{at_place}
use Rattle.hk_fix.specs.Facts.{is_in}
use Rattle.hk_fix.specs.Report.{trail_by, trail, before, followers, on_cycle, is_least}
use Rattle.hk_fix.specs.Walks.{IsWalk}
use Rattle.hk_fix.proofs.Orders.{clash, decide, or_cases, or_right}

pub or_left : (a b : Bool) → a ≡ true → (a || b) ≡ true
or_left true b e = refl
or_left false b e = cc

pub in-append : (xs ys : List ℕ) (m : ℕ) → is_in (xs ++ ys) m ≡ (is_in xs m || is_in ys m)
in-append xs ys m = list_any-append (nat_eq m) xs ys

pub in-left : (xs ys : List ℕ) (m : ℕ) → is_in xs m ≡ true → is_in (xs ++ ys) m ≡ true
in-left xs ys m e = in-append xs ys m ∙ or_left (is_in xs m) (is_in ys m) e

pub in-right : (xs ys : List ℕ) (m : ℕ) → is_in ys m ≡ true → is_in (xs ++ ys) m ≡ true
in-right xs ys m e = in-append xs ys m ∙ or_right (is_in xs m) (is_in ys m) e

pub in-here : (xs : List ℕ) (m : ℕ) → is_in (m ∷ xs) m ≡ true
in-here xs m = or_left (nat_eq m m) (is_in xs m) (eq-eqb m m refl)

pub all-in : (S : ℕ → Bool) (xs : List ℕ) (m : ℕ) → AllByRecursion (λ q. S q ≡ true) xs → is_in xs m ≡ true → S m ≡ true
all-in S [] m h e = cc
all-in S (x ∷ xs) m h e =
    elim (or_cases (nat_eq m x) (is_in xs m) e) [
      | inl t ↦ rw (eqb-true m x t) h.0
      | inr t ↦ all-in S xs m h.1 t
    ]

pub split-at : (xs : List ℕ) (m : ℕ) → is_in xs m ≡ true → (a b : List ℕ) × (xs ≡ a ++ m ∷ b)
split-at [] m e = cc
split-at (x ∷ xs) m e =
    elim (or_cases (nat_eq m x) (is_in xs m) e) [
      | inl t ↦ ([], xs, rw (eqb-true m x t) refl)
      | inr t ↦ let r = split-at xs m t in (x ∷ r.0, r.1, ap (λ l. x ∷ l) r.2)
    ]

module _ (leads : List (Option ℕ)) where
  -- the items xs follow v, and the last of them is u
  abbrev pub Path : ℕ → List ℕ → ℕ → Type 0
  Path v [] u = v ≡ u
  Path v (x ∷ xs) u = (at_place leads v ≡ Some x) × Path x xs u

  pub path-append : (v : ℕ) (xs : List ℕ) (u : ℕ) (ys : List ℕ) (w : ℕ) → Path v xs u → Path u ys w → Path v (xs ++ ys) w
  path-append v [] u ys w p q = rw p q
  path-append v (x ∷ xs) u ys w p q = (p.0, path-append x xs u ys w p.1 q)

  pub path-split : (v : ℕ) (xs : List ℕ) (y : ℕ) (ys : List ℕ) (u : ℕ) → Path v (xs ++ y ∷ ys) u → Path v (xs ++ y ∷ []) y × Path y ys u
  path-split v [] y ys u p = ((p.0, refl), p.1)
  path-split v (x ∷ xs) y ys u p = let r = path-split x xs y ys u p.1 in ((p.0, r.0), r.1)

  -- a path of at most n items begins the trail
  pub trail-path : (n v : ℕ) (xs : List ℕ) (u : ℕ) → Path v xs u → length xs ≤ n → (more : List ℕ) × (trail leads n v ≡ xs ++ more)
  trail-path n v [] u p le = (trail leads n v, refl)
  trail-path zero v (x ∷ xs) u p le = absurd (omega arith)
  trail-path (suc n) v (x ∷ xs) u p le =
      let r : (more : List ℕ) × (trail leads n x ≡ xs ++ more) = trail-path n x xs u p.1 (omega arith) in
      (r.0, ap (λ o. trail_by o (trail leads n)) p.0 ∙ ap (λ l. x ∷ l) r.1)

  abbrev pub Closed : (ℕ → Bool) → Type 0
  Closed S = (q w : ℕ) → S q ≡ true → at_place leads q ≡ Some w → S w ≡ true

  pub trail-enters : (S : ℕ → Bool) → Closed S → (n v : ℕ) → ((w : ℕ) → at_place leads v ≡ Some w → S w ≡ true) → AllByRecursion (λ q. S q ≡ true) (trail leads n v)
  trail-enters S c zero v h = tt
  trail-enters S c (suc n) v h =
      elim (at_place leads v) as (λ o. at_place leads v ≡ o → AllByRecursion (λ q. S q ≡ true) (trail_by o (trail leads n))) [
        | None ↦ λ e. tt
        | Some j ↦ λ e. (h j e, trail-enters S c n j (λ w f. c j w (h j e) f))
      ] refl

  -- what leads into a closed set from outside is on no cycle
  pub off-cycle : (S : ℕ → Bool) → Closed S → (n v : ℕ) → ((w : ℕ) → at_place leads v ≡ Some w → S w ≡ true) → S v ≡ false → is_in (trail leads n v) v ≡ false
  off-cycle S c n v h out =
      elim (decide (is_in (trail leads n v) v)) [
        | inl t ↦ clash (S v) out (all-in S (trail leads n v) v (trail-enters S c n v h) t)
        | inr f ↦ f
      ]

  some-same : (a b : ℕ) → Some a ≡ Some b → a ≡ b
  some-same a b e = cc

  pub walk-step : (rs : List ℕ) (start : ℕ) (hit : Option ℕ) → IsWalk leads rs start hit → (q w : ℕ) → is_in rs q ≡ true → at_place leads q ≡ Some w → (is_in rs w ≡ true) ⊎ (hit ≡ Some w)
  walk-step [] start hit k q w i e = cc
  walk-step (r ∷ rs) start hit k q w i e =
      elim (or_cases (nat_eq q r) (is_in rs q) i) [
        | inl t ↦ inr (sym k.0 ∙ (ap (at_place leads) (sym (eqb-true q r t)) ∙ e))
        | inr t ↦ elim (walk-step rs start (Some r) k.1 q w t e) [
          | inl s ↦ inl (or_right (nat_eq w r) (is_in rs w) s)
          | inr s ↦ inl (or_left (nat_eq w r) (is_in rs w) (eq-eqb w r (sym (some-same r w s))))
        ]
      ]

  abbrev pub with_one : ℕ → (ℕ → Bool) → ℕ → Bool
  with_one r S q = nat_eq q r || S q

  outside-both : (a b : Bool) → a ≡ false → b ≡ false → (a || b) ≡ false
  outside-both true b p q = p
  outside-both false b p q = q

  apart : (r : ℕ) (rs : List ℕ) (S : ℕ → Bool) → AllByRecursion (λ y. nat_eq r y ≡ false) rs → AllByRecursion (λ y. S y ≡ false) rs → AllByRecursion (λ y. with_one r S y ≡ false) rs
  apart r [] S d o = tt
  apart r (y ∷ rs) S d o = (outside-both (nat_eq y r) (S y) (other r y d.0) o.0, apart r rs S d.1 o.1)
    where
      other : (a b : ℕ) → nat_eq a b ≡ false → nat_eq b a ≡ false
      other a b t = grind (arith, t)

  -- the items of a walk into a closed set are on no cycle
  pub walk-off : (n : ℕ) (S : ℕ → Bool) → Closed S → (rs : List ℕ) (start : ℕ) (hit : Option ℕ) → IsWalk leads rs start hit → ((w : ℕ) → hit ≡ Some w → S w ≡ true) → IsDistinct nat_eq rs → AllByRecursion (λ r. S r ≡ false) rs → AllByRecursion (λ r. is_in (trail leads n r) r ≡ false) rs
  unfolding IsDistinct
  walk-off n S c [] start hit k h d o = tt
  walk-off n S c (r ∷ rs) start hit k h d o =
      (off-cycle S c n r (λ w e. h w (sym k.0 ∙ e)) o.0, walk-off n (with_one r S) closed rs start (Some r) k.1 (λ w e. or_left (nat_eq w r) (S w) (eq-eqb w r (sym (some-same r w e)))) d.1 (apart r rs S d.0 o.1))
    where
      closed : Closed (with_one r S)
      closed q w i e =
          elim (or_cases (nat_eq q r) (S q) i) [
            | inl t ↦ or_right (nat_eq w r) (S w) (h w (sym k.0 ∙ (ap (at_place leads) (sym (eqb-true q r t)) ∙ e)))
            | inr t ↦ or_right (nat_eq w r) (S w) (c q w t e)
          ]

  -- a walk as a path
  pub walk-path : (b : List ℕ) (w : ℕ) (a : List ℕ) (start u : ℕ) → IsWalk leads (b ++ w ∷ a) start (Some u) → Path w (reverse b ++ u ∷ []) u
  walk-path [] w a start u k = (k.0, refl)
  walk-path (r ∷ b) w a start u k =
      let p : Path w (reverse b ++ r ∷ []) r = walk-path b w a start r k.1 in
      subst (λ (l : List ℕ). Path w (l ++ u ∷ []) u) (sym (reverse-append (r ∷ []) b)) (path-append w (reverse b ++ r ∷ []) r (u ∷ []) u p (k.0, refl))

  -- what an item of a path leads to is the next of it
  path-next : (v : ℕ) (ys : List ℕ) (u q x : ℕ) → Path v (ys ++ u ∷ []) u → is_in (v ∷ ys) q ≡ true → at_place leads q ≡ Some x → is_in (ys ++ u ∷ []) x ≡ true
  path-next v [] u q x p i e =
      elim (or_cases (nat_eq q v) false i) [
        | inl t ↦ or_left (nat_eq x u) false (eq-eqb x u (sym (some-same u x (sym p.0 ∙ (ap (at_place leads) (sym (eqb-true q v t)) ∙ e)))))
        | inr t ↦ cc
      ]
  path-next v (y ∷ ys) u q x p i e =
      elim (or_cases (nat_eq q v) (is_in (y ∷ ys) q) i) [
        | inl t ↦ or_left (nat_eq x y) (is_in (ys ++ u ∷ []) x) (eq-eqb x y (sym (some-same y x (sym p.0 ∙ (ap (at_place leads) (sym (eqb-true q v t)) ∙ e)))))
        | inr t ↦ or_right (nat_eq x y) (is_in (ys ++ u ∷ []) x) (path-next y ys u q x p.1 t e)
      ]

  turned : (w a q b : Bool) → (w || (a || (q || b))) ≡ true → ((b || (w || false)) || (a || (q || false))) ≡ true
  turned true true true true e = refl
  turned true true true false e = refl
  turned true true false true e = refl
  turned true true false false e = refl
  turned true false true true e = refl
  turned true false true false e = refl
  turned true false false true e = refl
  turned true false false false e = refl
  turned false true true true e = refl
  turned false true true false e = refl
  turned false true false true e = refl
  turned false true false false e = refl
  turned false false true true e = refl
  turned false false true false e = refl
  turned false false false true e = refl
  turned false false false false e = cc

  end-first : (w r : Bool) → (r || (w || false)) ≡ true → (w || r) ≡ true
  end-first true r e = refl
  end-first false true e = refl
  end-first false false e = cc

  first-end : (w r : Bool) → (w || r) ≡ true → (r || (w || false)) ≡ true
  first-end true true e = refl
  first-end true false e = refl
  first-end false true e = refl
  first-end false false e = cc

  -- a cycle: the items of rest follow w, and then w again
  module _ (w : ℕ) (rest : List ℕ) (round : Path w (rest ++ w ∷ []) w) where
    pub round-closed : Closed (λ q. is_in (w ∷ rest) q)
    round-closed q x i e = end-first (nat_eq x w) (is_in rest x) (sym (in-append rest (w ∷ []) x) ∙ path-next w rest w q x round i e)

    -- from each of its items it comes round
    pub comes-round : (q : ℕ) → is_in (w ∷ rest) q ≡ true → (xs : List ℕ) × Path q xs q × (length xs ≡ length rest + 1) × ((m : ℕ) → is_in (w ∷ rest) m ≡ true → is_in xs m ≡ true)
    comes-round q i = by (split-at (w ∷ rest) q i)
      where
        at : (a b : List ℕ) → w ∷ rest ≡ a ++ q ∷ b → (xs : List ℕ) × Path q xs q × (length xs ≡ length rest + 1) × ((m : ℕ) → is_in (w ∷ rest) m ≡ true → is_in xs m ≡ true)
        at [] b e =
            let same : w ≡ q = cc in
            (rest ++ w ∷ [], subst (λ (v : ℕ). Path v (rest ++ w ∷ []) v) same round, length-append rest (w ∷ []), λ m j. in-append rest (w ∷ []) m ∙ first-end (nat_eq m w) (is_in rest m) j)
        at (y ∷ a) b e =
            let same : w ≡ y = cc in
            let tail : rest ≡ a ++ q ∷ b = cc in
            let p : Path w (a ++ q ∷ (b ++ w ∷ [])) w = subst (λ (l : List ℕ). Path w l w) (ap (λ (l : List ℕ). l ++ w ∷ []) tail ∙ append_assoc a (q ∷ b) (w ∷ [])) round in
            let r = path-split w a q (b ++ w ∷ []) w p in (
              (b ++ w ∷ []) ++ (a ++ q ∷ []),
              path-append q (b ++ w ∷ []) w (a ++ q ∷ []) q r.1 r.0,
              omega (arith, length-append (b ++ w ∷ []) (a ++ q ∷ []), length-append b (w ∷ []), length-append a (q ∷ []), length-append a (q ∷ b), ap length tail),
              λ m j. in-append (b ++ w ∷ []) (a ++ q ∷ []) m ∙ (ap (λ t. t || is_in (a ++ q ∷ []) m) (in-append b (w ∷ []) m) ∙ (ap (λ t. (is_in b m || (nat_eq m w || false)) || t) (in-append a (q ∷ []) m)
                  ∙ turned (nat_eq m w) (is_in a m) (nat_eq m q) (is_in b m) (sym (ap (λ t. nat_eq m w || t) (ap (λ (l : List ℕ). is_in l m) tail ∙ in-append a (q ∷ b) m)) ∙ j))),
            )

        by : (a b : List ℕ) × (w ∷ rest ≡ a ++ q ∷ b) → (xs : List ℕ) × Path q xs q × (length xs ≡ length rest + 1) × ((m : ℕ) → is_in (w ∷ rest) m ≡ true → is_in xs m ≡ true)
        by s = at s.0 s.1 s.2

    module _ (n : ℕ) (short : length rest < n) where
      -- each item's trail has all of them
      pub trail-has : (q m : ℕ) → is_in (w ∷ rest) q ≡ true → is_in (w ∷ rest) m ≡ true → is_in (trail leads n q) m ≡ true
      trail-has q m i j =
          let c = comes-round q i in
          let t : (more : List ℕ) × (trail leads n q ≡ c.0 ++ more) = trail-path n q c.0 q c.1 (omega (arith, c.2)) in
          ap (λ (l : List ℕ). is_in l m) t.1 ∙ in-left c.0 t.0 m (c.3 m j)

      not-least : (q m : ℕ) (xs : List ℕ) → m < q → is_in xs m ≡ true → list_all (nat_le q) xs ≡ false
      not-least q m [] lt i = cc
      not-least q m (x ∷ xs) lt i =
          elim (or_cases (nat_eq m x) (is_in xs m) i) [
            | inl t ↦ below-fails (nat_le q x) (list_all (nat_le q) xs) (elim (decide (nat_le q x)) [ inl l ↦ absurd (omega (arith, leb-true q x l, eqb-true m x t)) | inr f ↦ f ])
            | inr t ↦ fails (nat_le q x) (list_all (nat_le q) xs) (not-least q m xs lt t)
          ]
        where
          below-fails : (a b : Bool) → a ≡ false → (a && b) ≡ false
          below-fails true b e = cc
          below-fails false b e = refl

          fails : (a b : Bool) → b ≡ false → (a && b) ≡ false
          fails true b e = e
          fails false b e = refl

      pub greater-member : (q m : ℕ) → is_in (w ∷ rest) q ≡ true → is_in (w ∷ rest) m ≡ true → m < q → list_all (nat_le q) (trail leads n q) ≡ false
      greater-member q m i j lt = not-least q m (trail leads n q) lt (trail-has q m i j)

      all-le : (m : ℕ) (ms : List ℕ) → AllByRecursion (λ q. m ≤ q) ms → (xs : List ℕ) → AllByRecursion (λ q. is_in ms q ≡ true) xs → list_all (nat_le m) xs ≡ true
      all-le m ms h [] k = refl
      all-le m ms h (x ∷ xs) k = rw (le-leb m x (least-of ms x h k.0)) (all-le m ms h xs k.1)
        where
          least-of : (ns : List ℕ) (y : ℕ) → AllByRecursion (λ q. m ≤ q) ns → is_in ns y ≡ true → m ≤ y
          least-of [] y g i = cc
          least-of (z ∷ ns) y g i = elim (or_cases (nat_eq y z) (is_in ns y) i) [ inl t ↦ rw (eqb-true y z t) g.0 | inr t ↦ least-of ns y g.1 t ]

      pub least-member : (m : ℕ) → is_in (w ∷ rest) m ≡ true → AllByRecursion (λ q. m ≤ q) (w ∷ rest) → list_all (nat_le m) (trail leads n m) ≡ true
      least-member m i h = all-le m (w ∷ rest) h (trail leads n m) (trail-enters (λ q. is_in (w ∷ rest) q) round-closed n m (λ x e. round-closed m x i e))

  before-is : (w : ℕ) (rest more : List ℕ) → is_in rest w ≡ false → before w (rest ++ w ∷ more) ≡ rest
  before-is w [] more e = rw (eq-eqb w w refl) refl
  before-is w (x ∷ rest) more e =
      elim (nat_eq w x) as (λ b. (b || is_in rest w) ≡ false → cond b [] (x ∷ before w (rest ++ w ∷ more)) ≡ x ∷ rest) [
        | true ↦ λ h. cc
        | false ↦ λ h. ap (λ l. x ∷ l) (before-is w rest more h)
      ] e

  -- where the cycle's items are known, they are its members
  pub round-members : (n w : ℕ) (rest : List ℕ) → Path w (rest ++ w ∷ []) w → length rest < n → is_in rest w ≡ false → before w (trail leads n w) ≡ rest
  round-members n w rest p lt e =
      let t : (more : List ℕ) × (trail leads n w ≡ (rest ++ w ∷ []) ++ more) = trail-path n w (rest ++ w ∷ []) w p (omega (arith, length-append rest (w ∷ []))) in
      ap (before w) (t.1 ∙ append_assoc rest (w ∷ []) t.0) ∙ before-is w rest t.0 e

  -- an item that follows is reached by a path
  pub path-of : (n u v : ℕ) → is_in (trail leads n u) v ≡ true → Path u (before v (trail leads n u) ++ v ∷ []) v × (length (before v (trail leads n u)) < n)
  path-of zero u v i = cc
  path-of (suc n) u v i =
      elim (at_place leads u) as (λ o. at_place leads u ≡ o → is_in (trail_by o (trail leads n)) v ≡ true → Path u (before v (trail_by o (trail leads n)) ++ v ∷ []) v × (length (before v (trail_by o (trail leads n))) < suc n)) [
        | None ↦ λ e h. cc
        | Some j ↦ λ e h. at j (λ g. path-of n j v g) e h
      ] refl i
    where
      at : (j : ℕ) → (is_in (trail leads n j) v ≡ true → Path j (before v (trail leads n j) ++ v ∷ []) v × (length (before v (trail leads n j)) < n)) → at_place leads u ≡ Some j → is_in (j ∷ trail leads n j) v ≡ true → Path u (before v (j ∷ trail leads n j) ++ v ∷ []) v × (length (before v (j ∷ trail leads n j)) < suc n)
      at j rec e h =
          elim (nat_eq v j) as (λ b. nat_eq v j ≡ b → (b || is_in (trail leads n j) v) ≡ true → Path u (cond b [] (j ∷ before v (trail leads n j)) ++ v ∷ []) v × (length (cond b [] (j ∷ before v (trail leads n j))) < suc n)) [
            | true ↦ λ t g. ((e ∙ ap Some (sym (eqb-true v j t)), refl), omega arith)
            | false ↦ λ t g. let r = rec g in ((e, r.0), omega (arith, r.1))
          ] refl h

  least-exists : (x : ℕ) (xs : List ℕ) → (m : ℕ) × (is_in (x ∷ xs) m ≡ true) × AllByRecursion (λ q. m ≤ q) (x ∷ xs)
  least-exists x [] = (x, in-here [] x, (omega arith, tt))
  least-exists x (y ∷ ys) =
      let r = least-exists y ys in
      elim (decide (nat_le x r.0)) [
        | inl t ↦ (x, in-here (y ∷ ys) x, (omega arith, all-more x r.0 (leb-true x r.0 t) (y ∷ ys) r.2))
        | inr f ↦ (r.0, or_right (nat_eq r.0 x) (is_in (y ∷ ys) r.0) r.1, (above x r.0 f, r.2))
      ]
    where
      all-more : (a b : ℕ) → a ≤ b → (ns : List ℕ) → AllByRecursion (λ q. b ≤ q) ns → AllByRecursion (λ q. a ≤ q) ns
      all-more a b le [] h = tt
      all-more a b le (n ∷ ns) h = (omega (arith, le, h.0), all-more a b le ns h.1)

      above : (a b : ℕ) → nat_le a b ≡ false → b ≤ a
      above a b f = grind (arith, f)

  -- each cycle has a least member
  pub least-on-cycle : (q : ℕ) → on_cycle leads q ≡ true → (m : ℕ) × (on_cycle leads m ≡ true) × (is_least leads m ≡ true)
  least-on-cycle q e =
      let r = path-of (length leads) q q e in
      let l = least-exists q (before q (followers leads q)) in
      (l.0, trail-has q (before q (followers leads q)) r.0 (length leads) r.1 l.0 l.0 l.1 l.1, least-member q (before q (followers leads q)) r.0 (length leads) r.1 l.0 l.1 l.2)
