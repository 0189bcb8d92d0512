-- A stable sort is the one that puts each element in its order.
use Rattle.std.proofs.Common.{◌≡◌, refl, sym, ap, ◌∙◌, subst, arith, ℕ, suc, ◌<◌, ◌≤◌, Bool, true, false, cond, not, ◌&&◌, List, [], ◌∷◌, length, get_or, filter}
use Rattle.std.specs.List.{AllByRecursion}
use Rattle.std.specs.List.Sorted.{IsSortedBy, IsStableBy, ties}
use Rattle.std.specs.Cmp.{IsStrictWeakOrder}
use Rattle.std.proofs.lemmas.List.Sorted.{sorted_far}
use Rattle.hk_chain.specs.Sorting.{put_by, sorted_by}

module _ {X : Type 0} (earlier : X → X → Bool) where
  -- none of these is earlier
  abbrev Above : X → List X → Type 0
  Above d es = AllByRecursion (λ e. earlier e d ≡ false) es

  abbrev Up : List X → Type 0
  Up [] = Unit {0}
  Up (d ∷ ds) = Above d ds × Up ds

  -- what comes after in the order comes after in the list
  up-of : (ds : List X) → ((i j : ℕ) (d : X) → i ≤ j → j < length ds → earlier (get_or ds j d) (get_or ds i d) ≡ false) → Up ds
  up-of [] h = tt
  up-of (d ∷ ds) h = (above ds (λ j e lt. h 0 (suc j) e (omega arith) (omega (arith, lt))), up-of ds (λ i j e le lt. h (suc i) (suc j) e (omega (arith, le)) (omega (arith, lt))))
    where
      above : (es : List X) → ((j : ℕ) (e : X) → j < length es → earlier (get_or es j e) d ≡ false) → Above d es
      above [] h = tt
      above (e ∷ es) h = (h 0 e (omega arith), above es (λ j f lt. h (suc j) f (omega (arith, lt))))

  not-true : (b : Bool) → not b ≡ true → b ≡ false
  not-true true e = cc
  not-true false e = refl

  and-left : (a b : Bool) → (a && b) ≡ true → a ≡ true
  and-left true b e = refl
  and-left false b e = cc

  and-right : (a b : Bool) → (a && b) ≡ true → b ≡ true
  and-right true b e = e
  and-right false b e = cc

  false-is-not-true : {A : Type 0} (b : Bool) → b ≡ true → b ≡ false → A
  false-is-not-true true e f = cc
  false-is-not-true false e f = cc

  above-filter : (t : X → Bool) (d : X) (es : List X) → Above d es → Above d (filter t es)
  above-filter t d [] h = tt
  above-filter t d (e ∷ es) h = elim (t e) as (λ b. Above d (cond b (e ∷ filter t es) (filter t es))) [
    | true ↦ (h.0, above-filter t d es h.1)
    | false ↦ above-filter t d es h.1
  ]

  module _ (order : IsStrictWeakOrder earlier) where
    pub not-before : (d : X) → earlier d d ≡ false
    not-before d = elim (earlier d d) as (λ b. earlier d d ≡ b → b ≡ false) [
      | true ↦ λ e. sym e ∙ order.one_way d d e
      | false ↦ λ e. refl
    ] refl

    ties-self : (d : X) → ties earlier d d ≡ true
    ties-self d = ap (λ b. not b && not b) (not-before d)

    -- none that ties with both is earlier than the other
    ties-both : (x d e : X) → ties earlier x d ≡ true → ties earlier x e ≡ true → earlier e d ≡ false
    ties-both x d e a b =
        order.chain e x d (not-true (earlier e x) (and-right (not (earlier x e)) (not (earlier e x)) b)) (not-true (earlier x d) (and-left (not (earlier x d)) (not (earlier d x)) a))

    -- ---- the sort

    above-put : (d e : X) (es : List X) → earlier d e ≡ false → Above e es → Above e (put_by earlier d es)
    above-put d e [] h a = (h, tt)
    above-put d e (f ∷ es) h a = elim (earlier f d) as (λ b. Above e (cond b (f ∷ put_by earlier d es) (d ∷ f ∷ es))) [
      | true ↦ (a.0, above-put d e es h a.1)
      | false ↦ (h, (a.0, a.1))
    ]

    above-more : (d e : X) (es : List X) → earlier e d ≡ false → Above e es → Above d es
    above-more d e [] h a = tt
    above-more d e (f ∷ es) h a = (order.chain f e d a.0 h, above-more d e es h a.1)

    up-put : (d : X) (es : List X) → Up es → Up (put_by earlier d es)
    up-put d [] u = (tt, tt)
    up-put d (e ∷ es) u = elim (earlier e d) as (λ b. earlier e d ≡ b → Up (cond b (e ∷ put_by earlier d es) (d ∷ e ∷ es))) [
      | true ↦ λ h. (above-put d e es (order.one_way e d h) u.0, up-put d es u.1)
      | false ↦ λ h. ((h, above-more d e es h u.0), (u.0, u.1))
    ] refl

    up-sort : (ds : List X) → Up (sorted_by earlier ds)
    up-sort [] = tt
    up-sort (d ∷ ds) = up-put d (sorted_by earlier ds) (up-sort ds)

    -- one that goes behind another doesn't tie with what that ties with
    swap-filter : (x d e : X) (rest : List X) (t u : Bool) → ties earlier x d ≡ t → ties earlier x e ≡ u → earlier e d ≡ true
        → cond u (e ∷ cond t (d ∷ rest) rest) (cond t (d ∷ rest) rest) ≡ cond t (d ∷ cond u (e ∷ rest) rest) (cond u (e ∷ rest) rest)
    swap-filter x d e rest true true a b h = false-is-not-true (earlier e d) h (ties-both x d e a b)
    swap-filter x d e rest true false a b h = refl
    swap-filter x d e rest false true a b h = refl
    swap-filter x d e rest false false a b h = refl

    filter-put : (x d : X) (es : List X) → filter (ties earlier x) (put_by earlier d es) ≡ filter (ties earlier x) (d ∷ es)
    filter-put x d [] = refl
    filter-put x d (e ∷ es) = elim (earlier e d) as (λ b. earlier e d ≡ b → filter (ties earlier x) (cond b (e ∷ put_by earlier d es) (d ∷ e ∷ es)) ≡ filter (ties earlier x) (d ∷ e ∷ es)) [
      | true ↦ λ h. ap (λ l. cond (ties earlier x e) (e ∷ l) l) (filter-put x d es) ∙ swap-filter x d e (filter (ties earlier x) es) (ties earlier x d) (ties earlier x e) refl refl h
      | false ↦ λ h. refl
    ] refl

    filter-sort : (x : X) (ds : List X) → filter (ties earlier x) (sorted_by earlier ds) ≡ filter (ties earlier x) ds
    filter-sort x [] = refl
    filter-sort x (d ∷ ds) = filter-put x d (sorted_by earlier ds) ∙ ap (λ l. cond (ties earlier x d) (d ∷ l) l) (filter-sort x ds)

    -- ---- two lists in order with the same ties are the same

    same-first : (d e : X) (ds es : List X) → Up (d ∷ ds) → Up (e ∷ es) → ((x : X) → filter (ties earlier x) (d ∷ ds) ≡ filter (ties earlier x) (e ∷ es)) → d ≡ e
    same-first d e ds es u v same = at (ties earlier d e) refl
      where
        -- the first stands in the other list
        there : filter (ties earlier d) (e ∷ es) ≡ d ∷ filter (ties earlier d) ds
        there = sym (same d) ∙ ap (λ b. cond b (d ∷ filter (ties earlier d) ds) (filter (ties earlier d) ds)) (ties-self d)

        back : filter (ties earlier e) (d ∷ ds) ≡ e ∷ filter (ties earlier e) es
        back = same e ∙ ap (λ b. cond b (e ∷ filter (ties earlier e) es) (filter (ties earlier e) es)) (ties-self e)

        first-of : (a b : X) (ls ms : List X) → a ∷ ls ≡ b ∷ ms → a ≡ b
        first-of a b ls ms h = cc

        behind : (a b : X) (bs rest : List X) → Above b bs → ties earlier a b ≡ false → filter (ties earlier a) (b ∷ bs) ≡ a ∷ rest → earlier a b ≡ false
        behind a b bs rest h t w =
            let f : filter (ties earlier a) bs ≡ a ∷ rest = ap (λ c. cond c (b ∷ filter (ties earlier a) bs) (filter (ties earlier a) bs)) (sym t) ∙ w in
            (subst (Above b) f (above-filter (ties earlier a) b bs h)).0

        flip : (a b : Bool) → (not a && not b) ≡ (not b && not a)
        flip true true = refl
        flip true false = refl
        flip false true = refl
        flip false false = refl

        at : (c : Bool) → ties earlier d e ≡ c → d ≡ e
        at true t = sym (first-of e d (filter (ties earlier d) es) (filter (ties earlier d) ds) (sym (ap (λ c. cond c (e ∷ filter (ties earlier d) es) (filter (ties earlier d) es)) t) ∙ there))
        at false t =
            let t' : ties earlier e d ≡ false = flip (earlier e d) (earlier d e) ∙ t in
            let a : earlier d e ≡ false = behind d e es (filter (ties earlier d) ds) v.0 t there in
            let b : earlier e d ≡ false = behind e d ds (filter (ties earlier e) es) u.0 t' back in
            false-is-not-true (ties earlier d e) (ap (λ c. not c && not (earlier e d)) a ∙ ap not b) t

    same-rest : (d : X) (c : Bool) (xs ys : List X) → cond c (d ∷ xs) xs ≡ cond c (d ∷ ys) ys → xs ≡ ys
    same-rest d true xs ys e = cc
    same-rest d false xs ys e = e

    no-more : (d : X) (ds : List X) → filter (ties earlier d) (d ∷ ds) ≡ [] → ⊥
    no-more d ds e = let f : d ∷ filter (ties earlier d) ds ≡ [] = ap (λ b. cond b (d ∷ filter (ties earlier d) ds) (filter (ties earlier d) ds)) (sym (ties-self d)) ∙ e in cc

    same-ups : (ds es : List X) → Up ds → Up es → ((x : X) → filter (ties earlier x) ds ≡ filter (ties earlier x) es) → ds ≡ es
    same-ups [] [] u v same = refl
    same-ups [] (e ∷ es) u v same = absurd (no-more e es (sym (same e)))
    same-ups (d ∷ ds) [] u v same = absurd (no-more d ds (same d))
    same-ups (d ∷ ds) (e ∷ es) u v same =
        let first : d ≡ e = same-first d e ds es u v same in
        let rest : ds ≡ es = same-ups ds es u.1 v.1 (λ x. same-rest d (ties earlier x d) (filter (ties earlier x) ds) (filter (ties earlier x) es) (same x ∙ ap (λ y. cond (ties earlier x y) (y ∷ filter (ties earlier x) es) (filter (ties earlier x) es)) (sym first))) in
        ap (λ y. y ∷ ds) first ∙ ap (λ l. e ∷ l) rest

    pub sorted-same : (ds es : List X) → IsSortedBy earlier es → IsStableBy earlier ds es → es ≡ sorted_by earlier ds
    sorted-same ds es up stable = same-ups es (sorted_by earlier ds) (up-of es (λ i j d le lt. sorted_far earlier order es up i j d le lt)) (up-sort ds) (λ x. stable x ∙ sym (filter-sort x ds))
