-- Each step of a deque keeps its rule.
use Rattle.std.proofs.Common.{◌≡◌, ◌≢◌, ℕ, ◌<◌, ◌≤◌, true, false, true≢false, List, [], ◌∷◌, ◌++◌, length, zero, suc, set, is_some, All, Option, Some, None, MatchOption, IfSome, sym, refl, ap, ◌∙◌, subst, ⊎_elim, arith}
use Rattle.std.proofs.lemmas.List.Elements.{All-nil, All-cons, All-push, All-head, All-tail}
use mathlib.Core.Option.{some, some-injective, some-ne-none}
use lib.ListN.{get_elem?}
use Rattle.crossbeam_deque.specs.Tasks.{Pushes, Takes, Finds, FindsFew, Forks}
use Rattle.crossbeam_deque.proofs.Lists.{at_set, at_snoc, set_again}
use Rattle.hk_lock.specs.Lawful.{IsLawfulFor}
use Rattle.hk_steal.specs.declared.view.View.{View}
use Rattle.hk_steal.specs.View.{unnamed, keyed}
use Rattle.hk_steal.specs.Decked.{IsDeckState, FoundEmpty}

below : {A : Type 0} (l : List A) (i : ℕ) (a : A) → get_elem? l i ≡ some a → i < length l
below [] i a e = absurd (some-ne-none a (sym e))
below (x ∷ xs) zero a e = omega arith
below (x ∷ xs) (suc i) a e = let r = below xs i a e in omega (arith, r)

module _ {T K : Type 0} (lawful : K → T → Type 0) where
  abbrev V : Type 0
  V = View K

  abbrev Rule : List T → List V → Type 0
  Rule = IsDeckState lawful

  all_split : (P : T → Type 0) (xs ys : List T) → All P (xs ++ ys) → All P xs × All P ys
  all_split P [] ys h = (All-nil P, h)
  all_split P (x ∷ xs) ys h = let r = all_split P xs ys (All-tail P x (xs ++ ys) h) in (All-cons P x xs (All-head P x (xs ++ ys) h) r.0, r.1)

  same_one : (v u : V) → v ≡ u → u.key ≡ v.key
  same_one v u e = ap (λ (y : V). y.key) (sym e)

  only : (v : V) (port : ℕ) (u : V) → get_elem? (v ∷ []) port ≡ some u → u.key ≡ v.key
  only v zero u e = same_one v u (some-injective v u e)
  only v (suc port) u e = absurd (some-ne-none u (sym e))

  pub begins : Rule [] (unnamed ∷ [])
  begins = record {
    key = None;
    lawful_items = All-nil (IsLawfulFor lawful None);
    keyed = only unnamed;
    unnamed = λ _. refl;
  }

  -- the owner gets its key, and a pass with the same key comes
  names : (port : ℕ) (key : K) → Forks Rule port unnamed (keyed key) (keyed key)
  names port key items views h at =
      let none : None ≡ h.key = h.keyed port unnamed at in let one : length views ≡ 1 = h.unnamed (sym (ap is_some none)) in
      let w : V = keyed key in let vs : List V = set views port w in
      record {
        key = Some key;
        lawful_items = λ i d l. absurd ((subst (λ k. All (IsLawfulFor lawful k) items) (sym none) h.lawful_items) i d l);
        keyed = λ j u e. ⊎_elim
            (λ (e' : get_elem? vs j ≡ some u). ⊎_elim
            (λ (x : (j ≡ port) × (w ≡ u)). same_one w u x.1)
            (λ (x : (j ≢ port) × (get_elem? views j ≡ some u)). let mine = below views port unnamed at in let other = below views j u x.1 in absurd (x.0 (omega arith)))
            (at_set views port j w u e'))
            (λ (is : w ≡ u). same_one w u is)
            (at_snoc vs w u j e);
        unnamed = λ p. absurd (true≢false p);
      }

  pub names_at : (port : ℕ) (key : K) (v left right : V) → v ≡ unnamed → left ≡ keyed key → right ≡ keyed key → Forks Rule port v left right
  names_at port key v left right a b c = subst (λ (y : V × V × V). Forks Rule port y.0 y.1 y.2) (λ i. (sym a i, sym b i, sym c i)) (names port key)

  -- no deque is unnamed that has an end with a key
  has_key : (key : Option K) (v : V) → is_some v.key ≡ true → v.key ≡ key → is_some key ≡ false → ⊥
  has_key key v live is p = true≢false (sym live ∙ (ap is_some is ∙ p))

  pub splits : (port : ℕ) (v : V) → is_some v.key ≡ true → Forks Rule port v v v
  splits port v live items views h at = subst (λ vs. Rule items (vs ++ v ∷ [])) (sym (set_again views port v at)) record {
    key = h.key;
    lawful_items = h.lawful_items;
    keyed = λ j u e. ⊎_elim (λ (e' : get_elem? views j ≡ some u). h.keyed j u e') (λ (is : v ≡ u). same_one v u is ∙ h.keyed port v at) (at_snoc views v u j e);
    unnamed = λ p. absurd (has_key h.key v live (h.keyed port v at) p);
  }

  pub pushes : (port : ℕ) (v : V) (x : T) → IsLawfulFor lawful v.key x → Pushes Rule port v (x ∷ []) (λ w. w ≡ v)
  pushes port v x ok items views h at = (
    v,
    subst (Rule (items ++ x ∷ [])) (sym (set_again views port v at)) record {
      key = h.key;
      lawful_items = All-push (IsLawfulFor lawful h.key) items x h.lawful_items (subst (λ k. IsLawfulFor lawful k x) (h.keyed port v at) ok);
      keyed = h.keyed;
      unnamed = h.unnamed;
    },
    refl,
  )

  pub takes : (port : ℕ) (v : V) → Takes Rule port v 1 (λ xs w. (w ≡ v) × All (IsLawfulFor lawful v.key) xs)
  takes port v xs items views _ _ h at = let both = all_split (IsLawfulFor lawful h.key) xs items h.lawful_items in (
    v,
    subst (Rule items) (sym (set_again views port v at)) record { key = h.key; lawful_items = both.1; keyed = h.keyed; unnamed = h.unnamed },
    (refl, subst (λ k. All (IsLawfulFor lawful k) xs) (sym (h.keyed port v at)) both.0),
  )

  pub finds : (port : ℕ) (v : V) → Finds Rule port v (FoundEmpty lawful v.key)
  finds port v views h at = record { views = views; port = port; v = v; state = h; at = at; keyed = refl }

  pub finds_few : (most port : ℕ) (v : V) → most ≡ 0 → FindsFew Rule most port v (FoundEmpty lawful v.key)
  finds_few most port v z [] views few h at = finds port v views h at
  finds_few most port v z (x ∷ xs) views few h at = absurd (omega arith)

  -- what a task that was popped tells
  pub told : (key : Option K) (o : Option T) (v w : V) → v.key ≡ key → MatchOption o ((w ≡ v) × FoundEmpty lawful v.key) (λ x. (w ≡ v) × All (IsLawfulFor lawful v.key) (x ∷ [])) → IfSome o (λ x. IsLawfulFor lawful key x)
  told key None v w is h = tt
  told key (Some x) v w is h = subst (λ k. IsLawfulFor lawful k x) is (All-head (IsLawfulFor lawful v.key) x [] h.1)
