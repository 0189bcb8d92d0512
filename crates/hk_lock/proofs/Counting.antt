-- How many members of a list pass a test, where one of them changes or one comes.
use Rattle.std.proofs.Common.{◌≡◌, ◌≢◌, ℕ, zero, suc, ◌+◌, ◌<◌, ◌≤◌, Bool, cond, List, [], ◌∷◌, ◌++◌, length, set, sym, refl, ap, subst, arith}
use Rattle.std.specs.List.{count_by}
use Rattle.std.proofs.lemmas.List.Sums.{sum_by-cons, sum_by_push}
use mathlib.Core.Option.{some, some-injective, some-ne-none}
use lib.ListN.{get_elem?}
use Rattle.atomic_table.proofs.Lists.{set_else}

-- 1 where the test passes
abbrev pub one : Bool → ℕ
one b = cond b 1 0

module _ {V : Type 0} where
  pub inside : (vs : List V) (i : ℕ) (v : V) → get_elem? vs i ≡ some v → i < length vs
  inside [] i v at = absurd (some-ne-none v (sym at))
  inside (x ∷ xs) zero v at = omega arith
  inside (x ∷ xs) (suc i) v at = let h = inside xs i v at in omega arith

  count_cons : (p : V → Bool) (x : V) (xs : List V) → count_by p (x ∷ xs) ≡ one (p x) + count_by p xs
  count_cons p x xs = sum_by-cons (λ y. one (p y)) x xs

  pub count_snoc : (p : V → Bool) (vs : List V) (w : V) → count_by p (vs ++ w ∷ []) ≡ count_by p vs + one (p w)
  count_snoc p vs w = sum_by_push (λ y. one (p y)) vs w

  pub count_set : (p : V → Bool) (vs : List V) (i : ℕ) (v w : V) → get_elem? vs i ≡ some v → count_by p (set vs i w) + one (p v) ≡ count_by p vs + one (p w)
  count_set p [] i v w at = absurd (some-ne-none v (sym at))
  count_set p (x ∷ xs) zero v w at =
      let e : one (p x) ≡ one (p v) = ap (λ y. one (p y)) (some-injective x v at) in let a = count_cons p x xs in let b = count_cons p w xs in omega arith
  count_set p (x ∷ xs) (suc i) v w at = let h = count_set p xs i v w at in let a = count_cons p x xs in let b = count_cons p x (set xs i w) in omega arith

  pub count_at : (p : V → Bool) (vs : List V) (i : ℕ) (v : V) → get_elem? vs i ≡ some v → one (p v) ≤ count_by p vs
  count_at p [] i v at = absurd (some-ne-none v (sym at))
  count_at p (x ∷ xs) zero v at = let e : one (p x) ≡ one (p v) = ap (λ y. one (p y)) (some-injective x v at) in let a = count_cons p x xs in omega arith
  count_at p (x ∷ xs) (suc i) v at = let h = count_at p xs i v at in let a = count_cons p x xs in omega arith

  -- where one alone passes, and it is this one, no other does
  pub sole : (p : V → Bool) (vs : List V) (i : ℕ) (v : V) (j : ℕ) (u gone : V) → count_by p vs ≡ 1 → get_elem? vs i ≡ some v → one (p v) ≡ 1 → one (p gone) ≡ 0 → get_elem? vs j ≡ some u → j ≢ i → one (p u) ≡ 0
  sole p vs i v j u gone alone at passes fails at' apart =
      let s = count_set p vs i v gone at in
      let there : get_elem? (set vs i gone) j ≡ some u = subst (λ o. o ≡ some u) (sym (set_else vs i j gone apart)) at' in
      let t = count_at p (set vs i gone) j u there in
      omega arith

  -- each that passes p passes q
  pub no_more : (p q : V → Bool) (vs : List V) → ((j : ℕ) (u : V) → get_elem? vs j ≡ some u → one (p u) ≤ one (q u)) → count_by p vs ≤ count_by q vs
  no_more p q [] each = omega arith
  no_more p q (x ∷ xs) each =
      let h = no_more p q xs (λ j u at. each (suc j) u at) in let e = each 0 x refl in let a = count_cons p x xs in let b = count_cons q x xs in omega arith

  -- and one passes q alone
  pub fewer : (p q : V → Bool) (vs : List V) (i : ℕ) (v : V) → ((j : ℕ) (u : V) → get_elem? vs j ≡ some u → one (p u) ≤ one (q u)) → get_elem? vs i ≡ some v → one (p v) < one (q v) → count_by p vs < count_by q vs
  fewer p q [] i v each at less = absurd (some-ne-none v (sym at))
  fewer p q (x ∷ xs) zero v each at less =
      let e : x ≡ v = some-injective x v at in let l : one (p x) < one (q x) = subst (λ y. one (p y) < one (q y)) (sym e) less in
      let h = no_more p q xs (λ j u at'. each (suc j) u at') in let a = count_cons p x xs in let b = count_cons q x xs in omega arith
  fewer p q (x ∷ xs) (suc i) v each at less =
      let h = fewer p q xs i v (λ j u at'. each (suc j) u at') at less in let e = each 0 x refl in let a = count_cons p x xs in let b = count_cons q x xs in omega arith
