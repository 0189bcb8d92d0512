-- The first place, as a loop steps over a text.
use Rattle.std.proofs.Common.{◌≡◌, ℕ, suc, ◌+◌, ◌<◌, ◌≤◌, Bool, true, false, List, [], ◌∷◌, length, drop, cond, arith}
use Rattle.std.proofs.lemmas.List.{drop_more, drop_all}
use Rattle.hk_html.specs.Place.{first_place}

pub first_place-yes : (test : List ℕ → Bool) (x : ℕ) (xs : List ℕ) → test (x ∷ xs) ≡ true → first_place test (x ∷ xs) ≡ 0
first_place-yes test x xs e = rw e

pub first_place-no : (test : List ℕ → Bool) (x : ℕ) (xs : List ℕ) → test (x ∷ xs) ≡ false → first_place test (x ∷ xs) ≡ 1 + first_place test xs
first_place-no test x xs e = rw e

pub first_place-drop_yes : (test : List ℕ → Bool) (xs : List ℕ) (i : ℕ) → i < length xs → test (drop i xs) ≡ true → first_place test (drop i xs) ≡ 0
first_place-drop_yes test xs i within e =
    let cut = drop_more xs i 0 within in
    rw cut (first_place-yes test _ _ (rw cut at e))

pub first_place-drop_no : (test : List ℕ → Bool) (xs : List ℕ) (i : ℕ) → i < length xs → test (drop i xs) ≡ false → first_place test (drop i xs) ≡ 1 + first_place test (drop (i + 1) xs)
first_place-drop_no test xs i within e =
    let cut = drop_more xs i 0 within in
    rw cut (first_place-no test _ _ (rw cut at e))

pub first_place-drop_all : (test : List ℕ → Bool) (xs : List ℕ) (i : ℕ) → length xs ≤ i → first_place test (drop i xs) ≡ 0
first_place-drop_all test xs i past = rw (drop_all i xs past)

pub first_place-le : (test : List ℕ → Bool) (xs : List ℕ) → first_place test xs ≤ length xs
first_place-le test [] = omega arith
first_place-le test (x ∷ xs) =
    elim (test (x ∷ xs)) as (λ b. cond b 0 (1 + first_place test xs) ≤ suc (length xs)) [
      | true ↦ omega arith
      | false ↦ omega (arith, first_place-le test xs)
    ]
