-- Letters by either case are those that one small letter stands for.
use Rattle.std.proofs.Common.{◌≡◌, ℕ, ◌+◌, ◌<◌, ◌≤◌, ◌⊎◌, nat_eq, [], ◌∷◌, arith, refl, sym, ap, ◌∙◌, inl, inr, Decides}
use Rattle.std.proofs.lemmas.Bool.{cases_lt}
use Rattle.std.specs.Char.{to_ascii_lowercase}
use Rattle.std.specs.Str.{str_eq_ignore_ascii_case, str_to_ascii_lowercase}
use Rattle.std.specs.Prelude.{bytes_eq}
use Rattle.std.proofs.lemmas.Bool.Decides.{nat_tests, Decides-eqb, Decides-like, Decides-and}
use Rattle.hk_base.specs.Bytes.{Bytes}
use Rattle.hk_laws.specs.Letters.{IsCapitalOf, SameLetter, SameLetters}

lower_before : (x : ℕ) → x < 65 → to_ascii_lowercase x ≡ x
lower_before x h = grind (arith, nat_tests)

lower_capital : (x : ℕ) → 65 ≤ x → x ≤ 90 → to_ascii_lowercase x ≡ x + 32
lower_capital x from to = grind (arith, nat_tests)

lower_after : (x : ℕ) → 90 < x → to_ascii_lowercase x ≡ x
lower_after x h = grind (arith, nat_tests)

-- a capital letter, or a byte that is its own small letter
record IsCapital (x small : ℕ) : Type 0 where
  pub from_a : 65 ≤ x
  pub to_z : x ≤ 90
  pub small_one : small ≡ x + 32

lower_cases : (x : ℕ) → IsCapital x (to_ascii_lowercase x) ⊎ (to_ascii_lowercase x ≡ x)
lower_cases x =
    elim (cases_lt x 65) [
      | inl before ↦ inr (lower_before x before)
      | inr from ↦ elim (cases_lt 90 x) [
        | inl after ↦ inr (lower_after x after)
        | inr to ↦ inl (record { from_a = from; to_z = to; small_one = lower_capital x from to })
      ]
    ]

capital_lower : (x y : ℕ) → IsCapitalOf x y → to_ascii_lowercase x ≡ to_ascii_lowercase y
capital_lower x y is =
    let past : 90 < y = omega (arith, is.from_a, is.small_one) in
    lower_capital x is.from_a is.to_z ∙ sym is.small_one ∙ sym (lower_after y past)

same_lower : (x y : ℕ) → SameLetter x y → to_ascii_lowercase x ≡ to_ascii_lowercase y
same_lower x y (inl e) = ap to_ascii_lowercase e
same_lower x y (inr (inl is)) = capital_lower x y is
same_lower x y (inr (inr is)) = sym (capital_lower y x is)

-- two bytes with the same small letter
by_small : (x y a b : ℕ) → a ≡ b → IsCapital x a ⊎ (a ≡ x) → IsCapital y b ⊎ (b ≡ y) → SameLetter x y
by_small x y a b e (inl is) (inl it) = inl (omega (arith, is.small_one, it.small_one))
by_small x y a b e (inl is) (inr it) = inr (inl (record { from_a = is.from_a; to_z = is.to_z; small_one = sym it ∙ sym e ∙ is.small_one }))
by_small x y a b e (inr is) (inl it) = inr (inr (record { from_a = it.from_a; to_z = it.to_z; small_one = sym is ∙ e ∙ it.small_one }))
by_small x y a b e (inr is) (inr it) = inl (sym is ∙ e ∙ it)

lower_same : (x y : ℕ) → to_ascii_lowercase x ≡ to_ascii_lowercase y → SameLetter x y
lower_same x y e = by_small x y (to_ascii_lowercase x) (to_ascii_lowercase y) e (lower_cases x) (lower_cases y)

-- the test without regard to case tells the same letters
pub same_letters : (a b : Bytes) → Decides (str_eq_ignore_ascii_case a b) (SameLetters a b)
same_letters [] [] = (λ e. tt, λ same. refl)
same_letters [] (y ∷ ys) = (λ e. cc, λ same. elim same [ ])
same_letters (x ∷ xs) [] = (λ e. cc, λ same. elim same [ ])
same_letters (x ∷ xs) (y ∷ ys) =
    Decides-and (nat_eq (to_ascii_lowercase x) (to_ascii_lowercase y)) (bytes_eq (str_to_ascii_lowercase xs) (str_to_ascii_lowercase ys))
    (Decides-like (nat_eq (to_ascii_lowercase x) (to_ascii_lowercase y)) (lower_same x y) (same_lower x y) (Decides-eqb (to_ascii_lowercase x) (to_ascii_lowercase y)))
    (same_letters xs ys)
