-- Texts that a byte separates.
use Rattle.std.proofs.Common.{◌≡◌, ◌≢◌, ℕ, Bool, true, false, List, [], ◌∷◌, ◌++◌, refl, ap, subst, ◌∙◌}
use Rattle.std.specs.List.{AllByRecursion, list_all}
use Rattle.hk_base.proofs.Both.{not-both, left-part, right-part}

-- a byte stands nowhere in a text
abbrev pub Lacks : ℕ → List ℕ → Type 0
Lacks c xs = AllByRecursion (λ x. x ≢ c) xs

pub lacks-by : (t : ℕ → Bool) (c : ℕ) (xs : List ℕ) → t c ≡ false → list_all t xs ≡ true → Lacks c xs
lacks-by t c [] fails h = tt
lacks-by t c (x ∷ xs) fails h = (λ e. not-both (t x) (left-part (t x) (list_all t xs) h) (ap t e ∙ fails), lacks-by t c xs fails (right-part (t x) (list_all t xs) h))

pub lacks-append : (c : ℕ) (xs ys : List ℕ) → Lacks c xs → Lacks c ys → Lacks c (xs ++ ys)
lacks-append c [] ys p q = q
lacks-append c (x ∷ xs) ys p q = (p.0, lacks-append c xs ys p.1 q)

lacks-none : (c : ℕ) (xs ys : List ℕ) → Lacks c (xs ++ c ∷ ys) → ⊥
lacks-none c [] ys p = p.0 refl
lacks-none c (x ∷ xs) ys p = lacks-none c xs ys p.1

-- what stands before the first such byte, and what stands behind it
pub first-parts : (c : ℕ) (a b s t : List ℕ) → Lacks c a → Lacks c b → a ++ c ∷ s ≡ b ++ c ∷ t → (a ≡ b) × (s ≡ t)
first-parts c [] [] s t p q e = (refl, cc)
first-parts c [] (y ∷ b) s t p q e = let same : y ≡ c = cc in absurd (q.0 same)
first-parts c (x ∷ a) [] s t p q e = let same : x ≡ c = cc in absurd (p.0 same)
first-parts c (x ∷ a) (y ∷ b) s t p q e =
    let rest : a ++ c ∷ s ≡ b ++ c ∷ t = cc in
    let r = first-parts c a b s t p.1 q.1 rest in
    let front : a ≡ b = r.0 in
    (cc, r.1)

-- and of the last one
pub last-parts : (c : ℕ) (a b s t : List ℕ) → Lacks c s → Lacks c t → a ++ c ∷ s ≡ b ++ c ∷ t → (a ≡ b) × (s ≡ t)
last-parts c [] [] s t p q e = (refl, cc)
last-parts c [] (y ∷ b) s t p q e = let rest : s ≡ b ++ c ∷ t = cc in absurd (lacks-none c b t (subst (Lacks c) rest p))
last-parts c (x ∷ a) [] s t p q e = let rest : t ≡ a ++ c ∷ s = cc in absurd (lacks-none c a s (subst (Lacks c) rest q))
last-parts c (x ∷ a) (y ∷ b) s t p q e =
    let rest : a ++ c ∷ s ≡ b ++ c ∷ t = cc in
    let r = last-parts c a b s t p q rest in
    let front : a ≡ b = r.0 in
    (cc, r.1)
