-- Trimming byte by byte.
use Rattle.std.proofs.Common.{◌≡◌, ℕ, Bool, true, false, if◌then◌else◌, ◌&&◌, [], ◌∷◌, ◌++◌, refl, ap, ◌∙◌}
use Rattle.std.specs.List.{list_all}
use Rattle.hk_base.specs.Bytes.{Bytes}
use Rattle.hk_template.specs.Tree.{is_blank, trim_start, trim_end}
use Rattle.hk_template.proofs.Bools.{when_true, when_false, both_true}

pub start_blank : (c : ℕ) (cs : Bytes) → is_blank c ≡ true → trim_start (c ∷ cs) ≡ trim_start cs
start_blank c cs e = when_true (is_blank c) (trim_start cs) (c ∷ cs) (trim_start cs) e refl

pub start_kept : (c : ℕ) (cs : Bytes) → is_blank c ≡ false → trim_start (c ∷ cs) ≡ c ∷ cs
start_kept c cs e = when_false (is_blank c) (trim_start cs) (c ∷ cs) (c ∷ cs) e refl

all_last : (xs : Bytes) (c : ℕ) → is_blank c ≡ true → list_all is_blank (xs ++ c ∷ []) ≡ list_all is_blank xs
all_last [] c e = both_true (is_blank c) true e refl
all_last (x ∷ xs) c e = ap (λ b. is_blank x && b) (all_last xs c e)

pub end_blank : (xs : Bytes) (c : ℕ) → is_blank c ≡ true → trim_end (xs ++ c ∷ []) ≡ trim_end xs
end_blank [] c e = when_true (list_all is_blank (c ∷ [])) [] (c ∷ trim_end []) [] (both_true (is_blank c) true e refl) refl
end_blank (x ∷ xs) c e =
    ap (λ b. if (is_blank x && b) then [] else x ∷ trim_end (xs ++ c ∷ [])) (all_last xs c e)
    ∙ ap (λ t. if (is_blank x && list_all is_blank xs) then [] else x ∷ t) (end_blank xs c e)

some_kept : (xs : Bytes) (c : ℕ) → is_blank c ≡ false → list_all is_blank (xs ++ c ∷ []) ≡ false
some_kept [] c e = ap (λ b. b && true) e
some_kept (x ∷ xs) c e = by_test (is_blank x) (some_kept xs c e)
  where
    by_test : (b : Bool) → list_all is_blank (xs ++ c ∷ []) ≡ false → (b && list_all is_blank (xs ++ c ∷ [])) ≡ false
    by_test true h = h
    by_test false h = refl

pub end_kept : (xs : Bytes) (c : ℕ) → is_blank c ≡ false → trim_end (xs ++ c ∷ []) ≡ xs ++ c ∷ []
end_kept [] c e = when_false (list_all is_blank (c ∷ [])) [] (c ∷ trim_end []) (c ∷ []) (some_kept [] c e) refl
end_kept (x ∷ xs) c e = when_false (list_all is_blank (x ∷ (xs ++ c ∷ []))) [] (x ∷ trim_end (xs ++ c ∷ [])) (x ∷ (xs ++ c ∷ [])) (some_kept (x ∷ xs) c e) (ap (λ t. x ∷ t) (end_kept xs c e))
