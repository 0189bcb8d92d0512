-- What clap's lexer says of a word, against the words of the definition.
use Rattle.std.proofs.Common.{◌≡◌, ◌∙◌, ◌==◌, ◌+◌, ◌||◌, ℕ, suc, Bool, true, false, not, cond, refl, ap, subst, arith, take, drop, Option, Some, None, [], ◌∷◌, ◌++◌}
use Rattle.std.specs.Prelude.{option_and_then}
use Rattle.std.specs.List.{list_any, prefix_len}
use Rattle.std.proofs.lemmas.Bool.{eqb-true}
use Rattle.clap.specs.Lexer.{long_of, long_of_rest, name_and_value, short_of, short_of_rest, strip_byte}
use Rattle.hk_base.specs.Bytes.{Bytes}
use Rattle.hk_words.specs.Given.{after}

-- ---- the parts of a word

strip_is : (c : ℕ) (word rest : Bytes) → strip_byte c word ≡ Some rest → word ≡ c ∷ rest
strip_is c [] rest e = cc
strip_is c (x ∷ xs) rest e = go (x == c) refl e
  where
    go : (b : Bool) → (x == c) ≡ b → cond b (Some xs) None ≡ Some rest → x ∷ xs ≡ c ∷ rest
    go true t f = let same : x ≡ c = eqb-true x c t in cc
    go false t f = cc

-- `=` and a value
abbrev pub tail : Option Bytes → Bytes
tail None = []
tail (Some value) = 61 ∷ value

abbrev is_equals : ℕ → Bool
is_equals x = x == 61

parts_are : (t : Bytes) → t ≡ (name_and_value t).0 ++ tail (name_and_value t).1
parts_are [] = refl
parts_are (x ∷ xs) = go (x == 61) refl (parts_are xs)
  where
    n : ℕ
    n = prefix_len (λ y. not (is_equals y)) xs

    go : (b : Bool) → (x == 61) ≡ b → xs ≡ take (prefix_len (λ y. not (is_equals y)) xs) xs ++ tail (cond (list_any is_equals xs) (Some (drop (prefix_len (λ y. not (is_equals y)) xs + 1) xs)) None)
        → x ∷ xs ≡ take (cond (not b) (1 + prefix_len (λ y. not (is_equals y)) xs) 0) (x ∷ xs)
        ++ tail (cond (b || list_any is_equals xs) (Some (drop (cond (not b) (1 + prefix_len (λ y. not (is_equals y)) xs) 0 + 1) (x ∷ xs))) None)
    go true e h = ap (λ k. k ∷ xs) (eqb-true x 61 e)
    go false e h =
        let one : 1 + prefix_len (λ y. not (is_equals y)) xs ≡ suc (prefix_len (λ y. not (is_equals y)) xs) = omega arith in
        let two : 1 + prefix_len (λ y. not (is_equals y)) xs + 1 ≡ suc (prefix_len (λ y. not (is_equals y)) xs + 1) = omega arith in
        rw (two, one) (ap (λ t. x ∷ t) h)

-- a word with two hyphens, by its parts
pub long_is : (word : Bytes) (l : Bytes × Option Bytes) → long_of word ≡ Some l → word ≡ 45 ∷ 45 ∷ (l.0 ++ tail l.1)
long_is word l e = first (strip_byte 45 word) refl e
  where
    rest_is : (t : Bytes) → long_of_rest t ≡ Some l → t ≡ l.0 ++ tail l.1
    rest_is [] f = cc
    rest_is (x ∷ xs) f =
        let same : name_and_value (x ∷ xs) ≡ l = cc in
        subst (λ (m : Bytes × Option Bytes). x ∷ xs ≡ m.0 ++ tail m.1) same (parts_are (x ∷ xs))

    second : (t : Bytes) (o : Option Bytes) → strip_byte 45 t ≡ o → option_and_then long_of_rest o ≡ Some l → t ≡ 45 ∷ (l.0 ++ tail l.1)
    second t None s f = cc
    second t (Some u) s f = strip_is 45 t u s ∙ ap (λ v. 45 ∷ v) (rest_is u f)

    first : (o : Option Bytes) → strip_byte 45 word ≡ o → option_and_then long_of_rest (option_and_then (strip_byte 45) o) ≡ Some l → word ≡ 45 ∷ 45 ∷ (l.0 ++ tail l.1)
    first None s f = cc
    first (Some t) s f = strip_is 45 word t s ∙ ap (λ v. 45 ∷ v) (second t (strip_byte 45 t) refl f)

abbrev pub IsDashed : Bytes → Type 0
IsDashed word = (t : Bytes) × (word ≡ 45 ∷ t)

pub long_is_dashed : (word : Bytes) (l : Bytes × Option Bytes) → long_of word ≡ Some l → IsDashed word
long_is_dashed word l e = (45 ∷ (l.0 ++ tail l.1), long_is word l e)

pub short_is_dashed : (word flags : Bytes) → short_of word ≡ Some flags → IsDashed word
short_is_dashed word flags e = go (strip_byte 45 word) refl e
  where
    go : (o : Option Bytes) → strip_byte 45 word ≡ o → option_and_then short_of_rest o ≡ Some flags → IsDashed word
    go None s f = cc
    go (Some t) s f = (t, strip_is 45 word t s)

-- what follows a beginning
pub after_is : (start word value : Bytes) → after start word ≡ Some value → word ≡ start ++ value
after_is [] word value e = cc
after_is (b ∷ bs) [] value e = cc
after_is (b ∷ bs) (x ∷ xs) value e = go (b == x) refl e (after_is bs xs value)
  where
    go : (t : Bool) → (b == x) ≡ t → cond t (after bs xs) None ≡ Some value → (after bs xs ≡ Some value → xs ≡ bs ++ value) → x ∷ xs ≡ b ∷ (bs ++ value)
    go true t f h =
        let same : b ≡ x = eqb-true b x t in
        let rest : xs ≡ bs ++ value = h f in
        cc
    go false t f h = cc
