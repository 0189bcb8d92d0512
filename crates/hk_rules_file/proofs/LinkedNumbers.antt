-- The numbers that names and patterns get are in range, and what has numbers differs.
use Rattle.std.proofs.Common.{◌≡◌, ℕ, suc, ◌<◌, ◌≤◌, Bool, true, false, cond, List, [], ◌∷◌, ◌++◌, length, Option, Some, None, refl, sym, subst, arith, length-append}
use Rattle.std.specs.Prelude.{bytes_eq}
use Rattle.std.specs.List.{AllByRecursion, IsDistinct}
use Rattle.std.specs.Option.{option_map}
use Rattle.std.proofs.lemmas.List.{map-append, length-map}
use Rattle.hk_base.specs.Bytes.{Bytes}
use Rattle.hk_pattern.specs.declared.pattern.Pattern.{Pattern}
use Rattle.hk_rules_file.specs.Numbering.{place_of, texts_of, numbered, numbered_by}
use Rattle.hk_forms.specs.PatternText.{text_of}

-- ---- lists

pub all-push : {X : Type 0} (P : X → Type 0) (xs : List X) (y : X) → AllByRecursion P xs → P y → AllByRecursion P (xs ++ y ∷ [])
all-push P [] y h k = (k, tt)
all-push P (x ∷ xs) y h k = (h.0, all-push P xs y h.1 k)

pub all-append : {X : Type 0} (P : X → Type 0) (xs ys : List X) → AllByRecursion P xs → AllByRecursion P ys → AllByRecursion P (xs ++ ys)
all-append P [] ys h k = k
all-append P (x ∷ xs) ys h k = (h.0, all-append P xs ys h.1 k)

pub all-weaken : {X : Type 0} (P Q : X → Type 0) → ((x : X) → P x → Q x) → (xs : List X) → AllByRecursion P xs → AllByRecursion Q xs
all-weaken P Q f [] h = tt
all-weaken P Q f (x ∷ xs) h = (f x h.0, all-weaken P Q f xs h.1)

-- one more that differs from all before
pub distinct-push : {X : Type 0} (e : X → X → Bool) (xs : List X) (y : X) → IsDistinct e xs → AllByRecursion (λ x. e x y ≡ false) xs → IsDistinct e (xs ++ y ∷ [])
unfolding IsDistinct
distinct-push e [] y d h = (tt, tt)
distinct-push e (x ∷ xs) y d h = (all-push (λ z. e x z ≡ false) xs y d.0 h.0, distinct-push e xs y d.1 h.1)

-- ---- places

abbrev pub Below : ℕ → Option ℕ → Type 0
Below count None = Unit {0}
Below count (Some n) = n < count

below-suc : (count : ℕ) (o : Option ℕ) → Below count o → Below (suc count) (option_map suc o)
below-suc count None h = tt
below-suc count (Some n) h = omega arith

pub place_of-below : (text : Bytes) (xs : List Bytes) → Below (length xs) (place_of text xs)
place_of-below text [] = tt
place_of-below text (x ∷ xs) = elim (bytes_eq x text) as (λ b. Below (suc (length xs)) (cond b (Some 0) (option_map suc (place_of text xs)))) [
  | true ↦ omega arith
  | false ↦ below-suc (length xs) (place_of text xs) (place_of-below text xs)
]

abbrev Misses : Bytes → List Bytes → Option ℕ → Type 0
Misses text xs (Some n) = Unit {0}
Misses text xs None = AllByRecursion (λ x. bytes_eq x text ≡ false) xs

misses-suc : (text x : Bytes) (xs : List Bytes) (o : Option ℕ) → bytes_eq x text ≡ false → Misses text xs o → Misses text (x ∷ xs) (option_map suc o)
misses-suc text x xs (Some n) e h = tt
misses-suc text x xs None e h = (e, h)

-- a text without a place is none of them
pub place_of-misses : (text : Bytes) (xs : List Bytes) → Misses text xs (place_of text xs)
place_of-misses text [] = tt
place_of-misses text (x ∷ xs) = elim (bytes_eq x text) as (λ b. bytes_eq x text ≡ b → Misses text (x ∷ xs) (cond b (Some 0) (option_map suc (place_of text xs)))) [
  | true ↦ λ e. tt
  | false ↦ λ e. misses-suc text x xs (place_of text xs) e (place_of-misses text xs)
] refl

-- ---- patterns

-- patterns that come of others by some more: the texts still differ
pub record IsGrown (ps qs : List Pattern) : Type 0 where
  pub long : length ps ≤ length qs
  pub apart : IsDistinct bytes_eq (texts_of ps) → IsDistinct bytes_eq (texts_of qs)

pub grown-same : (ps : List Pattern) → IsGrown ps ps
grown-same ps = record { long = omega arith; apart = λ d. d }

pub grown-more : (ps qs rs : List Pattern) → IsGrown ps qs → IsGrown qs rs → IsGrown ps rs
grown-more ps qs rs a b = record { long = omega arith; apart = λ d. b.apart (a.apart d) }

numbered_by-grown : (ps : List Pattern) (p : Pattern) (o : Option ℕ) → Misses (text_of p) (texts_of ps) o → IsGrown ps (numbered_by o ps p).1
numbered_by-grown ps p (Some n) h = grown-same ps
numbered_by-grown ps p None h =
    record {
      long = omega (arith, length-append ps (p ∷ []));
      apart = λ d. subst (IsDistinct bytes_eq) (sym (map-append text_of ps (p ∷ []))) (distinct-push bytes_eq (texts_of ps) (text_of p) d h);
    }

pub numbered-grown : (ps : List Pattern) (p : Pattern) → IsGrown ps (numbered ps p).1
numbered-grown ps p = numbered_by-grown ps p (place_of (text_of p) (texts_of ps)) (place_of-misses (text_of p) (texts_of ps))

numbered_by-below : (ps : List Pattern) (p : Pattern) (o : Option ℕ) → Below (length (texts_of ps)) o → (numbered_by o ps p).0 < length (numbered_by o ps p).1
numbered_by-below ps p (Some n) h = subst (λ count. n < count) (length-map ps text_of) h
numbered_by-below ps p None h = omega (arith, length-append ps (p ∷ []))

pub numbered-below : (ps : List Pattern) (p : Pattern) → (numbered ps p).0 < length (numbered ps p).1
numbered-below ps p = numbered_by-below ps p (place_of (text_of p) (texts_of ps)) (place_of-below (text_of p) (texts_of ps))
