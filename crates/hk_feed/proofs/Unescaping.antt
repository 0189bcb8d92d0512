-- Names read again give what was escaped.
use Rattle.std.proofs.Common.{◌≡◌, refl, sym, ap, ◌∙◌, subst, arith, ℕ, zero, suc, ◌<◌, ◌≤◌, ◌==◌, Bool, true, false, cond, not, ◌&&◌, List, [], ◌∷◌, ◌++◌, append_assoc, append-nil, length, get_or, filter, inl, inr, Option, Some, None}
use Rattle.std.proofs.lemmas.Bool.{cases_eq, ne_eqb}
use Rattle.std.proofs.lemmas.Str.{inside_one}
use Rattle.std.specs.Prelude.{encode_utf8, encode_utf8_all, chars}
use Rattle.std.specs.List.{flat_map}
use Rattle.std.specs.Str.Lossy.{utf8_lossy}
use Rattle.hk_base.specs.Bytes.{Bytes}
use Rattle.hk_feed.specs.Xml.{is_kept, escaped, text_of_char, xml, kept_chars, kept, named, name_at, replaced_by, unescaped_after, unescaped}

kept-text : (c : ℕ) (cs : List ℕ) (b : Bool) → is_kept c ≡ b → text_of_char c ++ flat_map escaped (filter is_kept cs) ≡ flat_map escaped (filter is_kept (c ∷ cs))
kept-text c cs true e = rw e refl
kept-text c cs false e = rw e refl

written-chars : (cs : List ℕ) → flat_map text_of_char cs ≡ flat_map escaped (filter is_kept cs)
written-chars [] = refl
written-chars (c ∷ cs) = ap (λ l. text_of_char c ++ l) (written-chars cs) ∙ kept-text c cs (is_kept c) refl

-- the text is written character by character
pub written-xml : (bytes : Bytes) → flat_map text_of_char (chars (utf8_lossy bytes)) ≡ xml bytes
unfolding xml
written-xml bytes = written-chars (chars (utf8_lossy bytes))

no-name : (x : ℕ) (xs : Bytes) → (x ≡ 38 → ⊥) → name_at x xs ≡ None
no-name x xs h = ap (λ b. cond b (named xs) None) (ne_eqb x 38 h)

-- bytes without an `&` stay
plain-bytes : (xs ys : Bytes) → ((k : ℕ) → k < length xs → get_or xs k 0 ≡ 38 → ⊥) → unescaped_after 0 (xs ++ ys) ≡ xs ++ unescaped_after 0 ys
plain-bytes [] ys h = refl
plain-bytes (x ∷ xs) ys h =
    ap (λ o. replaced_by x (λ passed. unescaped_after passed (xs ++ ys)) o) (no-name x (xs ++ ys) (h 0 (omega arith)))
    ∙ ap (λ l. x ∷ l) (plain-bytes xs ys (λ k below e. h (suc k) (omega (arith, below)) e))

-- the bytes of a character are no `&`, unless it is one
plain-char : (c k : ℕ) → (c ≡ 38 → ⊥) → k < length (encode_utf8 c) → get_or (encode_utf8 c) k 0 ≡ 38 → ⊥
plain-char c k h below e = h (inside_one c [] (encode_utf8 c) k (sym (append-nil _)) below (omega (arith, e)) ∙ e)

plain-escape : (c : ℕ) → (c ≡ 38 → ⊥) → (c ≡ 60 → ⊥) → (c ≡ 62 → ⊥) → (c ≡ 34 → ⊥) → (c ≡ 39 → ⊥) → escaped c ≡ encode_utf8 c
plain-escape c a b d e f = rw (ne_eqb c 38 a, ne_eqb c 60 b, ne_eqb c 62 d, ne_eqb c 34 e, ne_eqb c 39 f) refl

-- an escaped character is read again as it was
one-char : (c : ℕ) (ys : Bytes) → unescaped_after 0 (escaped c ++ ys) ≡ encode_utf8 c ++ unescaped_after 0 ys
unfolding lib.Utf8.encode
one-char c ys = elim (cases_eq c 38) [
  | inl same ↦ rw same refl
  | inr a ↦ elim (cases_eq c 60) [
    | inl same ↦ rw same refl
    | inr b ↦ elim (cases_eq c 62) [
      | inl same ↦ rw same refl
      | inr d ↦ elim (cases_eq c 34) [
        | inl same ↦ rw same refl
        | inr e ↦ elim (cases_eq c 39) [
          | inl same ↦ rw same refl
          | inr f ↦ ap (λ l. unescaped_after 0 (l ++ ys)) (plain-escape c a b d e f) ∙ plain-bytes (encode_utf8 c) ys (λ k below x. plain-char c k a below x)
        ]
      ]
    ]
  ]
]

all-chars : (cs : List ℕ) → unescaped_after 0 (flat_map escaped cs) ≡ encode_utf8_all cs
all-chars [] = refl
all-chars (c ∷ cs) = one-char c (flat_map escaped cs) ∙ ap (λ l. encode_utf8 c ++ l) (all-chars cs)

pub unescaped-xml : (bytes : Bytes) → unescaped (xml bytes) ≡ kept bytes
unfolding xml
unescaped-xml bytes = all-chars (kept_chars bytes)
