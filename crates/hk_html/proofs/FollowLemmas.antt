-- A text with roots begins like the text, up to the first tag.
use Rattle.std.proofs.Common.{◌≡◌, ℕ, suc, ◌+◌, ◌<◌, ◌≤◌, Bool, true, false, cond, not, ◌&&◌, ◌==◌, nat_eq, List, [], ◌∷◌, ◌++◌, Option, Some, None, codes, length, drop, take, arith, refl, sym, ap, subst, ◌∙◌}
use Rattle.std.specs.List.{list_all, flat_map, starts_with}
use Rattle.std.specs.Char.{is_ascii_alphabetic}
use Rattle.std.specs.Str.{bytes_eq}
use Rattle.std.proofs.lemmas.Bool.{eqb-true, eqb-false, ne_eqb, and_parts, not-true}
use Rattle.std.proofs.lemmas.List.{take-append-le, take-take, length-take-le, length-take}
use Rattle.std.proofs.lemmas.Slice.Eq.{bytes_eq-Decides}
use Rattle.hk_base.specs.Bytes.{Bytes}
use Rattle.hk_html.specs.Kind.{is_tag_byte, first, after_run}
use Rattle.hk_html.specs.Part.{Part, parts_of}
use Rattle.hk_html.specs.Piece.{Piece, comment, other, first_piece, tag_by, piece_text, piece_with_root}
use Rattle.hk_html.specs.Place.{first_place, place_of_word}
use Rattle.hk_html.specs.Relative.{with_roots}
use Rattle.hk_html.proofs.PlaceLemmas.{first_place-yes, first_place-no}
use Rattle.hk_html.proofs.WholeLemmas.{pieces-cons}

-- the bytes of the first text, up to the first that is no piece of its own
abbrev pub Follows : Bytes → Bytes → Type 0
Follows [] other_text = other_text ≡ []
Follows (x ∷ xs) other_text = (ys : Bytes) × (other_text ≡ x ∷ ys) × (first_piece x xs ≡ other x → Follows xs ys)

tag_by-head : (root : Bytes) (x : ℕ) (xs : Bytes) (found : Option (List Part)) → let text = piece_with_root root (tag_by x xs found) in text ≡ x ∷ drop 1 text
tag_by-head root x xs None = refl
tag_by-head root x xs (Some parts) = refl

pub piece_head : (root : Bytes) (x : ℕ) (xs : Bytes) → let text = piece_with_root root (first_piece x xs) in text ≡ x ∷ drop 1 text
piece_head root x xs =
    elim (starts_with nat_eq (x ∷ xs) (codes "<!--")) as (λ b. let text = piece_with_root root (cond b
    (comment (x ∷ take (place_of_word (codes "-->") (drop 3 xs) + 6) xs))
    (cond (x == 60 && is_ascii_alphabetic (first xs)) (tag_by x xs (parts_of (after_run is_tag_byte xs))) (other x))) in text ≡ x ∷ drop 1 text) [
      | true ↦ refl
      | false ↦ elim (x == 60 && is_ascii_alphabetic (first xs)) as (λ b. let text = piece_with_root root (cond b (tag_by x xs (parts_of (after_run is_tag_byte xs))) (other x)) in text ≡ x ∷ drop 1 text) [
        | true ↦ tag_by-head root x xs (parts_of (after_run is_tag_byte xs))
        | false ↦ refl
      ]
    ]

pub with_roots-cons : (root : Bytes) (x : ℕ) (xs : Bytes) → with_roots root (x ∷ xs) ≡ piece_with_root root (first_piece x xs) ++ with_roots root (drop (length (piece_text (first_piece x xs))) (x ∷ xs))
with_roots-cons root x xs = ap (λ all. flat_map (piece_with_root root) all) (pieces-cons x xs)

pub follows : (root text : Bytes) → Follows text (with_roots root text)
follows root [] = refl
follows root (x ∷ xs) =
    let piece = first_piece x xs in
    let left = with_roots root (drop (length (piece_text piece)) (x ∷ xs)) in (
      drop 1 (piece_with_root root piece) ++ left,
      with_roots-cons root x xs ∙ ap (λ text. text ++ left) (piece_head root x xs),
      λ plain. subst (λ (p : Piece). Follows xs (drop 1 (piece_with_root root p) ++ with_roots root (drop (length (piece_text p)) (x ∷ xs)))) (sym plain) (follows root xs),
    )

-- any byte but `<` is a piece of its own
pub plain_piece : (x : ℕ) (xs : Bytes) → (x ≡ 60 → ⊥) → first_piece x xs ≡ other x
plain_piece x xs plain =
    let left = ne_eqb 60 x (λ e. plain (sym e)) in
    let right = ne_eqb x 60 plain in
    rw (left, right)

-- so words without `<` stand where they stood
pub word_follows : (word text again : Bytes) → list_all (λ b. not (b == 60)) word ≡ true → Follows text again
    → bytes_eq word (take (length word) again) ≡ bytes_eq word (take (length word) text)
word_follows [] text again plain same = refl
word_follows (c ∷ cs) [] again plain same = rw same
word_follows (c ∷ cs) (x ∷ xs) again plain same =
    let tests = and_parts (not (c == 60)) (list_all (λ b. not (b == 60)) cs) plain in
    ap (λ (t : Bytes). bytes_eq (c ∷ cs) (take (suc (length cs)) t)) same.1
    ∙ elim (nat_eq c x) as (λ b. nat_eq c x ≡ b → (b && bytes_eq cs (take (length cs) same.0)) ≡ (b && bytes_eq cs (take (length cs) xs))) [
      | true ↦ λ e.
          let x_is : x ≡ c = sym (eqb-true c x e) in
          let open_not : x ≡ 60 → ⊥ = λ is. eqb-false c 60 (not-true (c == 60) tests.0) (sym x_is ∙ is) in
          word_follows cs xs same.0 tests.1 (same.2 (plain_piece x xs open_not))
      | false ↦ λ e. refl
    ] refl

first_follows : (text again : Bytes) → Follows text again → first again ≡ first text
first_follows [] again same = rw same
first_follows (x ∷ xs) again same = rw same.1

-- a byte that is a piece of its own stays one
pub other_again : (x : ℕ) (xs again : Bytes) → starts_with nat_eq (x ∷ xs) (codes "<!--") ≡ false → (x == 60 && is_ascii_alphabetic (first xs)) ≡ false → Follows xs again → first_piece x again ≡ other x
other_again x xs again begins letter same =
    let word = word_follows (codes "!--") xs again refl same in
    let begins' : starts_with nat_eq (x ∷ again) (codes "<!--") ≡ false = ap (λ b. nat_eq 60 x && b) word ∙ begins in
    let letter' : (x == 60 && is_ascii_alphabetic (first again)) ≡ false = ap (λ b. x == 60 && is_ascii_alphabetic b) (first_follows xs again same) ∙ letter in
    rw (begins', letter')

pub first_place-found : (test : Bytes → Bool) (text : Bytes) → test text ≡ true → first_place test text ≡ 0
first_place-found test [] e = refl
first_place-found test (x ∷ xs) e = first_place-yes test x xs e

pub starts_with-front : (text word more : Bytes) (count : ℕ) → length word ≤ count → count ≤ length text → starts_with nat_eq (take count text ++ more) word ≡ starts_with nat_eq text word
starts_with-front text word more count enough fits =
    let size : length (take count text) ≡ count = length-take-le count text fits in
    let short : length word ≤ length (take count text) = omega arith in
    ap (bytes_eq word) (take-append-le (length word) (take count text) more short ∙ take-take (length word) count text enough)

starts_with-fits : (text word : Bytes) → starts_with nat_eq text word ≡ true → length word ≤ length text
starts_with-fits text word e =
    let same : word ≡ take (length word) text = (bytes_eq-Decides word (take (length word) text)).0 e in
    omega (arith, ap length same, length-take (length word) text)

-- where a word is found, what comes after it doesn't matter
pub record Stays (word text more : Bytes) : Type 0 where
  pub fits : place_of_word word text + length word ≤ length text
  pub place : place_of_word word (take (place_of_word word text + length word) text ++ more) ≡ place_of_word word text

pub place_stays : (word text more : Bytes) → place_of_word word text < length text → Stays word text more
place_stays word [] more found = absurd (omega arith)
place_stays word (y ∷ ys) more found =
    let test : Bytes → Bool = λ rest. starts_with nat_eq rest word in
    elim (starts_with nat_eq (y ∷ ys) word) as (λ b. starts_with nat_eq (y ∷ ys) word ≡ b → Stays word (y ∷ ys) more) [
      | true ↦ λ e.
          let at = first_place-yes test y ys e in
          let size : place_of_word word (y ∷ ys) + length word ≡ length word = omega (arith, at) in
          let fits = starts_with-fits (y ∷ ys) word e in
          record {
            fits = omega (arith, at, fits);
            place = rw size (first_place-found test (take (length word) (y ∷ ys) ++ more) (starts_with-front (y ∷ ys) word more (length word) (omega arith) fits ∙ e) ∙ sym at);
          }
      | false ↦ λ e.
          let at = first_place-no test y ys e in
          let inner = place_stays word ys more (omega (arith, at, found)) in
          let count = place_of_word word ys + length word in
          let size : place_of_word word (y ∷ ys) + length word ≡ suc count = omega (arith, at) in
          let fits : suc count ≤ length (y ∷ ys) = omega (arith, inner.fits) in
          let missed = starts_with-front (y ∷ ys) word more (suc count) (omega arith) fits ∙ e in
          record {
            fits = omega (arith, at, inner.fits);
            place = rw size (first_place-no test y (take count ys ++ more) missed ∙ ap (λ n. 1 + n) inner.place ∙ sym at);
          }
    ] refl
