-- The pieces, joined, are the text.
use Rattle.std.proofs.Common.{◌≡◌, ℕ, zero, suc, ◌+◌, ◌<◌, ◌≤◌, Bool, true, false, cond, if◌then◌else◌, ◌||◌, ◌&&◌, ◌==◌, nat_eq, codes, List, [], ◌∷◌, ◌++◌, Option, Some, None, length, drop, take, arith, refl, sym, ap, subst, ◌∙◌, append_assoc}
use Rattle.std.specs.List.{flat_map, take_while, starts_with, list_any}
use Rattle.std.specs.Char.{is_ascii_alphabetic}
use Rattle.std.specs.Option.{option_map}
use Rattle.std.proofs.lemmas.Bool.{eqb-true, eqb-false}
use Rattle.std.proofs.lemmas.List.{append-nil, take-append-drop, length-append, length-drop}
use Rattle.std.proofs.Math.Seq.{drop-append_seam}
use Rattle.hk_base.specs.Bytes.{Bytes}
use Rattle.hk_html.specs.Kind.{first, after_run, is_tag_byte}
use Rattle.hk_html.specs.Part.{Part, mark, bare, valued, first_part, part_text, parts_of, parts_text, part_links, part_with_root, is_link, is_rooted, with_root}
use Rattle.hk_html.specs.Piece.{Piece, comment, tag, unfinished, other, first_piece, tag_by, piece_text, piece_links, piece_with_root, pieces, raw_text}
use Rattle.hk_html.specs.Place.{place_of_word}
use Rattle.hk_html.specs.Relative.{with_roots, links_of}
use Rattle.hk_html.proofs.FrontLemmas.{BeginsWith, part_front, run_front}
use Rattle.hk_html.proofs.PartsLemmas.{parts_of-more, first_part-some}
use Rattle.hk_html.proofs.PiecesLemmas.{raw_text-front}
use Rattle.hk_html.proofs.WholeLemmas.{pieces-cons, first_piece-some}

-- the rest is what stands after the front
pub front_drop : {text front : Bytes} → BeginsWith text front → text ≡ front ++ drop (length front) text
front_drop {text} {front} begins = begins.same ∙ ap (λ rest. front ++ rest) (sym (rw begins.same (drop-append_seam front begins.rest)))

pub one_before : (o : Option (List Part)) (part : Part) (parts : List Part) → option_map (λ more. part ∷ more) o ≡ Some parts → (more : List Part) × (o ≡ Some more) × (parts ≡ part ∷ more)
one_before None part parts e = cc
one_before (Some more) part parts e = (more, refl, cc)

joined_front : (text part more rest : Bytes) → text ≡ part ++ ((more ++ (62 ∷ [])) ++ rest) → text ≡ ((part ++ more) ++ (62 ∷ [])) ++ rest
joined_front text part more rest e = e ∙ simp append_assoc

pub shorter : (text : Bytes) (count fuel : ℕ) → length text ≤ suc fuel → 0 < count → length (drop count text) ≤ fuel
shorter text count fuel short some = omega (arith, length-drop count text)

-- the text of finished parts and their `>` is the front of what they were read from
parts_front_within : (fuel : ℕ) (text : Bytes) (parts : List Part) → length text ≤ fuel → parts_of text ≡ Some parts → BeginsWith text (parts_text parts ++ (62 ∷ []))
parts_front_within fuel [] parts short found = cc
parts_front_within zero (x ∷ xs) parts short found = absurd (omega arith)
parts_front_within (suc fuel) (x ∷ xs) parts short found =
    elim (x == 62) as (λ b. (x == 62) ≡ b → BeginsWith (x ∷ xs) (parts_text parts ++ (62 ∷ []))) [
      | true ↦ λ end.
          let none : Some [] ≡ Some parts = rw end at found in
          let same : [] ≡ parts = cc in
          let x_is = eqb-true x 62 end in
          record { rest = xs; same = rw (← same, x_is) }
      | false ↦ λ more.
          let part = first_part x xs in
          let size = length (part_text part) in
          let some : 0 < size = omega (arith, first_part-some x xs) in
          let step = one_before (parts_of (drop size (x ∷ xs))) part parts (sym (parts_of-more x xs (eqb-false x 62 more)) ∙ found) in
          let rest = parts_front_within fuel (drop size (x ∷ xs)) step.0 (shorter (x ∷ xs) size fuel short some) step.1 in
          record {
            rest = rest.rest;
            same = subst (λ (all : List Part). x ∷ xs ≡ (parts_text all ++ (62 ∷ [])) ++ rest.rest) (sym step.2)
                (joined_front (x ∷ xs) (part_text part) (parts_text step.0) rest.rest (front_drop (part_front x xs) ∙ ap (λ left. part_text part ++ left) rest.same));
          }
    ] refl

pub parts_front : (text : Bytes) (parts : List Part) → parts_of text ≡ Some parts → BeginsWith text (parts_text parts ++ (62 ∷ []))
parts_front text parts found = parts_front_within (length text) text parts (omega arith) found

regrouped : (name parts close raw rest : Bytes) → name ++ ((parts ++ close) ++ (raw ++ rest)) ≡ (name ++ (parts ++ (close ++ raw))) ++ rest
regrouped name parts close raw rest = simp append_assoc

tag_joined : (x : ℕ) (name parts raw rest : Bytes) → x ∷ (name ++ ((parts ++ (62 ∷ [])) ++ (raw ++ rest))) ≡ ((x ∷ name) ++ (parts ++ (62 ∷ raw))) ++ rest
tag_joined x name parts raw rest = ap (λ more. x ∷ more) (regrouped name parts (62 ∷ []) raw rest)

-- a finished tag, and what stands after its raw text
pub tag_same : (x : ℕ) (xs : Bytes) (parts : List Part) → parts_of (after_run is_tag_byte xs) ≡ Some parts
    → let left = drop (length (parts_text parts) + 1) (after_run is_tag_byte xs) in
    x ∷ xs ≡ piece_text (tag_by x xs (Some parts)) ++ drop (length (raw_text (take_while is_tag_byte xs) left)) left
tag_same x xs parts found =
    let name = take_while is_tag_byte xs in
    let after = after_run is_tag_byte xs in
    let front = parts_front after parts found in
    let size : length (parts_text parts ++ (62 ∷ [])) ≡ length (parts_text parts) + 1 = length-append (parts_text parts) (62 ∷ []) in
    let left = drop (length (parts_text parts) + 1) after in
    let raw = raw_text name left in
    let cut : after ≡ (parts_text parts ++ (62 ∷ [])) ++ left = rw (← size) (front_drop front) in
    let raw_cut : left ≡ raw ++ drop (length raw) left = sym (take-append-drop (length raw) left) ∙ ap (λ r. r ++ drop (length raw) left) (raw_text-front name left) in
    ap (λ more. x ∷ more) (run_front is_tag_byte xs ∙ ap (λ a. name ++ a) (cut ∙ ap (λ l. (parts_text parts ++ (62 ∷ [])) ++ l) raw_cut))
    ∙ tag_joined x name (parts_text parts) raw (drop (length raw) left)

tag_front : (x : ℕ) (xs : Bytes) (found : Option (List Part)) → parts_of (after_run is_tag_byte xs) ≡ found → BeginsWith (x ∷ xs) (piece_text (tag_by x xs found))
tag_front x xs None found = record { rest = []; same = sym (append-nil (x ∷ xs)) }
tag_front x xs (Some parts) found = record {
  rest = let left = drop (length (parts_text parts) + 1) (after_run is_tag_byte xs) in drop (length (raw_text (take_while is_tag_byte xs) left)) left;
  same = tag_same x xs parts found;
}

pub piece_front : (x : ℕ) (xs : Bytes) → BeginsWith (x ∷ xs) (piece_text (first_piece x xs))
piece_front x xs =
    elim (starts_with nat_eq (x ∷ xs) (codes "<!--")) as (λ b. BeginsWith (x ∷ xs) (piece_text (cond b
    (comment (x ∷ take (place_of_word (codes "-->") (drop 3 xs) + 6) xs))
    (cond (x == 60 && is_ascii_alphabetic (first xs)) (tag_by x xs (parts_of (after_run is_tag_byte xs))) (other x))))) [
      | true ↦ record {
        rest = drop (place_of_word (codes "-->") (drop 3 xs) + 6) xs;
        same = ap (λ more. x ∷ more) (sym (take-append-drop (place_of_word (codes "-->") (drop 3 xs) + 6) xs));
      }
      | false ↦ elim (x == 60 && is_ascii_alphabetic (first xs)) as (λ b. BeginsWith (x ∷ xs) (piece_text (cond b (tag_by x xs (parts_of (after_run is_tag_byte xs))) (other x)))) [
        | true ↦ tag_front x xs (parts_of (after_run is_tag_byte xs)) refl
        | false ↦ record { rest = xs; same = refl }
      ]
    ]

joined_within : (fuel : ℕ) (text : Bytes) → length text ≤ fuel → flat_map piece_text (pieces text) ≡ text
joined_within fuel [] short = refl
joined_within zero (x ∷ xs) short = absurd (omega arith)
joined_within (suc fuel) (x ∷ xs) short =
    let piece = first_piece x xs in
    let size = length (piece_text piece) in
    let some : 0 < size = omega (arith, first_piece-some x xs) in
    let rest = joined_within fuel (drop size (x ∷ xs)) (shorter (x ∷ xs) size fuel short some) in
    ap (λ all. flat_map piece_text all) (pieces-cons x xs) ∙ ap (λ more. piece_text piece ++ more) rest ∙ sym (front_drop (piece_front x xs))

-- the pieces, joined, are the text
pub joined : (text : Bytes) → flat_map piece_text (pieces text) ≡ text
joined text = joined_within (length text) text (omega arith)

or_parts_false : (a b : Bool) → (a || b) ≡ false → (a ≡ false) × (b ≡ false)
or_parts_false true b none = cc
or_parts_false false b none = (refl, none)

unrooted : (xs ys : List Bytes) → list_any is_rooted (xs ++ ys) ≡ false → (list_any is_rooted xs ≡ false) × (list_any is_rooted ys ≡ false)
unrooted [] ys none = (refl, none)
unrooted (x ∷ xs) ys none =
    let here = or_parts_false (is_rooted x) (list_any is_rooted (xs ++ ys)) none in
    let more = unrooted xs ys here.1 in
    (rw (here.0, more.0), more.1)

same_value : (name value : Bytes) (root : Bytes) → list_any is_rooted (if is_link name then value ∷ [] else []) ≡ false → (if is_link name then with_root root value else value) ≡ value
same_value name value root =
    elim (is_link name) as (λ b. list_any is_rooted (if b then value ∷ [] else []) ≡ false → (if b then with_root root value else value) ≡ value) [
      | true ↦ λ none. let plain = or_parts_false (is_rooted value) false none in rw plain.0
      | false ↦ λ none. refl
    ]

same_part : (root : Bytes) (part : Part) → list_any is_rooted (part_links part) ≡ false → part_with_root root part ≡ part_text part
same_part root (mark b) none = refl
same_part root (bare text) none = refl
same_part root (valued name between value close) none = rw (same_value name value root none)

same_parts : (root : Bytes) (parts : List Part) → list_any is_rooted (flat_map part_links parts) ≡ false → flat_map (part_with_root root) parts ≡ parts_text parts
same_parts root [] none = refl
same_parts root (part ∷ parts) none =
    let cut = unrooted (part_links part) (flat_map part_links parts) none in
    let one = same_part root part cut.0 in
    let more = same_parts root parts cut.1 in
    cc

same_piece : (root : Bytes) (piece : Piece) → list_any is_rooted (piece_links piece) ≡ false → piece_with_root root piece ≡ piece_text piece
same_piece root (comment text) none = refl
same_piece root (tag head parts raw) none = ap (λ text. head ++ (text ++ (62 ∷ raw))) (same_parts root parts none)
same_piece root (unfinished text) none = refl
same_piece root (other b) none = refl

same_pieces : (root : Bytes) (all : List Piece) → list_any is_rooted (flat_map piece_links all) ≡ false → flat_map (piece_with_root root) all ≡ flat_map piece_text all
same_pieces root [] none = refl
same_pieces root (piece ∷ all) none =
    let cut = unrooted (piece_links piece) (flat_map piece_links all) none in
    let one = same_piece root piece cut.0 in
    let more = same_pieces root all cut.1 in
    cc

-- without root URLs among the links nothing changes
pub unchanged : (root text : Bytes) → list_any is_rooted (links_of text) ≡ false → with_roots root text ≡ text
unchanged root text none = same_pieces root (pieces text) none ∙ joined text
