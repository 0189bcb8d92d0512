-- The piece with which a text begins is the one that fits, and no other.
use Rattle.std.proofs.Common.{◌≡◌, ℕ, suc, ◌+◌, ◌<◌, Bool, true, false, ◌&&◌, ◌==◌, nat_eq, codes, List, [], ◌∷◌, ◌++◌, Option, Some, None, length, take, drop, arith, refl, sym, ap, subst, ◌∙◌, append_assoc, inl, inr}
use Rattle.std.specs.List.{starts_with, take_while}
use Rattle.std.specs.Char.{is_ascii_alphabetic}
use Rattle.std.proofs.lemmas.Bool.{eqb-true, ne_eqb, eq-eqb, and_parts, and_right}
use Rattle.std.proofs.lemmas.Bool.Decides.{nat_tests}
use Rattle.std.proofs.lemmas.List.{append-nil, take-append-drop, take_all}
use Rattle.std.proofs.Math.Seq.{drop-append-add, take-append-add}
use Rattle.hk_base.specs.Bytes.{Bytes}
use Rattle.hk_html.specs.Kind.{first, after_run, is_tag_byte}
use Rattle.hk_html.specs.Part.{Part, parts_of, parts_text}
use Rattle.hk_html.specs.Piece.{Piece, comment, tag, unfinished, other, first_piece, tag_by, piece_text, raw_text}
use Rattle.hk_html.specs.Place.{place_of_word}
use Rattle.hk_html.proofs.FrontLemmas.{run_front}
use Rattle.hk_html.proofs.AgainLemmas.{run-yes, run_again, after_again, list_all-run, Stops-after}
use Rattle.hk_laws.specs.Runs.{Begins, BeginsWith, NoneBefore, IsBeforeFirst}
use Rattle.hk_laws.specs.Tags.{is_tag_name_byte, FitsParts}
use Rattle.hk_laws.specs.Cuttings.{IsClosedComment, IsOpenComment, IsTagName, IsTag, IsUnfinished, IsOther, FitsPiece}
use Rattle.hk_laws.proofs.KindLemmas.{tag_same, all_same, stops, longest}
use Rattle.hk_laws.proofs.WordLemmas.{tells_word}
use Rattle.hk_laws.proofs.FirstLemmas.{place_first, place_is_first}
use Rattle.hk_laws.proofs.PartLemmas.{parts_read, read_parts}
use Rattle.hk_laws.proofs.RawLemmas.{read_raw, raw_read}

-- a piece with what comes after it
pub record Reads (text : Bytes) (piece : Piece) : Type 0 where
  pub rest : Bytes
  pub same : text ≡ piece_text piece ++ rest
  pub fits : FitsPiece piece rest

piece_comment : (x : ℕ) (xs : Bytes) → starts_with nat_eq (x ∷ xs) (codes "<!--") ≡ true → first_piece x xs ≡ comment (x ∷ take (place_of_word (codes "-->") (drop 3 xs) + 6) xs)
piece_comment x xs e = rw e

piece_tag : (x : ℕ) (xs : Bytes) → starts_with nat_eq (x ∷ xs) (codes "<!--") ≡ false → (x == 60 && is_ascii_alphabetic (first xs)) ≡ true → first_piece x xs ≡ tag_by x xs (parts_of (after_run is_tag_byte xs))
piece_tag x xs begins letter = rw (begins, letter)

piece_other : (x : ℕ) (xs : Bytes) → starts_with nat_eq (x ∷ xs) (codes "<!--") ≡ false → (x == 60 && is_ascii_alphabetic (first xs)) ≡ false → first_piece x xs ≡ other x
piece_other x xs begins letter = rw (begins, letter)

-- where a comment ends
comment_cut : (inside more : Bytes) → take (length inside + 6) (33 ∷ (45 ∷ (45 ∷ (inside ++ (45 ∷ (45 ∷ (62 ∷ more))))))) ≡ 33 ∷ (45 ∷ (45 ∷ (inside ++ (45 ∷ (45 ∷ (62 ∷ []))))))
comment_cut inside more =
    let size : length inside + 6 ≡ suc (suc (suc (length inside + 3))) = omega arith in
    rw (size, take-append-add inside (45 ∷ (45 ∷ (62 ∷ more))) 3)

closed_reads : (inside rest : Bytes) → place_of_word (codes "-->") (inside ++ (codes "-->" ++ rest)) ≡ length inside
    → first_piece 60 (33 ∷ (45 ∷ (45 ∷ (inside ++ (codes "-->" ++ rest))))) ≡ comment (codes "<!--" ++ (inside ++ codes "-->"))
closed_reads inside rest place =
    ap (λ n. comment (60 ∷ take (n + 6) (33 ∷ (45 ∷ (45 ∷ (inside ++ (codes "-->" ++ rest))))))) place
    ∙ ap (λ (t : Bytes). comment (60 ∷ t)) (comment_cut inside rest)

open_reads : (inside : Bytes) → place_of_word (codes "-->") inside ≡ length inside → first_piece 60 (33 ∷ (45 ∷ (45 ∷ inside))) ≡ comment (codes "<!--" ++ inside)
open_reads inside place =
    ap (λ n. comment (60 ∷ take (n + 6) (33 ∷ (45 ∷ (45 ∷ inside))))) place
    ∙ ap (λ (t : Bytes). comment (60 ∷ t)) (take_all (length inside + 6) (33 ∷ (45 ∷ (45 ∷ inside))) (omega arith))

-- what comes after `<!--`, by whether a `-->` stands in it
comment_by : (ys inside rest : Bytes) → ys ≡ inside ++ rest → IsBeforeFirst (BeginsWith (codes "-->")) inside rest → Reads (codes "<!--" ++ ys) (first_piece 60 (33 ∷ (45 ∷ (45 ∷ ys))))
comment_by ys inside rest same is =
    let place : place_of_word (codes "-->") ys ≡ length inside = ap (place_of_word (codes "-->")) same ∙ place_first (λ t. starts_with nat_eq t (codes "-->")) (BeginsWith (codes "-->")) (tells_word (codes "-->")) inside rest is in
    elim is.found [
      | inl end ↦
          let whole : ys ≡ inside ++ (codes "-->" ++ end.rest) = same ∙ ap (λ (t : Bytes). inside ++ t) end.spelled in
          let piece = closed_reads inside end.rest (ap (place_of_word (codes "-->")) (sym whole) ∙ place) in
          subst (λ (p : Piece). Reads (codes "<!--" ++ ys) p) (sym (ap (λ (t : Bytes). first_piece 60 (33 ∷ (45 ∷ (45 ∷ t)))) whole ∙ piece))
          (record {
            rest = end.rest;
            same = ap (λ (t : Bytes). codes "<!--" ++ t) (whole ∙ sym (append_assoc inside (codes "-->") end.rest));
            fits = inl (record { inside = inside; spelled = refl; first = subst (λ (t : Bytes). NoneBefore (BeginsWith (codes "-->")) inside t) end.spelled is.none });
          })
      | inr nothing ↦
          let whole : ys ≡ inside = same ∙ ap (λ (t : Bytes). inside ++ t) nothing ∙ append-nil inside in
          let piece = open_reads inside (ap (place_of_word (codes "-->")) (sym whole) ∙ place) in
          subst (λ (p : Piece). Reads (codes "<!--" ++ ys) p) (sym (ap (λ (t : Bytes). first_piece 60 (33 ∷ (45 ∷ (45 ∷ t)))) whole ∙ piece))
          (record {
            rest = [];
            same = ap (λ (t : Bytes). codes "<!--" ++ t) (whole ∙ sym (append-nil inside));
            fits = inr (record { inside = inside; spelled = refl; last = refl; endless = subst (λ (t : Bytes). NoneBefore (BeginsWith (codes "-->")) inside t) nothing is.none });
          })
    ]

read_comment : (x : ℕ) (xs : Bytes) → BeginsWith (codes "<!--") (x ∷ xs) → Reads (x ∷ xs) (first_piece x xs)
read_comment x xs begins =
    let ys = begins.rest in
    let place = place_of_word (codes "-->") ys in
    let x_is : 60 ≡ x = let e = begins.spelled in cc in
    let xs_is : 33 ∷ (45 ∷ (45 ∷ ys)) ≡ xs = let e = begins.spelled in cc in
    subst (λ (t : ℕ × Bytes). Reads (t.0 ∷ t.1) (first_piece t.0 t.1)) (λ i. (x_is i, xs_is i))
    (comment_by ys (take place ys) (drop place ys) (sym (take-append-drop place ys)) (place_is_first (λ t. starts_with nat_eq t (codes "-->")) (BeginsWith (codes "-->")) (tells_word (codes "-->")) ys))

letter_is_tag_byte : (l : ℕ) → is_ascii_alphabetic l ≡ true → is_tag_byte l ≡ true
letter_is_tag_byte l letter = grind (arith, nat_tests)

-- the name that a tag begins with
name_reads : (xs : Bytes) → is_ascii_alphabetic (first xs) ≡ true → IsTagName (take_while is_tag_byte xs) (after_run is_tag_byte xs)
name_reads [] letter = cc
name_reads (l ∷ ls) letter = record {
  letter = subst (λ (t : Bytes). Begins is_ascii_alphabetic t) (sym (run-yes is_tag_byte l ls (letter_is_tag_byte l letter))) letter;
  longest = longest is_tag_name_byte is_tag_byte (take_while is_tag_byte (l ∷ ls)) (after_run is_tag_byte (l ∷ ls)) tag_same (list_all-run is_tag_byte (l ∷ ls)) (Stops-after is_tag_byte (l ∷ ls));
}

read_unfinished : (xs : Bytes) → is_ascii_alphabetic (first xs) ≡ true → parts_of (after_run is_tag_byte xs) ≡ None → Reads (60 ∷ xs) (unfinished (60 ∷ xs))
read_unfinished xs letter none = record {
  rest = [];
  same = sym (append-nil (60 ∷ xs));
  fits = record {
    name = take_while is_tag_byte xs;
    left = after_run is_tag_byte xs;
    spelled = ap (λ (t : Bytes). 60 ∷ t) (run_front is_tag_byte xs);
    last = refl;
    named = name_reads xs letter;
    endless = λ parts more left fits. let found : parts_of (after_run is_tag_byte xs) ≡ Some parts = ap parts_of left ∙ parts_read parts more fits in cc;
  };
}

regrouped : (name parts raw rest : Bytes) → name ++ (parts ++ (62 ∷ (raw ++ rest))) ≡ (name ++ (parts ++ (62 ∷ raw))) ++ rest
regrouped name parts raw rest = simp append_assoc

read_finished : (xs : Bytes) (parts : List Part) → is_ascii_alphabetic (first xs) ≡ true → parts_of (after_run is_tag_byte xs) ≡ Some parts → Reads (60 ∷ xs) (tag_by 60 xs (Some parts))
read_finished xs parts letter found =
    let name = take_while is_tag_byte xs in
    let after = after_run is_tag_byte xs in
    let read = read_parts after parts found in
    let left : drop (length (parts_text parts) + 1) after ≡ read.more = ap (drop (length (parts_text parts) + 1)) read.same ∙ drop-append-add (parts_text parts) (62 ∷ read.more) 1 in
    let raw = read_raw name read.more in
    let end : after ≡ parts_text parts ++ (62 ∷ (raw_text name read.more ++ raw.rest)) = read.same ∙ ap (λ (t : Bytes). parts_text parts ++ (62 ∷ t)) raw.same in
    subst (λ (t : Bytes). Reads (60 ∷ xs) (tag (60 ∷ name) parts (raw_text name t))) (sym left)
    (record {
      rest = raw.rest;
      same = ap (λ (t : Bytes). 60 ∷ t) (run_front is_tag_byte xs ∙ ap (λ (t : Bytes). name ++ t) end ∙ regrouped name (parts_text parts) (raw_text name read.more) raw.rest);
      fits = record {
        name = name;
        spelled = refl;
        named = subst (λ (t : Bytes). IsTagName name t) end (name_reads xs letter);
        parted = subst (λ (t : Bytes). FitsParts parts (62 ∷ t)) raw.same read.fits;
        raw_text = raw.fits;
      };
    })

read_tag : (xs : Bytes) (found : Option (List Part)) → is_ascii_alphabetic (first xs) ≡ true → parts_of (after_run is_tag_byte xs) ≡ found → Reads (60 ∷ xs) (tag_by 60 xs found)
read_tag xs None letter found = read_unfinished xs letter found
read_tag xs (Some parts) letter found = read_finished xs parts letter found

begins_letter : (more : Bytes) → Begins is_ascii_alphabetic more → is_ascii_alphabetic (first more) ≡ true
begins_letter [] letter = elim letter [ ]
begins_letter (l ∷ ls) letter = letter

read_other : (x : ℕ) (xs : Bytes) → (BeginsWith (codes "<!--") (x ∷ xs) → ⊥) → (x == 60 && is_ascii_alphabetic (first xs)) ≡ false → Reads (x ∷ xs) (other x)
read_other x xs begins letter = record {
  rest = xs;
  same = refl;
  fits = record {
    no_comment = begins;
    no_tag = λ more e starts.
        let x_is : x ≡ 60 = cc in
        let xs_is : xs ≡ more = cc in
        let test : (x == 60) ≡ true = eq-eqb x 60 x_is in
        let some : is_ascii_alphabetic (first xs) ≡ true = ap (λ (t : Bytes). is_ascii_alphabetic (first t)) xs_is ∙ begins_letter more starts in
        let both : (x == 60 && is_ascii_alphabetic (first xs)) ≡ true = rw (test, some) in
        cc;
  };
}

-- the first piece fits
pub read_piece : (x : ℕ) (xs : Bytes) → Reads (x ∷ xs) (first_piece x xs)
read_piece x xs =
    elim (starts_with nat_eq (x ∷ xs) (codes "<!--")) as (λ b. starts_with nat_eq (x ∷ xs) (codes "<!--") ≡ b → Reads (x ∷ xs) (first_piece x xs)) [
      | true ↦ λ begins. read_comment x xs ((tells_word (codes "<!--") (x ∷ xs)).0 begins)
      | false ↦ λ begins. elim (x == 60 && is_ascii_alphabetic (first xs)) as (λ b. (x == 60 && is_ascii_alphabetic (first xs)) ≡ b → Reads (x ∷ xs) (first_piece x xs)) [
        | true ↦ λ letter.
            let tests = and_parts (x == 60) (is_ascii_alphabetic (first xs)) letter in
            let x_is = eqb-true x 60 tests.0 in
            subst (λ (p : Piece). Reads (x ∷ xs) p) (sym (piece_tag x xs begins letter))
            (subst (λ (y : ℕ). Reads (y ∷ xs) (tag_by y xs (parts_of (after_run is_tag_byte xs)))) (sym x_is) (read_tag xs (parts_of (after_run is_tag_byte xs)) tests.1 refl))
        | false ↦ λ letter.
            let none : BeginsWith (codes "<!--") (x ∷ xs) → ⊥ = λ some. let yes_ = (tells_word (codes "<!--") (x ∷ xs)).1 some in cc in
            subst (λ (p : Piece). Reads (x ∷ xs) p) (sym (piece_other x xs begins letter)) (read_other x xs none letter)
      ] refl
    ] refl

-- what a text is read as
abbrev pub piece_of : Bytes → Piece
piece_of text = first_piece (first text) (drop 1 text)

closed_read : (text rest : Bytes) → IsClosedComment text rest → piece_of (text ++ rest) ≡ comment text
closed_read text rest is =
    let place = place_first (λ t. starts_with nat_eq t (codes "-->")) (BeginsWith (codes "-->")) (tells_word (codes "-->")) is.inside (codes "-->" ++ rest) (record { none = is.first; found = inl (record { rest = rest; spelled = refl }) }) in
    ap (λ (t : Bytes). piece_of (t ++ rest)) is.spelled
    ∙ ap (λ (t : Bytes). first_piece 60 (33 ∷ (45 ∷ (45 ∷ t)))) (append_assoc is.inside (codes "-->") rest)
    ∙ closed_reads is.inside rest place
    ∙ ap comment (sym is.spelled)

open_read : (text rest : Bytes) → IsOpenComment text rest → piece_of (text ++ rest) ≡ comment text
open_read text rest is =
    let place : place_of_word (codes "-->") (is.inside ++ []) ≡ length is.inside = place_first (λ t. starts_with nat_eq t (codes "-->")) (BeginsWith (codes "-->")) (tells_word (codes "-->")) is.inside [] (record { none = is.endless; found = inr refl }) in
    ap (λ (t : Bytes). piece_of (text ++ t)) is.last
    ∙ ap piece_of (append-nil text ∙ is.spelled)
    ∙ open_reads is.inside (ap (place_of_word (codes "-->")) (sym (append-nil is.inside)) ∙ place)
    ∙ ap comment (sym is.spelled)

no_comment : (x l : ℕ) (more : Bytes) → is_ascii_alphabetic l ≡ true → starts_with nat_eq (x ∷ (l ∷ more)) (codes "<!--") ≡ false
no_comment x l more letter =
    let mark : nat_eq 33 l ≡ false = ne_eqb 33 l (λ e. let bad : is_ascii_alphabetic 33 ≡ true = subst (λ n. is_ascii_alphabetic n ≡ true) (sym e) letter in cc) in
    rw mark (and_right (nat_eq 60 x) false refl)

-- a name at the front of a text, and what comes after it
named_piece : (name left : Bytes) → IsTagName name left → first_piece 60 (name ++ left) ≡ tag_by 60 (name ++ left) (parts_of left)
named_piece [] left named = elim named.letter [ ]
named_piece (l ∷ ls) left named =
    let rest = after_again is_tag_byte (l ∷ ls) left (all_same is_tag_name_byte is_tag_byte (l ∷ ls) tag_same named.longest.passes) (stops is_tag_name_byte is_tag_byte left tag_same named.longest.ended) in
    piece_tag 60 (l ∷ (ls ++ left)) (no_comment 60 l (ls ++ left) named.letter) named.letter
    ∙ ap (λ (t : Bytes). tag_by 60 (l ∷ (ls ++ left)) (parts_of t)) rest

unparted : (left : Bytes) → ((parts : List Part) (more : Bytes) → left ≡ parts_text parts ++ (62 ∷ more) → FitsParts parts (62 ∷ more) → ⊥) → parts_of left ≡ None
unparted left endless = go (parts_of left) refl
  where
    go : (found : Option (List Part)) → parts_of left ≡ found → parts_of left ≡ None
    go None e = e
    go (Some parts) e = let read = read_parts left parts e in absurd (endless parts read.more read.same read.fits)

unfinished_read : (text rest : Bytes) → IsUnfinished text rest → piece_of (text ++ rest) ≡ unfinished text
unfinished_read text rest is =
    ap (λ (t : Bytes). piece_of (text ++ t)) is.last
    ∙ ap piece_of (append-nil text ∙ is.spelled)
    ∙ named_piece is.name is.left is.named
    ∙ ap (tag_by 60 (is.name ++ is.left)) (unparted is.left is.endless)
    ∙ ap unfinished (sym is.spelled)

tag_read : (head : Bytes) (parts : List Part) (raw rest : Bytes) → IsTag head parts raw rest → piece_of ((head ++ (parts_text parts ++ (62 ∷ raw))) ++ rest) ≡ tag head parts raw
tag_read head parts raw rest is =
    let name = is.name in
    let left = parts_text parts ++ (62 ∷ (raw ++ rest)) in
    let run : take_while is_tag_byte (name ++ left) ≡ name = run_again is_tag_byte name left (all_same is_tag_name_byte is_tag_byte name tag_same is.named.longest.passes) (stops is_tag_name_byte is_tag_byte left tag_same is.named.longest.ended) in
    let after : after_run is_tag_byte (name ++ left) ≡ left = after_again is_tag_byte name left (all_same is_tag_name_byte is_tag_byte name tag_same is.named.longest.passes) (stops is_tag_name_byte is_tag_byte left tag_same is.named.longest.ended) in
    let behind : drop (length (parts_text parts) + 1) left ≡ raw ++ rest = drop-append-add (parts_text parts) (62 ∷ (raw ++ rest)) 1 in
    ap (λ (t : Bytes). piece_of ((t ++ (parts_text parts ++ (62 ∷ raw))) ++ rest)) is.spelled
    ∙ ap (first_piece 60) (sym (regrouped name (parts_text parts) raw rest))
    ∙ named_piece name left is.named
    ∙ ap (tag_by 60 (name ++ left)) (parts_read parts (raw ++ rest) is.parted)
    ∙ ap (λ (n : Bytes). tag (60 ∷ n) parts (raw_text n (drop (length (parts_text parts) + 1) (after_run is_tag_byte (name ++ left))))) run
    ∙ ap (λ (t : Bytes). tag (60 ∷ name) parts (raw_text name (drop (length (parts_text parts) + 1) t))) after
    ∙ ap (λ (t : Bytes). tag (60 ∷ name) parts (raw_text name t)) behind
    ∙ ap (tag (60 ∷ name) parts) (raw_read name raw rest is.raw_text)
    ∙ ap (λ (h : Bytes). tag h parts raw) (sym is.spelled)

false_of : (b : Bool) → (b ≡ true → ⊥) → b ≡ false
false_of true none = absurd (none refl)
false_of false none = refl

first_letter : (xs : Bytes) → is_ascii_alphabetic (first xs) ≡ true → Begins is_ascii_alphabetic xs
first_letter [] letter = cc
first_letter (l ∷ ls) letter = letter

other_read : (b : ℕ) (rest : Bytes) → IsOther b rest → piece_of (b ∷ rest) ≡ other b
other_read b rest is =
    let begins = false_of (starts_with nat_eq (b ∷ rest) (codes "<!--")) (λ some. is.no_comment ((tells_word (codes "<!--") (b ∷ rest)).0 some)) in
    let letter = false_of (b == 60 && is_ascii_alphabetic (first rest)) (λ some.
    let tests = and_parts (b == 60) (is_ascii_alphabetic (first rest)) some in
    is.no_tag rest (ap (λ n. n ∷ rest) (eqb-true b 60 tests.0)) (first_letter rest tests.1)) in
    piece_other b rest begins letter

-- a piece that fits is the first piece
pub piece_read : (piece : Piece) (rest : Bytes) → FitsPiece piece rest → piece_of (piece_text piece ++ rest) ≡ piece
piece_read (comment text) rest (inl is) = closed_read text rest is
piece_read (comment text) rest (inr is) = open_read text rest is
piece_read (tag head parts raw) rest is = tag_read head parts raw rest is
piece_read (unfinished text) rest is = unfinished_read text rest is
piece_read (other b) rest is = other_read b rest is

spelled_some : (text : Bytes) (x : ℕ) (xs : Bytes) → text ≡ x ∷ xs → 0 < length text
spelled_some text x xs e = omega (arith, ap length e)

-- a piece that fits has a byte
pub piece_some : (piece : Piece) (rest : Bytes) → FitsPiece piece rest → 0 < length (piece_text piece)
piece_some (comment text) rest (inl is) = spelled_some text _ _ is.spelled
piece_some (comment text) rest (inr is) = spelled_some text _ _ is.spelled
piece_some (tag head parts raw) rest is = spelled_some (head ++ (parts_text parts ++ (62 ∷ raw))) _ _ (ap (λ (t : Bytes). t ++ (parts_text parts ++ (62 ∷ raw))) is.spelled)
piece_some (unfinished text) rest is = spelled_some text _ _ is.spelled
piece_some (other b) rest is = omega arith
