-- A text with roots, cut into its pieces again.
use Rattle.std.proofs.Common.{◌≡◌, ℕ, zero, suc, ◌+◌, ◌<◌, ◌≤◌, true, false, ◌&&◌, ◌==◌, nat_eq, if◌then◌else◌, List, [], ◌∷◌, ◌++◌, map, Option, Some, None, codes, length, drop, take, arith, refl, sym, ap, subst, ◌∙◌, append_assoc, inl, inr}
use Rattle.std.specs.List.{take_while, flat_map, starts_with}
use Rattle.std.specs.Char.{is_ascii_alphabetic}
use Rattle.std.proofs.lemmas.Bool.{ne_eqb, and_parts, and_right, cases_lt}
use Rattle.std.proofs.lemmas.Bool.Decides.{nat_tests}
use Rattle.std.proofs.lemmas.List.{append-nil, length-append, length-drop, length-take-le, take_all, take_at, drop_all, drop-append-le, drop-take, map-append}
use Rattle.std.proofs.Math.Seq.{drop-append_seam, drop-append-add}
use Rattle.hk_base.specs.Bytes.{Bytes}
use Rattle.hk_html.specs.Kind.{is_tag_byte, first, after_run}
use Rattle.hk_html.specs.Part.{Part, mark, bare, valued, part_text, parts_of, parts_text, part_with_root, part_links, is_link, with_root}
use Rattle.hk_html.specs.Piece.{Piece, comment, tag, unfinished, other, first_piece, tag_by, piece_text, piece_links, piece_with_root, pieces, raw_text}
use Rattle.hk_html.specs.Place.{place_of_word}
use Rattle.hk_html.specs.Relative.{with_roots, links_of}
use Rattle.hk_html.proofs.AgainLemmas.{Stops, Stops-after, run_again, after_again, list_all-run, run-yes}
use Rattle.hk_html.proofs.FollowLemmas.{follows, other_again, starts_with-front, place_stays, with_roots-cons, piece_head}
use Rattle.hk_html.proofs.JoinLemmas.{shorter, tag_same}
use Rattle.hk_html.proofs.RawLemmas.{raw_again}
use Rattle.hk_html.proofs.RootedLemmas.{IsRoot, rooted_part, rooted_parts, parts_head, parts_again, some_text}
use Rattle.hk_html.proofs.WholeLemmas.{pieces-ahead, pieces-cons, first_piece-some}

-- a piece with the root in its URLs
abbrev pub rooted_piece : Bytes → Piece → Piece
rooted_piece root (comment text) = comment text
rooted_piece root (tag head parts raw) = tag head (rooted_parts root parts) raw
rooted_piece root (unfinished text) = unfinished text
rooted_piece root (other b) = other b

part_text-rooted : (root : Bytes) (part : Part) → part_text (rooted_part root part) ≡ part_with_root root part
part_text-rooted root (mark b) = refl
part_text-rooted root (bare text) = refl
part_text-rooted root (valued name between value close) = refl

parts_text-rooted : (root : Bytes) (parts : List Part) → parts_text (rooted_parts root parts) ≡ flat_map (part_with_root root) parts
parts_text-rooted root [] = refl
parts_text-rooted root (part ∷ parts) = rw (part_text-rooted root part, parts_text-rooted root parts)

piece_text-rooted : (root : Bytes) (piece : Piece) → piece_text (rooted_piece root piece) ≡ piece_with_root root piece
piece_text-rooted root (comment text) = refl
piece_text-rooted root (tag head parts raw) = ap (λ text. head ++ (text ++ (62 ∷ raw))) (parts_text-rooted root parts)
piece_text-rooted root (unfinished text) = refl
piece_text-rooted root (other b) = refl

pieces_comment : (x : ℕ) (xs : Bytes) → starts_with nat_eq (x ∷ xs) (codes "<!--") ≡ true → first_piece x xs ≡ comment (x ∷ take (place_of_word (codes "-->") (drop 3 xs) + 6) xs)
pieces_comment x xs e = rw e

-- a comment is read again
comment_again-found : (x : ℕ) (xs more : Bytes) → starts_with nat_eq (x ∷ xs) (codes "<!--") ≡ true → place_of_word (codes "-->") (drop 3 xs) < length (drop 3 xs)
    → let text = take (place_of_word (codes "-->") (drop 3 xs) + 6) xs in first_piece x (text ++ more) ≡ comment (x ∷ text)
comment_again-found x xs more begins found =
    let place = place_of_word (codes "-->") (drop 3 xs) in
    let count = place + 6 in
    let text = take count xs in
    let stays = place_stays (codes "-->") (drop 3 xs) more found in
    let fits : count ≤ length xs = omega (arith, stays.fits, length-drop 3 xs) in
    let size : length text ≡ count = length-take-le count xs fits in
    let begins_again : starts_with nat_eq (x ∷ (text ++ more)) (codes "<!--") ≡ true =
    starts_with-front (x ∷ xs) (codes "<!--") more (suc count) (omega arith) (omega arith) ∙ begins in
    let three : 3 ≤ length text = omega arith in
    let back : 3 + (place + 3) ≡ count = omega arith in
    let cut : drop 3 (text ++ more) ≡ take (place + 3) (drop 3 xs) ++ more = drop-append-le 3 text more three ∙ ap (λ (t : Bytes). t ++ more) (ap (λ n. drop 3 (take n xs)) (sym back) ∙ drop-take 3 (place + 3) xs) in
    let place_again : place_of_word (codes "-->") (drop 3 (text ++ more)) ≡ place = ap (place_of_word (codes "-->")) cut ∙ stays.place in
    pieces_comment x (text ++ more) begins_again ∙ ap (λ n. comment (x ∷ take (n + 6) (text ++ more))) place_again ∙ ap (λ (t : Bytes). comment (x ∷ t)) (take_at text more count size)

comment_again-past : (root : Bytes) (x : ℕ) (xs : Bytes) → starts_with nat_eq (x ∷ xs) (codes "<!--") ≡ true → length (drop 3 xs) ≤ place_of_word (codes "-->") (drop 3 xs)
    → let text = take (place_of_word (codes "-->") (drop 3 xs) + 6) xs in first_piece x (text ++ with_roots root (drop (length text) xs)) ≡ comment (x ∷ text)
comment_again-past root x xs begins past =
    let count = place_of_word (codes "-->") (drop 3 xs) + 6 in
    let text = take count xs in
    let whole : text ≡ xs = take_all count xs (omega (arith, length-drop 3 xs)) in
    let none : drop (length text) xs ≡ [] = drop_all (length text) xs (omega (arith, ap length whole)) in
    ap (λ (t : Bytes). first_piece x (text ++ with_roots root t)) none ∙ ap (first_piece x) (append-nil text ∙ whole) ∙ pieces_comment x xs begins

comment_again : (root : Bytes) (x : ℕ) (xs : Bytes) → starts_with nat_eq (x ∷ xs) (codes "<!--") ≡ true
    → let text = take (place_of_word (codes "-->") (drop 3 xs) + 6) xs in first_piece x (text ++ with_roots root (drop (length text) xs)) ≡ comment (x ∷ text)
comment_again root x xs begins =
    let text = take (place_of_word (codes "-->") (drop 3 xs) + 6) xs in
    elim (cases_lt (place_of_word (codes "-->") (drop 3 xs)) (length (drop 3 xs))) [
      | inl found ↦ comment_again-found x xs (with_roots root (drop (length text) xs)) begins found
      | inr past ↦ comment_again-past root x xs begins past
    ]

pieces_tag : (x : ℕ) (xs : Bytes) (found : Option (List Part)) → starts_with nat_eq (x ∷ xs) (codes "<!--") ≡ false → (x == 60 && is_ascii_alphabetic (first xs)) ≡ true → parts_of (after_run is_tag_byte xs) ≡ found → first_piece x xs ≡ tag_by x xs found
pieces_tag x xs found begins letter is = rw (begins, letter, is)

-- a tag without an end is read again
unfinished_again : (root : Bytes) (x : ℕ) (xs : Bytes) → starts_with nat_eq (x ∷ xs) (codes "<!--") ≡ false → (x == 60 && is_ascii_alphabetic (first xs)) ≡ true → parts_of (after_run is_tag_byte xs) ≡ None
    → first_piece x (xs ++ with_roots root (drop (length xs) xs)) ≡ unfinished (x ∷ xs)
unfinished_again root x xs begins letter none =
    let nothing : drop (length xs) xs ≡ [] = drop_all (length xs) xs (omega arith) in
    ap (λ (t : Bytes). first_piece x (xs ++ with_roots root t)) nothing ∙ ap (first_piece x) (append-nil xs) ∙ pieces_tag x xs None begins letter none

letter_is_tag_byte : (l : ℕ) → is_ascii_alphabetic l ≡ true → is_tag_byte l ≡ true
letter_is_tag_byte l letter = grind (arith, nat_tests)

letter_begins_no_comment : (x l : ℕ) (more : Bytes) → is_ascii_alphabetic l ≡ true → starts_with nat_eq (x ∷ (l ∷ more)) (codes "<!--") ≡ false
letter_begins_no_comment x l more letter =
    let mark : nat_eq 33 l ≡ false = ne_eqb 33 l (λ e. let bad : is_ascii_alphabetic 33 ≡ true = subst (λ n. is_ascii_alphabetic n ≡ true) (sym e) letter in cc) in
    rw mark (and_right (nat_eq 60 x) false refl)

name_starts : (xs : Bytes) → is_ascii_alphabetic (first xs) ≡ true → (more : Bytes) × (take_while is_tag_byte xs ≡ first xs ∷ more)
name_starts [] letter = cc
name_starts (l ∷ ls) letter = (take_while is_tag_byte ls, run-yes is_tag_byte l ls (letter_is_tag_byte l letter))

regrouped : (name parts close raw rest : Bytes) → (name ++ (parts ++ (close ++ raw))) ++ rest ≡ name ++ (parts ++ (close ++ (raw ++ rest)))
regrouped name parts close raw rest = simp append_assoc

-- a finished tag is read again
tag_again : (root : Bytes) → IsRoot root → (x : ℕ) (xs : Bytes) (parts : List Part) → (x == 60 && is_ascii_alphabetic (first xs)) ≡ true → parts_of (after_run is_tag_byte xs) ≡ Some parts
    → let name = take_while is_tag_byte xs in
    let left = drop (length (parts_text parts) + 1) (after_run is_tag_byte xs) in
    let raw = raw_text name left in
    first_piece x ((name ++ (parts_text (rooted_parts root parts) ++ (62 ∷ raw))) ++ with_roots root (drop (length raw) left)) ≡ tag (x ∷ name) (rooted_parts root parts) raw
tag_again root is_root x xs parts letter found =
    let name = take_while is_tag_byte xs in
    let after = after_run is_tag_byte xs in
    let left = drop (length (parts_text parts) + 1) after in
    let raw = raw_text name left in
    let more = with_roots root (drop (length raw) left) in
    let rooted = rooted_parts root parts in
    let again = parts_text rooted ++ (62 ∷ (raw ++ more)) in
    let next = some_text after parts found in
    let head : again ≡ next.0 ∷ drop 1 again = parts_head root next.0 next.1 parts (raw ++ more) (ap parts_of (sym next.2) ∙ found) in
    let ends : is_tag_byte next.0 ≡ false = subst (λ (t : Bytes). Stops is_tag_byte t) next.2 (Stops-after is_tag_byte xs) in
    let stop : Stops is_tag_byte again = subst (λ (t : Bytes). Stops is_tag_byte t) (sym head) ends in
    let run = run_again is_tag_byte name again (list_all-run is_tag_byte xs) stop in
    let rest = after_again is_tag_byte name again (list_all-run is_tag_byte xs) stop in
    let found_again : parts_of (after_run is_tag_byte (name ++ again)) ≡ Some rooted = ap parts_of rest ∙ parts_again root is_root after parts found (raw ++ more) in
    let tests = and_parts (x == 60) (is_ascii_alphabetic (first xs)) letter in
    let starts = name_starts xs tests.1 in
    let begins : name ++ again ≡ first xs ∷ (starts.0 ++ again) = ap (λ (t : Bytes). t ++ again) starts.1 in
    let no_comment : starts_with nat_eq (x ∷ (name ++ again)) (codes "<!--") ≡ false =
    ap (λ (t : Bytes). starts_with nat_eq (x ∷ t) (codes "<!--")) begins ∙ letter_begins_no_comment x (first xs) (starts.0 ++ again) tests.1 in
    let letter_again : (x == 60 && is_ascii_alphabetic (first (name ++ again))) ≡ true = ap (λ (t : Bytes). x == 60 && is_ascii_alphabetic (first t)) begins ∙ letter in
    let raw_left : drop (length (parts_text rooted) + 1) again ≡ raw ++ more = drop-append-add (parts_text rooted) (62 ∷ (raw ++ more)) 1 in
    let raw_same : raw_text name (drop (length (parts_text rooted) + 1) again) ≡ raw = ap (raw_text name) raw_left ∙ raw_again root name left in
    ap (first_piece x) (regrouped name (parts_text rooted) (62 ∷ []) raw more)
    ∙ pieces_tag x (name ++ again) (Some rooted) no_comment letter_again found_again
    ∙ ap (λ (n : Bytes). tag (x ∷ n) rooted (raw_text n (drop (length (parts_text rooted) + 1) (after_run is_tag_byte (name ++ again))))) run
    ∙ ap (λ (t : Bytes). tag (x ∷ name) rooted (raw_text name (drop (length (parts_text rooted) + 1) t))) rest
    ∙ ap (tag (x ∷ name) rooted) raw_same

-- what a piece becomes is read again, before what the rest becomes
abbrev Again : Bytes → Bytes → Piece → Type 0
Again root text piece =
    let again = piece_text (rooted_piece root piece) ++ with_roots root (drop (length (piece_text piece)) text) in
    first_piece (first again) (drop 1 again) ≡ rooted_piece root piece

pieces_other : (x : ℕ) (xs : Bytes) → starts_with nat_eq (x ∷ xs) (codes "<!--") ≡ false → (x == 60 && is_ascii_alphabetic (first xs)) ≡ false → first_piece x xs ≡ other x
pieces_other x xs begins letter = rw (begins, letter)

tag_by_again : (root : Bytes) → IsRoot root → (x : ℕ) (xs : Bytes) (found : Option (List Part)) → starts_with nat_eq (x ∷ xs) (codes "<!--") ≡ false → (x == 60 && is_ascii_alphabetic (first xs)) ≡ true
    → parts_of (after_run is_tag_byte xs) ≡ found → Again root (x ∷ xs) (tag_by x xs found)
tag_by_again root is_root x xs None begins letter found = unfinished_again root x xs begins letter found
tag_by_again root is_root x xs (Some parts) begins letter found =
    let left = drop (length (parts_text parts) + 1) (after_run is_tag_byte xs) in
    let raw = raw_text (take_while is_tag_byte xs) left in
    let rest : drop (length (piece_text (tag_by x xs (Some parts)))) (x ∷ xs) ≡ drop (length raw) left =
    ap (drop (length (piece_text (tag_by x xs (Some parts))))) (tag_same x xs parts found) ∙ drop-append_seam (piece_text (tag_by x xs (Some parts))) (drop (length raw) left) in
    subst (λ (t : Bytes). let again = piece_text (rooted_piece root (tag_by x xs (Some parts))) ++ with_roots root t in first_piece (first again) (drop 1 again) ≡ rooted_piece root (tag_by x xs (Some parts)))
    (sym rest) (tag_again root is_root x xs parts letter found)

piece_again : (root : Bytes) → IsRoot root → (x : ℕ) (xs : Bytes) → Again root (x ∷ xs) (first_piece x xs)
piece_again root is_root x xs =
    elim (starts_with nat_eq (x ∷ xs) (codes "<!--")) as (λ b. starts_with nat_eq (x ∷ xs) (codes "<!--") ≡ b → Again root (x ∷ xs) (first_piece x xs)) [
      | true ↦ λ begins. subst (λ (piece : Piece). Again root (x ∷ xs) piece) (sym (pieces_comment x xs begins)) (comment_again root x xs begins)
      | false ↦ λ begins. elim (x == 60 && is_ascii_alphabetic (first xs)) as (λ b. (x == 60 && is_ascii_alphabetic (first xs)) ≡ b → Again root (x ∷ xs) (first_piece x xs)) [
        | true ↦ λ letter. subst (λ (piece : Piece). Again root (x ∷ xs) piece) (sym (pieces_tag x xs (parts_of (after_run is_tag_byte xs)) begins letter refl))
            (tag_by_again root is_root x xs (parts_of (after_run is_tag_byte xs)) begins letter refl)
        | false ↦ λ letter. subst (λ (piece : Piece). Again root (x ∷ xs) piece) (sym (pieces_other x xs begins letter)) (other_again x xs (with_roots root xs) begins letter (follows root xs))
      ] refl
    ] refl

pieces_joined : (piece : Piece) (x : ℕ) (text rest : Bytes) → piece_text piece ≡ x ∷ text → first_piece (first (piece_text piece ++ rest)) (drop 1 (piece_text piece ++ rest)) ≡ piece
    → pieces (piece_text piece ++ rest) ≡ piece ∷ pieces rest
pieces_joined piece x text rest head again =
    let some : 0 < length (piece_text piece ++ rest) = omega (arith, ap length head, length-append (piece_text piece) rest) in
    pieces-ahead (piece_text piece ++ rest) some
    ∙ ap (λ (p : Piece). p ∷ pieces (drop (length (piece_text p)) (piece_text piece ++ rest))) again
    ∙ ap (λ (t : Bytes). piece ∷ pieces t) (drop-append_seam (piece_text piece) rest)

again_within : (root : Bytes) → IsRoot root → (fuel : ℕ) (text : Bytes) → length text ≤ fuel → pieces (with_roots root text) ≡ map (rooted_piece root) (pieces text)
again_within root is_root fuel [] short = refl
again_within root is_root zero (x ∷ xs) short = absurd (omega arith)
again_within root is_root (suc fuel) (x ∷ xs) short =
    let piece = first_piece x xs in
    let rooted = rooted_piece root piece in
    let size = length (piece_text piece) in
    let some : 0 < size = omega (arith, first_piece-some x xs) in
    let rest = with_roots root (drop size (x ∷ xs)) in
    let text : with_roots root (x ∷ xs) ≡ piece_text rooted ++ rest = with_roots-cons root x xs ∙ ap (λ (t : Bytes). t ++ rest) (sym (piece_text-rooted root piece)) in
    let head : piece_text rooted ≡ x ∷ drop 1 (piece_with_root root piece) = piece_text-rooted root piece ∙ piece_head root x xs in
    let inner = again_within root is_root fuel (drop size (x ∷ xs)) (shorter (x ∷ xs) size fuel short some) in
    ap pieces text
    ∙ pieces_joined rooted x (drop 1 (piece_with_root root piece)) rest head (piece_again root is_root x xs)
    ∙ ap (λ (more : List Piece). rooted ∷ more) inner
    ∙ sym (ap (map (rooted_piece root)) (pieces-cons x xs))

-- a text with roots is cut into the same pieces, with the root in their URLs
pub pieces-with_roots : (root : Bytes) → IsRoot root → (text : Bytes) → pieces (with_roots root text) ≡ map (rooted_piece root) (pieces text)
pieces-with_roots root is_root text = again_within root is_root (length text) text (omega arith)

part_links-rooted : (root : Bytes) (part : Part) → part_links (rooted_part root part) ≡ map (with_root root) (part_links part)
part_links-rooted root (mark b) = refl
part_links-rooted root (bare text) = refl
part_links-rooted root (valued name between value close) =
    elim (is_link name) as (λ b. (if b then (if b then with_root root value else value) ∷ [] else []) ≡ map (with_root root) (if b then value ∷ [] else [])) [ true ↦ refl | false ↦ refl ]

parts_links-rooted : (root : Bytes) (parts : List Part) → flat_map part_links (rooted_parts root parts) ≡ map (with_root root) (flat_map part_links parts)
parts_links-rooted root [] = refl
parts_links-rooted root (part ∷ parts) =
    let one = part_links-rooted root part in
    let more = parts_links-rooted root parts in
    let joined = map-append (with_root root) (part_links part) (flat_map part_links parts) in
    cc

piece_links-rooted : (root : Bytes) (piece : Piece) → piece_links (rooted_piece root piece) ≡ map (with_root root) (piece_links piece)
piece_links-rooted root (comment text) = refl
piece_links-rooted root (tag head parts raw) = parts_links-rooted root parts
piece_links-rooted root (unfinished text) = refl
piece_links-rooted root (other b) = refl

pieces_links-rooted : (root : Bytes) (all : List Piece) → flat_map piece_links (map (rooted_piece root) all) ≡ map (with_root root) (flat_map piece_links all)
pieces_links-rooted root [] = refl
pieces_links-rooted root (piece ∷ all) =
    let one = piece_links-rooted root piece in
    let more = pieces_links-rooted root all in
    let joined = map-append (with_root root) (piece_links piece) (flat_map piece_links all) in
    cc

-- the links of a text with roots are its links, with the root before each root URL
pub links_of-with_roots : (root : Bytes) → IsRoot root → (text : Bytes) → links_of (with_roots root text) ≡ map (with_root root) (links_of text)
links_of-with_roots root is_root text = ap (λ (all : List Piece). flat_map piece_links all) (pieces-with_roots root is_root text) ∙ pieces_links-rooted root (pieces text)
