-- The pieces of a text, one after the other.
use Rattle.std.proofs.Common.{◌≡◌, ℕ, suc, ◌+◌, ◌-◌, ◌<◌, ◌≤◌, min, true, false, cond, ◌&&◌, ◌==◌, nat_eq, codes, List, [], ◌∷◌, ◌++◌, Some, None, length, drop, take, arith, refl, sym, ap, ◌∙◌, append_assoc}
use Rattle.std.specs.List.{flat_map, take_while, starts_with, slice_range, prefix_len}
use Rattle.std.specs.Char.{is_ascii_alphabetic}
use Rattle.std.proofs.lemmas.List.{append-nil, take_all, take_rest, drop-drop, length-append, length-take, length-take-le, length-drop, take_min}
use Rattle.hk_html.proofs.RunLemmas.{length-run}
use Rattle.hk_base.specs.Bytes.{Bytes}
use Rattle.hk_html.specs.declared.scan.Scan.{Scan}
use Rattle.hk_html.specs.Kind.{first, after_run, is_tag_byte}
use Rattle.hk_html.specs.Part.{Part, parts_of, parts_text, part_with_root}
use Rattle.hk_html.specs.Piece.{comment, tag, unfinished, other, first_piece, tag_by, raw_text, has_raw_text, ends_raw_text}
use Rattle.hk_html.specs.Place.{first_place, place_of_word}
use Rattle.hk_html.specs.Scan.{Reads, ReadsParts, ReadsTag, ReadsPiece, ahead, piece_ahead, tag_ahead, link_values, links_with_root}
use Rattle.hk_html.proofs.SliceLemmas.{slice_range-add}
use Rattle.hk_html.proofs.ReadsLemmas.{Reads-ahead, Reads-same, Reads-trans, kept_more}

head_and_rest : (text : Bytes) → 0 < length text → first text ∷ drop 1 text ≡ text
head_and_rest [] some = absurd (omega arith)
head_and_rest (x ∷ xs) some = refl

take_one : (text : Bytes) (x : ℕ) → 0 < length text → first text ≡ x → take 1 text ≡ x ∷ []
take_one [] x some e = absurd (omega arith)
take_one (y ∷ ys) x some e = ap (λ y. y ∷ []) e

-- the rest of a text, with the links as they were
pub ReadsPiece-rest : (old new : Scan) → old.from ≤ old.at → old.at < length old.body.now → new.body.now ≡ old.body.now → new.links.items ≡ old.links.items → new.from ≡ old.from → new.at ≡ length old.body.now
    → ReadsPiece old new (unfinished (first (ahead old) ∷ drop 1 (ahead old)))
ReadsPiece-rest old new order inside body links from at =
    let some : 0 < length (ahead old) = omega (arith, length-drop old.at old.body.now) in
    let whole = head_and_rest (ahead old) some in
    let sum : old.at + (length old.body.now - old.at) ≡ length old.body.now = omega arith in
    let left = rw sum at (slice_range-add old.body.now old.from old.at (length old.body.now - old.at) order) in
    let reads : Reads old new (length (ahead old)) (λ root. ahead old) [] = record {
      body = body;
      at = omega (arith, at, length-drop old.at old.body.now);
      text = λ root. rw (links, body, from, at, left, take_rest old.body.now old.at) (sym (append_assoc (links_with_root root old.links.items) (slice_range old.body.now old.from old.at) (ahead old)));
      found = rw (links, append-nil (link_values old.links.items));
      kept = rw links (take_all (length old.links.items) old.links.items (omega arith));
    } in
    Reads-same _ _ _ reads (sym (ap length whole)) (λ root. sym whole) refl

take_length_take : (k : ℕ) (text : Bytes) → take (length (take k text)) text ≡ take k text
take_length_take k text = rw (length-take k text) (take_min k text)

pub raw_text-front : (name text : Bytes) → take (length (raw_text name text)) text ≡ raw_text name text
raw_text-front name text =
    elim (has_raw_text name) as (λ b. let raw = cond b (take (first_place (ends_raw_text name) text) text) [] in take (length raw) text ≡ raw) [
      | true ↦ take_length_take (first_place (ends_raw_text name) text) text
      | false ↦ refl
    ]

head_cut : (text : Bytes) (k : ℕ) → 0 < length text → take (1 + k) text ≡ first text ∷ take k (drop 1 text)
head_cut [] k some = absurd (omega arith)
head_cut (x ∷ xs) k some = let e : 1 + k ≡ suc k = omega arith in rw e

tag_text : (head parts close raw : Bytes) → ((head ++ parts) ++ close) ++ raw ≡ head ++ (parts ++ (close ++ raw))
tag_text head parts close raw = simp append_assoc

-- what stands after the name of a tag
after_name : (old s1 : Scan) (name : Bytes) → name ≡ take_while is_tag_byte (drop 1 (ahead old))
    → Reads old s1 (1 + length name) (λ root. take (1 + length name) (ahead old)) [] → ahead s1 ≡ after_run is_tag_byte (drop 1 (ahead old))
after_name old s1 name name_is one =
    let size : length name ≡ prefix_len is_tag_byte (drop 1 (ahead old)) = rw name_is (length-run is_tag_byte (drop 1 (ahead old))) in
    Reads-ahead old s1 _ _ _ one ∙ sym (drop-drop (length name) 1 (ahead old)) ∙ rw size

-- a tag without an end
pub ReadsPiece-unfinished : (old s1 s2 new : Scan) (name : Bytes) → old.from ≤ old.at → old.at < length old.body.now
    → name ≡ take_while is_tag_byte (drop 1 (ahead old))
    → Reads old s1 (1 + length name) (λ root. take (1 + length name) (ahead old)) []
    → ReadsTag s1 s2 false
    → new.body.now ≡ s2.body.now → new.links.items ≡ take (length old.links.items) s2.links.items → new.from ≡ old.from → new.at ≡ length s2.body.now
    → ReadsPiece old new (tag_ahead old)
ReadsPiece-unfinished old s1 s2 new name order inside name_is one two body links from at =
    let after = after_name old s1 name name_is one in
    let found : parts_of (after_run is_tag_byte (drop 1 (ahead old))) ≡ None = rw (← after) two.0 in
    let tag_is : tag_ahead old ≡ unfinished (first (ahead old) ∷ drop 1 (ahead old)) = rw found in
    let bodies : s2.body.now ≡ old.body.now = two.1 ∙ one.body in
    rw tag_is (ReadsPiece-rest old new order inside (body ∙ bodies)
    (links ∙ kept_more old.links.items s1.links.items s2.links.items one.kept two.2) from (at ∙ ap length bodies))

-- a finished tag
pub ReadsPiece-tag : (old s1 s2 s3 new : Scan) (name : Bytes) (parts : List Part) (raw : ℕ) → 0 < length (ahead old)
    → name ≡ take_while is_tag_byte (drop 1 (ahead old))
    → Reads old s1 (1 + length name) (λ root. take (1 + length name) (ahead old)) []
    → parts_of (ahead s1) ≡ Some parts → ReadsParts s1 s2 parts → 0 < length (ahead s2) → first (ahead s2) ≡ 62
    → Reads s2 s3 1 (λ root. take 1 (ahead s2)) []
    → raw ≡ length (raw_text name (ahead s3))
    → Reads s3 new raw (λ root. take raw (ahead s3)) []
    → ReadsPiece old new (tag_ahead old)
ReadsPiece-tag old s1 s2 s3 new name parts raw some name_is one parts_are two some_end end three raw_is four =
    let x = first (ahead old) in
    let xs = drop 1 (ahead old) in
    let size : length name ≡ prefix_len is_tag_byte xs = rw name_is (length-run is_tag_byte xs) in
    let after = after_name old s1 name name_is one in
    let head_is : take (1 + length name) (ahead old) ≡ x ∷ name = head_cut (ahead old) (length name) some ∙ ap (λ n. x ∷ n) (rw size (sym name_is)) in
    let found : parts_of (after_run is_tag_byte xs) ≡ Some parts = rw (← after) parts_are in
    let third : ahead s3 ≡ drop (length (parts_text parts) + 1) (after_run is_tag_byte xs) =
    Reads-ahead s2 s3 _ _ _ three ∙ rw (Reads-ahead s1 s2 _ _ _ two, after) (drop-drop 1 (length (parts_text parts)) (after_run is_tag_byte xs)) in
    let tag_is : tag_ahead old ≡ tag (x ∷ name) parts (raw_text name (ahead s3)) = rw (found, name_is, third) in
    let close_is = take_one (ahead s2) 62 some_end end in
    let raw_front : take raw (ahead s3) ≡ raw_text name (ahead s3) = rw raw_is (raw_text-front name (ahead s3)) in
    let joined = Reads-trans (Reads-trans (Reads-trans one two) three) four in
    rw tag_is (Reads-same _ _ _ joined
    (rw raw_is (simp length-append (omega arith)))
    (λ root. rw (head_is, close_is, raw_front) (tag_text (x ∷ name) (flat_map (part_with_root root) parts) (62 ∷ []) (raw_text name (ahead s3))))
    (simp append-nil))

comment_is : (text : Bytes) (count : ℕ) → 0 < length text → starts_with nat_eq text (codes "<!--") ≡ true
    → count ≡ min (place_of_word (codes "-->") (drop 4 text) + 7) (length text)
    → first_piece (first text) (drop 1 text) ≡ comment (take count text)
comment_is [] count some begins count_is = absurd (omega arith)
comment_is (x ∷ xs) count some begins count_is =
    let place = place_of_word (codes "-->") (drop 3 xs) in
    let more : place + 7 ≡ suc (place + 6) = omega arith in
    let front : take count (x ∷ xs) ≡ x ∷ take (place + 6) xs = rw (count_is, take_min (place + 7) (x ∷ xs), more) in
    rw (begins, front)

-- a comment
pub ReadsPiece-comment : (old new : Scan) (count : ℕ) → 0 < length (ahead old) → starts_with nat_eq (ahead old) (codes "<!--") ≡ true
    → count ≡ min (place_of_word (codes "-->") (drop 4 (ahead old)) + 7) (length (ahead old))
    → Reads old new count (λ root. take count (ahead old)) [] → ReadsPiece old new (piece_ahead old)
ReadsPiece-comment old new count some begins count_is one =
    let fits : count ≤ length (ahead old) = omega arith in
    rw (comment_is (ahead old) count some begins count_is)
    (Reads-same _ _ _ one (sym (length-take-le count (ahead old) fits)) (λ root. refl) refl)

other_is : (text : Bytes) → 0 < length text → starts_with nat_eq text (codes "<!--") ≡ false
    → (first text == 60 && is_ascii_alphabetic (first (drop 1 text))) ≡ false → first_piece (first text) (drop 1 text) ≡ other (first text)
other_is [] some begins none = absurd (omega arith)
other_is (x ∷ xs) some begins none = rw (begins, none)

-- any other byte
pub ReadsPiece-other : (old new : Scan) → 0 < length (ahead old) → starts_with nat_eq (ahead old) (codes "<!--") ≡ false
    → (first (ahead old) == 60 && is_ascii_alphabetic (first (drop 1 (ahead old)))) ≡ false
    → Reads old new 1 (λ root. take 1 (ahead old)) [] → ReadsPiece old new (piece_ahead old)
ReadsPiece-other old new some begins none one =
    rw (other_is (ahead old) some begins none)
    (Reads-same _ _ _ one refl (λ root. take_one (ahead old) (first (ahead old)) some refl) refl)

tag_is : (text : Bytes) → 0 < length text → starts_with nat_eq text (codes "<!--") ≡ false
    → (first text == 60 && is_ascii_alphabetic (first (drop 1 text))) ≡ true
    → first_piece (first text) (drop 1 text) ≡ tag_by (first text) (drop 1 text) (parts_of (after_run is_tag_byte (drop 1 text)))
tag_is [] some begins letter = absurd (omega arith)
tag_is (x ∷ xs) some begins letter = rw (begins, letter)

pub piece_ahead-tag : (old : Scan) → 0 < length (ahead old) → starts_with nat_eq (ahead old) (codes "<!--") ≡ false
    → (first (ahead old) == 60 && is_ascii_alphabetic (first (drop 1 (ahead old)))) ≡ true → piece_ahead old ≡ tag_ahead old
piece_ahead-tag old some begins letter = tag_is (ahead old) some begins letter
