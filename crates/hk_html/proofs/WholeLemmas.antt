-- The pieces of a whole text.
use Rattle.std.proofs.Common.{◌≡◌, ℕ, zero, suc, ◌+◌, ◌-◌, ◌<◌, ◌≤◌, true, false, cond, ◌&&◌, ◌==◌, nat_eq, codes, List, [], ◌∷◌, ◌++◌, Option, Some, None, length, drop, take, arith, refl, sym, ap, ◌∙◌, append_assoc}
use Rattle.std.specs.List.{flat_map, starts_with}
use Rattle.std.specs.Char.{is_ascii_alphabetic}
use Rattle.std.proofs.lemmas.List.{append-nil, drop_all, take_rest}
use Rattle.hk_base.specs.Bytes.{Bytes}
use Rattle.hk_html.specs.declared.scan.Scan.{Scan}
use Rattle.hk_html.specs.Kind.{first, after_run, is_tag_byte}
use Rattle.hk_html.specs.Found.{ReadsAll}
use Rattle.hk_html.specs.Part.{Part, parts_of}
use Rattle.hk_html.specs.Piece.{comment, other, first_piece, tag_by, piece_text, piece_links, piece_with_root, pieces, pieces_after}
use Rattle.hk_html.specs.Place.{place_of_word}
use Rattle.hk_html.specs.Relative.{with_roots, links_of}
use Rattle.hk_html.specs.Scan.{ReadsPiece, ahead, piece_ahead, written, link_values, links_with_root}
use Rattle.hk_html.proofs.ReadsLemmas.{Reads-ahead}

tag_by-some : (x : ℕ) (xs : Bytes) (parts : Option (List Part)) → length (piece_text (tag_by x xs parts)) ≡ suc (length (drop 1 (piece_text (tag_by x xs parts))))
tag_by-some x xs None = refl
tag_by-some x xs (Some parts) = refl

-- a piece has at least one byte
pub first_piece-some : (x : ℕ) (xs : Bytes) → length (piece_text (first_piece x xs)) ≡ suc (length (drop 1 (piece_text (first_piece x xs))))
first_piece-some x xs =
    elim (starts_with nat_eq (x ∷ xs) (codes "<!--")) as (λ b. let piece = cond b
    (comment (x ∷ take (place_of_word (codes "-->") (drop 3 xs) + 6) xs))
    (cond (x == 60 && is_ascii_alphabetic (first xs)) (tag_by x xs (parts_of (after_run is_tag_byte xs))) (other x)) in
    length (piece_text piece) ≡ suc (length (drop 1 (piece_text piece)))) [
      | true ↦ refl
      | false ↦ elim (x == 60 && is_ascii_alphabetic (first xs)) as (λ b. let piece = cond b (tag_by x xs (parts_of (after_run is_tag_byte xs))) (other x) in
          length (piece_text piece) ≡ suc (length (drop 1 (piece_text piece)))) [
            | true ↦ tag_by-some x xs (parts_of (after_run is_tag_byte xs))
            | false ↦ refl
          ]
    ]

pieces_after-drop : (skip : ℕ) (text : Bytes) → pieces_after skip text ≡ pieces (drop skip text)
pieces_after-drop zero text = refl
pieces_after-drop (suc skip) [] = refl
pieces_after-drop (suc skip) (x ∷ xs) = pieces_after-drop skip xs

-- the first piece, and those of what comes after it
pub pieces-cons : (x : ℕ) (xs : Bytes) → pieces (x ∷ xs) ≡ first_piece x xs ∷ pieces (drop (length (piece_text (first_piece x xs))) (x ∷ xs))
pieces-cons x xs = rw (first_piece-some x xs) (ap (λ more. first_piece x xs ∷ more) (pieces_after-drop (length (drop 1 (piece_text (first_piece x xs)))) xs))

pub pieces-ahead : (text : Bytes) → 0 < length text → pieces text ≡ first_piece (first text) (drop 1 text) ∷ pieces (drop (length (piece_text (first_piece (first text) (drop 1 text)))) text)
pieces-ahead [] some = absurd (omega arith)
pieces-ahead (x ∷ xs) some = pieces-cons x xs

piece_ahead-some : (text : Bytes) → 0 < length text → 0 < length (piece_text (first_piece (first text) (drop 1 text)))
piece_ahead-some [] some = absurd (omega arith)
piece_ahead-some (x ∷ xs) some = omega (arith, first_piece-some x xs)

-- what was read so far, and the pieces ahead
pub record PiecesRead (body : Bytes) (now : Scan) : Type 0 where
  pub same : now.body.now ≡ body
  pub text : (root : Bytes) → written root now ++ flat_map (piece_with_root root) (pieces (ahead now)) ≡ with_roots root body
  pub found : link_values now.links.items ++ flat_map piece_links (pieces (ahead now)) ≡ links_of body

pub PiecesRead-more : (body : Bytes) (now new : Scan) → PiecesRead body now → 0 < length (ahead now) → ReadsPiece now new (piece_ahead now) → PiecesRead body new
PiecesRead-more body now new so_far some one =
    let step = pieces-ahead (ahead now) some in
    let next = Reads-ahead now new _ _ _ one in
    record {
      same = one.body ∙ so_far.same;
      text = λ root. rw (next, one.text root) (append_assoc (written root now) (piece_with_root root (piece_ahead now)) _ ∙ rw (step) at (so_far.text root));
      found = rw (next, one.found) (append_assoc (link_values now.links.items) (piece_links (piece_ahead now)) _ ∙ rw (step) at so_far.found);
    }

pub ReadsPiece-falls : (now new : Scan) → now.at < length now.body.now → 0 < length (ahead now) → ReadsPiece now new (piece_ahead now) → length new.body.now - new.at < length now.body.now - now.at
ReadsPiece-falls now new inside some one = omega (arith, one.at, ap length one.body, piece_ahead-some (ahead now) some)

pub ReadsAll-end : (body : Bytes) (now : Scan) → PiecesRead body now → length now.body.now ≤ now.at → ReadsAll body now
ReadsAll-end body now so_far past =
    let nothing : ahead now ≡ [] = drop_all now.at now.body.now past in
    let inside : now.at ≤ length now.body.now = now.inside in
    record {
      same = so_far.same;
      whole = omega (arith, ap length so_far.same);
      relative = λ root. sym (append-nil (written root now)) ∙ rw nothing at (so_far.text root);
      found = sym (append-nil (link_values now.links.items)) ∙ rw nothing at so_far.found;
    }

-- the links, and what stands after the last of them
pub ReadsAll-text : (body : Bytes) (scan : Scan) (root : Bytes) → ReadsAll body scan → links_with_root root scan.links.items ++ drop scan.from body ≡ with_roots root body
ReadsAll-text body scan root all =
    rw (all.same, all.whole, take_rest body scan.from) at (all.relative root)
