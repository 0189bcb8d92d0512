-- A text has one cutting, and the scanner gives it.
use Rattle.std.proofs.Common.{◌≡◌, ℕ, zero, suc, ◌<◌, ◌≤◌, List, [], ◌∷◌, ◌++◌, length, drop, arith, refl, sym, ap, subst, ◌∙◌}
use Rattle.std.specs.List.{flat_map}
use Rattle.std.proofs.lemmas.List.{length-append}
use Rattle.std.proofs.Math.Seq.{drop-append_seam}
use Rattle.hk_base.specs.Bytes.{Bytes}
use Rattle.hk_html.specs.Piece.{Piece, first_piece, piece_text, pieces}
use Rattle.hk_html.proofs.JoinLemmas.{shorter}
use Rattle.hk_html.proofs.WholeLemmas.{first_piece-some, pieces-cons, pieces-ahead}
use Rattle.hk_laws.specs.Cuttings.{FitsPiece, FitsPieces, IsCutting, CutsEach, OneCutting}
use Rattle.hk_laws.proofs.PieceLemmas.{read_piece, piece_read, piece_some}

cut_cons : (x : ℕ) (xs : Bytes) (piece : Piece) (rest : Bytes) (more : List Piece) → x ∷ xs ≡ piece_text piece ++ rest → FitsPiece piece rest → IsCutting rest more → IsCutting (x ∷ xs) (piece ∷ more)
cut_cons x xs piece rest more same fits inner = record {
  joined = same ∙ ap (λ (t : Bytes). piece_text piece ++ t) inner.joined;
  fits = (subst (λ (t : Bytes). FitsPiece piece t) inner.joined fits, inner.fits);
}

cuts_within : (fuel : ℕ) (text : Bytes) → length text ≤ fuel → IsCutting text (pieces text)
cuts_within fuel [] short = record { joined = refl; fits = tt }
cuts_within zero (x ∷ xs) short = absurd (omega arith)
cuts_within (suc fuel) (x ∷ xs) short =
    let piece = first_piece x xs in
    let size = length (piece_text piece) in
    let some : 0 < size = omega (arith, first_piece-some x xs) in
    let read = read_piece x xs in
    let rest : drop size (x ∷ xs) ≡ read.rest = ap (drop size) read.same ∙ drop-append_seam (piece_text piece) read.rest in
    let inner = cuts_within fuel (drop size (x ∷ xs)) (shorter (x ∷ xs) size fuel short some) in
    subst (λ (all : List Piece). IsCutting (x ∷ xs) all) (sym (pieces-cons x xs))
    (cut_cons x xs piece (drop size (x ∷ xs)) (pieces (drop size (x ∷ xs)))
    (read.same ∙ ap (λ (t : Bytes). piece_text piece ++ t) (sym rest))
    (subst (λ (t : Bytes). FitsPiece piece t) (sym rest) read.fits) inner)

-- the pieces of a text are a cutting of it
pub cuts_each : CutsEach pieces
cuts_each text = cuts_within (length text) text (omega arith)

-- every cutting is the pieces of its text
fitting_pieces : (cut : List Piece) → FitsPieces cut → pieces (flat_map piece_text cut) ≡ cut
fitting_pieces [] fits = refl
fitting_pieces (piece ∷ more) fits =
    let rest = flat_map piece_text more in
    let text = piece_text piece ++ rest in
    let some : 0 < length text = omega (arith, length-append (piece_text piece) rest, piece_some piece rest fits.0) in
    let again = piece_read piece rest fits.0 in
    pieces-ahead text some
    ∙ ap (λ (p : Piece). p ∷ pieces (drop (length (piece_text p)) text)) again
    ∙ ap (λ (t : Bytes). piece ∷ pieces t) (drop-append_seam (piece_text piece) rest)
    ∙ ap (λ (all : List Piece). piece ∷ all) (fitting_pieces more fits.1)

pub cutting_is : (text : Bytes) (cut : List Piece) → IsCutting text cut → pieces text ≡ cut
cutting_is text cut is = ap pieces is.joined ∙ fitting_pieces cut is.fits

pub one_cutting : OneCutting
one_cutting text one another first second = sym (cutting_is text one first) ∙ cutting_is text another second
