-- A last byte of the pieces is the last byte of the path, whatever stands before it.
use Rattle.std.proofs.Common.{◌≡◌, ◌≢◌, ℕ, Bool, true, false, ◌==◌, List, [], ◌∷◌, ◌++◌, length, refl, sym, ap, ◌∙◌, arith}
use Rattle.std.specs.Prelude.{◌||◌, ◌&&◌}
use borrow.Author.Tests.{eqb-true, eq-eqb}
use Rattle.hk_base.specs.Bytes.{Bytes}
use Rattle.hk_pattern.specs.declared.piece.Piece.{Piece}
use Rattle.hk_pattern.specs.declared.piece.Piece.TheVariants.{Byte, Star, Stars}
use Rattle.hk_pattern.specs.Glob.{covers, some_cut, is_inner, is_any}

falses : (a b : Bool) → (a && false) ≡ (b && false)
falses true true = refl
falses true false = refl
falses false true = refl
falses false false = refl

swap : (a b t : Bool) → (a && (b && t)) ≡ (b && (a && t))
swap true b t = refl
swap false true t = refl
swap false false t = refl

or-none : (a b : Bool) → (a || (b && false)) ≡ a
or-none true b = refl
or-none false true = refl
or-none false false = refl

spread : (s a b t : Bool) → ((s && a) || (b && (s && t))) ≡ (s && (a || (b && t)))
spread true a b t = refl
spread false a true t = refl
spread false a false t = refl

-- a last byte that the rest of each cut wants
last-cut : (passes : ℕ → Bool) (s : Bool) (rest other : Bytes → Bool) (c : ℕ) → rest [] ≡ false → ((path : Bytes) → rest (path ++ c ∷ []) ≡ (s && other path))
    → (path : Bytes) → some_cut passes rest (path ++ c ∷ []) ≡ (s && some_cut passes other path)
last-cut passes s rest other c none last [] = ap (λ b. b || (passes c && rest [])) (last []) ∙ ap (λ b. (s && other []) || (passes c && b)) none ∙ or-none (s && other []) (passes c)
last-cut passes s rest other c none last (d ∷ ds) =
    ap (λ b. b || (passes d && some_cut passes rest (ds ++ c ∷ []))) (last (d ∷ ds)) ∙ ap (λ b. (s && other (d ∷ ds)) || (passes d && b)) (last-cut passes s rest other c none last ds)
    ∙ spread s (other (d ∷ ds)) (passes d) (some_cut passes other ds)

-- a byte needs a byte
no-bytes : (b : ℕ) (ps : List Piece) → covers (ps ++ Byte b ∷ []) [] ≡ false
no-bytes b [] = refl
no-bytes b (Byte a ∷ ps) = refl
no-bytes b (Star ∷ ps) = no-bytes b ps
no-bytes b (Stars ∷ ps) = no-bytes b ps

longer : (c : ℕ) (ds : Bytes) → covers [] (ds ++ c ∷ []) ≡ false
longer c [] = refl
longer c (d ∷ ds) = refl

last-byte : (b c : ℕ) (ps : List Piece) (path : Bytes) → covers (ps ++ Byte b ∷ []) (path ++ c ∷ []) ≡ ((b == c) && covers ps path)
last-byte b c [] [] = refl
last-byte b c [] (d ∷ ds) = ap (λ t. (b == d) && t) (longer c ds) ∙ falses (b == d) (b == c)
last-byte b c (Byte a ∷ ps) [] = ap (λ t. (a == c) && t) (no-bytes b ps) ∙ falses (a == c) (b == c)
last-byte b c (Byte a ∷ ps) (d ∷ ds) = ap (λ t. (a == d) && t) (last-byte b c ps ds) ∙ swap (a == d) (b == c) (covers ps ds)
last-byte b c (Star ∷ ps) path = last-cut is_inner (b == c) (covers (ps ++ Byte b ∷ [])) (covers ps) c (no-bytes b ps) (last-byte b c ps) path
last-byte b c (Stars ∷ ps) path = last-cut is_any (b == c) (covers (ps ++ Byte b ∷ [])) (covers ps) c (no-bytes b ps) (last-byte b c ps) path

covers-last : (qs : List Piece) (q : Bytes) (b c : ℕ) (ps : List Piece) (p : Bytes) → ps ≡ qs ++ Byte b ∷ [] → p ≡ q ++ c ∷ [] → covers ps p ≡ ((b == c) && covers qs q)
covers-last qs q b c ps p e f = ap (covers ps) f ∙ ap (λ t. covers t (q ++ c ∷ [])) e ∙ last-byte b c qs q

-- the same at a piece that is seen to be a byte
pub last-same : (ps : List Piece) (p : Bytes) (qs : List Piece) (q : Bytes) (piece : Piece) (b c : ℕ) → ps ≡ qs ++ piece ∷ [] → piece ≡ Byte b → p ≡ q ++ c ∷ [] → c ≡ b → covers qs q ≡ covers ps p
last-same ps p qs q piece b c e is f s = sym (covers-last qs q b c ps p (e ∙ ap (λ x. qs ++ x ∷ []) is) f ∙ ap (λ t. t && covers qs q) (eq-eqb b c (sym s)))

pub last-differs : (ps : List Piece) (p : Bytes) (qs : List Piece) (q : Bytes) (piece : Piece) (b c : ℕ) → ps ≡ qs ++ piece ∷ [] → piece ≡ Byte b → p ≡ q ++ c ∷ [] → c ≢ b → covers ps p ≡ false
last-differs ps p qs q piece b c e is f s =
    covers-last qs q b c ps p (e ∙ ap (λ x. qs ++ x ∷ []) is) f
    ∙ elim (b == c) as (λ t. (b == c) ≡ t → (t && covers qs q) ≡ false) [ true ↦ λ same. absurd (s (sym (eqb-true b c same))) | false ↦ λ _. refl ] refl

pub last-missing : (ps : List Piece) (p : Bytes) (qs : List Piece) (piece : Piece) (b : ℕ) → ps ≡ qs ++ piece ∷ [] → piece ≡ Byte b → length p ≡ 0 → covers ps p ≡ false
last-missing ps [] qs piece b e is none = ap (λ t. covers t []) (e ∙ ap (λ x. qs ++ x ∷ []) is) ∙ no-bytes b qs
last-missing ps (c ∷ cs) qs piece b e is none = absurd (omega arith)
