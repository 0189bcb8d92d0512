-- The test of cover decides whether there is a cut.
use Rattle.std.proofs.Common.{◌≡◌, ◌≢◌, ℕ, Bool, true, false, ◌==◌, not, List, [], ◌∷◌, ◌++◌, refl, sym, ap, subst, ◌∙◌}
use Rattle.std.specs.Prelude.{◌||◌, ◌&&◌, T, ◌↔◌, IsTrue}
use Rattle.std.specs.List.{AllByRecursion}
use borrow.Author.Tests.{eqb-true, eq-eqb}
use Rattle.hk_base.specs.Bytes.{Bytes}
use Rattle.hk_base.proofs.Both.{left-part, right-part, either-right}
use Rattle.hk_pattern.specs.declared.piece.Piece.{Piece}
use Rattle.hk_pattern.specs.declared.piece.Piece.TheVariants.{Byte, Star, Stars}
use Rattle.hk_pattern.specs.Glob.{Covers, covers, some_cut, is_inner, is_any}

pub no-false : {A : Type 0} → false ≡ true → A
no-false e = absurd (subst T (sym e) tt)

pub either : (a b : Bool) (P : Type 0) → (a ≡ true → P) → (b ≡ true → P) → (a || b) ≡ true → P
either true b P f g e = f refl
either false b P f g e = g e

-- a cut that the test finds
cut-found : (passes : ℕ → Bool) (rest : Bytes → Bool) (path : Bytes) → some_cut passes rest path ≡ true → (part : Bytes) × (tail : Bytes) × (path ≡ part ++ tail) × AllByRecursion (λ c. passes c ≡ true) part × (rest tail ≡ true)
cut-found passes rest [] e = ([], [], refl, tt, e)
cut-found passes rest (c ∷ cs) e = either (rest (c ∷ cs)) (passes c && some_cut passes rest cs) _
    (λ here. ([], c ∷ cs, refl, tt, here))
    (λ later. let r = cut-found passes rest cs (right-part _ _ later) in (c ∷ r.0, r.1, ap (λ t. c ∷ t) r.2, (left-part _ _ later, r.3), r.4)) e

pub cut-here : (passes : ℕ → Bool) (rest : Bytes → Bool) (path : Bytes) → rest path ≡ true → some_cut passes rest path ≡ true
cut-here passes rest [] e = e
cut-here passes rest (c ∷ cs) e = ap (λ b. b || (passes c && some_cut passes rest cs)) e

pub cut-later : (passes : ℕ → Bool) (rest : Bytes → Bool) (c : ℕ) (cs : Bytes) → passes c ≡ true → some_cut passes rest cs ≡ true → some_cut passes rest (c ∷ cs) ≡ true
cut-later passes rest c cs p e = either-right (rest (c ∷ cs)) _ (ap (λ b. b && some_cut passes rest cs) p ∙ e)

-- the test finds a cut
cut-finds : (passes : ℕ → Bool) (rest : Bytes → Bool) (part tail : Bytes) → AllByRecursion (λ c. passes c ≡ true) part → rest tail ≡ true → some_cut passes rest (part ++ tail) ≡ true
cut-finds passes rest [] tail all e = cut-here passes rest tail e
cut-finds passes rest (c ∷ part) tail all e = cut-later passes rest c (part ++ tail) all.0 (cut-finds passes rest part tail all.1 e)

all-weaker : {P Q : ℕ → Type 0} → ((c : ℕ) → P c → Q c) → (xs : Bytes) → AllByRecursion P xs → AllByRecursion Q xs
all-weaker f [] h = tt
all-weaker f (x ∷ xs) h = (f x h.0, all-weaker f xs h.1)

slash-out : (c : ℕ) → is_inner c ≡ true → c ≢ 47
slash-out c e s = no-false (ap not (sym (ap (λ x. x == 47) s)) ∙ e)

slash-in : (c : ℕ) → c ≢ 47 → is_inner c ≡ true
slash-in c n = elim (c == 47) as (λ b. (c == 47) ≡ b → not b ≡ true) [ true ↦ λ t. absurd (n (eqb-true c 47 t)) | false ↦ λ _. refl ] refl

pub covers-sound : (ps : List Piece) (path : Bytes) → covers ps path ≡ true → Covers ps path
covers-sound [] [] e = refl
covers-sound [] (c ∷ cs) e = no-false e
covers-sound (Byte b ∷ ps) [] e = no-false e
covers-sound (Byte b ∷ ps) (c ∷ cs) e = (cs, ap (λ x. x ∷ cs) (sym (eqb-true b c (left-part _ _ e))), covers-sound ps cs (right-part _ _ e))
covers-sound (Star ∷ ps) path e = let r = cut-found is_inner (covers ps) path e in (r.0, r.1, r.2, all-weaker slash-out r.0 r.3, covers-sound ps r.1 r.4)
covers-sound (Stars ∷ ps) path e = let r = cut-found is_any (covers ps) path e in (r.0, r.1, r.2, covers-sound ps r.1 r.4)

all-any : (xs : Bytes) → AllByRecursion (λ c. true ≡ true) xs
all-any [] = tt
all-any (x ∷ xs) = (refl, all-any xs)

pub covers-complete : (ps : List Piece) (path : Bytes) → Covers ps path → covers ps path ≡ true
covers-complete [] path h = ap (covers []) h
covers-complete (Byte b ∷ ps) path h = ap (covers (Byte b ∷ ps)) h.1 ∙ ap (λ t. t && covers ps h.0) (eq-eqb b b refl) ∙ covers-complete ps h.0 h.2
covers-complete (Star ∷ ps) path h = ap (covers (Star ∷ ps)) h.2 ∙ cut-finds is_inner (covers ps) h.0 h.1 (all-weaker slash-in h.0 h.3) (covers-complete ps h.1 h.4)
covers-complete (Stars ∷ ps) path h = ap (covers (Stars ∷ ps)) h.2 ∙ cut-finds is_any (covers ps) h.0 h.1 (all-any h.0) (covers-complete ps h.1 h.3)

-- the answer of the test is whether there is a cut
pub covers-cut : (r : Bool) (ps : List Piece) (path : Bytes) → r ≡ covers ps path → IsTrue r ↔ Covers ps path
covers-cut r ps path e = (λ t. covers-sound ps path (sym e ∙ t), λ h. e ∙ covers-complete ps path h)
