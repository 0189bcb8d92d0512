-- What a step of the walk keeps.
use Rattle.std.proofs.Common.{◌≡◌, ℕ, ◌+◌, ◌<◌, ◌≤◌, Bool, true, false, ◌==◌, not, List, [], ◌∷◌, length, drop, get_or, drop-cons, add-one, ◌⊎◌, inl, inr, refl, sym, ap, subst, ◌∙◌, arith, Option, Some, None, MatchOption, cond}
use Rattle.std.specs.Prelude.{◌||◌, ◌&&◌}
use borrow.Author.Tests.{eqb-true}
use Rattle.hk_base.specs.Bytes.{Bytes}
use Rattle.hk_base.proofs.Both.{left-part, right-part, not-both}
use Rattle.hk_pattern.specs.declared.piece.Piece.{Piece}
use Rattle.hk_pattern.specs.declared.piece.Piece.TheVariants.{Byte, Star, Stars}
use Rattle.hk_pattern.specs.declared.walk.Walk.{Walk}
use Rattle.hk_pattern.specs.declared.walk.Walk.TheVariants as walk
use Rattle.hk_pattern.specs.Glob.{covers, some_cut, headed, is_byte, is_inner, is_any}
use Rattle.hk_pattern.specs.Walk.{Keeps, Walked, past_slash}
use Rattle.hk_pattern.proofs.Cuts.{no-false, either, cut-here, cut-later}

-- two tests that imply each other are the same
same : (a b : Bool) → (a ≡ true → b ≡ true) → (b ≡ true → a ≡ true) → a ≡ b
same true true f g = refl
same true false f g = sym (f refl)
same false true f g = g refl
same false false f g = refl

-- where a later test fails, so does an earlier one that implies it
pub unless : (a b : Bool) → (a ≡ true → b ≡ true) → b ≡ false → a ≡ false
unless true b f e = not-both b (f refl) e
unless false b f e = refl

-- cuts of more bytes, and of weaker rests
weaker : (passes more : ℕ → Bool) (rest other : Bytes → Bool) → ((c : ℕ) → passes c ≡ true → more c ≡ true) → ((path : Bytes) → rest path ≡ true → other path ≡ true)
    → (path : Bytes) → some_cut passes rest path ≡ true → some_cut more other path ≡ true
weaker passes more rest other f g [] e = g [] e
weaker passes more rest other f g (c ∷ cs) e = either (rest (c ∷ cs)) (passes c && some_cut passes rest cs) _
    (λ here. cut-here more other (c ∷ cs) (g (c ∷ cs) here))
    (λ later. cut-later more other c cs (f c (left-part _ _ later)) (weaker passes more rest other f g cs (right-part _ _ later))) e

-- two cuts in turn are one, where the second may take what the first may
joined : (passes more : ℕ → Bool) (rest : Bytes → Bool) → ((c : ℕ) → passes c ≡ true → more c ≡ true) → (path : Bytes) → some_cut passes (some_cut more rest) path ≡ true → some_cut more rest path ≡ true
joined passes more rest f [] e = e
joined passes more rest f (c ∷ cs) e = either (some_cut more rest (c ∷ cs)) (passes c && some_cut passes (some_cut more rest) cs) _
    (λ here. here)
    (λ later. cut-later more rest c cs (f c (left-part _ _ later)) (joined passes more rest f cs (right-part _ _ later))) e

-- a byte that the path begins with may go from both
past-byte : (passes : ℕ → Bool) (b : ℕ) (rest : Bytes → Bool) (path : Bytes) → passes b ≡ true → some_cut passes (headed b rest) path ≡ true → some_cut passes rest path ≡ true
past-byte passes b rest [] p e = no-false e
past-byte passes b rest (c ∷ cs) p e = either ((b == c) && rest cs) (passes c && some_cut passes (headed b rest) cs) _
    (λ here. cut-later passes rest c cs (ap passes (sym (eqb-true b c (left-part _ _ here))) ∙ p) (cut-here passes rest cs (right-part _ _ here)))
    (λ later. cut-later passes rest c cs (left-part _ _ later) (past-byte passes b rest cs p (right-part _ _ later))) e

off-byte : (passes : ℕ → Bool) (b c : ℕ) (rest : Bytes → Bool) (path : Bytes) → (b == c) ≡ true → some_cut passes (headed b rest) (c ∷ path) ≡ true → some_cut passes rest path ≡ true
off-byte passes b c rest path s e = either ((b == c) && rest path) (passes c && some_cut passes (headed b rest) path) _
    (λ here. cut-here passes rest path (right-part _ _ here))
    (λ later. past-byte passes b rest path (ap passes (eqb-true b c s) ∙ left-part _ _ later) (right-part _ _ later)) e

-- the stars of a glob
pub star-here : (ps : List Piece) (path : Bytes) → covers ps path ≡ true → covers (Star ∷ ps) path ≡ true
star-here ps path = cut-here is_inner (covers ps) path

pub stars-here : (ps : List Piece) (path : Bytes) → covers ps path ≡ true → covers (Stars ∷ ps) path ≡ true
stars-here ps path = cut-here is_any (covers ps) path

star-stars : (ps : List Piece) (path : Bytes) → covers (Star ∷ ps) path ≡ true → covers (Stars ∷ ps) path ≡ true
star-stars ps path = weaker is_inner is_any (covers ps) (covers ps) (λ c p. refl) (λ t e. e) path

star-star : (ps : List Piece) (path : Bytes) → covers (Star ∷ Star ∷ ps) path ≡ true → covers (Star ∷ ps) path ≡ true
star-star ps path = joined is_inner is_inner (covers ps) (λ c p. p) path

star-into-stars : (ps : List Piece) (path : Bytes) → covers (Star ∷ Stars ∷ ps) path ≡ true → covers (Stars ∷ ps) path ≡ true
star-into-stars ps path = joined is_inner is_any (covers ps) (λ c p. refl) path

stars-stars : (ps : List Piece) (path : Bytes) → covers (Stars ∷ Stars ∷ ps) path ≡ true → covers (Stars ∷ ps) path ≡ true
stars-stars ps path = joined is_any is_any (covers ps) (λ c p. refl) path

pub stars-star : (ps : List Piece) (path : Bytes) → covers (Stars ∷ Star ∷ ps) path ≡ true → covers (Stars ∷ ps) path ≡ true
stars-star ps path e = stars-stars ps path (weaker is_any is_any (covers (Star ∷ ps)) (covers (Stars ∷ ps)) (λ c p. refl) (star-stars ps) path e)

-- steps of the walk
pub keeps-none : (ps : List Piece) (path : Bytes) → Keeps ps path ps path
keeps-none ps path = record { same = refl; star = λ e. e; stars = λ e. e }

pub keeps-byte : (ps : List Piece) (path : Bytes) (b c : ℕ) (qs : List Piece) (rest : Bytes) → Keeps ps path (Byte b ∷ qs) (c ∷ rest) → (b == c) ≡ true → Keeps ps path qs rest
keeps-byte ps path b c qs rest k s = record {
  same = sym (ap (λ t. t && covers qs rest) s) ∙ k.same;
  star = λ e. off-byte is_inner b c (covers qs) rest s (k.star e);
  stars = λ e. off-byte is_any b c (covers qs) rest s (k.stars e);
}

pub keeps-all : (ps : List Piece) (p : Bytes) (qs : List Piece) (q : Bytes) (rs : List Piece) (r : Bytes) → Keeps ps p qs q → Keeps qs q rs r → Keeps ps p rs r
keeps-all ps p qs q rs r k l = record { same = l.same ∙ k.same; star = λ e. l.star (k.star e); stars = λ e. l.stars (k.stars e) }

-- the mark moves to the next `*`
pub keeps-star : (ps : List Piece) (path : Bytes) (qs : List Piece) (rest : Bytes) → Keeps ps path (Star ∷ qs) rest → Keeps (Star ∷ ps) path (Star ∷ qs) rest
keeps-star ps path qs rest k = record {
  same = same _ _ (λ e. star-here ps path (sym k.same ∙ e)) (λ e. star-star qs rest (k.star e));
  star = λ e. k.star (star-star ps path e);
  stars = λ e. k.stars (stars-star ps path e);
}

-- the mark moves on by a byte
pub keeps-later : (ps : List Piece) (c : ℕ) (rest : Bytes) → covers ps (c ∷ rest) ≡ false → is_inner c ≡ true → Keeps (Star ∷ ps) (c ∷ rest) (Star ∷ ps) rest
keeps-later ps c rest none inner =
    let one : covers (Star ∷ ps) rest ≡ covers (Star ∷ ps) (c ∷ rest) = sym (ap (λ b. b || (is_inner c && covers (Star ∷ ps) rest)) none ∙ ap (λ b. b && covers (Star ∷ ps) rest) inner) in
    record {
      same = one;
      star = λ e. star-here (Star ∷ ps) rest (one ∙ star-star ps (c ∷ rest) e);
      stars = λ e. either (covers (Star ∷ ps) (c ∷ rest)) (covers (Stars ∷ Star ∷ ps) rest) _ (λ here. stars-here (Star ∷ ps) rest (one ∙ here)) (λ later. later) e;
    }

-- a `**` comes after a `*`
pub keeps-into-stars : (ps : List Piece) (path : Bytes) (qs : List Piece) (rest : Bytes) → Keeps ps path (Stars ∷ qs) rest → Keeps (Star ∷ ps) path (Stars ∷ qs) rest
keeps-into-stars ps path qs rest k = record {
  same = same _ _ (λ e. star-here ps path (sym k.same ∙ e)) (λ e. star-into-stars qs rest (k.star e));
  star = λ e. k.star (star-star ps path e);
  stars = λ e. k.stars (stars-star ps path e);
}

-- what the later walk finds, the whole finds
pub walked-kept : (ps : List Piece) (p : Bytes) (qs : List Piece) (q : Bytes) (r : Walk) → Keeps ps p qs q → length qs ≤ length ps → length q ≤ length p → Walked qs q r → Walked ps p r
walked-kept ps p qs q walk.Covered k fewer shorter w = sym k.same ∙ w
walked-kept ps p qs q (walk.Stars rs r) k fewer shorter w =
    let here : covers (Stars ∷ rs.now) r.now ≡ covers ps p = w.0.0 ∙ k.same in
    ((here, same _ _ (λ e. stars-here ps p (sym here ∙ e)) (λ e. w.0.1 ∙ k.stars e)), (omega arith, omega arith))
walked-kept ps p qs q walk.TooShort k fewer shorter w = unless _ _ k.stars w
walked-kept ps p qs q walk.Crossed k fewer shorter w = unless _ _ k.star w
walked-kept ps p qs q walk.Differs k fewer shorter w = (sym k.same ∙ w.0, omega (arith, w.1))

-- where a `**` comes next
pub walked-stars : (ps : List Piece) (p : Bytes) (qs : List Piece) (q : Bytes) → Keeps ps p (Stars ∷ qs) q → (covers (Stars ∷ qs) q ≡ covers ps p) × (covers (Stars ∷ qs) q ≡ covers (Stars ∷ ps) p)
walked-stars ps p qs q k = (k.same, same _ _ (λ e. stars-here ps p (sym k.same ∙ e)) (λ e. stars-stars qs q (k.stars e)))

-- no start before the first slash leads on, so a `**` takes it
pub crossed : (ps : List Piece) (path : Bytes) → covers (Star ∷ ps) path ≡ false → MatchOption (past_slash path) (covers (Stars ∷ ps) path ≡ false) (λ later. covers (Stars ∷ ps) later ≡ covers (Stars ∷ ps) path)
crossed ps [] e = e
crossed ps (c ∷ cs) e =
    let here : covers ps (c ∷ cs) ≡ false = unless _ _ (star-here ps (c ∷ cs)) e in
    let one : covers (Stars ∷ ps) (c ∷ cs) ≡ covers (Stars ∷ ps) cs = ap (λ b. b || covers (Stars ∷ ps) cs) here in
    elim (c == 47) as (λ b. (c == 47) ≡ b → MatchOption (cond b (Some cs) (past_slash cs)) (covers (Stars ∷ ps) (c ∷ cs) ≡ false) (λ later. covers (Stars ∷ ps) later ≡ covers (Stars ∷ ps) (c ∷ cs))) [
      | true ↦ λ _. sym one
      | false ↦ λ inner. moved (past_slash cs) one (crossed ps cs (unless _ _ (cut-later is_inner (covers ps) c cs (ap not inner)) e))
    ] refl
  where
    moved : (o : Option Bytes) → covers (Stars ∷ ps) (c ∷ cs) ≡ covers (Stars ∷ ps) cs → MatchOption o (covers (Stars ∷ ps) cs ≡ false) (λ later. covers (Stars ∷ ps) later ≡ covers (Stars ∷ ps) cs)
        → MatchOption o (covers (Stars ∷ ps) (c ∷ cs) ≡ false) (λ later. covers (Stars ∷ ps) later ≡ covers (Stars ∷ ps) (c ∷ cs))
    moved None one h = one ∙ h
    moved (Some later) one h = h ∙ sym one

pub crossed-some : (ps : List Piece) (path later : Bytes) → covers (Star ∷ ps) path ≡ false → Some later ≡ past_slash path → covers (Stars ∷ ps) later ≡ covers (Stars ∷ ps) path
crossed-some ps path later e found = subst (λ o. MatchOption o (covers (Stars ∷ ps) path ≡ false) (λ later. covers (Stars ∷ ps) later ≡ covers (Stars ∷ ps) path)) (sym found) (crossed ps path e)

pub crossed-none : (ps : List Piece) (path : Bytes) → covers (Star ∷ ps) path ≡ false → None ≡ past_slash path → covers (Stars ∷ ps) path ≡ false
crossed-none ps path e found = subst (λ o. MatchOption o (covers (Stars ∷ ps) path ≡ false) (λ later. covers (Stars ∷ ps) later ≡ covers (Stars ∷ ps) path)) (sym found) (crossed ps path e)

-- one more piece is the byte that stands there
pub keeps-equal : (ps : List Piece) (path : Bytes) (left qs : List Piece) (leftover rest : Bytes) (p : Piece) (c : ℕ) → Keeps ps path left leftover → left ≡ p ∷ qs → leftover ≡ c ∷ rest → is_byte p c ≡ true → Keeps ps path qs rest
keeps-equal ps path left qs leftover rest p c k e f s = by p (subst (λ t. Keeps ps path (p ∷ qs) t) f (subst (λ t. Keeps ps path t leftover) e k)) s
  where
    by : (p : Piece) → Keeps ps path (p ∷ qs) (c ∷ rest) → is_byte p c ≡ true → Keeps ps path qs rest
    by (Byte b) k s = keeps-byte ps path b c qs rest k s
    by Star k s = no-false s
    by Stars k s = no-false s

pub keeps-next : (ps : List Piece) (path : Bytes) (n : ℕ) (d : Piece) → Keeps ps path (drop n ps) (drop n path) → n < length ps → n < length path → is_byte (get_or ps n d) (get_or path n 0) ≡ true → Keeps ps path (drop (n + 1) ps) (drop (n + 1) path)
keeps-next ps path n d k below within s = subst (λ m. Keeps ps path (drop m ps) (drop m path)) (sym (add-one n)) (keeps-equal ps path _ _ _ _ _ _ k (drop-cons ps n d below) (drop-cons path n 0 within) s)

-- what an answer other than a cover says
pub uncovered : (ps : List Piece) (path : Bytes) (r : Walk) → Walked ps path r → (r ≡ walk.TooShort) ⊎ (r ≡ walk.Crossed) ⊎ (r ≡ walk.Differs) → covers ps path ≡ false
uncovered ps path r w (inl e) = unless _ _ (stars-here ps path) (subst (Walked ps path) e w)
uncovered ps path r w (inr (inl e)) = unless _ _ (star-here ps path) (subst (Walked ps path) e w)
uncovered ps path r w (inr (inr e)) = (subst (Walked ps path) e w).0
