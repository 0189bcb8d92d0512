-- Replacing goes from one first occurrence to the next.
use Rattle.std.proofs.Common.{◌≡◌, ℕ, ◌-◌, ◌<◌, zero, suc, Bool, true, false, not, ◌&&◌, ◌==◌, nat_eq, [], ◌∷◌, ◌++◌, length, drop, refl, ap, sym, ◌∙◌, arith, append-nil}
use Rattle.std.specs.List.{starts_with}
use Rattle.std.proofs.lemmas.Bool.{ne_eqb}
use Rattle.std.proofs.Math.Seq.{drop-append_seam}
use Rattle.hk_base.specs.Bytes.{Bytes}
use Rattle.hk_route.specs.Rewriting.{occurs, replaced_after, replaced}
use Rattle.hk_laws.specs.Runs.{BeginsWith, NoneBefore}
use Rattle.hk_laws.specs.Replacing.{Replaces}
use Rattle.hk_laws.proofs.WordLemmas.{tells_word}

some_of : (old : Bytes) → (old ≡ [] → ⊥) → 0 < length old
some_of [] none = absurd (none refl)
some_of (x ∷ xs) none = omega arith

occurs_not : (old text : Bytes) → (BeginsWith old text → ⊥) → occurs old text ≡ false
occurs_not old text none = go (not (length old == 0)) (starts_with nat_eq text old) (λ e. none ((tells_word old text).0 e))
  where
    go : (a b : Bool) → (b ≡ true → ⊥) → (a && b) ≡ false
    go false b none = refl
    go true false none = refl
    go true true none = absurd (none refl)

occurs_here : (old rest : Bytes) → (old ≡ [] → ⊥) → occurs old (old ++ rest) ≡ true
occurs_here old rest none =
    let some = some_of old none in
    let size : (length old == 0) ≡ false = ne_eqb (length old) 0 (λ e. omega arith) in
    let begins : starts_with nat_eq (old ++ rest) old ≡ true = (tells_word old (old ++ rest)).1 (record { rest = rest; spelled = refl }) in
    rw (size, begins)

passed : (old new : Bytes) (n : ℕ) (path : Bytes) → replaced_after old new n path ≡ replaced_after old new 0 (drop n path)
passed old new zero path = refl
passed old new (suc n) [] = refl
passed old new (suc n) (c ∷ cs) = passed old new n cs

passed_one : (old new : Bytes) (c : ℕ) (cs : Bytes) → 0 < length old → replaced_after old new (length old - 1) cs ≡ replaced old new (drop (length old) (c ∷ cs))
passed_one old new c cs some = go (length old) some
  where
    go : (n : ℕ) → 0 < n → replaced_after old new (n - 1) cs ≡ replaced old new (drop n (c ∷ cs))
    go zero none = absurd (omega arith)
    go (suc n) some = let e : suc n - 1 ≡ n = omega arith in ap (λ k. replaced_after old new k cs) e ∙ passed old new n cs

here : (old new : Bytes) (c : ℕ) (cs : Bytes) → 0 < length old → occurs old (c ∷ cs) ≡ true → replaced old new (c ∷ cs) ≡ new ++ replaced old new (drop (length old) (c ∷ cs))
here old new c cs some is = rw is (ap (λ (t : Bytes). new ++ t) (passed_one old new c cs some))

later : (old new : Bytes) (c : ℕ) (cs : Bytes) → occurs old (c ∷ cs) ≡ false → replaced old new (c ∷ cs) ≡ c ∷ replaced old new cs
later old new c cs none = rw none

none_after : (P : Bytes → Type 0) (y : ℕ) (ys rest : Bytes) → NoneBefore P (y ∷ ys) rest → NoneBefore P ys rest
none_after P y ys rest none front x behind e = none (y ∷ front) x behind (ap (λ more. y ∷ more) e)

-- bytes before which no occurrence begins stay
stays : (old new before rest : Bytes) → NoneBefore (BeginsWith old) before rest → replaced old new (before ++ rest) ≡ before ++ replaced old new rest
stays old new [] rest none = refl
stays old new (y ∷ ys) rest none =
    later old new y (ys ++ rest) (occurs_not old (y ∷ (ys ++ rest)) (none [] y ys refl))
    ∙ ap (λ (t : Bytes). y ∷ t) (stays old new ys rest (none_after (BeginsWith old) y ys rest none))

nonempty : (text : Bytes) (old : Bytes) (rest : Bytes) → text ≡ old ++ rest → 0 < length old → (c : ℕ) × (cs : Bytes) × (text ≡ c ∷ cs)
nonempty [] [] rest e some = absurd (omega arith)
nonempty [] (x ∷ xs) rest e some = let no_ : ⊥ = cc in absurd no_
nonempty (c ∷ cs) old rest e some = (c, cs, refl)

occurrence : (old new rest : Bytes) → (old ≡ [] → ⊥) → replaced old new (old ++ rest) ≡ new ++ replaced old new rest
occurrence old new rest none =
    let some = some_of old none in
    let head = nonempty (old ++ rest) old rest refl some in
    let is : occurs old (head.0 ∷ head.1) ≡ true = ap (occurs old) (sym head.2) ∙ occurs_here old rest none in
    ap (replaced old new) head.2
    ∙ here old new head.0 head.1 some is
    ∙ ap (λ (t : Bytes). new ++ replaced old new (drop (length old) t)) (sym head.2)
    ∙ ap (λ (t : Bytes). new ++ replaced old new t) (drop-append_seam old rest)

pub replaces : Replaces replaced
replaces = record {
  none = λ old new path some none. ap (replaced old new) (sym (append-nil path)) ∙ stays old new path [] none ∙ append-nil path;
  first = λ old new u rest some none. stays old new u (old ++ rest) none ∙ ap (λ (t : Bytes). u ++ t) (occurrence old new rest some);
}
