-- The first place at which a test passes is where a property holds first.
use Rattle.std.proofs.Common.{◌≡◌, ℕ, suc, ◌+◌, Bool, true, false, [], ◌∷◌, ◌++◌, length, take, drop, arith, refl, sym, ap, subst, ◌∙◌, inl, inr, Decides}
use Rattle.std.proofs.lemmas.List.{take-append-drop}
use Rattle.hk_base.specs.Bytes.{Bytes}
use Rattle.hk_html.specs.Place.{first_place}
use Rattle.hk_html.proofs.PlaceLemmas.{first_place-yes, first_place-no}
use Rattle.hk_html.proofs.FollowLemmas.{first_place-found}
use Rattle.hk_laws.specs.Runs.{NoneBefore, IsBeforeFirst}

-- the test tells the property
abbrev pub Tells : (Bytes → Bool) → (Bytes → Type 0) → Type 0
Tells test P = (text : Bytes) → Decides (test text) (P text)

not_true : (b : Bool) (P : Type 0) → Decides b P → (P → ⊥) → b ≡ false
not_true true P tells none = absurd (none (tells.0 refl))
not_true false P tells none = refl

not_false : (b : Bool) (P : Type 0) → Decides b P → b ≡ false → P → ⊥
not_false b P tells e holds = let yes_ = tells.1 holds in cc

pub none_of_none : (P : Bytes → Type 0) (rest : Bytes) → NoneBefore P [] rest
none_of_none P rest [] x behind e = cc
none_of_none P rest (y ∷ front) x behind e = cc

none_after : (P : Bytes → Type 0) (y : ℕ) (ys rest : Bytes) → NoneBefore P (y ∷ ys) rest → NoneBefore P ys rest
none_after P y ys rest none front x behind e = none (y ∷ front) x behind (ap (λ more. y ∷ more) e)

none_more : (P : Bytes → Type 0) (y : ℕ) (ys rest : Bytes) → (P (y ∷ (ys ++ rest)) → ⊥) → NoneBefore P ys rest → NoneBefore P (y ∷ ys) rest
none_more P y ys rest here none [] x behind e =
    let head : y ≡ x = cc in
    let tail : ys ≡ behind = cc in
    λ holds. here (rw (head, tail) holds)
none_more P y ys rest here none (z ∷ front) x behind e =
    let tail : ys ≡ front ++ (x ∷ behind) = cc in
    none front x behind tail

pub place_first : (test : Bytes → Bool) (P : Bytes → Type 0) → Tells test P → (before rest : Bytes) → IsBeforeFirst P before rest → first_place test (before ++ rest) ≡ length before
place_first test P tells [] rest first =
    elim first.found [
      | inl holds ↦ first_place-found test rest ((tells rest).1 holds)
      | inr nothing ↦ rw nothing
    ]
place_first test P tells (y ∷ ys) rest first =
    let missed = not_true (test (y ∷ (ys ++ rest))) (P (y ∷ (ys ++ rest))) (tells (y ∷ (ys ++ rest))) (first.none [] y ys refl) in
    let inner = place_first test P tells ys rest (record { none = none_after P y ys rest first.none; found = first.found }) in
    first_place-no test y (ys ++ rest) missed ∙ ap (λ n. 1 + n) inner ∙ omega arith

pub place_is_first : (test : Bytes → Bool) (P : Bytes → Type 0) → Tells test P → (text : Bytes) → IsBeforeFirst P (take (first_place test text) text) (drop (first_place test text) text)
place_is_first test P tells [] = record { none = none_of_none P []; found = inr refl }
place_is_first test P tells (y ∷ ys) =
    elim (test (y ∷ ys)) as (λ b. test (y ∷ ys) ≡ b → IsBeforeFirst P (take (first_place test (y ∷ ys)) (y ∷ ys)) (drop (first_place test (y ∷ ys)) (y ∷ ys))) [
      | true ↦ λ e.
          subst (λ n. IsBeforeFirst P (take n (y ∷ ys)) (drop n (y ∷ ys))) (sym (first_place-yes test y ys e))
          (record { none = none_of_none P (y ∷ ys); found = inl ((tells (y ∷ ys)).0 e) })
      | false ↦ λ e.
          let n = first_place test ys in
          let inner = place_is_first test P tells ys in
          let next : first_place test (y ∷ ys) ≡ suc n = first_place-no test y ys e ∙ omega arith in
          let here : P (y ∷ (take n ys ++ drop n ys)) → ⊥ = λ holds. not_false (test (y ∷ ys)) (P (y ∷ ys)) (tells (y ∷ ys)) e (subst (λ (t : Bytes). P (y ∷ t)) (take-append-drop n ys) holds) in
          subst (λ m. IsBeforeFirst P (take m (y ∷ ys)) (drop m (y ∷ ys))) (sym next)
          (record { none = none_more P y (take n ys) (drop n ys) here inner.none; found = inner.found })
    ] refl
