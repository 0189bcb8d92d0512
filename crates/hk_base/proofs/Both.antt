-- Both of two tests hold, and what follows of each.
use Rattle.std.proofs.Common.{◌≡◌, Bool, true, false, ◌&&◌, ◌||◌, refl, sym, subst}
use Rattle.std.specs.Prelude.{T}

pub both-left : (a b : Bool) → T (a && b) → T a
both-left true b p = tt
both-left false b p = p

pub both-right : (a b : Bool) → T (a && b) → T b
both-right true b p = p
both-right false b p = absurd p

pub both : (a b : Bool) → T a → T b → T (a && b)
both true b p q = q
both false b p q = p

pub true-of : (b : Bool) → T b → b ≡ true
true-of true p = refl
true-of false p = absurd p

pub holds-of : (b : Bool) → b ≡ true → T b
holds-of b e = subst T (sym e) tt

-- the same, where a test holds by an equation
pub left-part : (a b : Bool) → (a && b) ≡ true → a ≡ true
left-part true b p = refl
left-part false b p = p

pub right-part : (a b : Bool) → (a && b) ≡ true → b ≡ true
right-part true b p = p
right-part false b p = absurd (subst T (sym p) tt)

pub both-true : (a b : Bool) → a ≡ true → b ≡ true → (a && b) ≡ true
both-true true b p q = q
both-true false b p q = p

pub either-right : (a b : Bool) → b ≡ true → (a || b) ≡ true
either-right true b e = refl
either-right false b e = e

-- one test cannot hold and fail
pub not-both : {A : Type 0} (b : Bool) → b ≡ true → b ≡ false → A
not-both true p q = absurd (subst T q tt)
not-both false p q = absurd (subst T (sym p) tt)
