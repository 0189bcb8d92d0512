-- What tests tell that hold.
use Rattle.std.proofs.Common.{◌≡◌, refl, ap, ◌∙◌, ℕ, Bool, true, false, ◌&&◌, List, [], ◌∷◌, Option, Some, None, is_some, bytes_eq}
use Rattle.std.specs.Option.{unwrap_or}
use Rattle.std.specs.Cmp.Lexicographic.{pointwise}
use Rattle.hk_base.specs.IdentTies.{idents-same}
use Rattle.hk_base.specs.Ties.{bytes-same}
use Rattle.hk_fix.specs.Table.{Key, same_key}

pub and-both : (a b : Bool) → (a && b) ≡ true → (a ≡ true) × (b ≡ true)
and-both true b e = (refl, e)
and-both false b e = cc

pub list-same : {A : Type 0} (test : A → A → Bool) → ((a b : A) → test a b ≡ true → a ≡ b) → (a b : List A) → pointwise test a b ≡ true → a ≡ b
list-same test f [] [] e = refl
list-same test f [] (y ∷ ys) e = cc
list-same test f (x ∷ xs) [] e = cc
list-same test f (x ∷ xs) (y ∷ ys) e = let w = and-both (test x y) (pointwise test xs ys) e in rw (f x y w.0, list-same test f xs ys w.1) refl

pub keys-same : (a b : Key) → same_key a b ≡ true → a ≡ b
keys-same a b e =
    let w = and-both _ (bytes_eq a.name b.name) e in
    ap (λ q. record { id = q; name = a.name }) (idents-same a.id b.id w.0) ∙ ap (λ q. record { id = b.id; name = q }) (bytes-same a.name b.name w.1)

-- a number that is there
pub some-or : (o : Option ℕ) → is_some o ≡ true → o ≡ Some (unwrap_or o 0)
some-or None e = cc
some-or (Some p) e = refl
