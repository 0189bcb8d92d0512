-- The letter of a mark.
use Rattle.std.proofs.Common.{◌≡◌, refl, sym, ap, ◌∙◌, ◌==◌, not, Bool, true, false, List, [], ◌∷◌, ◌++◌, length, get_or, drop}
use Rattle.std.specs.Prelude.{◌&&◌, Ok, Err}
use Rattle.hk_base.specs.Bytes.{Bytes}
use Rattle.hk_store.specs.StoreReading.{letter_text, a_letter}
use Rattle.hk_store.specs.Told.{Told, Any}

letter_of : Bytes → Bool
letter_of text = get_or text 0 0 == 97

letter-back : (group : Bool) (rest : Bytes) → (letter_of (letter_text group ++ rest) ≡ group) × (drop 2 (letter_text group ++ rest) ≡ rest)
unfolding letter_of
letter-back true rest = (refl, refl)
letter-back false rest = (refl, refl)

pub letters-same : (a b : Bool) (r s : Bytes) → letter_text a ++ r ≡ letter_text b ++ s → (a ≡ b) × (r ≡ s)
letters-same a b r s e =
    (sym (letter-back a r).0 ∙ (ap letter_of e ∙ (letter-back b s).0), sym (letter-back a r).1 ∙ (ap (drop 2) e ∙ (letter-back b s).1))

both-so : (a b : Bool) → not (a && b) ≡ false → (a ≡ true) × (b ≡ true)
both-so true true e = (refl, refl)
both-so true false e = let w : true ≡ false = e in cc
both-so false b e = let w : true ≡ false = e in cc

not-both : (a b : Bool) → not (a && b) ≡ true → b ≡ true → a ≡ false
not-both true true e is = let w : false ≡ true = e in cc
not-both true false e is = let w : false ≡ true = is in cc
not-both false b e is = refl

differ : true ≡ false → ⊥
differ e = cc

module _ (last group : Bool) (bytes rest : Bytes) (is : bytes ≡ letter_text group ++ rest) where
  -- the last mark is no group
  pub last-group : not (group && last) ≡ false → a_letter last bytes (Err (length bytes))
  last-group e =
      let two = both-so group last e in
      (refl, λ g r h k. differ (sym two.0 ∙ ((letters-same group g rest r (sym is ∙ k)).0 ∙ h two.1)))

  pub letter-fits : not (group && last) ≡ true → a_letter last bytes (Ok (group, rest))
  letter-fits e = ((λ at. not-both group last e at), is)
