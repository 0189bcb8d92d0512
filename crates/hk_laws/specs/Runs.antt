-- Runs of bytes, and the first place from which on a text has a property.
use Rattle.std.specs.Prelude.{◌≡◌, ℕ, Bool, true, false, not, ◌==◌, ◌⊎◌, [], ◌∷◌, ◌++◌}
use Rattle.std.specs.List.{list_all, list_any}
use Rattle.hk_base.specs.Bytes.{Bytes}

-- a byte of the set, and a byte outside it
abbrev pub is_of : Bytes → ℕ → Bool
is_of set b = list_any (λ c. b == c) set

abbrev pub is_outside : Bytes → ℕ → Bool
is_outside set b = not (is_of set b)

-- the text begins with a byte that passes
abbrev pub Begins : (ℕ → Bool) → Bytes → Type 0
Begins p [] = ⊥
Begins p (x ∷ xs) = p x ≡ true

-- the text doesn't begin with a byte that passes
abbrev pub BeginsOther : (ℕ → Bool) → Bytes → Type 0
BeginsOther p [] = Unit {0}
BeginsOther p (x ∷ xs) = p x ≡ false

-- the longest run of bytes that pass, before this rest
pub record IsLongest (p : ℕ → Bool) (run rest : Bytes) : Type 0 where
  pub passes : list_all p run ≡ true
  pub ended : BeginsOther p rest

-- the text begins with this word
pub record BeginsWith (word text : Bytes) : Type 0 where
  pub rest : Bytes
  pub spelled : text ≡ word ++ rest

-- from no place before this rest on does the text have the property
abbrev pub NoneBefore : (Bytes → Type 0) → Bytes → Bytes → Type 0
NoneBefore P before rest = (front : Bytes) (x : ℕ) (behind : Bytes) → before ≡ front ++ (x ∷ behind) → P (x ∷ (behind ++ rest)) → ⊥

-- what stands before the first place from which on the text has the property, or the whole text where there is none
pub record IsBeforeFirst (P : Bytes → Type 0) (before rest : Bytes) : Type 0 where
  pub none : NoneBefore P before rest
  pub found : P rest ⊎ (rest ≡ [])
