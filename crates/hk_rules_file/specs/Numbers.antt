-- The numbers in steps are the places of what is written there.
use Rattle.std.specs.Prelude.{◌≡◌, ℕ, List, [], ◌∷◌, ◌++◌, length, Ok}
use Rattle.hk_base.specs.Bytes.{Bytes}
use Rattle.hk_chain.specs.declared.chain.Step.{Step}
use Rattle.hk_chain.specs.declared.chain.Step.TheVariants.{Concat, Apply, SelfApply}
use Rattle.hk_forms.specs.PatternText.{text_of}
use Rattle.hk_pattern.specs.declared.pattern.Pattern.{Pattern}
use Rattle.hk_rules_file.specs.Linking.{link_steps}
use Rattle.hk_rules_file.specs.Numbering.{texts_of}
use Rattle.hk_steps.specs.declared.draft.DraftStep.{DraftStep}
use Rattle.hk_steps.specs.declared.draft.DraftStep.TheVariants.{Ready, Concat as DraftConcat, Apply as DraftApply, SelfApply as DraftSelf}

-- the text stands at this place
pub record StandsAt (texts : List Bytes) (place : ℕ) (text : Bytes) : Type 0 where
  pub before : List Bytes
  pub after : List Bytes
  pub same : texts ≡ before ++ (text ∷ after)
  pub at : length before ≡ place

-- the step is that which is written, with the places of the context and of the pattern that are written there
abbrev pub IsWritten : List Bytes → List Pattern → DraftStep → Step → Type 0
IsWritten names patterns (Ready written) step = step ≡ written
IsWritten names patterns (DraftConcat pattern) step = (place : ℕ) × (step ≡ Concat place) × StandsAt (texts_of patterns) place (text_of pattern)
IsWritten names patterns (DraftApply id name) step = (place : ℕ) × (step ≡ Apply id place) × StandsAt names place name
IsWritten names patterns (DraftSelf name) step = (place : ℕ) × (step ≡ SelfApply place) × StandsAt names place name

abbrev pub AreWritten : List Bytes → List Pattern → List DraftStep → List Step → Type 0
AreWritten names patterns [] [] = Unit {0}
AreWritten names patterns [] (step ∷ steps) = ⊥
AreWritten names patterns (draft ∷ drafts) [] = ⊥
AreWritten names patterns (draft ∷ drafts) (step ∷ steps) = IsWritten names patterns draft step × AreWritten names patterns drafts steps

-- patterns with further ones after them
pub record GoesOnTo (patterns longer : List Pattern) : Type 0 where
  pub more : List Pattern
  pub same : longer ≡ patterns ++ more

-- the steps of a chain, one for each that is written, and the patterns so far with those that are new
abbrev pub NumbersTellPlaces : Type 0
NumbersTellPlaces =
    (number : ℕ) (names : List Bytes) (drafts : List DraftStep) (patterns : List Pattern) (read : List Step × List Pattern)
    → link_steps number names drafts patterns [] ≡ Ok read → AreWritten names read.1 drafts read.0 × GoesOnTo patterns read.1
