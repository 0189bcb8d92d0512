-- The values that are whole chains of steps, and whole contexts.
use Rattle.std.specs.Prelude.{◌≡◌, ◌≤◌, ℕ, ◌+◌, Bool, List, [], ◌∷◌, length, codes}
use Rattle.toml.specs.Data.{Data, array, Items}
use Rattle.hk_chain.specs.declared.chain.Step.TheVariants.{Save}
use Rattle.hk_steps.specs.declared.draft.DraftField.{DraftField}
use Rattle.hk_steps.specs.declared.draft.DraftField.TheVariants.{Default}
use Rattle.hk_steps.specs.declared.draft.DraftStep.{DraftStep}
use Rattle.hk_steps.specs.declared.draft.DraftStep.TheVariants.{Ready}
use Rattle.hk_laws.specs.FieldValues.{IsField}
use Rattle.hk_laws.specs.StepValues.{IsStep}
use Rattle.hk_laws.specs.Values.{only_at, AreEach}

abbrev pub total : {X : Type 0} → (X → ℕ) → List X → ℕ
total weight [] = 0
total weight (x ∷ xs) = weight x + total weight xs

-- how many pages a step saves, and how many fields a member stands for
abbrev pub pages_saved : DraftStep → ℕ
pages_saved (Ready (Save name)) = 1
pages_saved _ = 0

abbrev pub fields_meant : DraftField → ℕ
fields_meant Default = 5
fields_meant _ = 1

-- an array of 1 to 64 steps, of which at most 16 save
pub record IsChain (created : Bool) (d : Data) (steps : List DraftStep) : Type 0 where
  pub items : Items
  pub array_is : d ≡ array items
  pub each : AreEach (IsStep created) items steps
  pub some : 1 ≤ length steps
  pub short : length steps ≤ 64
  pub few : total pages_saved steps ≤ 16

-- a table with the key `fields` alone, an array of members that stand for at most 64 fields
pub record IsContext (d : Data) (fields : List DraftField) : Type 0 where
  pub items : Items
  pub table_is : d ≡ only_at (codes "fields") (array items)
  pub each : AreEach IsField items fields
  pub few : total fields_meant fields ≤ 64
