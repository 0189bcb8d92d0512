-- The numbers in fields are the places of what is written there.
use Rattle.std.specs.Prelude.{◌≡◌, ℕ, List, [], ◌∷◌, ◌++◌, Option, Some}
use Rattle.hk_base.specs.Bytes.{Bytes}
use Rattle.hk_chain.specs.declared.context.Field.{Field}
use Rattle.hk_chain.specs.declared.context.Field.TheVariants.{Body, Metadata, Url, Path, Title, List as ListField}
use Rattle.hk_forms.specs.PatternText.{text_of}
use Rattle.hk_pattern.specs.declared.pattern.Pattern.{Pattern}
use Rattle.hk_rules_file.specs.Numbering.{texts_of}
use Rattle.hk_rules_file.specs.Numbers.{StandsAt, GoesOnTo}
use Rattle.hk_steps.specs.declared.draft.DraftField.{DraftField}
use Rattle.hk_steps.specs.declared.draft.DraftField.TheVariants.{Default, Whole, Several}

-- a list with the place of its pattern and that of its context
pub record IsNumberedList (names : List Bytes) (patterns : List Pattern) (of : Pattern) (context : Bytes) (field : ℕ → ℕ → Field) (fields : List Field) : Type 0 where
  pub pattern : ℕ
  pub place : ℕ
  pub same : fields ≡ field pattern place ∷ []
  pub pattern_stands : StandsAt (texts_of patterns) pattern (text_of of)
  pub context_stands : StandsAt names place context

-- the fields that a member stands for
abbrev pub AreMeant : List Bytes → List Pattern → DraftField → List Field → Type 0
AreMeant names patterns Default fields = fields ≡ Body ∷ (Metadata ∷ (Url ∷ (Path ∷ (Title ∷ []))))
AreMeant names patterns (Whole field) fields = fields ≡ field ∷ []
AreMeant names patterns (Several key of snapshot order limit context) fields =
    IsNumberedList names patterns of context (λ pattern place. ListField key pattern snapshot order limit place) fields

-- those of all members, one member after the other
abbrev pub AreAllMeant : List Bytes → List Pattern → List DraftField → List Field → Type 0
AreAllMeant names patterns [] fields = fields ≡ []
AreAllMeant names patterns (draft ∷ drafts) fields =
    (own : List Field) × (more : List Field) × (fields ≡ own ++ more) × AreMeant names patterns draft own × AreAllMeant names patterns drafts more

-- the fields of a context are those that its members stand for, and the patterns so far come first
abbrev pub FieldsTellPlaces : (List Bytes → List DraftField → List Pattern → List Field → Option (List Field × List Pattern)) → Type 0
FieldsTellPlaces link =
    (names : List Bytes) (drafts : List DraftField) (patterns : List Pattern) (read : List Field × List Pattern)
    → link names drafts patterns [] ≡ Some read → AreAllMeant names read.1 drafts read.0 × GoesOnTo patterns read.1
