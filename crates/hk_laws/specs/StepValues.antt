-- The values that are steps, row by row.
use Rattle.std.specs.Prelude.{◌≡◌, Bool, true, false, codes}
use Rattle.toml.specs.Data.{Data, string}
use Rattle.hk_base.specs.Bytes.{Bytes}
use Rattle.hk_base.specs.Identifier.{Ident}
use Rattle.hk_chain.specs.declared.chain.Step.TheVariants.{Body, Str, Copy, TemplateBody, Make, Load, Save, Relativize}
use Rattle.hk_forms.specs.Names.{is_context_name, is_snapshot_name}
use Rattle.hk_pattern.specs.declared.pattern.Pattern.{Pattern}
use Rattle.hk_steps.specs.declared.draft.DraftStep.{DraftStep}
use Rattle.hk_steps.specs.declared.draft.DraftStep.TheVariants.{Ready, Concat, Apply, SelfApply}
use Rattle.hk_laws.specs.Values.{only_at, HasTwo}
use Rattle.hk_laws.specs.PatternValues.{IsIdent, IsPattern}

-- the steps of a rule, by whether it creates its paths: then those that need a file are none
pub data IsStep : Bool → Data → DraftStep → Type 0 where
  body : IsStep false (string (codes "body")) (Ready Body)
  whole : IsStep false (string (codes "string")) (Ready Str)
  copy : IsStep false (string (codes "copy")) (Ready Copy)
  template : IsStep false (string (codes "template")) (Ready TemplateBody)
  relativize : (created : Bool) → IsStep created (string (codes "relativize")) (Ready Relativize)
  make : (created : Bool) (text : Bytes) → IsStep created (only_at (codes "make") (string text)) (Ready (Make text))
  load : (created : Bool) (d : Data) (id : Ident) → IsIdent d id → IsStep created (only_at (codes "load") d) (Ready (Load id (codes "_final")))
  load_saved : (created : Bool) (t d : Data) (id : Ident) (name : Bytes) → HasTwo (codes "load") (codes "snapshot") d (string name) t → IsIdent d id
      → is_snapshot_name name ≡ true → IsStep created t (Ready (Load id name))
  concat : (created : Bool) (d : Data) (pattern : Pattern) → IsPattern d pattern → IsStep created (only_at (codes "concat") d) (Concat pattern)
  apply : (created : Bool) (d : Data) (id : Ident) → IsIdent d id → IsStep created (only_at (codes "apply") d) (Apply id (codes "default"))
  apply_in : (created : Bool) (t d : Data) (id : Ident) (name : Bytes) → HasTwo (codes "apply") (codes "context") d (string name) t → IsIdent d id
      → is_context_name name ≡ true → IsStep created t (Apply id name)
  self : (created : Bool) (name : Bytes) → is_context_name name ≡ true → IsStep created (only_at (codes "self") (string name)) (SelfApply name)
  save : (created : Bool) (name : Bytes) → is_snapshot_name name ≡ true → IsStep created (only_at (codes "save") (string name)) (Ready (Save name))
