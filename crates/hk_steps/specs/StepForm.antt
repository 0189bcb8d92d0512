-- The form of a step, and of a whole chain.
use Rattle.std.specs.Prelude.{ℕ, ◌&&◌, nat_le, Bool, List, Option, Some, None, option_map, codes, bytes_eq, if◌then◌else◌}
use Rattle.toml.specs.Data.{Data, Items, Members, as_str, as_array, as_table}
use Rattle.hk_base.specs.Bytes.{Bytes}
use Rattle.hk_base.specs.Identifier.{Ident}
use Rattle.hk_chain.specs.Names.{final_name}
use Rattle.hk_chain.specs.declared.chain.Step.{Step}
use Rattle.hk_chain.specs.declared.chain.Step.TheVariants.{Body, Str, Copy, TemplateBody, Make, Load, Save, Relativize}
use Rattle.hk_forms.specs.Names.{is_context_name, is_snapshot_name}
use Rattle.hk_forms.specs.Members.{only, both, each, count_items, fits}
use Rattle.hk_forms.specs.IdForm.{id_of}
use Rattle.hk_forms.specs.PatternForm.{pattern_of}
use Rattle.hk_steps.specs.declared.draft.DraftStep.{DraftStep}
use Rattle.hk_steps.specs.declared.draft.DraftStep.TheVariants.{Ready, Concat, Apply, SelfApply}

-- the name of the context that is built in
abbrev pub default_name : Bytes
default_name = codes "default"

abbrev pub context_by : Option Bytes → Option Bytes
context_by (Some text) = if is_context_name text then Some text else None
context_by None = None

abbrev pub snapshot_by : Option Bytes → Option Bytes
snapshot_by (Some text) = if is_snapshot_name text then Some text else None
snapshot_by None = None

-- a step that is a word; those that need a resource are none in a rule that creates its paths
abbrev pub word_step : Bool → Bytes → Option Step
word_step created word =
    if bytes_eq word (codes "relativize") then Some Relativize
    else if created then None
    else if bytes_eq word (codes "body") then Some Body
    else if bytes_eq word (codes "string") then Some Str
    else if bytes_eq word (codes "copy") then Some Copy
    else if bytes_eq word (codes "template") then Some TemplateBody
    else None

abbrev pub load_by : Option Ident → Option Bytes → Option DraftStep
load_by (Some id) (Some snapshot) = Some (Ready (Load id snapshot))
load_by _ _ = None

abbrev pub apply_by : Option Ident → Option Bytes → Option DraftStep
apply_by (Some id) (Some context) = Some (Apply id context)
apply_by _ _ = None

-- the step of a table with this one key
abbrev pub keyed : Bytes → Data → Option DraftStep
keyed key d =
    if bytes_eq key (codes "make") then option_map (λ text. Ready (Make text)) (as_str d)
    else if bytes_eq key (codes "load") then load_by (id_of d) (Some final_name)
    else if bytes_eq key (codes "concat") then option_map Concat (pattern_of d)
    else if bytes_eq key (codes "apply") then apply_by (id_of d) (Some default_name)
    else if bytes_eq key (codes "self") then option_map SelfApply (context_by (as_str d))
    else if bytes_eq key (codes "save") then option_map (λ name. Ready (Save name)) (snapshot_by (as_str d))
    else None

abbrev pub apply_pair : Option (Data × Data) → Option DraftStep
apply_pair (Some p) = apply_by (id_of p.0) (context_by (as_str p.1))
apply_pair None = None

-- a load with its snapshot, or an apply with its context
abbrev pub paired : Option (Data × Data) → Option (Data × Data) → Option DraftStep
paired (Some p) _ = load_by (id_of p.0) (snapshot_by (as_str p.1))
paired None applied = apply_pair applied

abbrev pub table_by : Option (Bytes × Data) → Option (Data × Data) → Option (Data × Data) → Option DraftStep
table_by (Some m) loaded applied = keyed m.0 m.1
table_by None loaded applied = paired loaded applied

abbrev pub in_table : Option Members → Option DraftStep
in_table (Some ms) = table_by (only ms) (both (codes "load") (codes "snapshot") ms) (both (codes "apply") (codes "context") ms)
in_table None = None

abbrev pub step_by : Bool → Option Bytes → Option Members → Option DraftStep
step_by created (Some word) ms = option_map Ready (word_step created word)
step_by created None ms = in_table ms

-- a step is a word or a table
abbrev pub step_of : Bool → Data → Option DraftStep
step_of created d = step_by created (as_str d) (as_table d)

-- how many pages a step saves
unfoldable pub saves_of : DraftStep → ℕ
saves_of (Ready (Save name)) = 1
saves_of _ = 0

-- the most steps of a chain, and how many of them may save
abbrev pub most_steps : ℕ
most_steps = 64

abbrev pub most_saves : ℕ
most_saves = 16

abbrev pub few_saves : Option (List DraftStep) → Option (List DraftStep)
few_saves (Some steps) = if fits saves_of most_saves steps then Some steps else None
few_saves None = None

abbrev pub fits_chain : ℕ → Bool
fits_chain count = nat_le 1 count && nat_le count most_steps

abbrev pub steps_in : Bool → Items → Option (List DraftStep)
steps_in created ds = if fits_chain (count_items ds) then few_saves (each (step_of created) ds) else None

abbrev pub steps_by : Bool → Option Items → Option (List DraftStep)
steps_by created (Some ds) = steps_in created ds
steps_by created None = None

abbrev pub chain_by : Bool → Option Data → Option (List DraftStep)
chain_by created (Some d) = steps_by created (as_array d)
chain_by created None = None
