-- What an item's compiler is made of, by names: whatever numbers a plan gives, the same recipe does the same.
use Rattle.std.specs.Prelude.{◌≡◌, ℕ, zero, suc, ◌<◌, Bool, true, ◌||◌, List, [], ◌∷◌, length, map, filter, nat_eq, Option, Some, None, Result, Ok, Err}
use Rattle.std.specs.List.{AllByRecursion, flat_map, list_any, range_with_len}
use Rattle.hk_base.specs.Bytes.{Bytes}
use Rattle.hk_base.specs.Identifier.{Ident}
use Rattle.hk_chain.specs.declared.chain.Step.{Step}
use Rattle.hk_chain.specs.declared.chain.Step.TheVariants as steps
use Rattle.hk_chain.specs.declared.context.Field.{Field}
use Rattle.hk_chain.specs.declared.context.Field.TheVariants as fields
use Rattle.hk_chain.specs.declared.context.Order.{Order}
use Rattle.hk_forms.specs.PatternText.{text_of}
use Rattle.hk_meta.specs.declared.answer.Split.{Split}
use Rattle.hk_rules.specs.Headers.{header_in}
use Rattle.hk_rules.specs.Plan.{no_header, Lookups, lookups}
use Rattle.hk_rules.specs.PlanView.{PlanView}
use Rattle.hk_rules.specs.declared.plan_fault.PlanFault.{PlanFault}
use Rattle.hk_rules.specs.declared.source_file.SourceFile.{SourceFile}

-- a step, with a pattern's text and a context's name in the place of their numbers
pub data NamedStep : Type 0 where
  body : NamedStep
  string : NamedStep
  copy : NamedStep
  template : NamedStep
  make : Bytes → NamedStep
  load : Ident → Bytes → NamedStep
  concat : Bytes → NamedStep
  apply : Ident → Bytes → NamedStep
  apply_self : Bytes → NamedStep
  save : Bytes → NamedStep
  relativize : NamedStep

-- a list's items, by the text of their pattern and the name of their context
pub record NamedList : Type 0 where
  pub pattern : Bytes
  pub snapshot : Bytes
  pub order : Order
  pub limit : Option ℕ
  pub context : Bytes

-- a field; a text in front is the key
pub data NamedField : Type 0 where
  page_body : NamedField
  metadata : NamedField
  url : NamedField
  path : NamedField
  title : NamedField
  constant : Bytes → Bytes → NamedField
  date : Bytes → Bytes → NamedField
  flag : Bytes → Bool → NamedField
  teaser : Bytes → Bytes → NamedField
  list : Bytes → NamedList → NamedField

pub record NamedContext : Type 0 where
  pub name : Bytes
  pub fields : List NamedField

-- the chain, the contexts that it reaches, the path that the item is written to, its file and that file's companion
pub record Recipe : Type 0 where
  pub steps : List NamedStep
  pub contexts : List NamedContext
  pub target : Option Bytes
  pub resource : Option Bytes
  pub companion : Option Bytes

-- ---- what is in the item's file

abbrev pub source_of : Option Bytes → Option Bytes → Option SourceFile
source_of None companion = None
source_of (Some text) companion = Some (record { text = text; companion = companion })

abbrev pub header_or : Result Split PlanFault → Split
header_or (Ok split) = split
header_or (Err fault) = no_header

-- the keys and values of the item's file and its companion, and where the file's body starts
abbrev pub own_header : Recipe → Split
own_header recipe = header_or (header_in [] (source_of recipe.resource recipe.companion))

-- ---- names for numbers

abbrev pub context_name : Lookups → ℕ → Bytes
context_name plan number = (plan.context number).name

abbrev pub pattern_text : Lookups → ℕ → Bytes
pattern_text plan number = text_of (plan.pattern number)

abbrev pub named_step : Lookups → Step → NamedStep
named_step plan steps.Body = body
named_step plan steps.Str = string
named_step plan steps.Copy = copy
named_step plan steps.TemplateBody = template
named_step plan (steps.Make text) = make text
named_step plan (steps.Load id name) = load id name
named_step plan (steps.Concat pattern) = concat (pattern_text plan pattern)
named_step plan (steps.Apply id context) = apply id (context_name plan context)
named_step plan (steps.SelfApply context) = apply_self (context_name plan context)
named_step plan (steps.Save name) = save name
named_step plan steps.Relativize = relativize

abbrev pub named_field : Lookups → Field → NamedField
named_field plan fields.Body = page_body
named_field plan fields.Metadata = metadata
named_field plan fields.Url = url
named_field plan fields.Path = path
named_field plan fields.Title = title
named_field plan (fields.Const key text) = constant key text
named_field plan (fields.Date key pattern) = date key pattern
named_field plan (fields.Bool key set) = flag key set
named_field plan (fields.Teaser key name) = teaser key name
named_field plan (fields.List key pattern snapshot order limit context) =
    list key (record { pattern = pattern_text plan pattern; snapshot = snapshot; order = order; limit = limit; context = context_name plan context })

abbrev pub named_context : Lookups → ℕ → NamedContext
named_context plan number = record { name = context_name plan number; fields = map (named_field plan) (plan.context number).fields }

-- ---- the contexts that a chain reaches: a step names them, or a list of one that it reaches does

abbrev pub step_contexts : Step → List ℕ
step_contexts (steps.Apply id context) = context ∷ []
step_contexts (steps.SelfApply context) = context ∷ []
step_contexts _ = []

abbrev pub field_contexts : Field → List ℕ
field_contexts (fields.List key pattern snapshot order limit context) = context ∷ []
field_contexts _ = []

abbrev pub list_contexts : Lookups → ℕ → List ℕ
list_contexts plan number = flat_map field_contexts (plan.context number).fields

abbrev pub is_among : List ℕ → ℕ → Bool
is_among numbers number = list_any (nat_eq number) numbers

-- whether these contexts are among some or named by lists of some
abbrev pub is_listed : Lookups → List ℕ → ℕ → Bool
is_listed plan numbers context = is_among numbers context || is_among (flat_map (list_contexts plan) numbers) context

-- of so many contexts those that the steps name, and so many times those that lists name
abbrev pub reached_by : Lookups → ℕ → List Step → ℕ → List ℕ
reached_by plan contexts chain zero = filter (is_among (flat_map step_contexts chain)) (range_with_len 0 contexts)
reached_by plan contexts chain (suc times) = filter (is_listed plan (reached_by plan contexts chain times)) (range_with_len 0 contexts)

-- the contexts that a chain reaches: after as many times as there are contexts none is added
abbrev pub reached : Lookups → ℕ → List Step → List ℕ
reached plan contexts chain = reached_by plan contexts chain contexts

-- ---- what an item is made of, in a plan of so many contexts, which stand in its recipe in the plan's order
abbrev pub recipe_in : Lookups → ℕ → ℕ → Recipe
recipe_in plan contexts item =
    record {
      steps = map (named_step plan) (plan.chain item);
      contexts = map (named_context plan) (reached plan contexts (plan.chain item));
      target = plan.target_of item;
      resource = plan.resource item;
      companion = plan.companion item;
    }

unfoldable pub recipe_of : PlanView → ℕ → Recipe
recipe_of plan item = recipe_in (lookups plan) (length plan.contexts) item

-- ---- what holds of recipes

-- a list's pattern is one of so many, and its context one of these
abbrev pub IsFieldAmong : ℕ → List ℕ → Field → Type 0
IsFieldAmong patterns numbers (fields.List key pattern snapshot order limit context) = (pattern < patterns) × (is_among numbers context ≡ true)
IsFieldAmong patterns numbers _ = Unit {0}

abbrev pub IsStepAmong : ℕ → List ℕ → Step → Type 0
IsStepAmong patterns numbers (steps.Concat pattern) = pattern < patterns
IsStepAmong patterns numbers (steps.Apply id context) = is_among numbers context ≡ true
IsStepAmong patterns numbers (steps.SelfApply context) = is_among numbers context ≡ true
IsStepAmong patterns numbers _ = Unit {0}

-- these contexts' lists name none but themselves, and each is told by its name
pub record AreClosed (plan : Lookups) (patterns : ℕ) (numbers : List ℕ) : Type 0 where
  pub fields : AllByRecursion (λ c. AllByRecursion (IsFieldAmong patterns numbers) (plan.context c).fields) numbers
  pub apart : (c d : ℕ) → is_among numbers c ≡ true → is_among numbers d ≡ true → context_name plan c ≡ context_name plan d → c ≡ d

-- the recipe of an item has all that its chain names, and the header of its file is the plan's
pub record IsRecipe (plan : Lookups) (contexts patterns item : ℕ) : Type 0 where
  pub steps : AllByRecursion (IsStepAmong patterns (reached plan contexts (plan.chain item))) (plan.chain item)
  pub contexts_of : AreClosed plan patterns (reached plan contexts (plan.chain item))
  pub meta : (own_header (recipe_in plan contexts item)).meta ≡ plan.meta item
  pub body_start : (own_header (recipe_in plan contexts item)).body_start ≡ plan.body_start item

-- P holds of the text of a step's pattern
abbrev pub StepHas : (Bytes → Type 0) → NamedStep → Type 0
StepHas P (concat by) = P by
StepHas P _ = Unit {0}

-- of that of a list field's
abbrev pub FieldHas : (Bytes → Type 0) → NamedField → Type 0
FieldHas P (list key listing) = P listing.pattern
FieldHas P _ = Unit {0}

abbrev pub ContextsHave : (Bytes → Type 0) → List NamedContext → Type 0
ContextsHave P contexts = AllByRecursion (λ (c : NamedContext). AllByRecursion (FieldHas P) c.fields) contexts

-- and of those of all patterns of a recipe
abbrev pub PatternsHave : (Bytes → Type 0) → Recipe → Type 0
PatternsHave P recipe = AllByRecursion (StepHas P) recipe.steps × ContextsHave P recipe.contexts
