-- The fingerprint of an item: the text of its recipe.
use Rattle.std.specs.Prelude.{◌≡◌, ℕ, ◌≤◌, Bool, true, false, ◌++◌, Option, Some, None, codes}
use Rattle.std.specs.List.{AllByRecursion}
use Rattle.hk_base.specs.Bytes.{Bytes}
use Rattle.hk_chain.specs.declared.context.Order.{Order}
use Rattle.hk_chain.specs.declared.context.Order.TheVariants as orders
use Rattle.hk_forms.specs.PatternText.{num, str, opt, ident_text, text_of}
use Rattle.hk_pattern.specs.declared.pattern.Pattern.{Pattern}
use Rattle.hk_rules.specs.Recipe.{NamedStep, NamedList, NamedField, NamedContext, Recipe, StepHas}
use Rattle.hk_store.specs.Told.{Small, many}

-- ---- steps: a word for each kind, and what a step of that kind has

abbrev pub step_text : NamedStep → Bytes
step_text NamedStep.body = str (codes "body")
step_text NamedStep.string = str (codes "string")
step_text NamedStep.copy = str (codes "copy")
step_text NamedStep.template = str (codes "template")
step_text (NamedStep.make text) = str (codes "make") ++ str text
step_text (NamedStep.load id name) = str (codes "load") ++ (ident_text id ++ str name)
step_text (NamedStep.concat pattern) = str (codes "concat") ++ pattern
step_text (NamedStep.apply id context) = str (codes "apply") ++ (ident_text id ++ str context)
step_text (NamedStep.apply_self context) = str (codes "self") ++ str context
step_text (NamedStep.save name) = str (codes "save") ++ str name
step_text NamedStep.relativize = str (codes "relativize")

-- ---- fields

abbrev pub flag_text : Bool → Bytes
flag_text true = str (codes "true")
flag_text false = str (codes "false")

abbrev pub order_text : Order → Bytes
order_text orders.Id = str (codes "id")
order_text orders.Chronological = str (codes "chronological")
order_text orders.Recent = str (codes "recent")

-- the most items that a list gives, and 0 where it gives all
abbrev pub limit_text : Option ℕ → Bytes
limit_text None = num 0
limit_text (Some most) = num most

abbrev pub listing_text : NamedList → Bytes
listing_text list = list.pattern ++ (str list.snapshot ++ (order_text list.order ++ (limit_text list.limit ++ str list.context)))

abbrev pub field_text : NamedField → Bytes
field_text NamedField.page_body = str (codes "body")
field_text NamedField.metadata = str (codes "metadata")
field_text NamedField.url = str (codes "url")
field_text NamedField.path = str (codes "path")
field_text NamedField.title = str (codes "title")
field_text (NamedField.constant key text) = str (codes "const") ++ (str key ++ str text)
field_text (NamedField.date key pattern) = str (codes "date") ++ (str key ++ str pattern)
field_text (NamedField.flag key set) = str (codes "bool") ++ (str key ++ flag_text set)
field_text (NamedField.teaser key name) = str (codes "teaser") ++ (str key ++ str name)
field_text (NamedField.list key listing) = str (codes "list") ++ (str key ++ listing_text listing)

-- ---- recipes: the contexts stand in the recipe's order, which is that of their names where rules were read

abbrev pub context_text : NamedContext → Bytes
context_text context = str context.name ++ many field_text context.fields

-- the chain, and the contexts that it reaches
abbrev pub chain_text : Recipe → Bytes
chain_text recipe = str (codes "chain") ++ (many step_text recipe.steps ++ many context_text recipe.contexts)

unfoldable pub recipe_text : Recipe → Bytes
recipe_text recipe = chain_text recipe ++ (opt recipe.target ++ (opt recipe.resource ++ opt recipe.companion))

-- ---- what holds of the recipes of a plan

abbrev pub IsPatternText : Bytes → Type 0
IsPatternText text = (pattern : Pattern) × (text ≡ text_of pattern)

-- a limit is 1 at least
abbrev pub IsLimit : Option ℕ → Type 0
IsLimit None = Unit {0}
IsLimit (Some most) = (1 ≤ most) × Small most

abbrev pub FieldFits : NamedField → Type 0
FieldFits (NamedField.list key listing) = IsPatternText listing.pattern × IsLimit listing.limit
FieldFits _ = Unit {0}

abbrev pub ContextFits : NamedContext → Type 0
ContextFits context = AllByRecursion FieldFits context.fields

-- its patterns are given by their texts, and its limits are 1 at least
pub record RecipeFits (recipe : Recipe) : Type 0 where
  pub steps : AllByRecursion (StepHas IsPatternText) recipe.steps
  pub contexts : AllByRecursion ContextFits recipe.contexts
