-- Rules whose numbers are in range, whose names differ, and whose texts are of their form.
use Rattle.std.specs.Prelude.{ℕ, ◌<◌, ◌≤◌, ◌≡◌, Bool, true, false, List, [], length, map, Option, IfSome, bytes_eq}
use Rattle.std.specs.List.{AllByRecursion, IsDistinct, list_all}
use Rattle.hk_base.specs.Bytes.{Bytes}
use Rattle.hk_chain.specs.Context.{ContextView}
use Rattle.hk_chain.specs.declared.chain.Step.{Step}
use Rattle.hk_chain.specs.declared.chain.Step.TheVariants.{Concat, Apply, SelfApply}
use Rattle.hk_chain.specs.declared.context.Field.{Field}
use Rattle.hk_chain.specs.declared.context.Field.TheVariants.{Date, List as ListField}
use Rattle.hk_forms.specs.Names.{is_context_name, is_snapshot_name}
use Rattle.hk_meta.specs.DatePattern.{pattern_ok}
use Rattle.hk_pattern.specs.declared.pattern.Pattern.{Pattern}
use Rattle.hk_route.specs.declared.route.Route.{Route, fold-Route}
use Rattle.hk_route.specs.declared.route.Route.TheOpen.{Route-F}
use Rattle.hk_rules_file.specs.Numbering.{texts_of}
use Rattle.hk_rules_file.specs.Rules.{RulesView}
use Rattle.hk_rules_file.specs.Saves.{saves, page_names}
use Rattle.hk_rules_file.specs.declared.tables.PageRule.{PageRule}
use Rattle.hk_rules_file.specs.declared.tables.TagRule.{TagRule}

-- the numbers in a step are below those of the contexts and of the patterns
abbrev pub IsStepWithin : ℕ → ℕ → Step → Type 0
IsStepWithin contexts patterns (Concat pattern) = pattern < patterns
IsStepWithin contexts patterns (Apply id context) = context < contexts
IsStepWithin contexts patterns (SelfApply context) = context < contexts
IsStepWithin contexts patterns _ = Unit {0}

-- a count of items
abbrev pub IsCount : ℕ → Type 0
IsCount count = (1 ≤ count) × (count ≤ 65535)

-- and those in a field; a limit is a count, and a date's pattern is one to print by
abbrev pub IsLinkedField : ℕ → ℕ → Field → Type 0
IsLinkedField contexts patterns (Date key pattern) = pattern_ok pattern ≡ true
IsLinkedField contexts patterns (ListField key of snapshot order limit context) = (of < patterns) × (context < contexts) × IfSome limit IsCount
IsLinkedField contexts patterns _ = Unit {0}

-- a chain has 64 steps at most, its numbers are in range, its pages' names differ, and those that it saves under are names
-- of snapshots
pub record IsLinkedChain (contexts patterns : ℕ) (steps : List Step) : Type 0 where
  pub short : length steps ≤ 64
  pub within : AllByRecursion (IsStepWithin contexts patterns) steps
  pub names : IsDistinct bytes_eq (page_names steps)
  pub saved : AllByRecursion (λ name. is_snapshot_name name ≡ true) (saves steps)

abbrev pub name_of : ContextView → Bytes
name_of context = context.name

abbrev pub context_names : List ContextView → List Bytes
context_names contexts = map name_of contexts

-- the numbers in contexts are in range, dates' patterns are of their form, no two contexts have one name, and no two
-- patterns one text
pub record AreLinked (contexts : List ContextView) (patterns : List Pattern) : Type 0 where
  pub within : AllByRecursion (λ context. AllByRecursion (IsLinkedField (length contexts) (length patterns)) context.fields) contexts
  pub names : IsDistinct bytes_eq (context_names contexts)
  pub texts : IsDistinct bytes_eq (texts_of patterns)

abbrev pub all_true : List Bool → Bool
all_true tests = list_all (λ b. b) tests

-- whether each text that a route replaces has bytes, from the same of the routes in it
abbrev pub has_bytes_by : Route-F Bool → Bool
has_bytes_by (Route-F.Gsub [] new) = false
has_bytes_by (Route-F.When pattern inner) = inner
has_bytes_by (Route-F.Compose inner) = all_true inner
has_bytes_by (Route-F.First inner) = all_true inner
has_bytes_by _ = true

abbrev pub has_bytes : Route → Bool
has_bytes = fold-Route Bool has_bytes_by

-- a route, where there is one, replaces no empty text
abbrev pub IsRouted : Option Route → Type 0
IsRouted route = IfSome route (λ by. has_bytes by ≡ true)

-- the numbers in rules are in range, names and texts differ, names of snapshots and patterns of dates are of their form,
-- and no empty text is replaced
pub record IsLinked (rules : RulesView) : Type 0 where
  pub chains : AllByRecursion (λ rule. IsLinkedChain (length rules.contexts) (length rules.patterns) rule.chain) rules.rules
  pub named : AreLinked rules.contexts rules.patterns
  pub routes : AllByRecursion (λ rule. IsRouted rule.route) rules.rules

-- ---- tables

-- a table's chain is linked, its contexts are in range, and its route replaces no empty text
pub record IsLinkedTable (contexts patterns : ℕ) (chain : List Step) (route : Option Route) (context item : ℕ) : Type 0 where
  pub linked : IsLinkedChain contexts patterns chain
  pub routed : IsRouted route
  pub behind : context < contexts
  pub listed : item < contexts

abbrev pub AreTagsLinked : ℕ → ℕ → TagRule → Type 0
AreTagsLinked contexts patterns tags = IsLinkedTable contexts patterns tags.chain tags.route tags.context tags.item

abbrev pub ArePagesLinked : ℕ → ℕ → PageRule → Type 0
ArePagesLinked contexts patterns pages = IsLinkedTable contexts patterns pages.chain pages.route pages.context pages.item × IsCount pages.per

-- the numbers in tables are in range, a count of items is 1 at least, and each context has the name of one
pub record HasLinkedTables (rules : RulesView) : Type 0 where
  pub tags : AllByRecursion (AreTagsLinked (length rules.contexts) (length rules.patterns)) rules.tags
  pub pages : AllByRecursion (ArePagesLinked (length rules.contexts) (length rules.patterns)) rules.pages
  pub feeds : AllByRecursion (λ feed. IsCount feed.limit) rules.feeds
  pub written : AllByRecursion (λ name. is_context_name name ≡ true) (context_names rules.contexts)
