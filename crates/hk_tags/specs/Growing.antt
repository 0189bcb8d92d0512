-- Rules with a page more.
use Rattle.std.specs.Prelude.{ℕ, ◌==◌, List, [], ◌∷◌, ◌++◌, length, map, Option, None, codes, if◌then◌else◌}
use Rattle.std.specs.List.{slice_index_or}
use Rattle.hk_base.specs.Bytes.{Bytes}
use Rattle.hk_base.specs.Identifier.{Ident}
use Rattle.hk_chain.specs.Context.{ContextView}
use Rattle.hk_chain.specs.declared.chain.Step.{Step}
use Rattle.hk_chain.specs.declared.chain.Step.TheVariants.{Apply, SelfApply}
use Rattle.hk_chain.specs.declared.context.Field.{Field}
use Rattle.hk_chain.specs.declared.context.Field.TheVariants.{Const, List as ListField}
use Rattle.hk_chain.specs.declared.context.Order.{Order}
use Rattle.hk_pattern.specs.declared.pattern.Pattern.{Pattern, Ids}
use Rattle.hk_route.specs.declared.route.Route.{Route}
use Rattle.hk_rules.specs.Plan.{Lookups, no_context}
use Rattle.hk_rules_file.specs.Numbering.{numbered}
use Rattle.hk_rules_file.specs.declared.rules.Rule.{Rule}
use Rattle.hk_rules_file.specs.declared.rules.RuleSource.TheVariants.{Create}
use Rattle.hk_rules_file.specs.declared.tables.PageRule.{PageRule}
use Rattle.hk_rules_file.specs.declared.tables.TagRule.{TagRule}
use Rattle.hk_chain.specs.Names.{final_name}
use Rattle.hk_tags.specs.Pages.{PageView}

-- how the pages of a table are made
pub record MakingView : Type 0 where
  pub route : Option Route
  pub chain : List Step
  pub context : ℕ
  pub item : ℕ
  pub order : Order

abbrev pub tags_making : TagRule → MakingView
tags_making table = record { route = table.route; chain = table.chain; context = table.context; item = table.item; order = table.order }

abbrev pub pages_making : PageRule → MakingView
pages_making table = record { route = table.route; chain = table.chain; context = table.context; item = table.item; order = table.order }

-- a number, with a new one in the place of an old one
abbrev pub in_place : ℕ → ℕ → ℕ → ℕ
in_place old new number = if number == old then new else number

-- a step that names the new context in the place of the old one
abbrev pub step_in : ℕ → ℕ → Step → Step
step_in old new (Apply id context) = Apply id (in_place old new context)
step_in old new (SelfApply context) = SelfApply (in_place old new context)
step_in old new step = step

abbrev pub const_field : Bytes × Bytes → Field
const_field p = Const p.0 p.1

-- the list of a page's items, by the number of their pattern
abbrev pub posts : MakingView → ℕ → Field
posts making pattern = ListField (codes "posts") pattern final_name making.order None making.item

abbrev pub context_at : List ContextView → ℕ → ContextView
context_at contexts number = slice_index_or contexts number no_context

-- the context of a page: the list of its items, its own texts, and the fields of the table's context
abbrev pub page_context : List ContextView → MakingView → PageView → ℕ → ContextView
page_context contexts making page pattern =
    record {
      name = (context_at contexts making.context).name ++ (codes "@" ++ page.path);
      fields = posts making pattern ∷ (map const_field page.own ++ (context_at contexts making.context).fields);
    }

abbrev pub page_rule : MakingView → ℕ → Ident → Rule
page_rule making context id =
    record { source = Create (id ∷ []); version = None; route = making.route; chain = map (step_in making.context context) making.chain }

-- rules with what they name by number
pub record GrowingView : Type 0 where
  pub rules : List Rule
  pub contexts : List ContextView
  pub patterns : List Pattern

abbrev pub with_pattern : GrowingView → MakingView → PageView → Ident → ℕ × List Pattern → GrowingView
with_pattern growing making page id r =
    record {
      rules = growing.rules ++ page_rule making (length growing.contexts) id ∷ [];
      contexts = growing.contexts ++ page_context growing.contexts making page r.0 ∷ [];
      patterns = r.1;
    }

abbrev pub ids_of : Lookups → List ℕ → List Ident
ids_of plan items = map plan.id items

-- the rules with one for this page, which creates it, and with its context
abbrev pub with_page : Lookups → GrowingView → MakingView → PageView → Ident → GrowingView
with_page plan growing making page id = with_pattern growing making page id (numbered growing.patterns (Ids (ids_of plan page.members)))
