-- Rules with a rule for each page of their tables.
use Rattle.std.specs.Prelude.{ℕ, ◌+◌, Bool, ◌||◌, nat_lt, is_some, List, [], length, None, Result, Ok, Err, if◌then◌else◌}
use Rattle.std.specs.BTreeSet.{insert_key}
use Rattle.std.specs.List.{list_any}
use Rattle.std.specs.Ordering.{is_eq}
use Rattle.hk_base.specs.Bytes.{Bytes}
use Rattle.hk_base.specs.Identifier.{Ident, ident_cmp}
use Rattle.hk_forms.specs.IdForm.{ident_at}
use Rattle.hk_rules.specs.Plan.{Lookups, lookups}
use Rattle.hk_rules.specs.PlanView.{PlanView}
use Rattle.hk_rules_file.specs.Rules.{RulesView}
use Rattle.hk_rules_file.specs.TableForm.{required, and_then}
use Rattle.hk_rules_file.specs.declared.tables.FeedRule.{FeedRule}
use Rattle.hk_rules_file.specs.declared.tables.PageRule.{PageRule}
use Rattle.hk_rules_file.specs.declared.tables.TagRule.{TagRule}
use Rattle.hk_tags.specs.Growing.{MakingView, GrowingView, tags_making, pages_making, with_page}
use Rattle.hk_tags.specs.NameOrder.{in_name_order}
use Rattle.hk_tags.specs.Pages.{PageView, tag_pages, piece_pages}
use Rattle.hk_tags.specs.Turns.{in_turn}
use Rattle.hk_tags.specs.declared.tag_fault.TagFault.{TagFault}
use Rattle.hk_tags.specs.declared.tag_fault.TagFault.TheVariants.{BadPath, Taken, NoDate, TooManyItems}

-- the rules so far, and the identifiers of the pages so far in order
pub record GrownView : Type 0 where
  pub growing : GrowingView
  pub made : List Ident

abbrev pub is_ident : Ident → Ident → Bool
is_ident id other = is_eq (ident_cmp id other)

-- whether the plan or an earlier page has an identifier
abbrev pub is_taken : Lookups → List Ident → Ident → Bool
is_taken base made id = is_some (base.find id) || list_any (is_ident id) made

abbrev pub unless_taken : Bool → Ident → Result Ident TagFault
unless_taken taken id = if taken then Err (Taken id) else Ok id

-- the identifier of a page
abbrev pub page_ident : Lookups → List Ident → Bytes → Result Ident TagFault
page_ident base made path = and_then (required (BadPath path) (ident_at path None)) (λ id. unless_taken (is_taken base made id) id)

abbrev pub grown_by : Lookups → GrownView → MakingView → PageView → Ident → GrownView
grown_by base grown making page id = record { growing = with_page base grown.growing making page id; made = insert_key ident_cmp grown.made id }

-- with a page more
abbrev pub with_one : Lookups → MakingView → GrownView → PageView → Result GrownView TagFault
with_one base making grown page = and_then (page_ident base grown.made page.path) (λ id. Ok (grown_by base grown making page id))

-- with the pages of a table
abbrev pub with_pages : Lookups → MakingView → List PageView → GrownView → Result GrownView TagFault
with_pages base making pages grown = in_turn (with_one base making) pages grown

-- with those of a table for tags
abbrev pub with_tag_table : Lookups → GrownView → TagRule → Result GrownView TagFault
with_tag_table base grown table = with_pages base (tags_making table) (tag_pages base table) grown

-- with those of a table for numbered pages
abbrev pub dated_pages : Lookups → Result (List PageView) ℕ → Result (List PageView) TagFault
dated_pages base (Ok pages) = Ok pages
dated_pages base (Err item) = Err (NoDate (base.id item))

abbrev pub with_page_table : Lookups → GrownView → PageRule → Result GrownView TagFault
with_page_table base grown table = and_then (dated_pages base (piece_pages base table)) (λ pages. with_pages base (pages_making table) pages grown)

-- the most items of a plan
abbrev pub most_items : ℕ
most_items = 65535

-- the rules without tables, since these are done
abbrev pub whole : List FeedRule → GrowingView → RulesView
whole feeds growing = record { rules = growing.rules; contexts = growing.contexts; patterns = growing.patterns; tags = []; pages = []; feeds = feeds }

abbrev pub unless_many : Bool → RulesView → Result RulesView TagFault
unless_many many rules = if many then Err TooManyItems else Ok rules

abbrev pub counted : Lookups → List FeedRule → GrownView → Result RulesView TagFault
counted base feeds grown =
    unless_many (nat_lt most_items (base.count + length grown.made)) (whole feeds (in_name_order grown.growing))

-- the rules before any page
abbrev pub start : RulesView → GrownView
start rules = record { growing = record { rules = rules.rules; contexts = rules.contexts; patterns = rules.patterns }; made = [] }

abbrev pub expand_by : Lookups → RulesView → Result RulesView TagFault
expand_by base rules =
    and_then (in_turn (with_tag_table base) rules.tags (start rules)) (λ grown.
    and_then (in_turn (with_page_table base) rules.pages grown) (counted base rules.feeds))

-- the rules with one for each page of their tables, by the plan that they make without these, or the first fault
unfoldable pub expand : RulesView → PlanView → Result RulesView TagFault
expand rules base = expand_by (lookups base) rules
