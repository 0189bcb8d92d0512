-- What the tables for tags, numbered pages and feeds share: what stands at their keys, or the first key that is at fault.
use Rattle.std.specs.Prelude.{ℕ, Bool, true, ◌||◌, nat_lt, List, [], Option, Some, None, option_and_then, Result, Ok, Err, codes, bytes_eq, if◌then◌else◌}
use Rattle.toml.specs.Data.{Data, Members, get_member, as_str}
use Rattle.hk_base.specs.Bytes.{Bytes}
use Rattle.hk_chain.specs.declared.chain.Step.{Step}
use Rattle.hk_chain.specs.declared.context.Order.{Order}
use Rattle.hk_forms.specs.IdForm.{value_of}
use Rattle.hk_forms.specs.PatternForm.{pattern_of}
use Rattle.hk_forms.specs.RouteForm.{route_of}
use Rattle.hk_pattern.specs.declared.pattern.Pattern.{Pattern}
use Rattle.hk_route.specs.declared.route.Route.{Route}
use Rattle.hk_steps.specs.FieldForm.{order_or, count_of}
use Rattle.hk_steps.specs.StepForm.{default_name, chain_by}
use Rattle.hk_steps.specs.declared.draft.DraftStep.{DraftStep}
use Rattle.hk_rules_file.specs.Linking.{link_steps}
use Rattle.hk_rules_file.specs.Numbering.{place_of}
use Rattle.hk_rules_file.specs.RuleForm.{optional}
use Rattle.hk_rules_file.specs.declared.fault.RulesFault.{RulesFault}
use Rattle.hk_rules_file.specs.declared.fault.RulesFault.TheVariants.{BadRule, BadTags, BadPaginate, BadFeed}
use Rattle.hk_rules_file.specs.declared.table_form.TableKind.{TableKind}
use Rattle.hk_rules_file.specs.declared.table_form.TableKind.TheVariants.{Tags, Paginate, Feed}

-- ---- one after another

-- the value, where there is one, or else a fault
abbrev pub required : {X F : Type 0} → F → Option X → Result X F
required fault (Some x) = Ok x
required fault None = Err fault

-- what comes of the value, where there is no fault
abbrev pub and_then : {X Y F : Type 0} → Result X F → (X → Result Y F) → Result Y F
and_then (Ok x) next = next x
and_then (Err fault) next = Err fault

-- ---- what stands at a key of a table, or that key

abbrev pub pattern_at : Bytes → Members → Result Pattern Bytes
pattern_at key ms = required key (option_and_then pattern_of (get_member key ms))

abbrev pub text_at : Bytes → Members → Result Bytes Bytes
text_at key ms = required key (option_and_then as_str (get_member key ms))

abbrev pub counted : Option Data → Option ℕ
counted (Some d) = count_of d
counted None = None

abbrev pub count_at : Bytes → Members → Result ℕ Bytes
count_at key ms = required key (counted (get_member key ms))

-- an order, or the usual one where the key isn't there
abbrev pub order_at : Order → Members → Result Order Bytes
order_at usual ms = required (codes "order") (order_or usual (get_member (codes "order") ms))

-- a route, where the key is there
abbrev pub route_at : Members → Result (Option Route) Bytes
route_at ms = required (codes "route") (optional route_of (get_member (codes "route") ms))

-- the name of a context, `default` where the key isn't there
abbrev pub name_or_default : Option Data → Option Bytes
name_or_default (Some d) = as_str d
name_or_default None = Some default_name

abbrev pub place_by : List Bytes → Option Bytes → Option ℕ
place_by names (Some name) = place_of name names
place_by names None = None

-- the number of the context that is named, among these
abbrev pub context_at : List Bytes → Bytes → Members → Result ℕ Bytes
context_at names key ms = required key (place_by names (name_or_default (get_member key ms)))

-- the steps with the numbers of what they name, where each can be numbered and no page is saved twice under one name
abbrev pub numbered_steps : List Bytes → List Pattern → Option (List DraftStep) → Option (List Step × List Pattern)
numbered_steps names pool (Some drafts) = value_of (link_steps 0 names drafts pool [])
numbered_steps names pool None = None

-- a chain of pages that are created, and the patterns then
abbrev pub chain_at : List Bytes → List Pattern → Members → Result (List Step × List Pattern) Bytes
chain_at names pool ms = required (codes "compile") (numbered_steps names pool (chain_by true (get_member (codes "compile") ms)))

-- ---- whole tables

-- how many tables of a kind a file may have
abbrev pub most_tables : ℕ
most_tables = 64

abbrev pub is_shared_key : Bytes → Bool
is_shared_key k =
    ((bytes_eq k (codes "of") || bytes_eq k (codes "prefix")) || (bytes_eq k (codes "compile") || bytes_eq k (codes "route")))
    || ((bytes_eq k (codes "context") || bytes_eq k (codes "item")) || bytes_eq k (codes "order"))

abbrev pub is_said_key : Bytes → Bool
is_said_key k =
    (bytes_eq k (codes "title") || bytes_eq k (codes "description"))
    || ((bytes_eq k (codes "author") || bytes_eq k (codes "root")) || bytes_eq k (codes "email"))

abbrev pub is_feed_key : Bytes → Bool
is_feed_key k =
    ((bytes_eq k (codes "kind") || bytes_eq k (codes "target")) || (bytes_eq k (codes "of") || bytes_eq k (codes "snapshot")))
    || (bytes_eq k (codes "limit") || is_said_key k)

-- the keys that a table may have
unfoldable pub is_table_key : TableKind → Bytes → Bool
is_table_key Tags k = bytes_eq k (codes "field") || is_shared_key k
is_table_key Paginate k = (bytes_eq k (codes "per") || bytes_eq k (codes "first")) || is_shared_key k
is_table_key Feed k = is_feed_key k

-- the key that one table too many is at fault at
abbrev pub first_key : TableKind → Bytes
first_key Feed = codes "kind"
first_key _ = codes "of"

-- the key that is at fault before any value is read: the least one that the table may not have, or the first one of a
-- table too many
abbrev pub early_fault : TableKind → ℕ → Option Bytes → Option Bytes
early_fault kind n (Some key) = Some key
early_fault kind n None = if nat_lt most_tables n then Some (first_key kind) else None

abbrev pub unless : {X F : Type 0} → Option F → Result X F → Result X F
unless (Some fault) next = Err fault
unless None next = next

abbrev pub table_fault : TableKind → ℕ → Bytes → RulesFault
table_fault Tags n word = BadTags n word
table_fault Paginate n word = BadPaginate n word
table_fault Feed n word = BadFeed n word

abbrev pub numbered_fault : {X : Type 0} → TableKind → ℕ → Result X Bytes → Result X RulesFault
numbered_fault kind n (Ok x) = Ok x
numbered_fault kind n (Err word) = Err (table_fault kind n word)

-- the key of the top table that the tables stand at
abbrev pub key_of : TableKind → Bytes
key_of Tags = codes "tags"
key_of Paginate = codes "paginate"
key_of Feed = codes "feed"

-- the fault of what is no table
abbrev pub no_table : TableKind → RulesFault
no_table kind = BadRule 0 (key_of kind)
