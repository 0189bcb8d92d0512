-- The form of a whole rules file, over the table that `toml` reads.
use Rattle.std.specs.Prelude.{ℕ, Bool, true, ◌&&◌, ◌||◌, nat_lt, List, [], length, Option, Some, None, is_some, Result, Ok, Err, codes, bytes_eq, if◌then◌else◌}
use Rattle.std.specs.Str.{is_utf8}
use Rattle.toml.specs.Data.{Data, Items, no_items, item, Members, no_members, member, get_member, as_array, as_table}
use Rattle.toml.specs.Parse.{parse_document}
use Rattle.hk_base.specs.Bytes.{Bytes}
use Rattle.hk_chain.specs.Context.{ContextView}
use Rattle.hk_pattern.specs.declared.pattern.Pattern.{Pattern}
use Rattle.hk_rules_file.specs.Rules.{RulesView}
use Rattle.hk_forms.specs.Members.{count_items}
use Rattle.hk_rules_file.specs.ContextForm.{FileContext, listed, names_of, contexts_from}
use Rattle.hk_rules_file.specs.FeedForm.{feeds_from}
use Rattle.hk_rules_file.specs.PagesForm.{pages_from}
use Rattle.hk_rules_file.specs.RuleForm.{first_other, rules_from}
use Rattle.hk_rules_file.specs.TableForm.{required, and_then}
use Rattle.hk_rules_file.specs.TagsForm.{tags_from}
use Rattle.hk_rules_file.specs.declared.fault.RulesFault.{RulesFault}
use Rattle.hk_rules_file.specs.declared.rules.Rule.{Rule}
use Rattle.hk_rules_file.specs.declared.tables.FeedRule.{FeedRule}
use Rattle.hk_rules_file.specs.declared.tables.PageRule.{PageRule}
use Rattle.hk_rules_file.specs.declared.tables.TagRule.{TagRule}
use Rattle.hk_rules_file.specs.declared.fault.RulesFault.TheVariants.{TooLong, NotToml, BadRule, TooManyRules}

-- how many rules and bytes are allowed
abbrev pub most_rules : ℕ
most_rules = 1024

abbrev pub most_bytes : ℕ
most_bytes = 1048576

abbrev pub are_tables : Items → Bool
are_tables no_items = true
are_tables (item d ds) = is_some (as_table d) && are_tables ds

abbrev pub hold_tables : Members → Bool
hold_tables no_members = true
hold_tables (member k d ms) = is_some (as_table d) && hold_tables ms

abbrev pub table_of_tables : Option Members → Option Members
table_of_tables (Some ms) = if hold_tables ms then Some ms else None
table_of_tables None = None

-- the contexts' table by the value at `context`, which is a table of tables
abbrev pub contexts_at : Option Data → Option Members
contexts_at None = Some no_members
contexts_at (Some d) = table_of_tables (as_table d)

abbrev pub array_of_tables : Option Items → Option Items
array_of_tables (Some ds) = if are_tables ds then Some ds else None
array_of_tables None = None

-- an array of tables, by the value at its key; an empty one where there is none
abbrev pub tables_at : Option Data → Option Items
tables_at None = Some no_items
tables_at (Some d) = array_of_tables (as_array d)

abbrev pub Read : Type 0
Read = Result RulesView RulesFault

abbrev pub whole : List ContextView → List Rule → List TagRule → List PageRule × List Pattern → List FeedRule → Read
whole contexts rules tags p feeds = Ok (record { rules = rules; contexts = contexts; patterns = p.1; tags = tags; pages = p.0; feeds = feeds })

-- the contexts, the rules, the tables for tags, those for pages and the feeds, in this order, or the first fault
abbrev pub parts_with : List Bytes → List FileContext → Items → Items → Items → Items → Read
parts_with names contexts rules tags pages feeds =
    and_then (contexts_from names contexts [] []) (λ c.
    and_then (rules_from names rules 1 c.1 []) (λ r.
    and_then (tags_from names tags 1 r.1 []) (λ t.
    and_then (pages_from names pages 1 t.1 []) (λ p.
    and_then (feeds_from feeds 1 []) (λ f.
    whole c.0 r.0 t.0 p f)))))

abbrev pub parts_in : Members → Items → Items → Items → Items → Read
parts_in contexts rules tags pages feeds = parts_with (names_of contexts) (listed contexts) rules tags pages feeds

-- the rules are counted first
abbrev pub unless_many : Bool → Members → Items → Items → Items → Items → Read
unless_many many contexts rules tags pages feeds = if many then Err TooManyRules else parts_in contexts rules tags pages feeds

unfoldable pub is_top_key : Bytes → Bool
is_top_key k =
    ((bytes_eq k (codes "rule") || bytes_eq k (codes "context")) || bytes_eq k (codes "tags"))
    || (bytes_eq k (codes "paginate") || bytes_eq k (codes "feed"))

-- a value of the top table, where it is of its form, or else its key
abbrev pub formed : {X : Type 0} → Bytes → Option X → Result X RulesFault
formed key value = required (BadRule 0 key) value

-- the rules by the values of a top table, of which that of the least key is tested first
abbrev pub parts_by : Option Members → Option Items → Option Items → Option Items → Option Items → Read
parts_by contexts feeds pages rules tags =
    and_then (formed (codes "context") contexts) (λ contexts.
    and_then (formed (codes "feed") feeds) (λ feeds.
    and_then (formed (codes "paginate") pages) (λ pages.
    and_then (formed (codes "rule") rules) (λ rules.
    and_then (formed (codes "tags") tags) (λ tags.
    unless_many (nat_lt most_rules (count_items rules)) contexts rules tags pages feeds)))))

-- and by its least other key
abbrev pub top_by : Option Bytes → Option Members → Option Items → Option Items → Option Items → Option Items → Read
top_by (Some key) contexts feeds pages rules tags = Err (BadRule 0 key)
top_by None contexts feeds pages rules tags = parts_by contexts feeds pages rules tags

-- the rules of a top table
unfoldable pub rules_of_table : Members → Read
rules_of_table ms =
    top_by (first_other is_top_key ms) (contexts_at (get_member (codes "context") ms)) (tables_at (get_member (codes "feed") ms))
    (tables_at (get_member (codes "paginate") ms)) (tables_at (get_member (codes "rule") ms)) (tables_at (get_member (codes "tags") ms))

-- the table that the bytes are
unfoldable pub document : Bytes → Option Members
document bytes = if is_utf8 bytes then parse_document bytes else None

abbrev pub rules_of_document : Option Members → Read
rules_of_document None = Err NotToml
rules_of_document (Some ms) = rules_of_table ms

-- the rules that a file has
abbrev pub rules_of : Bytes → Read
rules_of bytes = if nat_lt most_bytes (length bytes) then Err TooLong else rules_of_document (document bytes)
