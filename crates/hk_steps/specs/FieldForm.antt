-- The form of a field, and of a whole context.
use Rattle.std.specs.Prelude.{ℕ, ◌&&◌, ◌||◌, nat_le, ℤ, pos, Bool, true, false, List, Option, Some, None, option_map, option_and_then, codes, bytes_eq, if◌then◌else◌}
use Rattle.toml.specs.Data.{Data, Items, Members, get_member, as_str, as_array, as_table, as_bool, as_integer}
use Rattle.hk_base.specs.Bytes.{Bytes}
use Rattle.hk_chain.specs.declared.context.Field.TheVariants.{Body, Metadata, Url, Path, Title, Const, Date, Bool as BoolField, Teaser}
use Rattle.hk_chain.specs.declared.context.Order.{Order}
use Rattle.hk_chain.specs.declared.context.Order.TheVariants.{Id, Chronological, Recent}
use Rattle.hk_pattern.specs.declared.pattern.Pattern.{Pattern}
use Rattle.hk_meta.specs.DatePattern.{pattern_ok}
use Rattle.hk_base.specs.Key.{is_key}
use Rattle.hk_forms.specs.Members.{keys_pass, fits, only, two, each, count_items}
use Rattle.hk_forms.specs.PatternForm.{pattern_of}
use Rattle.hk_steps.specs.StepForm.{context_by, snapshot_by}
use Rattle.hk_chain.specs.Names.{final_name}
use Rattle.hk_steps.specs.declared.draft.DraftField.{DraftField}
use Rattle.hk_steps.specs.declared.draft.DraftField.TheVariants.{Default, Whole, Several}

abbrev pub key_by : Option Bytes → Option Bytes
key_by (Some text) = if is_key text then Some text else None
key_by None = None

abbrev pub date_pattern_by : Option Bytes → Option Bytes
date_pattern_by (Some text) = if pattern_ok text then Some text else None
date_pattern_by None = None

-- a member that is a word
abbrev pub word_field : Bytes → Option DraftField
word_field word =
    if bytes_eq word (codes "default") then Some Default
    else if bytes_eq word (codes "body") then Some (Whole Body)
    else if bytes_eq word (codes "metadata") then Some (Whole Metadata)
    else if bytes_eq word (codes "url") then Some (Whole Url)
    else if bytes_eq word (codes "path") then Some (Whole Path)
    else if bytes_eq word (codes "title") then Some (Whole Title)
    else None

abbrev pub const_by : Option Bytes → Option Bytes → Option DraftField
const_by (Some key) (Some text) = Some (Whole (Const key text))
const_by _ _ = None

abbrev pub date_by : Option Bytes → Option Bytes → Option DraftField
date_by (Some key) (Some pattern) = Some (Whole (Date key pattern))
date_by _ _ = None

abbrev pub flag_by : Option Bytes → Option Bool → Option DraftField
flag_by (Some key) (Some flag) = Some (Whole (BoolField key flag))
flag_by _ _ = None

abbrev pub teaser_by : Option Bytes → Option Bytes → Option DraftField
teaser_by (Some key) (Some snapshot) = Some (Whole (Teaser key snapshot))
teaser_by _ _ = None

-- a field of a key and what stands beside it, by the word that names it
abbrev pub paired : Bytes → Data × Data → Option DraftField
paired word p =
    if bytes_eq word (codes "const") then const_by (key_by (as_str p.0)) (as_str p.1)
    else if bytes_eq word (codes "date") then date_by (key_by (as_str p.0)) (date_pattern_by (as_str p.1))
    else if bytes_eq word (codes "bool") then flag_by (key_by (as_str p.0)) (as_bool p.1)
    else if bytes_eq word (codes "teaser") then teaser_by (key_by (as_str p.0)) (snapshot_by (as_str p.1))
    else None

abbrev pub keyed_by : Bytes → Option (Data × Data) → Option DraftField
keyed_by word (Some p) = paired word p
keyed_by word None = None

abbrev pub keyed : Bytes → Data → Option DraftField
keyed word d = keyed_by word (option_and_then two (as_array d))

-- the keys that a list has
abbrev pub is_needed_key : Bytes → Bool
is_needed_key k = (bytes_eq k (codes "list") || bytes_eq k (codes "of")) || bytes_eq k (codes "context")

-- and those that it may have
abbrev pub is_further_key : Bytes → Bool
is_further_key k = (bytes_eq k (codes "snapshot") || bytes_eq k (codes "order")) || bytes_eq k (codes "limit")

unfoldable pub is_list_key : Bytes → Bool
is_list_key k = is_needed_key k || is_further_key k

abbrev pub snapshot_or_final : Option Data → Option Bytes
snapshot_or_final (Some d) = snapshot_by (as_str d)
snapshot_or_final None = Some final_name

abbrev pub order_named : Option Bytes → Option Order
order_named (Some word) =
    if bytes_eq word (codes "id") then Some Id
    else if bytes_eq word (codes "chronological") then Some Chronological
    else if bytes_eq word (codes "recent") then Some Recent
    else None
order_named None = None

-- an order, or this one where none is given
abbrev pub order_or : Order → Option Data → Option Order
order_or usual (Some d) = order_named (as_str d)
order_or usual None = Some usual

-- a count of items is from 1 to 65,535
abbrev pub count_by : Option ℤ → Option ℕ
count_by (Some (pos n)) = if nat_le 1 n && nat_le n 65535 then Some n else None
count_by _ = None

abbrev pub count_of : Data → Option ℕ
count_of d = count_by (as_integer d)

-- a limit is a count
abbrev pub limit_or_none : Option Data → Option (Option ℕ)
limit_or_none (Some d) = option_map Some (count_of d)
limit_or_none None = Some None

abbrev pub several : Option Bytes → Option Pattern → Option Bytes → Option Order → Option (Option ℕ) → Option Bytes → Option DraftField
several (Some key) (Some of) (Some snapshot) (Some order) (Some limit) (Some context) = Some (Several key of snapshot order limit context)
several _ _ _ _ _ _ = None

unfoldable pub list_in : Members → Option DraftField
list_in ms =
    several (key_by (option_and_then as_str (get_member (codes "list") ms)))
    (option_and_then pattern_of (get_member (codes "of") ms))
    (snapshot_or_final (get_member (codes "snapshot") ms))
    (order_or Id (get_member (codes "order") ms))
    (limit_or_none (get_member (codes "limit") ms))
    (context_by (option_and_then as_str (get_member (codes "context") ms)))

abbrev pub list_by : Bool → Members → Option DraftField
list_by true ms = list_in ms
list_by false ms = None

unfoldable pub list_of : Members → Option DraftField
list_of ms = list_by (keys_pass is_list_key ms) ms

abbrev pub in_table : Option (Bytes × Data) → Members → Option DraftField
in_table (Some m) ms = keyed m.0 m.1
in_table None ms = list_of ms

abbrev pub table_by : Option Members → Option DraftField
table_by (Some ms) = in_table (only ms) ms
table_by None = None

abbrev pub field_by : Option Bytes → Option Members → Option DraftField
field_by (Some word) ms = word_field word
field_by None ms = table_by ms

-- a field is a word or a table
abbrev pub field_of : Data → Option DraftField
field_of d = field_by (as_str d) (as_table d)

-- how many fields a member stands for
unfoldable pub width : DraftField → ℕ
width Default = 5
width _ = 1

-- the most fields of a context
abbrev pub most_fields : ℕ
most_fields = 64

abbrev pub not_wide : Option (List DraftField) → Option (List DraftField)
not_wide (Some fields) = if fits width most_fields fields then Some fields else None
not_wide None = None

abbrev pub fits_context : ℕ → Bool
fits_context count = nat_le count most_fields

-- each member stands for one field at least
abbrev pub fields_in : Items → Option (List DraftField)
fields_in ds = if fits_context (count_items ds) then not_wide (each field_of ds) else None

abbrev pub fields_by : Option Items → Option (List DraftField)
fields_by (Some ds) = fields_in ds
fields_by None = None

abbrev pub fields_at : Option (Bytes × Data) → Option (List DraftField)
fields_at (Some m) = if bytes_eq m.0 (codes "fields") then fields_by (as_array m.1) else None
fields_at None = None

-- the fields of a context: a table with the key `fields` alone
abbrev pub context_fields : Data → Option (List DraftField)
context_fields d = fields_at (option_and_then only (as_table d))
