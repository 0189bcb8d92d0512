-- The values that are fields, orders and limits, row by row.
use Rattle.std.specs.Prelude.{◌≡◌, ◌≤◌, ℕ, pos, Bool, true, [], ◌∷◌, Option, Some, None, bytes_eq, codes}
use Rattle.std.specs.List.{list_all, list_any}
use Rattle.toml.specs.Data.{Data, string, integer, boolean, array, table, Members}
use Rattle.hk_base.specs.Bytes.{Bytes}
use Rattle.hk_base.specs.Key.{is_key}
use Rattle.hk_chain.specs.declared.context.Field.TheVariants.{Body, Metadata, Url, Path, Title, Const, Date, Bool as BoolField, Teaser}
use Rattle.hk_chain.specs.declared.context.Order.{Order}
use Rattle.hk_chain.specs.declared.context.Order.TheVariants.{Id, Chronological, Recent}
use Rattle.hk_forms.specs.Names.{is_context_name, is_snapshot_name}
use Rattle.hk_meta.specs.DatePattern.{pattern_ok}
use Rattle.hk_pattern.specs.declared.pattern.Pattern.{Pattern}
use Rattle.hk_rules_file.specs.ContextNames.{keys_in}
use Rattle.hk_steps.specs.declared.draft.DraftField.{DraftField}
use Rattle.hk_steps.specs.declared.draft.DraftField.TheVariants.{Default, Whole, Several}
use Rattle.hk_laws.specs.Values.{only_at, two_items, IsAt, IsAtOr}
use Rattle.hk_laws.specs.PatternValues.{IsPattern}

pub data IsOrder : Data → Order → Type 0 where
  by_id : IsOrder (string (codes "id")) Id
  chronological : IsOrder (string (codes "chronological")) Chronological
  recent : IsOrder (string (codes "recent")) Recent

-- a count of items is from 1 to 65,535
pub data IsCount : Data → ℕ → Type 0 where
  count : (n : ℕ) → 1 ≤ n → n ≤ 65535 → IsCount (integer (pos n)) n

-- a limit is a count
pub data IsLimit : Data → Option ℕ → Type 0 where
  at_most : (d : Data) (n : ℕ) → IsCount d n → IsLimit d (Some n)

-- a string that passes
pub data IsWord (passes : Bytes → Bool) : Data → Bytes → Type 0 where
  word : (text : Bytes) → passes text ≡ true → IsWord passes (string text) text

-- the keys that a list may have
abbrev pub is_list_word : Bytes → Bool
is_list_word key =
    list_any (bytes_eq key) (codes "list" ∷ (codes "of" ∷ (codes "context" ∷ (codes "snapshot" ∷ (codes "order" ∷ (codes "limit" ∷ []))))))

-- a list: three keys that it has, and three that it may have
pub record IsListTable (ms : Members) (key : Bytes) (of : Pattern) (snapshot : Bytes) (order : Order) (limit : Option ℕ) (context : Bytes) : Type 0 where
  pub keys : list_all is_list_word (keys_in ms) ≡ true
  pub key_at : IsAt (codes "list") (IsWord is_key) ms key
  pub of_at : IsAt (codes "of") IsPattern ms of
  pub snapshot_at : IsAtOr (codes "snapshot") (codes "_final") (IsWord is_snapshot_name) ms snapshot
  pub order_at : IsAtOr (codes "order") Id IsOrder ms order
  pub limit_at : IsAtOr (codes "limit") None IsLimit ms limit
  pub context_at : IsAt (codes "context") (IsWord is_context_name) ms context

pub data IsField : Data → DraftField → Type 0 where
  usual : IsField (string (codes "default")) Default
  body : IsField (string (codes "body")) (Whole Body)
  metadata : IsField (string (codes "metadata")) (Whole Metadata)
  url : IsField (string (codes "url")) (Whole Url)
  path : IsField (string (codes "path")) (Whole Path)
  title : IsField (string (codes "title")) (Whole Title)
  const : (key text : Bytes) → is_key key ≡ true → IsField (only_at (codes "const") (array (two_items (string key) (string text)))) (Whole (Const key text))
  date : (key text : Bytes) → is_key key ≡ true → pattern_ok text ≡ true
      → IsField (only_at (codes "date") (array (two_items (string key) (string text)))) (Whole (Date key text))
  flag : (key : Bytes) (on : Bool) → is_key key ≡ true → IsField (only_at (codes "bool") (array (two_items (string key) (boolean on)))) (Whole (BoolField key on))
  teaser : (key name : Bytes) → is_key key ≡ true → is_snapshot_name name ≡ true
      → IsField (only_at (codes "teaser") (array (two_items (string key) (string name)))) (Whole (Teaser key name))
  several : (ms : Members) (key : Bytes) (of : Pattern) (snapshot : Bytes) (order : Order) (limit : Option ℕ) (context : Bytes)
      → IsListTable ms key of snapshot order limit context → IsField (table ms) (Several key of snapshot order limit context)
