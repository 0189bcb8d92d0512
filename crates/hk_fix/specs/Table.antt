-- What a plan tells by names, and the numbers that it gives: an item has an identifier, a page a key, a pattern its text.
use Rattle.std.specs.Prelude.{◌≡◌, ℕ, ◌<◌, Bool, true, ◌&&◌, List, [], ◌∷◌, Option, Some, None, is_some, Result, Ok, Err, bytes_eq}
use Rattle.std.specs.Ordering.{eq_by_cmp}
use Rattle.hk_base.specs.Bytes.{Bytes}
use Rattle.hk_base.specs.Identifier.{Ident, ident_cmp}
use Rattle.hk_chain.specs.declared.fault.Fault.{Fault}
use Rattle.hk_chain.specs.declared.fault.Fault.TheVariants.{Missing, NoSnapshot}
use Rattle.hk_chain.specs.Layout.{Shape, pairs}

-- a page of an item by names, whatever the plan
pub record Key : Type 0 where
  pub id : Ident
  pub name : Bytes

abbrev pub same_key : Key → Key → Bool
same_key a b = eq_by_cmp ident_cmp a.id b.id && bytes_eq a.name b.name

-- what others may read of an item besides its pages: the path that it is written to, and its keys with their values
pub record Traits : Type 0 where
  pub target : Option Bytes
  pub meta : List (Bytes × Bytes)

abbrev pub no_traits : Traits
no_traits = record { target = None; meta = [] }

pub record Table : Type 0 where
  pub layout : Shape
  -- the number of the item with an identifier, and the item's traits
  pub find : Ident → Option ℕ
  pub traits : Ident → Traits
  -- the number of a page's pair, and the key of a pair
  pub pair : Key → Option ℕ
  pub key : ℕ → Key
  -- the number of a pattern's text, the text of a number, and the items that the pattern matches, in order
  pub number : Bytes → ℕ
  pub pattern : ℕ → Bytes
  pub matches : Bytes → List Ident

-- why a page has no pair
abbrev pub missing_by : Key → Option ℕ → Fault
missing_by key None = Missing key.id
missing_by key (Some item) = NoSnapshot key.id key.name

abbrev pub with_pair : Fault → Option ℕ → Result (List ℕ) Fault → Result (List ℕ) Fault
with_pair fault None rest = Err fault
with_pair fault (Some pair) (Ok pairs) = Ok (pair ∷ pairs)
with_pair fault (Some pair) (Err other) = Err other

-- the pairs of these keys, or the fault of the first that has none
abbrev pub resolve : Table → List Key → Result (List ℕ) Fault
resolve table [] = Ok []
resolve table (key ∷ keys) = with_pair (missing_by key (table.find key.id)) (table.pair key) (resolve table keys)

-- the numbers of pairs are those of their keys
pub record IsTable (table : Table) : Type 0 where
  pub keyed : (key : Key) (p : ℕ) → table.pair key ≡ Some p → table.key p ≡ key
  pub within : (key : Key) (p : ℕ) → table.pair key ≡ Some p → p < pairs table.layout
  pub item : (key : Key) (p : ℕ) → table.pair key ≡ Some p → is_some (table.find key.id) ≡ true
  pub placed : (p : ℕ) → p < pairs table.layout → table.pair (table.key p) ≡ Some p
