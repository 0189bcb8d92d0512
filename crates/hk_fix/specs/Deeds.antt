-- A plan's items with the deeds of their compilers.
use Rattle.std.specs.Prelude.{◌≡◌, ℕ, ◌<◌, List, map, Some}
use Rattle.std.specs.List.{AllByRecursion}
use Rattle.std.specs.Option.{unwrap_or}
use Rattle.hk_base.specs.Bytes.{Bytes}
use Rattle.hk_base.specs.Identifier.{Ident}
use Rattle.hk_chain.specs.declared.page.Page.{Page}
use Rattle.hk_chain.specs.Snapshots.{AreSnapshots}
use Rattle.hk_fix.specs.Task.{Task}
use Rattle.hk_fix.specs.Table.{Key, Table, IsTable}
use Rattle.hk_fix.specs.Deed.{Deed, interpret, HasPair, IsProper}

-- of each item its identifier, what its compiler does, and the names under which it saves on its way
pub record Deeds : Type 0 where
  pub table : Table
  pub id : ℕ → Ident
  pub deed : ℕ → Deed Page
  pub names : ℕ → List Bytes

-- a pair that is there
abbrev pub pair_or : Table → Key → ℕ
pair_or table key = unwrap_or (table.pair key) 0

module _ (deeds : Deeds) where
  abbrev pub own_key : ℕ → Bytes → Key
  own_key i name = record { id = deeds.id i; name = name }

  -- the pairs of an item on its way
  abbrev pub on_way : ℕ → List ℕ
  on_way i = map (λ name. pair_or deeds.table (own_key i name)) (deeds.names i)

  -- what its compiler does under the plan's numbers
  abbrev pub task_of : ℕ → Task Page
  task_of i = interpret deeds.table (deeds.id i) (deeds.deed i)

-- each item's deed is proper and saves the item's pages in order
pub record AreProper (deeds : Deeds) : Type 0 where
  pub table : IsTable deeds.table
  pub found : (id : Ident) (i : ℕ) → deeds.table.find id ≡ Some i → (i < deeds.table.layout.items) × (deeds.id i ≡ id)
  pub proper : (i : ℕ) → i < deeds.table.layout.items → IsProper deeds.table (deeds.names i) (deeds.deed i)
  pub owned : (i : ℕ) → i < deeds.table.layout.items → AllByRecursion (HasPair deeds.table (deeds.id i)) (deeds.names i)
  pub in_order : (i : ℕ) → i < deeds.table.layout.items → AreSnapshots deeds.table.layout i (on_way deeds i)
