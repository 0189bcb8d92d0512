-- What a value of a TOML table is read as, as a relation.
use Rattle.std.specs.Prelude.{◌≡◌, ◌≤◌, ◌⊎◌, List, [], ◌∷◌, length, Option, Some, None}
use Rattle.toml.specs.Data.{Data, table, Items, no_items, item, Members, no_members, member, get_member}
use Rattle.hk_base.specs.Bytes.{Bytes}

-- a value is read exactly where it is one of these, and as what it is
abbrev pub Reads : {X : Type 0} → (Data → Option X) → (Data → X → Type 0) → Type 0
Reads read Is = (d : Data) (x : _) → (read d ≡ Some x → Is d x) × (Is d x → read d ≡ Some x)

-- a table with this key alone
abbrev pub only_at : Bytes → Data → Data
only_at key d = table (member key d no_members)

-- a table with these two keys alone, in either order
pub data HasTwo (first second : Bytes) (d e : Data) : Data → Type 0 where
  in_order : HasTwo first second d e (table (member first d (member second e no_members)))
  turned : HasTwo first second d e (table (member second e (member first d no_members)))

abbrev pub two_items : Data → Data → Items
two_items d e = item d (item e no_items)

-- each item is one of these
abbrev pub AreEach : {X : Type 0} → (Data → X → Type 0) → Items → List X → Type 0
AreEach Is no_items [] = Unit {0}
AreEach Is no_items (x ∷ xs) = ⊥
AreEach Is (item d ds) [] = ⊥
AreEach Is (item d ds) (x ∷ xs) = Is d x × AreEach Is ds xs

-- at most 1,024 of them
pub record AreListed {X : Type 0} (Is : Data → X → Type 0) (ds : Items) (xs : List X) : Type 0 where
  pub each : AreEach Is ds xs
  pub short : length xs ≤ 1024

-- what stands at a key of a table
pub record IsAt {X : Type 0} (key : Bytes) (Is : Data → X → Type 0) (ms : Members) (x : X) : Type 0 where
  pub value : Data
  pub here : get_member key ms ≡ Some value
  pub is : Is value x

-- the same, or what is meant where nothing stands there
abbrev pub IsAtOr : {X : Type 0} → Bytes → X → (Data → X → Type 0) → Members → X → Type 0
IsAtOr key usual Is ms x = IsAt key Is ms x ⊎ ((get_member key ms ≡ None) × (x ≡ usual))
