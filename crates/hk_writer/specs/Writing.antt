-- The writing of a folder, change by change.
use Rattle.std.specs.Prelude.{◌≡◌, ◌⊎◌, Bool, false, not, List, [], ◌∷◌, ◌++◌, map, Option, Some, None, Result, bytes_eq, IfSome, OnOk, IsErrOf, IsSome}
use Rattle.std.specs.List.{list_any, filter}
use Rattle.std.specs.FinMap.{get, insert, remove, keys}
use Rattle.hk_base.specs.Bytes.{Bytes, Files}
use Rattle.hk_outside.specs.Tree.{SameBut}
use Rattle.hk_outside.specs.declared.tree.TreeFault.{TreeFault}
use Rattle.hk_outside.specs.declared.tree.TreeFault.TheVariants.{Failed, NoMemory}

-- one call that changes a folder
pub data Change : Type 0 where
  removal : Bytes → Change
  writing : Bytes → Bytes → Change

abbrev pub changed : Change → Files → Files
changed (removal path) m = remove m path
changed (writing path bytes) m = insert m path bytes

-- the folder after some changes
abbrev pub after : List Change → Files → Files
after [] m = m
after (c ∷ cs) m = after cs (changed c m)

abbrev pub is_page : List (Bytes × Bytes) → Bytes → Bool
is_page pages path = list_any (λ e. bytes_eq e.0 path) pages

abbrev pub holds : Option Bytes → Bytes → Bool
holds None b = false
holds (Some a) b = bytes_eq a b

-- those of the paths that are no page go
abbrev pub removals : List (Bytes × Bytes) → List Bytes → List Change
removals pages paths = map removal (filter (λ path. not (is_page pages path)) paths)

-- the pages that the folder lacks or has otherwise are written
abbrev pub writings : List (Bytes × Bytes) → Files → List Change
writings pages m = map (λ e. writing e.0 e.1) (filter (λ e. not (holds (get m e.0) e.1)) pages)

-- all that makes the pages of a folder: first what goes, in path order, then what is written
abbrev pub changes : List (Bytes × Bytes) → Files → List Change
changes pages m = removals pages (keys m) ++ writings pages m

-- the path holds what it held, or is absent
abbrev pub HeldOrNone : Bytes → Files → Files → Type 0
HeldOrNone path m n = (get n path ≡ get m path) ⊎ (get n path ≡ None)

-- what a change leaves that failed, of the changes still to make
abbrev pub IsTorn : List Change → Files → Files → Type 0
IsTorn [] m n = n ≡ m
IsTorn (removal path ∷ _) m n = SameBut path m n × HeldOrNone path m n
IsTorn (writing path bytes ∷ _) m n = SameBut path m n

-- some first of the changes were made, and no other
pub record IsMadeInPart (all : List Change) (m n : Files) : Type 0 where
  pub made : List Change
  pub left : List Change
  pub split : made ++ left ≡ all
  pub now : n ≡ after made m

-- some first of the changes were made, and the next one failed, if there is one
pub record IsTornInPart (all : List Change) (m n : Files) : Type 0 where
  pub made : List Change
  pub left : List Change
  pub split : made ++ left ≡ all
  pub now : IsTorn left (after made m) n

-- what a call leaves that makes the changes `plan` of a folder
pub record Makes {T : Type 0} (plan : Files → List Change) (old new : Option Files) (r : Result T TreeFault) : Type 0 where
  pub done : IfSome old (λ m. OnOk r (new ≡ Some (after (plan m) m)))
  pub torn : IfSome old (λ m. IsErrOf r Failed → IfSome new (IsTornInPart (plan m) m))
  pub kept : IfSome old (λ m. IsErrOf r NoMemory → IfSome new (IsMadeInPart (plan m) m))
  pub told : IfSome old (λ m. IsSome new)
