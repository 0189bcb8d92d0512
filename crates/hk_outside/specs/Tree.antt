-- What the calls of a tree do to the files that it tells.
use Rattle.std.specs.Prelude.{◌≡◌, ◌≢◌, ◌⊎◌, List, Option, Some, None, Result, IfSome, OnOk, IsErrOf, IsSome}
use Rattle.std.specs.List.Sorted.{IsPermutation}
use Rattle.std.specs.FinMap.{get, keys}
use Rattle.hk_base.specs.Bytes.{Bytes, Files}
use Rattle.hk_outside.specs.declared.tree.TreeFault.{TreeFault}
use Rattle.hk_outside.specs.declared.tree.TreeFault.TheVariants.{Failed, NoMemory}

-- each path of the files once, in any order
abbrev pub ListsEach : Option Files → List Bytes → Type 0
ListsEach files paths = IfSome files (λ m. IsPermutation (keys m) paths)

-- the bytes at a path, or none
abbrev pub ReadsAt : Option Files → Bytes → Option Bytes → Type 0
ReadsAt files path found = IfSome files (λ m. found ≡ get m path)

-- every other path holds what it held
abbrev pub SameBut : Bytes → Files → Files → Type 0
SameBut path m n = (q : Bytes) → q ≢ path → get n q ≡ get m q

-- the files after a call that changes one path: done, torn at that path alone, or untouched
pub record Changes (done : Files → Files) (path : Bytes) (old new : Option Files) (r : Result (Unit {0}) TreeFault) : Type 0 where
  pub told : IfSome old (λ m. IsSome new)
  pub done_on_ok : IfSome old (λ m. OnOk r (new ≡ Some (done m)))
  pub torn : IfSome old (λ m. IsErrOf r Failed → IfSome new (SameBut path m))
  pub kept : IsErrOf r NoMemory → new ≡ old

-- after a fault the path holds what it held, or nothing
abbrev pub HeldOrGone : Bytes → Option Files → Option Files → Result (Unit {0}) TreeFault → Type 0
HeldOrGone path old new r = IfSome old (λ m. IsErrOf r Failed → IfSome new (λ n. (get n path ≡ get m path) ⊎ (get n path ≡ None)))
