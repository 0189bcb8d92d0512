-- What stands in the folders after a run, told from what stood before.
use Rattle.std.specs.Prelude.{◌≡◌, ℕ, length, Some, codes, IfSome, IsSome}
use Rattle.std.specs.FinMap.{empty, entries, insert, keys}
use Rattle.hk_base.specs.Bytes.{Bytes, Files}
use Rattle.hk_outside.specs.Tree.{SameBut}
use Rattle.hk_writer.specs.Writing.{changes, writings, removals, HeldOrNone, IsMadeInPart, IsTornInPart}
use Rattle.hk_app.specs.World.{Folder}

-- the one file of the cache that a build reads and writes
abbrev pub store_path : Bytes
store_path = codes "store"

-- nothing of the folder changed
abbrev pub Same : Folder → Folder → Type 0
Same old new = new.files ≡ old.files

-- a folder that told its files tells them still
abbrev pub Told : Folder → Folder → Type 0
Told old new = IfSome old.files (λ m. IsSome new.files)

-- every file but `store` is as before
abbrev pub SameButStore : Folder → Folder → Type 0
SameButStore old new = IfSome old.files (λ m. IfSome new.files (SameBut store_path m))

-- each file is as before or absent, and there is no other
abbrev pub LostSome : Folder → Folder → Type 0
LostSome old new = IfSome old.files (λ m. IfSome new.files (λ n. (path : Bytes) → HeldOrNone path m n))

-- the folder holds exactly these files
abbrev pub HoldsOnly : Files → Folder → Folder → Type 0
HoldsOnly files old new = IfSome old.files (λ m. new.files ≡ Some files)

abbrev pub IsCleared : Folder → Folder → Type 0
IsCleared old new = HoldsOnly empty old new

-- `store` holds these bytes, and every other file is as before
abbrev pub IsSaved : Bytes → Folder → Folder → Type 0
IsSaved bytes old new = IfSome old.files (λ m. new.files ≡ Some (insert m store_path bytes))

-- some first of the changes to these files were made, and no other
abbrev pub IsPartly : Files → Folder → Folder → Type 0
IsPartly files old new = IfSome old.files (λ m. IfSome new.files (IsMadeInPart (changes (entries files) m) m))

-- some first of the changes to these files were made, and what a failed one left stands besides
abbrev pub IsTorn : Files → Folder → Folder → Type 0
IsTorn files old new = IfSome old.files (λ m. IfSome new.files (IsTornInPart (changes (entries files) m) m))

-- how many files a build writes, and how many it removes, to make these of the files before
abbrev pub written : Files → Files → ℕ
written files before = length (writings (entries files) before)

abbrev pub removed : Files → Files → ℕ
removed files before = length (removals (entries files) (keys before))
