-- What a command takes of the cache.
use Rattle.std.specs.Prelude.{◌≡◌, List, [], Option, Some, None, IfSome, Result, Ok, Err}
use Rattle.std.specs.FinMap.{get}
use Rattle.hk_base.specs.Bytes.{Bytes, Files}
use Rattle.hk_reuse.specs.Entries.{Entries, entries_in, no_entries}
use Rattle.hk_store.specs.Damage.{IsRead}
use Rattle.hk_store.specs.declared.damage.StoreDamage.{StoreDamage}
use Rattle.hk_store.specs.Entry.{EntryView}
use Rattle.hk_texts.specs.Printed.{damage_line}
use Rattle.hk_words.specs.declared.commands.Command.{Command}
use Rattle.hk_words.specs.declared.commands.Command.TheVariants.{Build}
use Rattle.hk_app.specs.Standing.{store_path}
use Rattle.hk_app.specs.World.{Folder}

-- the entries of a store, and the line that says why it has none
pub record Taken : Type 0 where
  pub entries : Entries
  pub damage : Bytes

abbrev pub nothing : Taken
nothing = record { entries = no_entries; damage = [] }

-- what is taken of the entries that were read, or of why there are none
abbrev pub taken_of : Result (List EntryView) StoreDamage → Taken
taken_of (Ok entries) = record { entries = entries_in entries; damage = [] }
taken_of (Err damage) = record { entries = no_entries; damage = damage_line damage }

-- what is taken of bytes
pub record IsReadOf (bytes : Bytes) (t : Taken) : Type 0 where
  pub answer : Result (List EntryView) StoreDamage
  pub read : IsRead bytes answer
  pub taken : t ≡ taken_of answer

-- what is taken of a store that is there or absent
abbrev pub IsTakenOf : Option Bytes → Taken → Type 0
IsTakenOf None t = t ≡ nothing
IsTakenOf (Some bytes) t = IsReadOf bytes t

-- `build` takes the store that the cache holds at the start, and every other command takes nothing; of what is taken, P holds
abbrev pub Takes : Command → Folder → (Taken → Type 0) → Type 0
Takes (Build o) cache P = IfSome cache.files (λ m. (t : Taken) × IsTakenOf (get m store_path) t × P t)
Takes _ cache P = P nothing

-- what is taken of the cache is this
abbrev pub IsTakenBy : Command → Folder → Taken → Type 0
IsTakenBy (Build o) cache t = IfSome cache.files (λ m. IsTakenOf (get m store_path) t)
IsTakenBy _ cache t = t ≡ nothing

-- whatever it takes of a cache that tells its files, P holds of it
abbrev pub TakesAny : Command → Folder → (Taken → Type 0) → Type 0
TakesAny (Build o) cache P = (m : Files) × (cache.files ≡ Some m) × ((t : Taken) → IsTakenOf (get m store_path) t → P t)
TakesAny _ cache P = P nothing
