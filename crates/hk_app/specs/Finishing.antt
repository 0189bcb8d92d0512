-- What the end of a build comes to, part by part.
use Rattle.std.specs.Prelude.{◌≡◌, ◌≤◌, Bool, List, ◌++◌, Result, Ok, Err}
use Rattle.hk_base.specs.Bytes.{Bytes}
use Rattle.hk_base.specs.declared.refusal.NoMemory.{NoMemory as NoMemory-data}
use Rattle.hk_build.specs.Build.{run_of, seeds, shown}
use Rattle.hk_fix.specs.declared.event.Event.{Event}
use Rattle.hk_fix.specs.Fix.{IsComplete}
use Rattle.hk_machine.specs.Machine.{plan_shape}
use Rattle.hk_outside.specs.Causes.{Rose}
use Rattle.hk_reuse.specs.Site.{no_seeds}
use Rattle.hk_rules.specs.PlanView.{PlanView}
use Rattle.hk_texts.specs.Printed.{store_unwritten_line}
use Rattle.hk_app.specs.declared.ended.Ended.{Ended}
use Rattle.hk_app.specs.declared.status.Status.TheVariants.{StoreFault}
use Rattle.hk_app.specs.Promise.{traced}
use Rattle.hk_app.specs.Standing.{Same, SameButStore, IsSaved, Told}
use Rattle.hk_app.specs.Taking.{Taken}
use Rattle.hk_app.specs.World.{Folder}

-- a folder goes on telling its files, and its count of faults never falls
pub record Moves (old new : Folder) : Type 0 where
  pub told : Told old new
  pub later : old.faults ≤ new.faults

-- what stands in front of the text of a build
pub record IsFront (trace : Bool) (plan : PlanView) (t : Taken) (front : Bytes) : Type 0 where
  pub history : List Event
  pub complete : IsComplete (plan_shape plan) (run_of plan t.entries) no_seeds history
  pub seeded : IsComplete (plan_shape plan) (run_of plan t.entries) (seeds plan t.entries) (shown plan t.entries history)
  pub text : front ≡ t.damage ++ traced trace plan (shown plan t.entries history)

-- the store was written, or a failed write left some other bytes, or memory was wanting
pub record IsUnsaved (before e : Ended) (old new : Folder) : Type 0 where
  pub rose : Rose old.faults new.faults
  pub text : e.text ≡ before.text ++ store_unwritten_line

pub data SavesAs (store : Bytes) (before : Ended) (old new : Folder) (e : Ended) : Type 0 where
  saved : e ≡ before → IsSaved store old new → SameButStore old new → SavesAs store before old new e
  unsaved : e.status ≡ StoreFault → IsUnsaved before e old new → SameButStore old new → SavesAs store before old new e

-- without an answer `store` is as it was, or after a counted fault holds anything
pub data SavesNot (old new : Folder) : Type 0 where
  same : Same old new → SavesNot old new
  torn : Rose old.faults new.faults → SameButStore old new → SavesNot old new

abbrev pub Saves : Bytes → Ended → Folder → Folder → Result Ended NoMemory-data → Type 0
Saves store before old new (Ok e) = SavesAs store before old new e
Saves store before old new (Err e) = SavesNot old new
