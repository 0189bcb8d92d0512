-- From the beginning of a build and its end, to what it promises.
use Rattle.std.proofs.Common.{◌≡◌, ℕ, ◌+◌, ◌-◌, ◌^◌, min, Bool, true, List, Option, Some, None, refl, sym, ap, subst, ◌∙◌, arith, IfSome, Result, Ok, Err, ◌≤◌}
use Rattle.std.specs.Prelude.{IsSome}
use Rattle.hk_base.specs.Bytes.{Bytes, Files}
use Rattle.hk_base.specs.declared.refusal.NoMemory.{NoMemory as NoMemory-data}
use Rattle.hk_outside.specs.Causes.{Rose}
use Rattle.hk_rules.specs.PlanView.{PlanView}
use Rattle.hk_words.specs.declared.commands.BuildOptions.{BuildOptions}
use Rattle.hk_words.specs.declared.commands.Command.{Command}
use Rattle.hk_words.specs.declared.commands.Command.TheVariants.{Build, Rebuild}
use Rattle.hk_app.specs.declared.ended.Ended.{Ended}
use Rattle.hk_app.specs.declared.status.Status.{Status}
use Rattle.hk_app.specs.declared.status.Status.TheVariants.{Ok as Done, Report, Usage, BadRules, BadSite, ReadFault, WriteFault, StoreFault, OutFault, NoMemory, BadLinks}
use Rattle.hk_app.specs.declared.taken.Taken.{Taken as TakenStore}
use Rattle.hk_app.specs.Beginning.{IsStill, IsReady}
use Rattle.hk_app.specs.Finishing.{Moves}
use Rattle.hk_app.specs.Promise.{Always, Comes, reads_source, AllButStore, whole, stopped, StoreLeft, saved, unsaved, torn_store, IsPast}
use Rattle.hk_app.specs.Run.{EndsAs, EndsBuilt, EndsTold, WantsBuilt, before, among, past_fault, after_all}
use Rattle.hk_app.specs.Standing.{Same, Told}
use Rattle.hk_app.specs.TakenBy.{taken_by}
use Rattle.hk_app.specs.Taking.{Taken}
use Rattle.hk_app.specs.World.{Folder, Folders, folder, folders}
use Rattle.hk_app.proofs.Endings.{build-task, leaves-still, rebuild-task, told-self}

told-on : (a b : Option Files) → b ≡ a → (c : Option Files) → IfSome b (λ m. IsSome c) → IfSome a (λ m. IsSome c)
told-on a b e c h = subst (λ o. IfSome o (λ m. IsSome c)) e h

-- a count that rose later rose before, too
rose-before : (a b n : ℕ) → a ≤ b → Rose b n → Rose a n
rose-before a b n le rose = omega (arith, le, rose)

-- ---- the count of the cache may be smaller at the start

module _ (source source' site site' : Folder) (f : Option Files) (a b : ℕ) (le : a ≤ b) (new : Folder) (plan : PlanView) (t : Taken) where
  all-but : (rest : Bytes) → AllButStore (folders source site (folder f b)) (folders source' site' new) rest plan t → AllButStore (folders source site (folder f a)) (folders source' site' new) rest plan t
  all-but rest (whole x y z) = whole x y z
  all-but rest (stopped x y z) = stopped x y z

  left-back : (bytes : Bytes) → StoreLeft bytes (folder f b) new → StoreLeft bytes (folder f a) new
  left-back bytes (unsaved h) = unsaved h
  left-back bytes (saved h) = saved h
  left-back bytes (torn_store rose h) = torn_store (rose-before a b new.faults le rose) h

  built-back : (status : Status) (rest : Bytes) → EndsBuilt (folders source site (folder f b)) (folders source' site' new) plan t status rest → EndsBuilt (folders source site (folder f a)) (folders source' site' new) plan t status rest
  built-back Done rest h = (h.0, record { all = h.1.all; site = h.1.site; store = h.1.store; text = h.1.text })
  built-back Report rest h = (h.0, (h.1.0, record { some = h.1.1.some; store = h.1.1.store; text = h.1.1.text }))
  built-back WriteFault rest h = record { rose = h.rose; cache = h.cache; ends = record { all = h.ends.all; site = h.ends.site; text = h.ends.text } }
  built-back StoreFault rest h =
      record { rose = rose-before a b new.faults le h.rose; cache = h.cache; ends = record { before = h.ends.before; done = all-but h.ends.before h.ends.done; text = h.ends.text } }
  built-back Usage rest h = absurd h
  built-back BadRules rest h = absurd h
  built-back BadSite rest h = absurd h
  built-back ReadFault rest h = absurd h
  built-back OutFault rest h = absurd h
  built-back NoMemory rest h = absurd h
  built-back BadLinks rest h = absurd h

  wants-back : WantsBuilt (folders source site (folder f b)) (folders source' site' new) plan t → WantsBuilt (folders source site (folder f a)) (folders source' site' new) plan t
  wants-back (before x y) = before x y
  wants-back (among x y z) = among x y z
  wants-back (past_fault x y z w) = past_fault x y z w
  wants-back (after_all x h) = after_all x (record { rest = h.rest; done = all-but h.rest h.done; store = left-back _ h.store })

  count-back : (trace : Bool) (r : Result Ended NoMemory-data) → EndsTold trace (folders source site (folder f b)) (folders source' site' new) plan t r → EndsTold trace (folders source site (folder f a)) (folders source' site' new) plan t r
  count-back trace (Ok e) h = (h.0, built-back e.status h.0 h.1, h.2)
  count-back trace (Err e) h = wants-back h

-- what holds of the cache after it was read holds of it before
told-back : (trace : Bool) (source source' site site' cache read new : Folder) (plan : PlanView) (t : Taken) (r : Result Ended NoMemory-data) → Same cache read → cache.faults ≤ read.faults
    → EndsTold trace (folders source site read) (folders source' site' new) plan t r → EndsTold trace (folders source site cache) (folders source' site' new) plan t r
told-back trace source source' site site' cache read new plan t r same le h =
    count-back source source' site site' cache.files cache.faults read.faults le new plan t trace r
    (subst (λ (f : Option Files). EndsTold trace (folders source site (folder f read.faults)) (folders source' site' new) plan t r) same h)

-- ---- a build that has begun

module _ (source source' site cache cache' : Folder) (still : IsStill (folders source site cache) (folders source' site cache')) where
  begun-always : Always (folders source site cache) (folders source' site cache')
  begun-always =
      record { source = still.source; source_count = still.source_count; site_count = omega arith; site_told = told-self site.files; cache_count = still.cache_count; cache_told = subst (λ o. IfSome cache.files (λ m. IsSome o)) (sym still.cache) (told-self cache.files) }

  -- memory was wanting at the beginning
  pub begun-wants : (c : Command) → reads_source c ≡ true → (r : Result Ended NoMemory-data) (e : NoMemory-data) → r ≡ Err e → EndsAs c (folders source site cache) (folders source' site cache') r
  begun-wants c reads r e is =
      subst (EndsAs c (folders source site cache) (folders source' site cache')) (sym is) (record { always = begun-always; leaves = leaves-still c (folders source site cache) (folders source' site cache') reads refl still.cache })

  -- the build was over at the beginning
  pub begun-over : (c : Command) (e : Ended) → Comes c (folders source site cache) (folders source' site cache') e.status e.text → EndsAs c (folders source site cache) (folders source' site cache') (Ok e)
  begun-over c e h = record { always = begun-always; comes = h }

  module _ (site' new : Folder) (moves : Moves site site') (moves' : Moves cache' new) where
    moved : Always (folders source site cache) (folders source' site' new)
    moved =
        record {
          source = still.source;
          source_count = still.source_count;
          site_count = moves.later;
          site_told = moves.told;
          cache_count = omega (arith, still.cache_count, moves'.later);
          cache_told = told-on cache.files cache'.files still.cache new.files moves'.told;
        }

    pub ready-build : (o : BuildOptions) (plan : PlanView) (taken : TakenStore) → IsReady (Build o) (folders source site cache) plan taken → (r : Result Ended NoMemory-data)
        → EndsTold o.trace (folders source site cache') (folders source' site' new) plan (taken_by taken) r → EndsAs (Build o) (folders source site cache) (folders source' site' new) r
    ready-build o plan taken ready r told =
        build-task o (folders source site cache) (folders source' site' new) plan (taken_by taken) ready.read ready.taken r moved
        (told-back o.trace source source' site site' cache cache' new plan (taken_by taken) r still.cache still.cache_count told)

    pub ready-rebuild : (o : BuildOptions) (plan : PlanView) (taken : TakenStore) → IsReady (Rebuild o) (folders source site cache) plan taken → (r : Result Ended NoMemory-data)
        → EndsTold o.trace (folders source site cache') (folders source' site' new) plan (taken_by taken) r → EndsAs (Rebuild o) (folders source site cache) (folders source' site' new) r
    ready-rebuild o plan taken ready r told =
        rebuild-task o (folders source site cache) (folders source' site' new) plan (taken_by taken) ready.read ready.taken r moved
        (told-back o.trace source source' site site' cache cache' new plan (taken_by taken) r still.cache still.cache_count told)
