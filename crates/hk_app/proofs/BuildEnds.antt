-- What the end of a build comes to, from what its calls came to.
use Rattle.std.proofs.Common.{◌≡◌, ℕ, ◌+◌, ◌-◌, Bool, List, [], ◌++◌, Option, Some, None, refl, sym, ap, subst, ◌∙◌, arith, append_assoc, IfSome, IfOk, Result, Ok, Err, length}
use Rattle.std.specs.Cmp.Lexicographic.{nat_list_cmp_total}
use Rattle.std.specs.FinMap.{entries, from_entries, get-entries, get-from_entries, insert, same_map}
use Rattle.hk_base.specs.Bytes.{Bytes, Files}
use Rattle.hk_base.specs.Ties.{only_equal_tie}
use Rattle.hk_base.specs.declared.refusal.NoMemory.{NoMemory as NoMemory-data}
use Rattle.hk_build.specs.Build.{compiled, image, reused, site_of}
use Rattle.hk_outside.specs.Causes.{Rose}
use Rattle.hk_outside.specs.Tree.{SameBut}
use Rattle.hk_outside.proofs.HeldLemmas.{SameBut-insert}
use Rattle.hk_rules.specs.PlanView.{PlanView}
use Rattle.hk_texts.specs.Printed.{summary, write_fault_line}
use Rattle.hk_writer.specs.Writing.{changes, IsMadeInPart, IsTornInPart}
use Rattle.hk_writer.specs.Written.{IsWritten}
use Rattle.hk_writer.specs.declared.writer.Counts.{Counts}
use Rattle.hk_app.specs.declared.ended.Ended.{Ended}
use Rattle.hk_app.specs.declared.status.Status.{Status}
use Rattle.hk_app.specs.declared.status.Status.TheVariants.{Ok as Done, Report, Usage, BadRules, BadSite, ReadFault, WriteFault, StoreFault, OutFault, NoMemory, BadLinks}
use Rattle.hk_app.specs.Finishing.{IsFront, IsUnsaved, Saves, SavesAs, saved as was_saved, unsaved as was_not, SavesNot, same, torn}
use Rattle.hk_app.specs.Promise.{AllEnd, SomeStop, AllButStore, whole, stopped, IsSaid, report_lines, saved, summary_of, torn_store, unsaved}
use Rattle.hk_app.specs.Run.{EndsBuild, EndsBuilt, EndsTold, WantsBuilt, after_all, among, before, past_fault}
use Rattle.hk_app.specs.Standing.{HoldsOnly, IsSaved, IsTorn, Same, SameButStore, store_path}
use Rattle.hk_app.specs.Taking.{Taken}
use Rattle.hk_app.specs.World.{Folder, Folders, folder, folders}

-- ---- the store

pub but-same : (old new : Option Files) → new ≡ old → IfSome old (λ m. IfSome new (SameBut store_path m))
but-same None new is = tt
but-same (Some m) new is = subst (λ o. IfSome o (SameBut store_path m)) (sym is) (λ q apart. refl)

but-saved : (bytes : Bytes) (old new : Option Files) → IfSome old (λ m. new ≡ Some (insert m store_path bytes)) → IfSome old (λ m. IfSome new (SameBut store_path m))
but-saved bytes None new is = tt
but-saved bytes (Some m) new is = subst (λ o. IfSome o (SameBut store_path m)) (sym is) (SameBut-insert m store_path bytes)

-- the write was done
pub saves-done : (bytes : Bytes) (e : Ended) (old new : Folder) → IsSaved bytes old new → SavesAs bytes e old new e
saves-done bytes e old new is = was_saved refl is (but-saved bytes old.files new.files is)

module _ (plan : PlanView) (t : Taken) (old new : Folders) where
  -- all but the store is done, and then it was written, or not
  pub saves-of : (ended : Ended) → AllButStore old new ended.text plan t
      → (IsSaved (image plan t.entries) old.cache new.cache → SameButStore old.cache new.cache → EndsBuilt old new plan t ended.status ended.text)
      → (r : Result Ended NoMemory-data) → Saves (image plan t.entries) ended old.cache new.cache r → EndsBuild old new plan t r
  saves-of ended done ends (Ok e) (was_saved is store but) = subst (λ (x : Ended). EndsBuilt old new plan t x.status x.text) (sym is) (ends store but)
  saves-of ended done ends (Ok e) (was_not is u but) =
      subst (λ s. EndsBuilt old new plan t s e.text) (sym is) (record { rose = u.rose; cache = but; ends = record { before = ended.text; done = done; text = u.text } })
  saves-of ended done ends (Err e) (same s) = after_all (but-same old.cache.files new.cache.files s) (record { rest = ended.text; done = done; store = unsaved s })
  saves-of ended done ends (Err e) (torn rose but) = after_all but (record { rest = ended.text; done = done; store = torn_store rose but })

  -- memory is wanting after the end of a build
  built-wants : (status : Status) (text : Bytes) → EndsBuilt old new plan t status text → WantsBuilt old new plan t
  built-wants Done text h = after_all h.0 (record { rest = text; done = whole h.1.all h.1.site h.1.text; store = saved h.1.store })
  built-wants Report text h = after_all h.1.0 (record { rest = text; done = stopped h.1.1.some h.0 h.1.1.text; store = saved h.1.1.store })
  built-wants Usage text h = absurd h
  built-wants BadRules text h = absurd h
  built-wants BadSite text h = absurd h
  built-wants ReadFault text h = absurd h
  built-wants WriteFault text h = past_fault h.rose h.ends.all h.ends.site h.cache
  built-wants StoreFault text h = after_all h.cache (record { rest = h.ends.before; done = h.ends.done; store = torn_store h.rose h.cache })
  built-wants OutFault text h = absurd h
  built-wants NoMemory text h = absurd h
  built-wants BadLinks text h = absurd h

  said-of : (trace : Bool) (front rest text : Bytes) → IsFront trace plan t front → text ≡ front ++ rest → IsSaid trace plan t rest text
  said-of trace front rest text f is =
      record { history = f.history; complete = f.complete; seeded = f.seeded; text = is ∙ ap (λ b. b ++ rest) f.text ∙ append_assoc t.damage _ rest }

  -- the line of a damaged store and the trace come in front of what a build says
  pub told-end : (trace : Bool) (front : Bytes) (ended : Ended) (r : Result Ended NoMemory-data) → IsFront trace plan t front → EndsBuilt old new plan t ended.status ended.text
      → IfOk r (λ e. (e.status ≡ ended.status) × (e.text ≡ front ++ ended.text)) → EndsTold trace old new plan t r
  told-end trace front ended (Ok e) f h is = (ended.text, subst (λ s. EndsBuilt old new plan t s ended.text) (sym is.0) h, said-of trace front ended.text e.text f is.1)
  told-end trace front ended (Err e) f h is = built-wants ended.status ended.text h

-- ---- the site

-- the entries of a map make it again
entries-again : (m : Files) → from_entries (entries m) ≡ m
entries-again m = same_map nat_list_cmp_total only_equal_tie _ _ (λ q. get-from_entries nat_list_cmp_total (entries m) q ∙ sym (get-entries m q))

pub holds-all : (files : Files) (old new : Option Files) (counts : Counts) → IfSome old (λ m. IsWritten (entries files) m new counts) → IfSome old (λ m. new ≡ Some files)
holds-all files None new counts h = tt
holds-all files (Some m) new counts h = h.exactly ∙ ap Some (entries-again files)

-- the counts of the compiled and the reused items, and of the files that were written and removed
pub counted : (plan : PlanView) (t : Taken) (c : ℕ) (old new : Option Files) (counts : Counts) (text : Bytes) → c ≡ length (compiled plan t.entries)
    → length (compiled plan t.entries) + length (reused plan t.entries) ≡ length plan.items
    → text ≡ summary c (length plan.items - c) counts.written counts.removed → IfSome old (λ m. IsWritten (entries (site_of plan t.entries)) m new counts) → IfSome old (λ before. text ≡ summary_of plan t before)
counted plan t c None new counts text is all text-is h = tt
counted plan t c (Some m) new counts text is all text-is h =
    let rest : length plan.items - c ≡ length (reused plan t.entries) = omega (arith, is, all) in
    text-is ∙ (λ i. summary (is i) (rest i) (h.written i) (h.removed i))

pub when-known : (old : Option Files) (Q : Type 0) (P : Files → Type 0) → IfSome old (λ m. Q → P m) → Q → IfSome old P
when-known None Q P h q = tt
when-known (Some m) Q P h q = h q

-- what want of memory left of the pages
pub made-pages : (files : Files) (ps : List (Bytes × Bytes)) (old new : Option Files) (Q : Type 0) → ps ≡ entries files → IfSome old (λ m. Q → IfSome new (IsMadeInPart (changes ps m) m)) → Q → IfSome old (λ m. IfSome new (IsMadeInPart (changes (entries files) m) m))
made-pages files ps old new Q is h q = subst (λ ps. IfSome old (λ m. IfSome new (IsMadeInPart (changes ps m) m))) is (when-known old Q (λ m. IfSome new (IsMadeInPart (changes ps m) m)) h q)

module _ (plan : PlanView) (t : Taken) (source source' site site' cache : Folder) where
  -- all pages were written, and then memory was wanting
  pub past-pages : AllEnd plan t → HoldsOnly (site_of plan t.entries) site site' → WantsBuilt (folders source site cache) (folders source' site' cache) plan t
  past-pages all h = after_all (but-same cache.files cache.files refl) (record { rest = text-of site.files; done = whole all h (text-is site.files); store = unsaved refl })
    where
      text-of : Option Files → Bytes
      text-of None = []
      text-of (Some m) = summary_of plan t m

      text-is : (o : Option Files) → IfSome o (λ before. text-of o ≡ summary_of plan t before)
      text-is None = tt
      text-is (Some m) = refl

-- the pages were written, and then the store was, or not
module _ (plan : PlanView) (t : Taken) (source source' site site' cache cache' : Folder) where
  pub written-run : (ended : Ended) → ended.status ≡ Done → AllEnd plan t → HoldsOnly (site_of plan t.entries) site site' → IfSome site.files (λ m. ended.text ≡ summary_of plan t m)
      → (r : Result Ended NoMemory-data) → Saves (image plan t.entries) ended cache cache' r → EndsBuild (folders source site cache) (folders source' site' cache') plan t r
  written-run ended is all holds text =
      saves-of plan t (folders source site cache) (folders source' site' cache') ended (whole all holds text)
      (λ store but. subst (λ s. EndsBuilt (folders source site cache) (folders source' site' cache') plan t s ended.text) (sym is) (but, record { all = all; site = holds; store = store; text = text }))
