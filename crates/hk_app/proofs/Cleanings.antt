-- What the cleaning of both folders comes to.
use Rattle.std.proofs.Common.{◌≡◌, ℕ, ◌+◌, List, Option, Some, None, refl, sym, ap, subst, ◌∙◌, arith, IfSome, IfOk, Result, Ok, Err, ◌≤◌, length}
use Rattle.std.specs.Prelude.{IsSome}
use Rattle.std.specs.FinMap.{keys}
use Rattle.hk_base.specs.Bytes.{Bytes, Files}
use Rattle.hk_base.specs.declared.refusal.NoMemory.{NoMemory as NoMemory-data}
use Rattle.hk_outside.specs.Causes.{Rose}
use Rattle.hk_texts.specs.Printed.{removed_line, write_fault_line}
use Rattle.hk_words.specs.declared.commands.Command.TheVariants.{Clean}
use Rattle.hk_app.specs.declared.ended.Ended.{Ended}
use Rattle.hk_app.specs.declared.status.Status.{Status}
use Rattle.hk_app.specs.declared.status.Status.TheVariants.{Ok as Done, Report, Usage, BadRules, BadSite, ReadFault, WriteFault, StoreFault, OutFault, NoMemory, BadLinks}
use Rattle.hk_app.specs.Cleaning.{ClearedAs, ClearsCache}
use Rattle.hk_app.specs.Finishing.{Moves}
use Rattle.hk_app.specs.Promise.{Always, Comes, StopsClean, clearing_site, clearing_cache}
use Rattle.hk_app.specs.Run.{EndsAs, WantsTask}
use Rattle.hk_app.specs.Standing.{IsCleared, LostSome, Told}
use Rattle.hk_app.specs.World.{Folder, Folders, folders}
use Rattle.hk_app.proofs.Endings.{told-self}

module _ (source site site' cache cache' : Folder) (moves : Moves site site') where
  always : Moves cache cache' → Always (folders source site cache) (folders source site' cache')
  always h = record { source = refl; source_count = omega arith; site_count = moves.later; site_told = moves.told; cache_count = h.later; cache_told = h.told }

  both-told : (before : ℕ) (text : Bytes) (s k : Option Files) → IfSome s (λ m. before ≡ length (keys m)) → IfSome k (λ n. text ≡ removed_line (before + length (keys n)))
      → IfSome s (λ m. IfSome k (λ n. text ≡ removed_line (length (keys m) + length (keys n))))
  both-told before text None k h t = tt
  both-told before text (Some m) None h t = tt
  both-told before text (Some m) (Some n) h t = t ∙ ap (λ b. removed_line (b + length (keys n))) h

  cleared-as : (before : ℕ) → IfSome site.files (λ m. before ≡ length (keys m)) → IsCleared site site' → (status : Status) (text : Bytes) → ClearedAs before cache cache' status text
      → Comes Clean (folders source site cache) (folders source site' cache') status text
  cleared-as before count gone Done text h = record { site = gone; cache = h.0; text = both-told before text site.files cache.files count h.1 }
  cleared-as before count gone StoreFault text h = record { cause = h.0; site = gone; cache = h.1.0; text = h.1.1 }
  cleared-as before count gone Report text h = absurd h
  cleared-as before count gone Usage text h = absurd h
  cleared-as before count gone BadRules text h = absurd h
  cleared-as before count gone BadSite text h = absurd h
  cleared-as before count gone ReadFault text h = absurd h
  cleared-as before count gone WriteFault text h = absurd h
  cleared-as before count gone OutFault text h = absurd h
  cleared-as before count gone NoMemory text h = absurd h
  cleared-as before count gone BadLinks text h = absurd h

  -- the site is cleared, and then the cache is, or not
  pub cleaned : (before : ℕ) → IfSome site.files (λ m. before ≡ length (keys m)) → IsCleared site site' → Moves cache cache' → (r : Result Ended NoMemory-data) → ClearsCache before cache cache' r
      → EndsAs Clean (folders source site cache) (folders source site' cache') r
  cleaned before count gone on (Ok e) h = record { always = always on; comes = cleared-as before count gone e.status e.text h }
  cleaned before count gone on (Err e) h = record { always = always on; leaves = clearing_cache gone h }

module _ (source site site' cache : Folder) (moves : Moves site site') where
  still : Always (folders source site cache) (folders source site' cache)
  still = record { source = refl; source_count = omega arith; site_count = moves.later; site_told = moves.told; cache_count = omega arith; cache_told = told-self cache.files }

  -- memory was wanting while the site was cleared
  pub wanting-site : LostSome site site' → WantsTask Clean (folders source site cache) (folders source site' cache)
  wanting-site lost = record { always = still; leaves = clearing_site lost refl }

  -- a call of the site failed
  pub failed-site : Rose site.faults site'.faults → LostSome site site' → (r : Result Ended NoMemory-data) → IfOk r (λ e. (e.status ≡ WriteFault) × (e.text ≡ write_fault_line))
      → EndsAs Clean (folders source site cache) (folders source site' cache) r
  failed-site rose lost (Ok e) is =
      record { always = still; comes = subst (λ s. Comes Clean (folders source site cache) (folders source site' cache) s e.text) (sym is.0) (record { cause = rose; site = lost; cache = refl; text = is.1 }) }
  failed-site rose lost (Err e) is = wanting-site lost
