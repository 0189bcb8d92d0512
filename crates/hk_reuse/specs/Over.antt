-- The same over the runs of any family of compilers, of which no tasks are known.
use Rattle.std.specs.Prelude.{◌≡◌, ℕ, ◌<◌, cond, List, [], ◌∷◌, map, Option, Some, None}
use Rattle.hk_chain.specs.declared.page.Page.{Page}
use Rattle.hk_chain.specs.Layout.{Shape}
use Rattle.hk_fix.specs.Pages.{Pages}
use Rattle.hk_fix.specs.Task.{Mark, asked, note, used, saved, done, Run, run}
use Rattle.hk_fix.specs.TaskLaws.{follow}
use Rattle.hk_fix.specs.Facts.{is_in}
use Rattle.hk_store.specs.Digests.{Digests}
use Rattle.hk_store.specs.Entry.{EntryView}
use Rattle.hk_reuse.specs.Entries.{Entries}
use Rattle.hk_reuse.specs.Fits.{fits}
use Rattle.hk_reuse.specs.Replay.{Attempt, through, broke, pattern_numbers, attempt_of}
use Rattle.hk_reuse.specs.Site.{Items}

-- a log without the saves of some pairs
abbrev pub drop_saved : List ℕ → List Mark → List Mark
drop_saved kept [] = []
drop_saved kept (asked ps ∷ log) = asked ps ∷ drop_saved kept log
drop_saved kept (note (used n) ∷ log) = note (used n) ∷ drop_saved kept log
drop_saved kept (note (saved p x) ∷ log) = cond (is_in kept p) (drop_saved kept log) (note (saved p x) ∷ drop_saved kept log)

abbrev pub finish_run : Run Page → List ℕ → Attempt → Run Page
finish_run clean patterns (through x) = record { log = map (λ n. note (used n)) patterns; end = done x }
finish_run clean patterns (broke kept) = record { log = drop_saved kept clean.log; end = clean.end }

module _ (dig : Digests) (items : Items) (entries : Entries) (inner : ℕ → Pages → Run Page) where
  abbrev pub over_entry : ℕ → EntryView → Pages → Run Page
  over_entry i e k =
      let begun = run (attempt_of dig items i e) k in
      follow begun.log begun.end (finish_run (inner i k) (pattern_numbers items.table e))

  abbrev pub over_by : ℕ → Option EntryView → Pages → Run Page
  over_by i None k = inner i k
  over_by i (Some e) k = cond (fits dig items i e) (over_entry i e k) (inner i k)

  abbrev pub over : ℕ → Pages → Run Page
  over i k = over_by i (entries (items.id i)) k

-- two families have the same runs of the items of a layout
abbrev pub SameRuns : Shape → (ℕ → Pages → Run Page) → (ℕ → Pages → Run Page) → Type 0
SameRuns lay a b = (i : ℕ) (k : Pages) → i < lay.items → a i k ≡ b i k
