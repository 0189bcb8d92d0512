-- The items whose stored results a build goes on with, and those that are out of date.
use Rattle.std.specs.Prelude.{ℕ, Bool, true, false, ◌&&◌, not, List, filter, Option, Some, None, nat_lt, bytes_eq}
use Rattle.std.specs.List.{list_all}
use Rattle.hk_chain.specs.declared.page.Page.{Page}
use Rattle.hk_base.specs.Bytes.{Bytes}
use Rattle.hk_fix.specs.Pages.{Pages}
use Rattle.hk_fix.specs.Task.{End, done, fault, waits, run}
use Rattle.hk_fix.specs.Fix.{Seeds}
use Rattle.hk_fix.specs.Report.{upto}
use Rattle.hk_fix.specs.Deeds.{pair_or}
use Rattle.hk_fix.specs.Table.{Table}
use Rattle.hk_store.specs.Digests.{Digests}
use Rattle.hk_store.specs.Entry.{AskView, EntryView}
use Rattle.hk_reuse.specs.Entries.{Entries, asked_views}
use Rattle.hk_reuse.specs.Fits.{ask_fits, fits}
use Rattle.hk_reuse.specs.Histories.{kept_seeds}
use Rattle.hk_reuse.specs.Rebuilt.{rebuilt, reendings}
use Rattle.hk_reuse.specs.Replay.{Attempt, through, broke, attempt_of}
use Rattle.hk_reuse.specs.Site.{Items, Site, items_of, shape_of}

abbrev pub is_whole : Attempt → Bool
is_whole (through x) = true
is_whole (broke kept) = false

abbrev pub is_through : End Attempt → Bool
is_through (done a) = is_whole a
is_through (fault e) = false
is_through (waits ps) = false

-- by the pages that are known at the end
module _ (dig : Digests) (items : Items) (k : Pages) where
  -- an item's entry fits and goes through all marks
  abbrev pub kept_by : ℕ → Option EntryView → Bool
  kept_by i None = false
  kept_by i (Some e) = fits dig items i e && is_through (run (attempt_of dig items i e) k).end

  abbrev pub kept_among : Entries → ℕ → Bool
  kept_among entries i = nat_lt i items.table.layout.items && kept_by i (entries (items.id i))

  -- all other items, in order
  abbrev pub out_of_date : Entries → List ℕ
  out_of_date entries = filter (λ i. not (kept_among entries i)) (upto items.table.layout.items)

-- those of a build over entries
abbrev pub is_kept : Digests → Site → Entries → ℕ → Bool
is_kept dig site entries = kept_among dig (items_of site) (rebuilt dig site entries) entries

abbrev pub outdated : Digests → Site → Entries → List ℕ
outdated dig site entries = out_of_date dig (items_of site) (rebuilt dig site entries) entries

-- the pages and facts of the kept items
abbrev pub seeds_kept : Digests → Site → Entries → Seeds
seeds_kept dig site entries = kept_seeds (shape_of site) (is_kept dig site entries) (rebuilt dig site entries) (reendings dig site entries)

abbrev pub has_digest : Digests → Option Page → Bytes → Bool
has_digest dig None digest = false
has_digest dig (Some x) digest = bytes_eq (dig.page x) digest

-- an asked page may be asked for, its item has the recorded traits, and the page is known and has the recorded digest
abbrev pub is_unchanged : Digests → Table → Pages → AskView → Bool
is_unchanged dig table k v = ask_fits dig table v && has_digest dig (k (pair_or table v.key)) v.page

-- so do all asked pages of an entry
abbrev pub asks_unchanged : Digests → Table → Pages → EntryView → Bool
asks_unchanged dig table k e = list_all (is_unchanged dig table k) (asked_views e.marks)
