-- The entries that a build leaves: what its items that are done asked for and saved.
use Rattle.std.specs.Prelude.{ℕ, List, map, filter_map, Option, Some, None}
use Rattle.std.specs.Option.{unwrap_or}
use Rattle.hk_chain.specs.declared.page.Page.{Page}
use Rattle.hk_chain.specs.Facts.{FactsView, TraceMark, group, save}
use Rattle.hk_fix.specs.Pages.{Pages}
use Rattle.hk_fix.specs.Fix.{Ending, finished, faulted, waiting}
use Rattle.hk_fix.specs.Report.{upto}
use Rattle.hk_fix.specs.Table.{Table}
use Rattle.hk_store.specs.Digests.{Digests}
use Rattle.hk_store.specs.Entry.{AskView, MatchView, MarkView, asked, stored, EntryView}
use Rattle.hk_reuse.specs.Entries.{Entries, blank_page}
use Rattle.hk_reuse.specs.Site.{Items, Site, items_of, built, endings}

abbrev pub page_at : Pages → ℕ → Page
page_at k p = unwrap_or (k p) blank_page

abbrev pub match_view : Table → ℕ → MatchView
match_view table n = record { text = table.pattern n; matches = table.matches (table.pattern n) }

module _ (dig : Digests) (table : Table) (k : Pages) where
  abbrev pub ask_view : ℕ → AskView
  ask_view p = record { key = table.key p; page = dig.page (page_at k p); traits = dig.traits (table.traits (table.key p).id) }

  abbrev pub mark_view : TraceMark → MarkView
  mark_view (group ps) = asked (map ask_view ps)
  mark_view (save p) = stored (table.key p).name (page_at k p)

-- by how the items end and by the pages that are there
module _ (dig : Digests) (items : Items) (ends : ℕ → Ending) (k : Pages) where
  abbrev pub entry_with : ℕ → FactsView → EntryView
  entry_with i facts =
      record {
        id = items.id i;
        print = dig.text (items.text i);
        patterns = map (match_view items.table) facts.patterns;
        marks = map (mark_view dig items.table k) facts.trace;
      }

  abbrev pub entry_by : ℕ → Ending → Option EntryView
  entry_by i (finished facts) = Some (entry_with i facts)
  entry_by i (faulted e) = None
  entry_by i (waiting ps) = None

  abbrev pub entry_at : Option ℕ → Option EntryView
  entry_at None = None
  entry_at (Some i) = entry_by i (ends i)

  abbrev pub entries_of : Entries
  entries_of id = entry_at (items.table.find id)

  -- the same as a list, in the order of the items
  abbrev pub entry_list : List EntryView
  entry_list = filter_map (λ i. entry_by i (ends i)) (upto items.table.layout.items)

-- the entries of a clean build
abbrev pub image : Digests → Site → Entries
image dig site = entries_of dig (items_of site) (endings site) (built site)
