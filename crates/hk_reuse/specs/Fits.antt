-- Whether an entry is one of an item as the plan has it.
use Rattle.std.specs.Prelude.{ℕ, Bool, true, ◌&&◌, [], ◌∷◌, ◌++◌, nat_lt, is_some, bytes_eq}
use Rattle.std.specs.List.{list_all}
use Rattle.std.specs.Ordering.{eq_by_cmp}
use Rattle.std.specs.Cmp.Lexicographic.{pointwise}
use Rattle.hk_base.specs.Identifier.{ident_cmp}
use Rattle.hk_fix.specs.Table.{Table}
use Rattle.hk_store.specs.Digests.{Digests}
use Rattle.hk_store.specs.Entry.{AskView, MatchView, MarkView, asked, stored, EntryView}
use Rattle.hk_reuse.specs.Entries.{saved_names}
use Rattle.hk_reuse.specs.Site.{Items}
use Rattle.hk_chain.specs.Names.{final_name}

-- the pattern is one of the plan's and matches what was recorded
abbrev pub pattern_fits : Items → MatchView → Bool
pattern_fits items m =
    nat_lt (items.table.number m.text) items.patterns && bytes_eq (items.table.pattern (items.table.number m.text)) m.text
    && pointwise (eq_by_cmp ident_cmp) (items.table.matches m.text) m.matches

-- the asked page is a pair of the plan, and its item has the recorded traits
abbrev pub ask_fits : Digests → Table → AskView → Bool
ask_fits dig table v = is_some (table.pair v.key) && bytes_eq (dig.traits (table.traits v.key.id)) v.traits

abbrev pub mark_fits : Digests → Table → MarkView → Bool
mark_fits dig table (asked views) = list_all (ask_fits dig table) views
mark_fits dig table (stored name page) = true

module _ (dig : Digests) (items : Items) (i : ℕ) (e : EntryView) where
  -- the fingerprint, the names of the saved pages and the matches are the item's
  abbrev pub is_own : Bool
  is_own =
      bytes_eq e.print (dig.text (items.text i)) && pointwise bytes_eq (saved_names e.marks) (items.names i ++ final_name ∷ [])
      && list_all (pattern_fits items) e.patterns

  -- and each asked page may be asked for
  abbrev pub fits : Bool
  fits = is_own && list_all (mark_fits dig items.table) e.marks
