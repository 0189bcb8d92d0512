-- The run of an item that has an entry: the recorded asks and saves in order, as long as the answered pages are those that
-- the entry's run got.
use Rattle.std.specs.Prelude.{ℕ, Bool, true, false, cond, ◌&&◌, List, [], ◌∷◌, map, bytes_eq}
use Rattle.hk_base.specs.Identifier.{Ident}
use Rattle.hk_chain.specs.declared.page.Page.{Page}
use Rattle.hk_fix.specs.Task.{Task, gives, fails, asks, notes, ◌▷◌, used, saved}
use Rattle.hk_fix.specs.Facts.{is_in}
use Rattle.hk_fix.specs.Table.{Table}
use Rattle.hk_fix.specs.Deeds.{pair_or}
use Rattle.hk_store.specs.Digests.{Digests}
use Rattle.hk_store.specs.Entry.{AskView, MarkView, asked, stored, EntryView}
use Rattle.hk_reuse.specs.Entries.{front, last_page}
use Rattle.hk_reuse.specs.Site.{pair_named, Items}

-- how far an entry goes: to its finished page, or to a group with another page; then the pairs that were saved before, the
-- last first
pub data Attempt : Type 0 where
  through : Page → Attempt
  broke : List ℕ → Attempt

abbrev pub same_pages : Digests → List Page → List AskView → Bool
same_pages dig [] [] = true
same_pages dig [] (v ∷ views) = false
same_pages dig (x ∷ xs) [] = false
same_pages dig (x ∷ xs) (v ∷ views) = bytes_eq (dig.page x) v.page && same_pages dig xs views

abbrev pub asked_pairs : Table → List AskView → List ℕ
asked_pairs table views = map (λ v. pair_or table v.key) views

-- the numbers of an entry's patterns
abbrev pub pattern_numbers : Table → EntryView → List ℕ
pattern_numbers table e = map (λ m. table.number m.text) e.patterns

-- a task without the saves of some pairs
abbrev pub without : {A : Type 0} → List ℕ → Task A → Task A
without kept (gives x) = gives x
without kept (fails e) = fails e
without kept (asks ps f) = asks ps (λ xs. without kept (f xs))
without kept (notes (used n) t) = notes (used n) (without kept t)
without kept (notes (saved p x) t) = cond (is_in kept p) (without kept t) (notes (saved p x) (without kept t))

abbrev pub note_all : {A : Type 0} → List ℕ → Task A → Task A
note_all [] t = t
note_all (n ∷ ns) t = notes (used n) (note_all ns t)

-- where the entry's marks end, its patterns are noted; where it breaks, the clean task follows without what was saved
abbrev pub finish : Task Page → List ℕ → Attempt → Task Page
finish clean patterns (through x) = note_all patterns (gives x)
finish clean patterns (broke kept) = without kept clean

module _ (dig : Digests) (table : Table) (own : Ident) where
  -- the marks but the last, with the finished page and the pairs that were saved before
  abbrev pub attempt : Page → List ℕ → List MarkView → Task Attempt
  attempt x kept [] = gives (through x)
  attempt x kept (asked views ∷ marks) = asks (asked_pairs table views) (λ xs. cond (same_pages dig xs views) (attempt x kept marks) (gives (broke kept)))
  attempt x kept (stored name page ∷ marks) = notes (saved (pair_named table own name) page) (attempt x (pair_named table own name ∷ kept) marks)

-- those of the entry of an item
abbrev pub attempt_of : Digests → Items → ℕ → EntryView → Task Attempt
attempt_of dig items i e = attempt dig items.table (items.id i) (last_page e.marks) [] (front e.marks)

-- the task of an item whose entry fits
abbrev pub replay_by : Digests → Items → ℕ → Task Page → EntryView → Task Page
replay_by dig items i clean e = attempt_of dig items i e ▷ finish clean (pattern_numbers items.table e)
