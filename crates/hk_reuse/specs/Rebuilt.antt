-- A build over stored entries: the replay of each item that has a fitting entry, and the clean run of all others.
use Rattle.std.specs.Prelude.{◌≡◌, ℕ, ◌<◌, true, cond, Option, Some, None, bytes_eq, is_some}
use Rattle.hk_base.specs.Identifier.{Ident}
use Rattle.hk_chain.specs.declared.page.Page.{Page}
use Rattle.hk_chain.specs.Layout.{Shape}
use Rattle.hk_fix.specs.Pages.{Pages}
use Rattle.hk_fix.specs.Task.{Task, done, Run, run}
use Rattle.hk_fix.specs.Run.{saves_of}
use Rattle.hk_fix.specs.Facts.{facts_of, whole_log}
use Rattle.hk_fix.specs.Fix.{Ending, fix, status}
use Rattle.hk_fix.specs.Deeds.{task_of}
use Rattle.hk_store.specs.Digests.{Digests}
use Rattle.hk_store.specs.Entry.{EntryView}
use Rattle.hk_reuse.specs.Entries.{Entries}
use Rattle.hk_reuse.specs.Fits.{fits}
use Rattle.hk_reuse.specs.Replay.{replay_by}
use Rattle.hk_reuse.specs.Site.{Site, items_of, shape_of, no_seeds, built, IsSite}

module _ (dig : Digests) (site : Site) (entries : Entries) where
  abbrev pub replay_of : ℕ → Option EntryView → Task Page
  replay_of i None = task_of site.deeds i
  replay_of i (Some e) = cond (fits dig (items_of site) i e) (replay_by dig (items_of site) i (task_of site.deeds i) e) (task_of site.deeds i)

  abbrev pub replay : ℕ → Task Page
  replay i = replay_of i (entries (site.deeds.id i))

  abbrev pub replay_run : ℕ → Pages → Run Page
  replay_run i k = run (replay i) k

  -- the pages of the build
  abbrev pub rebuilt : Pages
  rebuilt = fix (shape_of site) replay_run no_seeds

  -- how its items end
  abbrev pub reendings : ℕ → Ending
  reendings = status (shape_of site) replay_run no_seeds

-- equal digests of what is compared mean equal things
pub record TellApart (dig : Digests) (old new : Site) : Type 0 where
  pub texts : (i j : ℕ) → i < (shape_of old).items → j < (shape_of new).items → old.deeds.id i ≡ new.deeds.id j
      → bytes_eq (dig.text (old.text i)) (dig.text (new.text j)) ≡ true → old.text i ≡ new.text j
  pub traits : (id : Ident) → is_some (old.deeds.table.find id) ≡ true → is_some (new.deeds.table.find id) ≡ true
      → bytes_eq (dig.traits (new.deeds.table.traits id)) (dig.traits (old.deeds.table.traits id)) ≡ true
      → new.deeds.table.traits id ≡ old.deeds.table.traits id
  pub pages : (p q : ℕ) (y x : Page) → old.deeds.table.key p ≡ new.deeds.table.key q → built old p ≡ Some y → built new q ≡ Some x
      → bytes_eq (dig.page x) (dig.page y) ≡ true → x ≡ y

-- what an item does is told by its identifier and the text of its fingerprint
abbrev pub TextsTell : Site → Site → Type 0
TextsTell old new =
    (i j : ℕ) → i < (shape_of old).items → j < (shape_of new).items → old.deeds.id i ≡ new.deeds.id j → old.text i ≡ new.text j
    → old.deeds.deed i ≡ new.deeds.deed j

-- two plans, of which one is built over what the other left
pub record ArePlansApart (dig : Digests) (old new : Site) : Type 0 where
  pub was : IsSite old
  pub now : IsSite new
  pub apart : TellApart dig old new
  pub told : TextsTell old new

-- the same saves, the same end, and where it is done the same facts
pub record SameRun (lay : Shape) (i : ℕ) (r c : Run Page) : Type 0 where
  pub saves : saves_of r.log ≡ saves_of c.log
  pub ends : r.end ≡ c.end
  pub facts : (x : Page) → c.end ≡ done x → facts_of (whole_log lay i r) ≡ facts_of (whole_log lay i c)
