-- A plan's items, and what a clean build makes of them.
use Rattle.std.specs.Prelude.{◌≡◌, ℕ, ◌<◌, List, map, Some, None}
use Rattle.std.specs.List.{AllByRecursion}
use Rattle.hk_base.specs.Bytes.{Bytes}
use Rattle.hk_base.specs.Identifier.{Ident}
use Rattle.hk_chain.specs.Layout.{Shape, IsShape, final_of}
use Rattle.hk_chain.specs.Names.{final_name}
use Rattle.hk_chain.specs.Snapshots.{AreSnapshots}
use Rattle.hk_fix.specs.Pages.{Pages, no_page}
use Rattle.hk_chain.specs.declared.page.Page.{Page}
use Rattle.hk_fix.specs.Run.{patterns_of}
use Rattle.hk_fix.specs.Task.{Run, run}
use Rattle.hk_fix.specs.Fix.{Seeds, Ending, fix, status}
use Rattle.hk_fix.specs.Table.{Table, IsTable}
use Rattle.hk_fix.specs.Deeds.{Deeds, pair_or, task_of, AreProper}

-- the pair of a page of an item's own
abbrev pub pair_named : Table → Ident → Bytes → ℕ
pair_named table own name = pair_or table (record { id = own; name = name })

-- what entries are held against: how many patterns a plan has, and of each item its identifier, the names under which it
-- saves on its way, and the text of its fingerprint
pub record Items : Type 0 where
  pub table : Table
  pub patterns : ℕ
  pub id : ℕ → Ident
  pub names : ℕ → List Bytes
  pub text : ℕ → Bytes

-- the pairs of an item on its way
abbrev pub own_pairs : Items → ℕ → List ℕ
own_pairs items i = map (pair_named items.table (items.id i)) (items.names i)

-- the numbers of items and pairs are those of their identifiers and keys, and each item saves its pairs in order
pub record AreItems (items : Items) : Type 0 where
  pub table : IsTable items.table
  pub in_order : (i : ℕ) → i < items.table.layout.items → AreSnapshots items.table.layout i (own_pairs items i)
  pub found : (id : Ident) (i : ℕ) → items.table.find id ≡ Some i → (i < items.table.layout.items) × (items.id i ≡ id)
  pub numbered : (i : ℕ) → i < items.table.layout.items → items.table.find (items.id i) ≡ Some i

-- the items of a plan with what their compilers do
pub record Site : Type 0 where
  pub deeds : Deeds
  pub patterns : ℕ
  pub text : ℕ → Bytes

abbrev pub items_of : Site → Items
items_of site = record { table = site.deeds.table; patterns = site.patterns; id = site.deeds.id; names = site.deeds.names; text = site.text }

abbrev pub shape_of : Site → Shape
shape_of site = site.deeds.table.layout

-- the pairs stand item after item, the deeds are proper, and an item is found by its identifier
pub record IsSite (site : Site) : Type 0 where
  pub shape : IsShape (shape_of site)
  pub proper : AreProper site.deeds
  pub numbered : (i : ℕ) → i < (shape_of site).items → site.deeds.table.find (site.deeds.id i) ≡ Some i

abbrev pub clean_run : Site → ℕ → Pages → Run Page
clean_run site i k = run (task_of site.deeds i) k

abbrev pub no_seeds : Seeds
no_seeds = record { pages = no_page; facts = λ i. None }

-- the pages of a clean build
abbrev pub built : Site → Pages
built site = fix (shape_of site) (clean_run site) no_seeds

-- how its items end
abbrev pub endings : Site → ℕ → Ending
endings site = status (shape_of site) (clean_run site) no_seeds

-- each item's last pair is that of its finished page, and the runs use patterns of the plan alone
pub record UsesItsOwn (site : Site) : Type 0 where
  pub finals : (i : ℕ) → i < (shape_of site).items → site.deeds.table.key (final_of (shape_of site) i) ≡ record { id = site.deeds.id i; name = final_name }
  pub patterns : (i : ℕ) (k : Pages) → i < (shape_of site).items → AllByRecursion (λ n. n < site.patterns) (patterns_of (clean_run site i k).log)
