-- The run of an item that has a record: the recorded asks and saves in order, as long as the answered pages have the
-- recorded digests, and from a break on the inner run.
use Rattle.std.specs.Prelude.{◌≡◌, ℕ, ◌<◌, Bool, true, false, cond, ◌&&◌, List, [], ◌∷◌, get_or, Option, Some, None, nat_eq, bytes_eq}
use Rattle.std.specs.List.{AllByRecursion, IsDistinct}
use Rattle.hk_base.specs.Bytes.{Bytes}
use Rattle.hk_chain.specs.declared.page.Page.{Page}
use Rattle.hk_chain.specs.Layout.{Shape, pairs, final_of}
use Rattle.hk_chain.specs.Snapshots.{AreSnapshots}
use Rattle.hk_fix.specs.Pages.{Pages, all_pages}
use Rattle.hk_fix.specs.Task.{Task, gives, asks, notes, saved, Mark, asked, note, Run, run}
use Rattle.hk_fix.specs.TaskLaws.{follow}
use Rattle.hk_store.specs.Traits.{sha_digests}
use Rattle.hk_reuse.specs.Replay.{Attempt, through, broke}
use Rattle.hk_reuse.specs.Over.{finish_run}
use Rattle.hk_replay.specs.declared.record.Step.{Step}
use Rattle.hk_replay.specs.declared.record.Step.TheVariants.{Asked, Saved}
use Rattle.hk_replay.specs.declared.record.Record.{Record}
use Rattle.hk_replay.specs.declared.record.Records.{Records}

abbrev pub digest : Page → Bytes
digest page = sha_digests.page page

abbrev pub same_pages : List Page → List Bytes → Bool
same_pages [] [] = true
same_pages [] (d ∷ ds) = false
same_pages (x ∷ xs) [] = false
same_pages (x ∷ xs) (d ∷ ds) = bytes_eq (digest x) d && same_pages xs ds

abbrev pub attempt : Page → List ℕ → List Step → Task Attempt
attempt x kept [] = gives (through x)
attempt x kept (Asked ps ds ∷ steps) = asks ps.items (λ xs. cond (same_pages xs ds.items) (attempt x kept steps) (gives (broke kept)))
attempt x kept (Saved p page ∷ steps) = notes (saved p page) (attempt x (p ∷ kept) steps)

-- from some steps on
abbrev pub from : (Pages → Run Page) → Page → List ℕ → List ℕ → List Step → Pages → Run Page
from inner x ns kept steps k = follow (run (attempt x kept steps) k).log (run (attempt x kept steps) k).end (finish_run (inner k) ns)

abbrev pub over_by : (Pages → Run Page) → Option Record → Pages → Run Page
over_by inner None k = inner k
over_by inner (Some r) k = from inner r.page r.patterns.items [] r.steps.items k

abbrev pub record_at : Records → ℕ → Option Record
record_at records i = get_or records.by_item.items i None

abbrev pub over : Records → (ℕ → Pages → Run Page) → ℕ → Pages → Run Page
over records inner i k = over_by (inner i) (record_at records i) k

abbrev pub steps_of : Option Record → List Step
steps_of None = []
steps_of (Some r) = r.steps.items

-- the log of steps that were passed, and the pairs that they saved, the last first
abbrev pub passed : List Step → List Mark
passed [] = []
passed (Asked ps ds ∷ steps) = asked ps.items ∷ passed steps
passed (Saved p page ∷ steps) = note (saved p page) ∷ passed steps

abbrev pub kept_by : List ℕ → List Step → List ℕ
kept_by kept [] = kept
kept_by kept (Asked ps ds ∷ steps) = kept_by kept steps
kept_by kept (Saved p page ∷ steps) = kept_by (p ∷ kept) steps

abbrev pub pairs_saved : List Step → List ℕ
pairs_saved [] = []
pairs_saved (Asked ps ds ∷ steps) = pairs_saved steps
pairs_saved (Saved p page ∷ steps) = p ∷ pairs_saved steps

-- the group's pages are known and have the digests
pub record Agrees (k : Pages) (ps : List ℕ) (ds : List Bytes) : Type 0 where
  pub pages : List Page
  pub known : all_pages k ps ≡ Some pages
  pub same : same_pages pages ds ≡ true

abbrev pub Passes : Pages → List Step → Type 0
Passes k [] = Unit {0}
Passes k (Asked ps ds ∷ steps) = Agrees k ps.items ds.items × Passes k steps
Passes k (Saved p page ∷ steps) = Passes k steps

-- the last of these steps is a group of which a page has another digest
abbrev pub Breaks : Pages → List Step → Type 0
Breaks k [] = ⊥
Breaks k (Saved p page ∷ steps) = Breaks k steps
Breaks k (Asked ps ds ∷ []) = (xs : List Page) × (all_pages k ps.items ≡ Some xs) × (same_pages xs ds.items ≡ false)
Breaks k (Asked ps ds ∷ s ∷ steps) = Agrees k ps.items ds.items × Breaks k (s ∷ steps)

-- each group asks once for pairs of the layout
abbrev pub AreGroups : Shape → List Step → Type 0
AreGroups lay [] = Unit {0}
AreGroups lay (Asked ps ds ∷ steps) = (IsDistinct nat_eq ps.items × AllByRecursion (λ p. p < pairs lay) ps.items) × AreGroups lay steps
AreGroups lay (Saved p page ∷ steps) = AreGroups lay steps

pub record IsRecord (lay : Shape) (i : ℕ) (r : Record) : Type 0 where
  pub saves : AreSnapshots lay i (pairs_saved r.steps.items)
  pub groups : AreGroups lay r.steps.items
  pub last : r.last ≡ final_of lay i

abbrev pub IsRecordBy : Shape → ℕ → Option Record → Type 0
IsRecordBy lay i None = Unit {0}
IsRecordBy lay i (Some r) = IsRecord lay i r

-- every record is one of its item
abbrev pub AreRecords : Shape → Records → Type 0
AreRecords lay records = (i : ℕ) → i < lay.items → IsRecordBy lay i (record_at records i)
