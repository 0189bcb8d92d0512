-- Which records go through under the pages that are known in the end.
use Rattle.std.specs.Prelude.{ℕ, Bool, true, false, ◌&&◌, not, List, [], ◌∷◌, filter, Option, Some, None}
use Rattle.hk_base.specs.Bytes.{Bytes}
use Rattle.hk_chain.specs.declared.page.Page.{Page}
use Rattle.hk_fix.specs.Pages.{Pages, all_pages}
use Rattle.hk_fix.specs.Report.{upto}
use Rattle.hk_replay.specs.declared.record.Step.{Step}
use Rattle.hk_replay.specs.declared.record.Step.TheVariants.{Asked, Saved}
use Rattle.hk_replay.specs.declared.record.Record.{Record}
use Rattle.hk_replay.specs.declared.record.Records.{Records}
use Rattle.hk_replay.specs.Replays.{same_pages, record_at}

-- all pages are there and have these digests
abbrev pub agree : Option (List Page) → List Bytes → Bool
agree None ds = false
agree (Some xs) ds = same_pages xs ds

abbrev pub is_passed : Pages → List Step → Bool
is_passed k [] = true
is_passed k (Asked ps ds ∷ steps) = agree (all_pages k ps.items) ds.items && is_passed k steps
is_passed k (Saved p page ∷ steps) = is_passed k steps

abbrev pub is_kept : Pages → Option Record → Bool
is_kept k None = false
is_kept k (Some r) = is_passed k r.steps.items

-- the items below a number that have no such record
abbrev pub others_below : Pages → Records → ℕ → List ℕ
others_below k records n = filter (λ i. not (is_kept k (record_at records i))) (upto n)
