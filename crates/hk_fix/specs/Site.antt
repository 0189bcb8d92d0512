-- The files of a site: what the finished items with a target have for their finished pages.
use Rattle.std.specs.Prelude.{ℕ, List, [], ◌∷◌, Option, Some, None}
use Rattle.std.specs.List.{flat_map}
use Rattle.std.specs.FinMap.{from_entries}
use Rattle.hk_base.specs.Bytes.{Bytes, Files}
use Rattle.hk_chain.specs.declared.page.Page.{Page}
use Rattle.hk_chain.specs.Layout.{Shape, final_of}
use Rattle.hk_fix.specs.Pages.{Pages}
use Rattle.hk_fix.specs.Fix.{Ending, finished, faulted, waiting}
use Rattle.hk_fix.specs.Report.{upto}

abbrev pub body_at : Bytes → Option Page → List (Bytes × Bytes)
body_at target None = []
body_at target (Some page) = (target, page.body) ∷ []

abbrev pub finished_at : Bytes → Ending → Option Page → List (Bytes × Bytes)
finished_at target (finished facts) page = body_at target page
finished_at target (faulted e) page = []
finished_at target (waiting ps) page = []

abbrev pub file_of : Option Bytes → Ending → Option Page → List (Bytes × Bytes)
file_of None ending page = []
file_of (Some target) ending page = finished_at target ending page

-- by the target of each item, how it ended, and the pages that are known
abbrev pub site_of : Shape → (ℕ → Option Bytes) → (ℕ → Ending) → Pages → Files
site_of lay targets endings pages = from_entries (flat_map (λ i. file_of (targets i) (endings i) (pages (final_of lay i))) (upto lay.items))
