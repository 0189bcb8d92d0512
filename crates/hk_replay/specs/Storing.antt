-- Results of which a store can be made.
use Rattle.std.specs.Prelude.{◌≡◌, ℕ, ◌<◌, length, Option, Some, None, true, is_some}
use Rattle.std.specs.List.{AllByRecursion}
use Rattle.hk_chain.specs.Facts.{FactsView, TraceMark, group, save}
use Rattle.hk_chain.specs.Kept.{at_place}
use Rattle.hk_chain.specs.Layout.{pairs}
use Rattle.hk_fix.specs.Fix.{Ending, finished, faulted, waiting}
use Rattle.hk_fix.specs.Pages.{Pages}
use Rattle.hk_fix.specs.Report.{ending_at}
use Rattle.hk_fix.specs.Results.{ResultsView}
use Rattle.hk_rules.specs.Pairs.{layout}
use Rattle.hk_rules.specs.PlanView.{PlanView}

-- a pair that has a page
abbrev pub HasPage : PlanView → Pages → ℕ → Type 0
HasPage plan k p = (p < pairs (layout plan.items)) × (is_some (k p) ≡ true)

abbrev pub HavePages : PlanView → Pages → TraceMark → Type 0
HavePages plan k (group ps) = AllByRecursion (HasPage plan k) ps
HavePages plan k (save p) = HasPage plan k p

-- facts whose patterns are the plan's and whose pairs have pages
pub record AreStorable (plan : PlanView) (k : Pages) (f : FactsView) : Type 0 where
  pub patterns : AllByRecursion (λ n. n < length plan.patterns) f.patterns
  pub trace : AllByRecursion (HavePages plan k) f.trace

abbrev pub facts_by : Ending → Option FactsView
facts_by (finished facts) = Some facts
facts_by (faulted e) = None
facts_by (waiting ps) = None

-- those of all items that are done
abbrev pub CanStore : PlanView → ResultsView → Type 0
CanStore plan results = (i : ℕ) (f : FactsView) → i < length plan.items → facts_by (ending_at results.outcomes i) ≡ Some f → AreStorable plan (at_place results.pages) f
