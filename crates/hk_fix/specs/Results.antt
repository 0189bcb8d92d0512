-- How a run ended, as plain data.
use Rattle.std.specs.Prelude.{List, Option}
use Rattle.hk_chain.specs.declared.page.Page.{Page}
use Rattle.hk_fix.specs.declared.event.Event.{Event}
use Rattle.hk_fix.specs.Fix.{Ending}

pub record ResultsView : Type 0 where
  pub outcomes : List Ending
  pub pages : List (Option Page)
  pub history : List Event
