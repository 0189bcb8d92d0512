-- A machine as a compiler.
use Rattle.std.specs.Prelude.{ℕ, Bool, false, List, is_some}
use Rattle.hk_chain.specs.declared.page.Page.{Page}
use Rattle.hk_chain.specs.Layout.{Shape}
use Rattle.hk_fix.specs.Pages.{Pages}
use Rattle.hk_fix.specs.Task.{Run, run}
use Rattle.hk_fix.specs.Meaning.{Meaning}
use Rattle.hk_rules.specs.Plan.{lookups}
use Rattle.hk_rules.specs.PlanView.{PlanView}
use Rattle.hk_machine.specs.Chain.{chain_task}
use Rattle.hk_eval.specs.Told.{ToldView, told_pages}
use Rattle.hk_machine.specs.declared.way.Way.{Way}

abbrev pub plan_shape : PlanView → Shape
plan_shape plan = (lookups plan).layout

-- the run of an item's chain under the known pages
abbrev pub plan_run : PlanView → ℕ → Pages → Run Page
plan_run plan item k = run (chain_task (lookups plan) item) k

-- what a machine is to others
pub record MachineView : Type 0 where
  pub plan : PlanView
  pub item : ℕ
  pub told : ToldView
  pub given : ℕ
  pub awaits : List ℕ
  pub has_ended : Bool
  pub just_saved : Bool
  pub is_spent : Bool

abbrev pub view_of : PlanView → ℕ → Way → Bool → MachineView
view_of plan item way spent =
    record {
      plan = plan;
      item = item;
      told = way.told;
      given = way.given;
      awaits = way.awaits;
      has_ended = way.is_ended;
      just_saved = is_some way.last;
      is_spent = spent;
    }

abbrev pub meaning_of : MachineView → Meaning PlanView
meaning_of m =
    record {
      common = m.plan;
      item = m.item;
      told = told_pages m.told;
      given = m.given;
      awaits = m.awaits;
      has_ended = m.has_ended;
      just_saved = m.just_saved;
      is_spent = m.is_spent;
    }

-- what a machine is while it goes on
abbrev pub way_meaning : PlanView → ℕ → Way → Meaning PlanView
way_meaning plan item way = meaning_of (view_of plan item way false)
