-- A machine that hasn't begun.
use Rattle.std.proofs.Common.{◌≡◌, sym, ap, ◌∙◌, subst, arith, ℕ, ◌||◌, List, [], drop, None, is_some, option_to_list}
use Rattle.hk_fix.specs.Facts.{is_in}
use Rattle.hk_fix.specs.Task.{run}
use Rattle.hk_rules.specs.Plan.{lookups}
use Rattle.hk_rules.specs.PlanView.{PlanView}
use Rattle.hk_eval.specs.Asking.{no_bytes}
use Rattle.hk_machine.specs.Chain.{steps_task, chain_task}
use Rattle.hk_machine.specs.Keeping.{Keeps}
use Rattle.hk_eval.specs.Noted.{no_facts}
use Rattle.hk_eval.specs.Told.{ToldView, told_pages}
use Rattle.hk_machine.specs.Working.{left, left_by, IsRenderingOf}
use Rattle.hk_machine.specs.declared.way.Way.{Way}

module _ (plan : PlanView) (item : ℕ) (way : Way) (at : way.work.at ≡ 0) (page : way.work.page ≡ no_bytes) (rendering : way.work.rendering ≡ None) (notes : way.work.notes ≡ no_facts) (told : way.told ≡ []) (given : way.given ≡ 0) (last : way.last ≡ None) (used : way.used.items ≡ []) where
  whole : left (lookups plan) item way.work ≡ chain_task (lookups plan) item
  unfolding chain_task
  whole = ap (left_by (lookups plan) item way.work.at way.work.page) rendering ∙ (ap (λ n. steps_task (lookups plan) item (drop n ((lookups plan).chain item)) way.work.page) at ∙ ap (steps_task (lookups plan) item ((lookups plan).chain item)) page)

  pub begins : Keeps plan item way
  begins =
      record {
        came = record {
          log = [];
          leads = λ m ext. ap (λ t. run t m) (sym whole);
          notes = notes;
          count = given;
          past = [];
          saves = ap {B = List ℕ} option_to_list (sym last);
          used = λ q. ap (λ (l : List ℕ). is_in l q) used ∙ ap (λ (t : ToldView). is_some (told_pages t q) || is_in [] q) (sym told);
        };
        within = subst (IsRenderingOf plan) (sym rendering) tt;
        bound = omega (arith, given);
      }
