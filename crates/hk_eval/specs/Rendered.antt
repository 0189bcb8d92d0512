-- What a suspended rendering is, and what its polls answer.
use Rattle.std.specs.Prelude.{◌≡◌, ℕ, Bool, true, false, not, List, [], nat_eq, filter, Result, Ok, Err}
use Rattle.hk_base.specs.Bytes.{Bytes}
use Rattle.hk_base.specs.declared.refusal.NoMemory.{NoMemory}
use Rattle.hk_chain.specs.Facts.{FactsView}
use Rattle.hk_chain.specs.declared.page.Page.{Page}
use Rattle.hk_fix.specs.Facts.{facts_of}
use Rattle.hk_fix.specs.Pages.{Pages, no_page, tell}
use Rattle.hk_fix.specs.Task.{Run, done, fault, waits, run}
use Rattle.hk_rules.specs.Plan.{lookups}
use Rattle.hk_rules.specs.PlanView.{PlanView}
use Rattle.hk_template.specs.Tree.{Nodes}
use Rattle.hk_eval.specs.Noted.{no_facts}
use Rattle.hk_eval.specs.Rendering.{render}
use Rattle.hk_eval.specs.Told.{ToldView, told_pages}
use Rattle.hk_eval.specs.declared.place.Place.{Place}
use Rattle.hk_eval.specs.declared.render_step.RenderStep.{RenderStep}
use Rattle.hk_eval.specs.declared.render_step.RenderStep.TheVariants as steps

-- what a rendering is to others
pub record RenderView : Type 0 where
  pub plan : PlanView
  pub tree : Nodes
  pub here : Place
  pub told : ToldView
  pub awaits : List ℕ
  pub facts : FactsView
  pub has_ended : Bool
  pub is_spent : Bool

-- the same, with the told pages as a map
pub record Rendered : Type 0 where
  pub plan : PlanView
  pub tree : Nodes
  pub here : Place
  -- the pages that it was answered
  pub told : Pages
  -- the asked pairs that weren't answered
  pub awaits : List ℕ
  -- what the run used, once a poll answered the text, and nothing before
  pub facts : FactsView
  -- a poll answered the text or a fault
  pub has_ended : Bool
  -- a poll answered want of memory
  pub is_spent : Bool

abbrev pub rendered : RenderView → Rendered
rendered r = record { plan = r.plan; tree = r.tree; here = r.here; told = told_pages r.told; awaits = r.awaits; facts = r.facts; has_ended = r.has_ended; is_spent = r.is_spent }

-- a rendering that hasn't begun
abbrev pub fresh : PlanView → Nodes → Place → Rendered
fresh plan tree here = record { plan = plan; tree = tree; here = here; told = no_page; awaits = []; facts = no_facts; has_ended = false; is_spent = false }

-- after a page was answered for an open pair
abbrev pub told_page : Rendered → ℕ → Page → Rendered
told_page r p x = record r { told = tell r.told p x; awaits = filter (λ q. not (nat_eq p q)) r.awaits }

-- the run of the rendering under the pages that it was answered
abbrev pub run_of : Rendered → Run Bytes
run_of r = run (render (lookups r.plan) r.tree r.here) r.told

-- it answers as that run ends: the pairs that it waits for, its text, its fault
abbrev pub Ends : Rendered → RenderStep → Rendered → Type 0
Ends r steps.Ask n = ((run_of r).end ≡ waits n.awaits) × (n ≡ record r { awaits = n.awaits })
Ends r (steps.Text text) n = ((run_of r).end ≡ done text) × (n ≡ record r { facts = facts_of (run_of r).log; has_ended = true })
Ends r (steps.Fail e) n = ((run_of r).end ≡ fault e) × (n ≡ record r { has_ended = true })

-- after want of memory nothing else comes
abbrev pub Polls : Rendered → Result RenderStep NoMemory → Rendered → Type 0
Polls r (Ok step) n = (r.is_spent ≡ false) × Ends r step n
Polls r (Err e) n = n ≡ record r { is_spent = true }
