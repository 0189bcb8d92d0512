-- What a suspended rendering keeps between its polls.
use Rattle.std.specs.Prelude.{◌≡◌, ℕ, Bool, true, false, None}
use Rattle.std.specs.List.{AllByRecursion}
use Rattle.hk_rules.specs.Plan.{lookups}
use Rattle.hk_rules.specs.PlanView.{PlanView}
use Rattle.hk_eval.specs.Going.{Goes}
use Rattle.hk_eval.specs.Left.{left_of, IsStackOf}
use Rattle.hk_eval.specs.Noted.{no_facts}
use Rattle.hk_eval.specs.Rendered.{RenderView, rendered, Ends}
use Rattle.hk_eval.specs.Rendering.{render}
use Rattle.hk_eval.specs.Told.{told_pages, is_listed}
use Rattle.hk_eval.specs.Within.{Renders}
use Rattle.hk_eval.specs.declared.course.Course.{Course}
use Rattle.hk_eval.specs.declared.render_step.RenderStep.{RenderStep}

abbrev pub course_view : PlanView → Course → Bool → RenderView
course_view plan c spent = record { plan = plan; tree = c.tree; here = c.here; told = c.told; awaits = c.awaits; facts = c.facts; has_ended = c.has_ended; is_spent = spent }

-- the rendering has come to what is left of it, and its marks were noted
pub record Keeps (plan : PlanView) (c : Course) : Type 0 where
  pub renders : Renders plan
  pub within : IsStackOf plan c.stack
  pub goes : Goes (told_pages c.told) (render (lookups plan) c.tree c.here) no_facts (left_of (lookups plan) c.stack) c.notes
  pub facts : c.facts ≡ no_facts

-- each awaited page isn't told, and has its room
pub record HasRoom (c : Course) : Type 0 where
  pub listed : AllByRecursion (λ p. is_listed c.told p ≡ true) c.awaits
  pub untold : AllByRecursion (λ p. told_pages c.told p ≡ None) c.awaits

-- what stays where memory was wanting
pub record Stays (old new : Course) : Type 0 where
  pub tree : new.tree ≡ old.tree
  pub here : new.here ≡ old.here
  pub told : (q : ℕ) → told_pages new.told q ≡ told_pages old.told q
  pub awaits : new.awaits ≡ old.awaits
  pub facts : new.facts ≡ old.facts
  pub ended : new.has_ended ≡ old.has_ended

-- a poll: it answers as the run under the answered pages ends, and keeps what is wanted for the next
pub record Went (plan : PlanView) (old : Course) (step : RenderStep) (new : Course) : Type 0 where
  pub ends : Ends (rendered (course_view plan old false)) step (rendered (course_view plan new false))
  pub keeps : new.has_ended ≡ false → Keeps plan new
  pub room : HasRoom new
