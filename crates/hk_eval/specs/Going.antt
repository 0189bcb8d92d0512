-- What a node, a step of a stack and the steps up to a stop come to.
use Rattle.std.specs.Prelude.{◌≡◌, List, ◌++◌}
use Rattle.hk_base.specs.Bytes.{Bytes}
use Rattle.hk_chain.specs.Facts.{FactsView}
use Rattle.hk_fix.specs.Pages.{Pages}
use Rattle.hk_fix.specs.Task.{Task, gives, Mark, done, fault, waits, run}
use Rattle.hk_rules.specs.Plan.{Lookups}
use Rattle.hk_rules.specs.PlanView.{PlanView}
use Rattle.hk_eval.specs.Leading.{Leads}
use Rattle.hk_eval.specs.Noted.{noted}
use Rattle.hk_eval.specs.Rest.{onto, frame_rest}
use Rattle.hk_eval.specs.Within.{IsFrameOf}
use Rattle.hk_eval.specs.declared.frame.Frame.{Frame}
use Rattle.hk_eval.specs.declared.moves.Move.{Move}
use Rattle.hk_eval.specs.declared.moves.Move.TheVariants as moves
use Rattle.hk_eval.specs.declared.moves.Act.{Act}
use Rattle.hk_eval.specs.declared.moves.Act.TheVariants as acts
use Rattle.hk_eval.specs.declared.moves.Stop.{Stop}
use Rattle.hk_eval.specs.declared.moves.Stop.TheVariants as stops

-- under every map that extends what is told, the first leaves a log and goes on as the second, and the log was noted
pub record Goes (k : Pages) (t : Task Bytes) (old : FactsView) (u : Task Bytes) (new : FactsView) : Type 0 where
  pub log : List Mark
  pub notes : new ≡ noted old log
  pub leads : Leads k t log u

-- the run gives a text, which was added to the one so far, and its log was noted
pub record Wrote (k : Pages) (t : Task Bytes) (old : FactsView) (out : Bytes) (new : FactsView) (more : Bytes) : Type 0 where
  pub log : List Mark
  pub text : Bytes
  pub notes : new ≡ noted old log
  pub written : more ≡ out ++ text
  pub is : run t k ≡ record { log = log; end = done text }

-- the task goes on as a frame does, and nothing was written
pub record Pushed (plan : Lookups) (k : Pages) (t : Task Bytes) (old : FactsView) (out : Bytes) (frame : Frame) (new : FactsView) (more : Bytes) : Type 0 where
  pub log : List Mark
  pub notes : new ≡ noted old log
  pub written : more ≡ out
  pub leads : (o : Bytes) → Leads k (onto o t) log (frame_rest plan frame o)

-- what a node comes to
abbrev pub Moves : Lookups → Pages → Task Bytes → FactsView → Bytes → Move → FactsView → Bytes → Type 0
Moves plan k t old out moves.Wrote new more = Wrote k t old out new more
Moves plan k t old out (moves.Push frame) new more = Pushed plan k t old out frame new more
Moves plan k t old out (moves.Asks pairs) new more = ((run t k).end ≡ waits pairs.items) × (new ≡ old) × (more ≡ out)
Moves plan k t old out (moves.Fails e) new more = (run t k).end ≡ fault e

-- a frame that is pushed is one of the plan
abbrev pub IsMoveOf : PlanView → Move → Type 0
IsMoveOf plan (moves.Push frame) = IsFrameOf plan frame
IsMoveOf plan _ = Unit {0}

-- what a step of a task comes to, with what is left of it and the text at the end
abbrev pub Steps : Pages → Task Bytes → FactsView → Act → Task Bytes → FactsView → Bytes → Type 0
Steps k t old acts.Goes u new out = Goes k t old u new
Steps k t old (acts.Asks pairs) u new out = ((run t k).end ≡ waits pairs.items) × (u ≡ t) × (new ≡ old)
Steps k t old acts.Done u new out = (t ≡ gives out) × (new ≡ old)
Steps k t old (acts.Fails e) u new out = (run t k).end ≡ fault e

-- what the steps of a task up to a stop come to: a wait in which the rest of it ends; its text; a fault
abbrev pub Stops : Pages → Task Bytes → FactsView → Stop → Task Bytes → FactsView → Type 0
Stops k t old (stops.Asks pairs) u new = Goes k t old u new × ((run u k).end ≡ waits pairs.items)
Stops k t old (stops.Text text) u new = Goes k t old (gives text) new
Stops k t old (stops.Fails e) u new = (run t k).end ≡ fault e
