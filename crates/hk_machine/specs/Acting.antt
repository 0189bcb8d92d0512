-- What one step of a chain comes to, and the steps up to a stop.
use Rattle.std.specs.Prelude.{◌≡◌, ℕ, List, [], ◌∷◌, Option, Some, None, Vec}
use Rattle.std.specs.declared.alloc.Global.{Global}
use Rattle.hk_chain.specs.declared.page.Page.{Page}
use Rattle.hk_chain.specs.declared.numbers.PairNo.{PairNo}
use Rattle.hk_chain.specs.Facts.{FactsView}
use Rattle.hk_fix.specs.Pages.{Pages}
use Rattle.hk_fix.specs.Task.{Task, gives, fails, notes, saved, ◌▷◌, Mark, done, fault, waits, run}
use Rattle.hk_fix.specs.Run.{saves_of}
use Rattle.hk_rules.specs.Plan.{Lookups}
use Rattle.hk_rules.specs.PlanView.{PlanView}
use Rattle.hk_eval.specs.Blocks.{block_nodes}
use Rattle.hk_eval.specs.Quiet.{Quiet}
use Rattle.hk_eval.specs.Leading.{Went}
use Rattle.hk_eval.specs.Left.{left_of, IsStackOf}
use Rattle.hk_eval.specs.Noted.{noted}
use Rattle.hk_eval.specs.Rendering.{render}
use Rattle.hk_eval.specs.declared.found.Found.{Found}
use Rattle.hk_eval.specs.declared.found.Found.TheVariants as founds
use Rattle.hk_eval.specs.declared.place.Place.{Place}
use Rattle.hk_eval.specs.declared.stack.Stack.{Stack}
use Rattle.hk_machine.specs.Applying.{page_with}
use Rattle.hk_machine.specs.declared.act.Act.{Act}
use Rattle.hk_machine.specs.declared.act.Act.TheVariants as acts
use Rattle.hk_machine.specs.declared.act.Stop.{Stop}
use Rattle.hk_machine.specs.declared.act.Stop.TheVariants as stops

-- the run of a step that gives a page, with its log noted
pub record Given (k : Pages) (t : Task Page) (old : FactsView) (page : Page) (new : FactsView) : Type 0 where
  pub log : List Mark
  pub quiet : Quiet t
  pub notes : new ≡ noted old log
  pub is : run t k ≡ record { log = log; end = done page }

-- what a step comes to, under the told pages: a page; a rendering, whose text is the page; the current one for a pair; a
-- wait; a fault
abbrev pub Acts : Lookups → Pages → Task Page → Page → FactsView → Act → FactsView → Type 0
Acts plan k t page old (acts.Gives new_page) new = Given k t old new_page new
Acts plan k t page old (acts.Renders stack) new = Went k t old (left_of plan stack ▷ page_with) new
Acts plan k t page old (acts.Saves pair) new = (t ≡ notes (saved pair page) (gives page)) × (new ≡ old)
Acts plan k t page old (acts.Asks pairs) new = Quiet t × ((run t k).end ≡ waits pairs.items) × (new ≡ old)
Acts plan k t page old (acts.Fails e) new = Quiet t × ((run t k).end ≡ fault e)

-- the places, lists and templates of a rendering that begins are the plan's
abbrev pub IsActOf : PlanView → Act → Type 0
IsActOf plan (acts.Renders stack) = IsStackOf plan stack
IsActOf plan _ = Unit {0}

-- what a step comes to that needs no other page
abbrev pub Makes : Task Page → Page → Act → Type 0
Makes t page (acts.Gives new_page) = t ≡ gives new_page
Makes t page (acts.Renders stack) = ⊥
Makes t page (acts.Saves pair) = t ≡ notes (saved pair page) (gives page)
Makes t page (acts.Asks pairs) = ⊥
Makes t page (acts.Fails e) = t ≡ fails e

-- what a step comes to that renders a template at a place: a rendering that hasn't begun, a wait, or a fault
abbrev pub Begins : Lookups → Place → Found → Act → Type 0
Begins plan here (founds.Tree block) act = (stack : Stack) × (act ≡ acts.Renders stack) × (left_of plan stack ≡ render plan (block_nodes block) here)
Begins plan here (founds.Asks pair) act = (pairs : Vec PairNo Global) × (act ≡ acts.Asks pairs) × (pairs.items ≡ pair ∷ [])
Begins plan here (founds.Fails e) act = act ≡ acts.Fails e

-- what the steps of a chain come to: a page to save before the rest; a wait; the finished page; a fault
abbrev pub Stops : Pages → Task Page → FactsView → Stop → Task Page → FactsView → Page → Type 0
Stops k t old (stops.Saves pair) u new page = Went k t old (notes (saved pair page) u) new
Stops k t old (stops.Asks pairs) u new page = Went k t old u new × ((run u k).end ≡ waits pairs.items) × (saves_of (run u k).log ≡ [])
Stops k t old stops.Done u new page = Went k t old u new × (u ≡ gives page)
Stops k t old (stops.Fails e) u new page = ((run t k).end ≡ fault e) × (saves_of (run t k).log ≡ [])

-- and what one of them comes to: it leads on, or stops
abbrev pub Turns : Pages → Task Page → FactsView → Option Stop → Task Page → FactsView → Page → Type 0
Turns k t old None u new page = Went k t old u new
Turns k t old (Some stop) u new page = Stops k t old stop u new page

-- how many pages a stop saves
abbrev pub saves_by : Stop → ℕ
saves_by (stops.Saves pair) = 1
saves_by _ = 0

abbrev pub saves_in : Option Stop → ℕ
saves_in None = 0
saves_in (Some stop) = saves_by stop
