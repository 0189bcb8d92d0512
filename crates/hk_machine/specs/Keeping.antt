-- What a machine keeps between its polls.
use Rattle.std.specs.Prelude.{◌≡◌, ℕ, ◌+◌, ◌<◌, ◌≤◌, true, ◌||◌, List, ◌++◌, length, Option, None, is_some, option_to_list}
use Rattle.std.specs.Vec.{vec_capacity}
use Rattle.std.specs.List.{AllByRecursion}
use Rattle.hk_chain.specs.declared.page.Page.{Page}
use Rattle.hk_chain.specs.Facts.{FactsView}
use Rattle.hk_fix.specs.Pages.{Pages}
use Rattle.hk_fix.specs.Task.{Task, Mark}
use Rattle.hk_fix.specs.Run.{saves_of}
use Rattle.hk_fix.specs.Facts.{is_in}
use Rattle.hk_fix.specs.ChainLaws.{saved_pairs}
use Rattle.hk_rules.specs.Plan.{Lookups, lookups}
use Rattle.hk_rules.specs.PlanView.{PlanView}
use Rattle.hk_machine.specs.Chain.{chain_task}
use Rattle.hk_eval.specs.Leading.{Leads}
use Rattle.hk_eval.specs.Noted.{no_facts, noted}
use Rattle.hk_eval.specs.Told.{told_pages, is_listed}
use Rattle.hk_machine.specs.Working.{left, IsWorkOf}
use Rattle.hk_machine.specs.declared.way.Way.{Way}

-- a task has come to the rest of it: under every map that extends what is told it leaves a log, whose marks are noted
-- and whose saves are given, and goes on as the rest. The saves before the last one and the told pairs are used.
pub record Came (task : Task Page) (told : Pages) (rest : Task Page) (facts : FactsView) (given : ℕ) (last : Option ℕ) (used_pairs : List ℕ) : Type 0 where
  pub log : List Mark
  pub leads : Leads told task log rest
  pub notes : facts ≡ noted no_facts log
  pub count : given ≡ length (saves_of log)
  pub past : List ℕ
  pub saves : saved_pairs log ≡ past ++ option_to_list last
  pub used : (q : ℕ) → is_in used_pairs q ≡ (is_some (told q) || is_in past q)

-- a machine that goes on has come to what is left of its chain, and its marks were noted
pub record Keeps (plan : PlanView) (item : ℕ) (way : Way) : Type 0 where
  pub came : Came (chain_task (lookups plan) item) (told_pages way.told) (left (lookups plan) item way.work) way.work.notes way.given way.last way.used.items
  pub within : IsWorkOf plan way.work
  pub bound : way.given ≤ way.work.at

-- whether it goes on, has ended or wanted memory, it has come so far on its chain
pub record HasCome (plan : Lookups) (item : ℕ) (way : Way) : Type 0 where
  pub rest : Task Page
  pub facts : FactsView
  pub came : Came (chain_task plan item) (told_pages way.told) rest facts way.given way.last way.used.items

-- each awaited page isn't told, and has its room
pub record HasRoom (way : Way) : Type 0 where
  pub listed : AllByRecursion (λ p. is_listed way.told p ≡ true) way.awaits
  pub untold : AllByRecursion (λ p. told_pages way.told p ≡ None) way.awaits
  pub room : 0 < length way.awaits → length way.used.items + length way.awaits ≤ vec_capacity way.used

-- what stays where memory was wanting
pub record Stays (old new : Way) : Type 0 where
  pub told : (q : ℕ) → told_pages new.told q ≡ told_pages old.told q
  pub awaits : new.awaits ≡ old.awaits
  pub given : new.given ≡ old.given
  pub ended : new.is_ended ≡ old.is_ended

-- and what it used
pub record UsesSame (old new : Way) : Type 0 where
  pub last : new.last ≡ old.last
  pub used : new.used.items ≡ old.used.items
