-- What a machine has come to, also where memory was wanting.
use Rattle.std.proofs.Common.{◌≡◌, sym, subst, ℕ, List, ◌++◌, Option, None, option_to_list}
use Rattle.hk_rules.specs.Plan.{Lookups, lookups}
use Rattle.hk_rules.specs.PlanView.{PlanView}
use Rattle.hk_machine.specs.Chain.{chain_task}
use Rattle.hk_machine.specs.Keeping.{Came, Keeps, HasCome}
use Rattle.hk_eval.specs.Told.{told_pages}
use Rattle.hk_machine.specs.Working.{left}
use Rattle.hk_machine.specs.declared.way.Way.{Way}
use Rattle.hk_machine.proofs.Coming.{came-settled, came-told}

pub keeps-come : (plan : PlanView) (item : ℕ) (way : Way) → Keeps plan item way → HasCome (lookups plan) item way
keeps-come plan item way keeps = record { rest = left (lookups plan) item way.work; facts = way.work.notes; came = keeps.came }

module _ (plan : Lookups) (item : ℕ) where
  -- the same pages, the same that was given and used
  pub come-same : (old new : Way) → HasCome plan item old → ((q : ℕ) → told_pages new.told q ≡ told_pages old.told q) → new.given ≡ old.given → new.last ≡ old.last → new.used.items ≡ old.used.items → HasCome plan item new
  come-same old new has told given last used =
      record {
        rest = has.rest;
        facts = has.facts;
        came =
            subst (λ (us : List ℕ). Came (chain_task plan item) (told_pages new.told) has.rest has.facts new.given new.last us) (sym used)
            (subst (λ (l : Option ℕ). Came (chain_task plan item) (told_pages new.told) has.rest has.facts new.given l old.used.items) (sym last)
            (subst (λ (n : ℕ). Came (chain_task plan item) (told_pages new.told) has.rest has.facts n old.last old.used.items) (sym given)
            (came-told (chain_task plan item) (told_pages old.told) (told_pages new.told) has.rest has.facts old.given old.last old.used.items told has.came)));
      }

  -- what was saved last is used
  pub come-settled : (old new : Way) → HasCome plan item old → ((q : ℕ) → told_pages new.told q ≡ told_pages old.told q) → new.given ≡ old.given → new.last ≡ None → new.used.items ≡ old.used.items ++ option_to_list old.last → HasCome plan item new
  come-settled old new has told given last used =
      record {
        rest = has.rest;
        facts = has.facts;
        came =
            subst (λ (l : Option ℕ). Came (chain_task plan item) (told_pages new.told) has.rest has.facts new.given l new.used.items) (sym last)
            (subst (λ (n : ℕ). Came (chain_task plan item) (told_pages new.told) has.rest has.facts n None new.used.items) (sym given)
            (came-told (chain_task plan item) (told_pages old.told) (told_pages new.told) has.rest has.facts old.given None new.used.items told
            (came-settled (chain_task plan item) (told_pages old.told) has.rest has.facts old.given old.last old.used.items new.used.items has.came used)));
      }
