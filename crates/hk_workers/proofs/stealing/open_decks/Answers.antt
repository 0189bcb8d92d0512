use Rattle.std.proofs.Common.{rules, ◌≡◌, Some, All, sym, ap, subst, Option}
use Rattle.hk_sched.specs.Lawful.{Key}
use Rattle.hk_lock.specs.declared.view.View.{View}
use Rattle.hk_workers.proofs.stealing.open_decks.Goals as goal

pub returns-clause-owners : goal.returns-clause-owners
returns-clause-owners g c =
    let same : c.in_ok-lock.seat.view.key ≡ Some c.in_ok-about.about.value = ap (λ (v : View (Key g.row.K-M-Common.Denot)). v.key) c.in_ok-lock.ensures.1 in
    (search rules, subst (λ (key : Option (Key g.row.K-M-Common.Denot)). All (λ o. o.key ≡ key) c.in_ok-owners.owners.items) (sym same) c.in_ok-owners.ensures.1)
