use Rattle.std.proofs.Common.{◌≡◌, Some, All, sym, subst}
use Rattle.hk_sched.specs.Lawful.{Key}
use Rattle.hk_steal.specs.View.{OwnerView}
use Rattle.hk_workers.proofs.stealing.robbed.Goals as goal

pub seat_all-requires-clause-owners : goal.seat_all-requires-clause-owners
seat_all-requires-clause-owners g c =
    let O : OwnerView (Key g.row.K-M-Common.Denot) → Type 0 = λ o. o.key ≡ Some c.args.about.now.value in
    subst (All O) (sym c.all_thieves.ensures.owners) c.requires.owners
