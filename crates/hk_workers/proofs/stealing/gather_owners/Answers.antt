use Rattle.std.proofs.Common.{rules, ◌≡◌, Some, All, sym, subst}
use Rattle.std.proofs.lemmas.List.Elements.{All-push, All-pop}
use Rattle.hk_lock.specs.View.{IsSeatFor}
use Rattle.hk_sched.specs.Lawful.{Key}
use Rattle.hk_steal.specs.View.{OwnerView}
use Rattle.hk_workers.specs.declared.deques.StealEnd.{StealEnd}
use Rattle.hk_workers.proofs.stealing.gather_owners.Goals as goal

pub loop-end-preserved-then-memory : goal.loop-end-preserved-then-memory
loop-end-preserved-then-memory g c =
    let inv = c.loop-end.invariant in
    let O : OwnerView (Key g.row.M-Common.Denot) → Type 0 = λ o. o.key ≡ Some c.args.about.now.value in
    let S : StealEnd g.row.M.Denot g.row.M-Common.Denot → Type 0 = λ e. IsSeatFor c.args.lock.now (Some c.args.about.now.value) e.seat × O e.own in (
      search rules,
      search rules,
      (All-pop S _ _ _ c.pop.ensures.items inv.2).0,
      subst (All O) (sym c.push_reserved.ensures.items) (All-push O _ _ inv.3 c.unseat.ensures.owner),
      search rules,
    )

pub loop-end-preserved : goal.loop-end-preserved
loop-end-preserved g c =
    let inv = c.loop-end.invariant in
    let O : OwnerView (Key g.row.M-Common.Denot) → Type 0 = λ o. o.key ≡ Some c.args.about.now.value in
    let S : StealEnd g.row.M.Denot g.row.M-Common.Denot → Type 0 = λ e. IsSeatFor c.args.lock.now (Some c.args.about.now.value) e.seat × O e.own in (
      search rules,
      search rules,
      (All-pop S _ _ _ c.pop.ensures.items inv.2).0,
      subst (All O) (sym c.push_reserved.ensures.items) (All-push O _ _ inv.3 c.unseat.ensures.owner),
      search rules,
    )
