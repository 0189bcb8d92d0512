use Rattle.std.proofs.Common.{rules, ◌≡◌, Some, All, Vec, Global, sym, subst}
use Rattle.std.proofs.lemmas.List.Elements.{All-push, All-pop}
use Rattle.hk_lock.specs.View.{IsSeatFor}
use Rattle.hk_sched.specs.Lawful.{Key}
use Rattle.hk_steal.specs.View.{OwnerView, ThiefView}
use Rattle.hk_workers.specs.declared.deques.StealJob.{StealJob}
use Rattle.hk_workers.proofs.hiring.seat_all.Goals as goal

pub loop-own-preserved : goal.loop-own-preserved
loop-own-preserved g c =
    let inv = c.loop-own.invariant in
    let O : OwnerView (Key g.row.M-Common.Denot) → Type 0 = λ o. o.key ≡ Some c.args.about.now.value in
    let T : ThiefView (Key g.row.M-Common.Denot) → Type 0 = λ t. t.key ≡ Some c.args.about.now.value in
    let L : Vec (ThiefView (Key g.row.M-Common.Denot)) Global → Type 0 = λ v. All T v.items in
    let J : StealJob g.row.M.Denot g.row.M-Common.Denot → Type 0 = λ j. IsSeatFor c.args.lock.now (Some c.args.about.now.value) j.seat × O j.own × All T j.others.items in (
      search rules,
      search rules,
      (All-pop O _ _ _ c.pop.ensures.items inv.2).0,
      search rules,
      (All-pop L _ _ _ c.pop-in-Some.ensures.items inv.4).0,
      subst (All J) (sym c.push_reserved.ensures.items) (All-push J _ _ inv.5 c.seat_one.ensures.job),
      search rules,
    )
