use Rattle.std.proofs.Common.{rules, ◌≡◌, Some, All, sym, subst}
use Rattle.std.proofs.lemmas.List.Elements.{All-push}
use Rattle.hk_sched.specs.Lawful.{Key}
use Rattle.hk_steal.specs.View.{OwnerView}
use Rattle.hk_workers.proofs.hiring.decks.Goals as goal

pub loop-alloc-preserved : goal.loop-alloc-preserved
loop-alloc-preserved g c =
    let P : OwnerView (Key g.row.M-Common.Denot) → Type 0 = λ o. o.key ≡ Some c.args.about.now.value in
    (subst (All P) (sym c.push_reserved.ensures.items) (All-push P _ _ c.loop-alloc.invariant.0 c.in_ok-own.ensures.owner.0), search rules, search rules)
