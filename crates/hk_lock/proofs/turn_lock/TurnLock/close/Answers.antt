use Rattle.std.proofs.Common.{rules, true≢false, is_some, unwrap_or, sym, ap, ◌∙◌, subst}
use Rattle.hk_lock.specs.Lawful.{IsLawfulFor}
use Rattle.hk_lock.specs.View.{SeatView}
use Rattle.hk_lock.proofs.Turning.{closes}
use Rattle.hk_lock.proofs.turn_lock.TurnLock.close.Goals as goal

pub unreachable-requires : goal.unreachable-requires
unreachable-requires g c =
    let it = closes g.B.Lawful.is_lawful _ _ c.seat.inside.place.me.0 _ _ c.take-slot.result (search rules) (search rules) (search rules) c.seat.invariant.is_live c.close_with-closed.ensures.values.2 c.take-slot.ensures.value in
    true≢false (ap is_some (sym it.1 ∙ c.in-None.is))

pub returns : goal.returns
returns g c =
    let it = closes g.B.Lawful.is_lawful _ _ c.seat.inside.place.me.0 _ _ c.take-slot.result (search rules) (search rules) (search rules) c.seat.invariant.is_live c.close_with-closed.ensures.values.2 c.take-slot.ensures.value in
    let e = sym it.1 ∙ c.in-Some.is in
    subst (λ (z : SeatView g.row.K.Denot). IsLawfulFor g.B.Lawful.is_lawful z.view.key c.in-Some.board) c.seat.view_is (subst (IsLawfulFor g.B.Lawful.is_lawful c.seat.inside.place.me.0.key) (ap (λ o. unwrap_or o it.0) e) it.2)
