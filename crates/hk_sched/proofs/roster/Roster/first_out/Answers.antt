use Rattle.std.proofs.Common.{◌≡◌, ◌∙◌, refl, ap, sym, false, below_more, arith}
use Rattle.hk_sched.specs.Standings.{RosterView, standing_at, is_out}
use Rattle.hk_sched.proofs.Rosters.{place-at, is-out}
use Rattle.hk_sched.proofs.roster.Roster.first_out.Goals as goal

pub returns-then-is_out_at : goal.returns-then-is_out_at
returns-then-is_out_at g c =
    let at = ap (λ (r : RosterView g.row.M.Denot). standing_at r.places c.loop-i.i) (sym c.self.view_is) ∙ place-at c.self.inside.places.items c.loop-i.i c.loop-i.i c.index.result.now c.index.ensures refl (omega (arith, c.loop-i-test.true, c.len-i-end.ensures, c.self.inside.places.ok.0)) in
    (is-out (standing_at c.args.self.now.places c.loop-i.i) (ap is_out at ∙ sym c.if-is_out_at.ensures), c.loop-i.invariant)

pub loop-i-preserved : goal.loop-i-preserved
loop-i-preserved g c =
    let at = ap (λ (r : RosterView g.row.M.Denot). standing_at r.places c.loop-i.i) (sym c.self.view_is) ∙ place-at c.self.inside.places.items c.loop-i.i c.loop-i.i c.index.result.now c.index.ensures refl (omega (arith, c.loop-i-test.true, c.len-i-end.ensures, c.self.inside.places.ok.0)) in
    below_more (λ j. is_out (standing_at c.args.self.now.places j) ≡ false) c.loop-i.i c.loop-i.invariant (ap is_out at ∙ sym c.if-is_out_at.ensures)
