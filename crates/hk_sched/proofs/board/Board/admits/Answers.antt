use Rattle.std.proofs.Common.{◌≡◌, ◌∙◌, ap, sym, subst, ℕ, true}
use Rattle.hk_sched.specs.Standings.{standing_at, is_out, out}
use Rattle.hk_sched.specs.Board.{BoardView, Admits}
use Rattle.hk_sched.proofs.Rosters.{is-out}
use Rattle.hk_sched.proofs.Admitting.{admits-iff}
use Rattle.hk_sched.proofs.board.Board.admits.Goals as goal

pub returns-then-is_out : goal.returns-then-is_out
returns-then-is_out g c =
    let here : standing_at c.self.inside.roster.places (g.M.Compiler.meaning c.args.machine.now).item ≡ out =
    is-out (standing_at c.self.inside.roster.places (g.M.Compiler.meaning c.args.machine.now).item) (ap (λ (n : ℕ). is_out (standing_at c.self.inside.roster.places n)) (sym c.item.ensures) ∙ sym c.if-is_out.ensures) in
    subst (λ (b : BoardView g.row.M.Denot g.row.M-Common.Denot). (c.are_known.result ≡ true → Admits g.M.Compiler.run b (g.M.Compiler.meaning c.args.machine.now)) × (Admits g.M.Compiler.run b (g.M.Compiler.meaning c.args.machine.now) → c.are_known.result ≡ true))
    c.self.view_is
    (admits-iff g.M.Compiler.run (record { common = c.self.inside.common; lay = c.self.inside.layout; known = c.self.inside.roster.known; places = c.self.inside.roster.places; history = c.self.inside.history.items }) (g.M.Compiler.meaning c.args.machine.now)
    c.used.result.now c.used.ensures here c.are_known.result c.are_known.ensures)
