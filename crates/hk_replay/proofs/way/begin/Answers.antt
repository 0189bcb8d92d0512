use Rattle.std.proofs.Common.{◌≡◌, ap, Bool, true, false, cond, [], List, ℕ}
use Rattle.hk_replay.proofs.Holding.{no-room}
use Rattle.hk_replay.proofs.way.begin.Goals as goal

either : (b : Bool) (l a : List ℕ) → l ≡ [] → a ≡ [] → cond b l a ≡ []
either true l a e f = e
either false l a e f = f

pub returns-clause-room : goal.returns-clause-room
returns-clause-room g c = no-room g.M.Compiler.meaning _ (either _ (g.M.Compiler.meaning c.args.inner).awaits c.none.result (ap (λ m. m.awaits) c.requires) c.none.ensures) (λ b. c.none.ensures)
