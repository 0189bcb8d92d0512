use Rattle.std.proofs.Common.{map, ap, sym, ◌≡◌, ◌∙◌, arith, true, All}
use Rattle.std.proofs.lemmas.List.{length-map}
use Rattle.std.proofs.Math.ListN.{get_or-map}
use Rattle.hk_sched.specs.Standings.{Standing, is_settled}
use Rattle.hk_sched.specs.Places.{standing}
use Rattle.hk_sched.proofs.roster.Roster.close.Goals as goal

pub outcomes-outcomes-requires-clause-settled : goal.outcomes-outcomes-requires-clause-settled
outcomes-outcomes-requires-clause-settled g c = λ k d lt.
    let all : All (λ (s : Standing g.row.M.Denot). is_settled s ≡ true) (map standing c.self.inside.places.items) = rw (← c.self.view_is) at c.requires.settled in
    ap is_settled (sym (get_or-map standing c.self.inside.places.items k d)) ∙ all k (standing d) (omega (arith, lt, length-map c.self.inside.places.items standing))
