use Rattle.hk_chain.specs.Kept.{at_place}
use Rattle.hk_sched.proofs.Taking.{all-settled}
use Rattle.hk_sched.proofs.board.Board.close.Goals as goal

pub close-outcomes-requires-clause-settled : goal.close-outcomes-requires-clause-settled
close-outcomes-requires-clause-settled g c =
    all-settled g.M.Compiler.meaning (at_place c.self.inside.roster.known) c.self.inside.roster.places (rw (← c.self.view_is) at c.requires.ready) (rw (← c.self.view_is) at c.requires.out)
