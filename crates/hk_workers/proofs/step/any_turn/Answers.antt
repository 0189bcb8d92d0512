use Rattle.hk_workers.proofs.Steps.{begins-anew}
use Rattle.hk_workers.proofs.step.any_turn.Goals as goal

pub returns-in-Some-first_out-clause-turn : goal.returns-in-Some-first_out-clause-turn
returns-in-Some-first_out-clause-turn g c = begins-anew g.M.Compiler.run g.M.Compiler.shape g.M.Compiler.meaning _ c.next_turn.new.board _ c.lawful_board.ensures c.in-Some-first_out.ensures.0 c.next_turn.ensures.board
