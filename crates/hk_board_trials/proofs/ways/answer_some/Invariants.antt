use Rattle.std.proofs.Common.{◌≡◌}
use Rattle.hk_board_trials.proofs.ways.answer_some.Given as goal

abbrev pub invariant-loop : goal.invariant-loop
invariant-loop g l = (g.M.Compiler.meaning l.compiler).has_ended ≡ (g.M.Compiler.meaning l.fn.compiler).has_ended
