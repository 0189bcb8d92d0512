use Rattle.std.proofs.Common.{◌≡◌, false, []}
use Rattle.hk_board_trials.proofs.ways.gone.Given as goal

abbrev pub invariant-loop : goal.invariant-loop
invariant-loop g l = record { closed : (g.K.M.Compiler.meaning l.compiler).awaits ≡ []; going : (g.K.M.Compiler.meaning l.compiler).has_ended ≡ false }
