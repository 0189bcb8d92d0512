use Rattle.hk_os.proofs.Fronts.{Front}
use Rattle.hk_os.proofs.bytes.write_all.Given as goal

abbrev pub invariant-loop : goal.invariant-loop
invariant-loop g l = Front l.bytes (g.W.Write.contents l.initial.writer) (g.W.Write.contents l.writer) l.at
