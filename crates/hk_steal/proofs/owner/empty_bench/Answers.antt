use Rattle.hk_steal.proofs.Decking.{begins}
use Rattle.hk_steal.proofs.owner.empty_bench.Goals as goal

pub fifo_as-requires : goal.fifo_as-requires
fifo_as-requires g c = begins g.T.Lawful.is_lawful
