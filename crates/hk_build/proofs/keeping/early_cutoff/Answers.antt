use Rattle.hk_build.proofs.CompiledItems.{cut-off}
use Rattle.hk_build.proofs.keeping.early_cutoff.Goals as goal

pub returns : goal.returns
returns c = cut-off
