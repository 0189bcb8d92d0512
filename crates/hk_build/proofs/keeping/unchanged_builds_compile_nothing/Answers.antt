use Rattle.hk_build.proofs.CompiledItems.{nothing-compiled}
use Rattle.hk_build.proofs.Replayed.{planned-made}
use Rattle.hk_build.proofs.keeping.unchanged_builds_compile_nothing.Goals as goal

pub returns : goal.returns
returns c = λ plan i is. nothing-compiled plan (planned-made plan is) i
