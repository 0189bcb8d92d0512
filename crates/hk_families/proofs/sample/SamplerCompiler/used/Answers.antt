use Rattle.std.proofs.Common.{ℕ, subst, take}
use Rattle.hk_fix.specs.Calls.{Lists}
use Rattle.hk_families.specs.Sample.{SampleView, sample_run, sample_meaning}
use Rattle.hk_families.proofs.SampleSteps.{used-are}
use Rattle.hk_families.proofs.sample.SamplerCompiler.used.Goals as goal

pub returns : goal.returns
returns c =
    subst (λ (v : SampleView). Lists (λ (n : ℕ). sample_run) (sample_meaning v) (take c.self.inside.count c.self.inside.seen)) c.self.view_is (used-are _ c.self.invariant.0)
