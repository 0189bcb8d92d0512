use Rattle.std.proofs.Common.{◌≡◌, map}
use Rattle.hk_meta.specs.Metadata as spec
use Rattle.hk_meta.proofs.Entries.{pair_of}
use Rattle.hk_meta.proofs.metadata.merge.Given as goal

abbrev pub invariant-loop-key : goal.invariant-loop-key
invariant-loop-key l =
    spec.merge l.fn.header l.fn.companion ≡ spec.merge l.merged (map (pair_of (λ k. k.items) (λ v. v.items)) l.key-iterator)
