use Rattle.std.proofs.Common.{subst, List}
use Rattle.hk_base.specs.Bytes.{Bytes}
use Rattle.hk_replay.specs.Places.{AreFirst}
use Rattle.hk_replay.proofs.texts.PatternTexts.of.Goals as goal

pub invariant_of-result : goal.invariant_of-result
invariant_of-result c = subst (λ (l : List Bytes). AreFirst l c.in_ok-places.places.entries) c.deref.ensures.value c.in_ok-places.ensures
