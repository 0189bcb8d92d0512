use Rattle.std.proofs.Common.{◌≡◌, map}
use Rattle.std.specs.List.{flat_map}
use Rattle.hk_tags.specs.TagTexts.{tag_of}
use Rattle.hk_tags.proofs.tag_texts.tags_in.Given as goal

abbrev pub invariant-loop-part : goal.invariant-loop-part
invariant-loop-part l = l.tags.items ≡ flat_map tag_of (map (λ part. part.now) l.yielded)
