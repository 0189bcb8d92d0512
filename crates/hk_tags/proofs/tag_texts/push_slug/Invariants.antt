use Rattle.std.proofs.Common.{◌≡◌, ◌++◌, take}
use Rattle.std.specs.List.{flat_map}
use Rattle.hk_tags.specs.TagTexts.{slug_byte}
use Rattle.hk_tags.proofs.tag_texts.push_slug.Given as goal

abbrev pub invariant-loop-byte : goal.invariant-loop-byte
invariant-loop-byte l = l.out.items ≡ l.initial.out.items ++ flat_map slug_byte (take l.byte-index l.tag)
