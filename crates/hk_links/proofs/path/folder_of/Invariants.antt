use Rattle.std.proofs.Common.{◌≡◌, map}
use Rattle.hk_links.specs.Parts.{part_texts}
use Rattle.hk_links.proofs.path.folder_of.Given as goal

abbrev pub invariant-loop-part : goal.invariant-loop-part
invariant-loop-part l = part_texts l.parts.items ≡ map (λ part. part.now) l.yielded
