use Rattle.std.proofs.Common.{◌≡◌, map}
use Rattle.std.specs.List.{fold}
use Rattle.hk_links.specs.Parts.{part_texts}
use Rattle.hk_links.specs.Path.{last_of, step}
use Rattle.hk_links.proofs.path.reach.Given as goal

abbrev pub invariant-loop-part : goal.invariant-loop-part
invariant-loop-part l =
    (part_texts l.parts.items ≡ fold step (part_texts l.initial.parts.items) (map (λ part. part.now) l.yielded)) × (l.last ≡ last_of (map (λ part. part.now) l.yielded))
