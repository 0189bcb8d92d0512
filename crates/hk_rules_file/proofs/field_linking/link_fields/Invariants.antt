use Rattle.std.proofs.Common.{◌≡◌, []}
use Rattle.hk_rules_file.specs.Linking.{link_fields}
use Rattle.hk_rules_file.proofs.field_linking.link_fields.Given as goal

-- the rest, from the fields so far, gives what all gives
abbrev pub invariant-loop-draft : goal.invariant-loop-draft
invariant-loop-draft l =
    (goal.iterator-loop-draft).can_next l.draft-iterator × (goal.iterator-loop-draft).is_finite l.draft-iterator
    × (link_fields l.names l.draft-iterator.rest.items l.pool l.fields ≡ link_fields l.names l.fn.drafts l.fn.pool [])
