use Rattle.std.proofs.Common.{◌≡◌, []}
use Rattle.hk_rules_file.specs.Linking.{link_steps}
use Rattle.hk_rules_file.proofs.linking.link_steps.Given as goal

-- the rest, from the steps so far, gives what all gives
abbrev pub invariant-loop-draft : goal.invariant-loop-draft
invariant-loop-draft l =
    (goal.iterator-loop-draft).can_next l.draft-iterator × (goal.iterator-loop-draft).is_finite l.draft-iterator
    × (link_steps l.number l.names l.draft-iterator.rest.items l.pool l.steps.items ≡ link_steps l.number l.names l.fn.drafts l.fn.pool [])
