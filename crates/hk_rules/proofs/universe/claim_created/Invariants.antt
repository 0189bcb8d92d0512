use Rattle.std.proofs.Common.{◌≡◌, take}
use Rattle.std.specs.Prelude.{fold}
use Rattle.hk_rules.specs.Universe.{claimed, created}
use Rattle.hk_rules.proofs.universe.claim_created.Given as goal

abbrev pub invariant-loop-id : goal.invariant-loop-id
invariant-loop-id l = l.owners.entries ≡ fold (λ items id. claimed items (created l.rule id)) l.initial.owners.entries (take l.id-index l.ids)
