use Rattle.std.proofs.Common.{◌≡◌, take}
use Rattle.std.specs.Prelude.{fold}
use Rattle.hk_rules.specs.Universe.{claimed}
use Rattle.hk_rules.specs.Settled.{AreSettled, has_path, matched_by}
use Rattle.hk_rules.proofs.universe.claim_open.Given as goal

abbrev pub invariant-loop-index : goal.invariant-loop-index
invariant-loop-index l = record {
  owners : l.owners.entries ≡ fold (λ items source. claimed items (matched_by (has_path l.paths) l.rule source)) l.initial.owners.entries (take l.index l.sources);
  settled : AreSettled l.sources l.owners.entries l.rule.version l.flags.items;
}
