use Rattle.std.proofs.Common.{[]}
use Rattle.std.specs.Prelude.{fold}
use Rattle.hk_rules.specs.Universe.{claimed_all, Enough}
use Rattle.hk_rules.specs.Settled.{AllSettled}
use Rattle.hk_rules.proofs.universe.owners_of.Given as goal

abbrev pub invariant-loop-rule : goal.invariant-loop-rule
invariant-loop-rule l = record {
  owners : Enough l.owners.entries (fold (claimed_all l.sources) [] l.yielded);
  settled : AllSettled l.sources l.owners.entries l.settled;
}
