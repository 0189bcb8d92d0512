use Rattle.std.proofs.Common.{◌≡◌, None, replicate}
use Rattle.hk_replay.proofs.numbering.no_records.Given as goal

abbrev pub invariant-loop : goal.invariant-loop
invariant-loop l = l.records.items ≡ replicate l.counter None
