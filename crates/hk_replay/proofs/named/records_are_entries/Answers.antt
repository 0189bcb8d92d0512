use Rattle.hk_replay.proofs.Bridging.{over-named, records-numbered}
use Rattle.hk_replay.proofs.named.records_are_entries.Goals as goal

pub returns-clause-runs : goal.returns-clause-runs
returns-clause-runs c = over-named

pub returns-clause-records : goal.returns-clause-records
returns-clause-records c = λ items entries records are formed is. records-numbered items are entries formed records is
