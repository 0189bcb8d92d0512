-- That records fit their items holds in one way at most.
use Rattle.std.specs.Prelude.{ℕ, List, [], ◌∷◌, Option, Some, None}
use Rattle.std.specs.List.{AllByRecursion-prop}
use Rattle.std.proofs.Props.{props}
use Rattle.std.proofs.lemmas.Map.Keys.{IsDistinct-prop}
use Rattle.hk_chain.specs.Layout.{Shape}
use Rattle.hk_chain.specs.Snapshots.{Ascending, AreSnapshots}
use Rattle.hk_replay.specs.declared.record.Step.{Step}
use Rattle.hk_replay.specs.declared.record.Step.TheVariants.{Asked, Saved}
use Rattle.hk_replay.specs.declared.record.Record.{Record}
use Rattle.hk_replay.specs.declared.record.Records.{Records}
use Rattle.hk_replay.specs.Replays.{AreGroups, IsRecordBy, AreRecords}

ascending-prop : (ps : List ℕ) → IsProp (Ascending ps)
ascending-prop [] = hlevel props
ascending-prop (p ∷ ps) = hlevel (props, AllByRecursion-prop, ascending-prop ps)

snapshots-prop : (lay : Shape) (i : ℕ) (ps : List ℕ) → IsProp (AreSnapshots lay i ps)
snapshots-prop lay i ps = hlevel (props, AllByRecursion-prop, ascending-prop)

groups-prop : (lay : Shape) (steps : List Step) → IsProp (AreGroups lay steps)
groups-prop lay [] = hlevel props
groups-prop lay (Asked ps ds ∷ steps) = hlevel (props, AllByRecursion-prop, IsDistinct-prop, groups-prop lay steps)
groups-prop lay (Saved p x ∷ steps) = groups-prop lay steps

by-prop : (lay : Shape) (i : ℕ) (o : Option Record) → IsProp (IsRecordBy lay i o)
by-prop lay i None = hlevel props
by-prop lay i (Some r) = hlevel (props, snapshots-prop, groups-prop)

pub records-prop : (lay : Shape) (records : Records) → IsProp (AreRecords lay records)
records-prop lay records = hlevel (props, by-prop)
