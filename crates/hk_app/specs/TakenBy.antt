-- What was taken of the cache, as plain data.
use Rattle.hk_reuse.specs.Entries.{entries_in}
use Rattle.hk_app.specs.declared.taken.Taken.{Taken as TakenStore}
use Rattle.hk_app.specs.Taking.{Taken}

abbrev pub taken_by : TakenStore → Taken
taken_by t = record { entries = entries_in t.stored; damage = t.damage }
