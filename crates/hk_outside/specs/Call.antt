-- The calls of a tree: their kinds, and how many were made.
use Rattle.std.specs.Prelude.{ℕ, ◌+◌, ◌-◌, ◌^◌, Bool, true, false, min}
use Rattle.hk_outside.specs.declared.call.CallKind.{CallKind}
use Rattle.hk_outside.specs.declared.call.CallKind.TheVariants.{List, Read, Write, Remove}
use Rattle.hk_outside.specs.declared.call.Calls.{Calls}

abbrev pub same_kind : CallKind → CallKind → Bool
same_kind List List = true
same_kind Read Read = true
same_kind Write Write = true
same_kind Remove Remove = true
same_kind _ _ = false

-- one more, where a count stands still at its type's end
abbrev pub one_more : ℕ → ℕ
one_more n = min (n + 1) (2 ^ 64 - 1)

abbrev pub no_calls : Calls
no_calls = record { lists = 0; reads = 0; writes = 0; removes = 0; all = 0 }

-- how many calls of a kind were made
abbrev pub made : CallKind → Calls → ℕ
made List c = c.lists
made Read c = c.reads
made Write c = c.writes
made Remove c = c.removes

-- one more call of a kind
abbrev pub counted : CallKind → Calls → Calls
counted List c = record c { lists = one_more c.lists; all = one_more c.all }
counted Read c = record c { reads = one_more c.reads; all = one_more c.all }
counted Write c = record c { writes = one_more c.writes; all = one_more c.all }
counted Remove c = record c { removes = one_more c.removes; all = one_more c.all }
