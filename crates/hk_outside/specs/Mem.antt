-- Trees and sinks in memory that fail as they were told: what a call answers, and what it leaves.
use Rattle.std.specs.Prelude.{ℕ, ◌+◌, ◌==◌, ◌++◌, Bool, true, false, List, [], Option, Some, None, Result, Ok, Err, IsErr, IsErrOf, find, option_map, take, if◌then◌else◌}
use Rattle.std.specs.FinMap.{insert}
use Rattle.hk_base.specs.Bytes.{Bytes, Files}
use Rattle.hk_outside.specs.declared.call.CallKind.{CallKind}
use Rattle.hk_outside.specs.declared.failures.Fate.{Fate}
use Rattle.hk_outside.specs.declared.failures.Fate.TheVariants.{Works, Fails, Tears}
use Rattle.hk_outside.specs.declared.tree.TreeFault.{TreeFault}
use Rattle.hk_outside.specs.declared.tree.TreeFault.TheVariants.{Failed, NoMemory}
use Rattle.hk_outside.specs.Call.{one_more}
use Rattle.hk_outside.specs.Failing.{Failing, begun, raised}

-- a tree: its files, and which of its calls fail
pub record MemFolder : Type 0 where
  pub files : Files
  pub failing : Failing

-- what a call of a fate answers: a fault exactly where it does not work, but for want of memory
abbrev pub Fated : {A : Type 0} → Fate → Result A TreeFault → Type 0
Fated Works r = ¬ (IsErrOf r Failed)
Fated Fails r = IsErrOf r Failed
Fated (Tears count) r = IsErr r

-- a call that writes nothing fails and does nothing, whatever it was to leave
abbrev pub untorn : Fate → Fate
untorn Works = Works
untorn Fails = Fails
untorn (Tears count) = Fails

abbrev pub is_failed : {A : Type 0} → Result A TreeFault → Bool
is_failed (Ok value) = false
is_failed (Err Failed) = true
is_failed (Err NoMemory) = false

-- what is counted by a call with this answer
abbrev pub called : {A : Type 0} → CallKind → Result A TreeFault → Failing → Failing
called kind r f = if is_failed r then raised (begun kind f) else begun kind f

-- the files after a call that writes: all of the bytes, after a fault what its fate leaves, or no change
abbrev pub written_by : {A : Type 0} → Fate → Bytes → Bytes → Result A TreeFault → Files → Files
written_by fate path bytes (Ok value) files = insert files path bytes
written_by Works path bytes (Err fault) files = files
written_by Fails path bytes (Err fault) files = files
written_by (Tears count) path bytes (Err Failed) files = insert files path (take count bytes)
written_by (Tears count) path bytes (Err NoMemory) files = files

-- a sink: the bytes so far, the writes that are to fail with how much each leaves, the writes so far, and how many failed
pub record MemOutput : Type 0 where
  pub written : Bytes
  pub fails : List (ℕ × ℕ)
  pub writes : ℕ
  pub faults : ℕ

abbrev pub output : List (ℕ × ℕ) → MemOutput
output fails = record { written = []; fails = fails; writes = 0; faults = 0 }

-- how much the next write leaves, where it fails: what the first member that names it says
abbrev pub torn_of : MemOutput → Option ℕ
torn_of o = option_map (λ m. m.1) (find (λ m. m.0 == o.writes + 1) o.fails)

abbrev pub write_fate : Option ℕ → Fate
write_fate None = Works
write_fate (Some count) = Tears count

-- the bytes after a write: all at the end, after a fault what its fate leaves, or no change
abbrev pub appended_by : {A : Type 0} → Fate → Bytes → Result A TreeFault → Bytes → Bytes
appended_by fate bytes (Ok value) written = written ++ bytes
appended_by Works bytes (Err fault) written = written
appended_by Fails bytes (Err fault) written = written
appended_by (Tears count) bytes (Err Failed) written = written ++ take count bytes
appended_by (Tears count) bytes (Err NoMemory) written = written

-- the sink after a write with this answer
abbrev pub after_write : {A : Type 0} → Bytes → Result A TreeFault → MemOutput → MemOutput
after_write bytes r o = record {
  written = appended_by (write_fate (torn_of o)) bytes r o.written;
  fails = o.fails;
  writes = one_more o.writes;
  faults = if is_failed r then one_more o.faults else o.faults;
}
