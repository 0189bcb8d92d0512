-- Which calls of a tree in memory fail, and what is counted.
use Rattle.std.specs.Prelude.{ℕ, ◌+◌, ◌==◌, Bool, false, nat_le, List, Option, Some, None, find, if◌then◌else◌}
use Rattle.hk_outside.specs.declared.call.CallKind.{CallKind}
use Rattle.hk_outside.specs.declared.call.Calls.{Calls}
use Rattle.hk_outside.specs.declared.call.Fail.{Fail}
use Rattle.hk_outside.specs.declared.failures.Fate.{Fate}
use Rattle.hk_outside.specs.declared.failures.Fate.TheVariants.{Works, Fails, Tears}
use Rattle.hk_outside.specs.Call.{same_kind, made, counted, no_calls, one_more}

-- the calls that are to fail, the number of calls before all fail, the calls so far, and how many failed
pub record Failing : Type 0 where
  pub fails : List Fail
  pub fuse : Option ℕ
  pub calls : Calls
  pub faults : ℕ

-- before the first call
abbrev pub failing : List Fail → Option ℕ → Failing
failing fails fuse = record { fails = fails; fuse = fuse; calls = no_calls; faults = 0 }

-- whether all calls fail after so many
abbrev pub is_burnt : Option ℕ → ℕ → Bool
is_burnt None all = false
is_burnt (Some calls) all = nat_le calls all

-- whether a member names the call of a kind that has this number
abbrev pub names : CallKind → ℕ → Fail → Bool
names kind number fail = if same_kind fail.call kind then fail.number == number else false

abbrev pub torn_fate : Option ℕ → Fate
torn_fate None = Fails
torn_fate (Some count) = Tears count

abbrev pub member_fate : Option Fail → Fate
member_fate None = Works
member_fate (Some fail) = torn_fate fail.torn

-- what becomes of the next call of a kind: the fuse first, and then the first member that names the call
abbrev pub fate_of : CallKind → Failing → Fate
fate_of kind f = if is_burnt f.fuse f.calls.all then Fails else member_fate (find (names kind (made kind f.calls + 1)) f.fails)

-- one more call of a kind
abbrev pub begun : CallKind → Failing → Failing
begun kind f = record f { calls = counted kind f.calls }

-- one more call that failed
abbrev pub raised : Failing → Failing
raised f = record f { faults = one_more f.faults }
