use Rattle.std.proofs.Common.{◌≡◌, ◌<◌, ◌^◌, drop}
use Rattle.hk_store.specs.Digits.{read_on}
use Rattle.hk_store.proofs.scan.value_of.Given as goal

-- the rest gives the whole number
abbrev pub invariant-loop-byte : goal.invariant-loop-byte
invariant-loop-byte l =
    record {
      fits : l.value < 2 ^ 64;
      rest : read_on l.value (drop l.byte-index l.line) ≡ read_on 0 l.line;
    }
