use Rattle.std.proofs.Common.{◌≡◌, take, map}
use Rattle.std.specs.Prelude.{bytes_eq}
use Rattle.std.specs.List.{position_from}
use Rattle.std.specs.Option.{unwrap_or}
use Rattle.hk_replay.proofs.numbering.numbers_of.Given as goal

abbrev pub invariant-loop-found : goal.invariant-loop-found
invariant-loop-found l = l.numbers.items ≡ map (λ m. unwrap_or (position_from (λ own. bytes_eq own m.text) 0 l.known.texts) 0) (take l.found-index l.records)
