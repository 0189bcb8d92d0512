use Rattle.std.proofs.Common.{◌≡◌, ◌≤◌, length, drop}
use Rattle.std.specs.Prelude.{bytes_eq}
use Rattle.std.specs.List.{position_from}
use Rattle.hk_base.specs.Bytes.{Bytes}
use Rattle.hk_replay.specs.Places.{place_in}
use Rattle.hk_replay.proofs.texts.places_of.Given as goal

abbrev pub invariant-loop-at : goal.invariant-loop-at
invariant-loop-at l = (l.at ≤ length l.texts) × ((text : Bytes) → place_in l.places.entries text ≡ position_from (λ own. bytes_eq own text) l.at (drop l.at l.texts))

abbrev pub decreases-loop-at : goal.decreases-loop-at
decreases-loop-at l = l.at
