-- Runs of bytes.
use Rattle.std.proofs.Common.{◌≡◌, ℕ, Bool, List, length, take}
use Rattle.std.specs.List.{prefix_len}
use Rattle.std.proofs.lemmas.List.{length-take-le}
use Rattle.std.proofs.lemmas.List.Sums.{prefix_len-le-length}

pub length-run : (p : ℕ → Bool) (xs : List ℕ) → length (take (prefix_len p xs) xs) ≡ prefix_len p xs
length-run p xs = length-take-le (prefix_len p xs) xs (prefix_len-le-length p xs)
