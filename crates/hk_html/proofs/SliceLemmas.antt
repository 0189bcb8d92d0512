-- Neighbouring parts of a text.
use Rattle.std.proofs.Common.{◌≡◌, ℕ, ◌+◌, ◌-◌, ◌≤◌, List, [], ◌++◌, drop, take, get_or, arith}
use Rattle.std.specs.List.{slice_range}
use Rattle.std.proofs.lemmas.List.{drop-drop, get_or-drop}
use Rattle.std.proofs.Math.Seq.{take-add}

pub slice_range-add : (xs : List ℕ) (a b n : ℕ) → a ≤ b → slice_range xs a (b + n) ≡ slice_range xs a b ++ take n (drop b xs)
slice_range-add xs a b n order =
    let more : b + n - a ≡ (b - a) + n = omega arith in
    let back : a + (b - a) ≡ b = omega arith in
    let rest = rw back at (drop-drop (b - a) a xs) in
    rw more (rw (take-add (b - a) n (drop a xs), rest))

pub slice_range-none : (xs : List ℕ) (a : ℕ) → slice_range xs a a ≡ []
slice_range-none xs a =
    let none : a - a ≡ 0 = omega arith in
    rw none

pub slice_range-from : (xs : List ℕ) (a b n : ℕ) → slice_range xs (a + b) (a + b + n) ≡ take n (drop b (drop a xs))
slice_range-from xs a b n =
    let same : (a + b + n) - (a + b) ≡ n = omega arith in
    rw (same, drop-drop b a xs)

pub get_or-ahead : (xs : List ℕ) (at : ℕ) → get_or (drop at xs) 0 0 ≡ get_or xs at 0
get_or-ahead xs at =
    let same : at + 0 ≡ at = omega arith in
    rw same at (get_or-drop at xs 0 0)
