-- Numbers with zeros in front.
use Rattle.std.proofs.Common.{◌≡◌, ◌-◌, ◌++◌, ℕ, ap, ◌∙◌, arith, [], length, replicate, append-nil}
use Rattle.std.specs.Fmt.{decimal, padded_integral, char_count}
use Rattle.hk_gen.specs.Posts.{with_zeros}

-- so many zeros as digits are wanting, and the number
pub two-digits : (n : ℕ) → with_zeros 2 n ≡ replicate (2 - length (decimal n)) 48 ++ decimal n
unfolding padded_integral char_count
two-digits n =
    let room : 2 - length (decimal n) - 0 - 0 ≡ 2 - length (decimal n) = omega arith in
    ap (λ k. replicate k 48 ++ (decimal n ++ [])) room ∙ ap (λ t. replicate (2 - length (decimal n)) 48 ++ t) (append-nil (decimal n))

pub five-digits : (n : ℕ) → with_zeros 5 n ≡ replicate (5 - length (decimal n)) 48 ++ decimal n
unfolding padded_integral char_count
five-digits n =
    let room : 5 - length (decimal n) - 0 - 0 ≡ 5 - length (decimal n) = omega arith in
    ap (λ k. replicate k 48 ++ (decimal n ++ [])) room ∙ ap (λ t. replicate (5 - length (decimal n)) 48 ++ t) (append-nil (decimal n))
