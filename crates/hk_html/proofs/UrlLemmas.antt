-- Escaped bytes, as `percent_encoding` gives them.
use Rattle.std.proofs.Common.{◌≡◌, ℕ, suc, ◌/◌, ◌%◌, ◌<◌, true, false, not, Bool, List, [], ◌∷◌, length, get_or, cond, arith, refl}
use Rattle.std.specs.List.{flat_map}
use Rattle.std.proofs.lemmas.Bool.{agree_below, agree_below_at}
use Rattle.percent_encoding.specs.Percent.{percent_encode, percent_encode_byte, encode_byte}
use Rattle.percent_encoding.specs.AsciiSet.{should_percent_encode}
use Rattle.hk_html.specs.declared.url.TheConstants.{ESCAPED}
use Rattle.hk_html.specs.Url.{is_plain, escaped}

-- the set leaves out exactly the plain bytes
table : agree_below (should_percent_encode ESCAPED) (λ b. not (is_plain b)) 256 ≡ true
unfolding should_percent_encode
table = refl

swapped : (t : Bool) (x y : List ℕ) → cond (not t) x y ≡ cond t y x
swapped true x y = refl
swapped false x y = refl

encode_byte_is : (b : ℕ) → b < 256 → encode_byte ESCAPED b ≡ escaped b
unfolding percent_encode_byte
encode_byte_is b small =
    let same = agree_below_at (should_percent_encode ESCAPED) (λ b. not (is_plain b)) 256 b table small in
    let high : b / 16 % 16 ≡ b / 16 = omega arith in
    rw (same, high) (swapped (is_plain b) _ _)

pub percent_encode_is : (bytes : List ℕ) → ((i : ℕ) → i < length bytes → get_or bytes i 0 < 256) → percent_encode ESCAPED bytes ≡ flat_map escaped bytes
unfolding percent_encode
percent_encode_is [] small = refl
percent_encode_is (b ∷ bytes) small =
    let first = encode_byte_is b (small 0 (omega arith)) in
    let rest = percent_encode_is bytes (λ i within. small (suc i) (omega arith)) in
    rw (first, rest)
