-- What `parse` reads against `number_in`.
use Rattle.std.proofs.Common.{◌≡◌, ◌∙◌, ◌&&◌, ◌<◌, ◌≤◌, ◌^◌, ℕ, Bool, true, false, refl, ap, sym, subst, arith, length, Some, None, Result, Ok, Err, [], ◌∷◌, leb, inl, inr, ◌⊎◌}
use Rattle.std.specs.List.{list_all}
use Rattle.std.specs.Result.{result_ok}
use Rattle.std.specs.Char.{is_ascii_digit}
use Rattle.std.specs.Str.{all_ascii_digits}
use Rattle.std.specs.Str.Parse.{ParsesUnsigned, digits_value}
use Rattle.std.proofs.lemmas.Bool.{le-leb, lt-leb}
use Rattle.std.proofs.lemmas.Bool.Decides.{leb_tells}
use Rattle.std.proofs.lemmas.Str.Parse.{IsNumeralModel, numerals_by_value, parse_digits, tells_all_ascii_digits}
use Rattle.hk_base.specs.Bytes.{Bytes}
use Rattle.hk_words.specs.Numbers.{is_number_in, number_in}

own : IsNumeralModel (λ ds. all_ascii_digits ds ≡ true) (digits_value 10)
own = numerals_by_value (λ ds. all_ascii_digits ds ≡ true) tells_all_ascii_digits

pub same_test : (text : Bytes) → list_all is_ascii_digit text ≡ all_ascii_digits text
same_test [] = refl
same_test (b ∷ bs) = ap (λ t. is_ascii_digit b && t) (same_test bs)

and_false : (b : Bool) → (b && false) ≡ false
and_false true = refl
and_false false = refl

abbrev tests : Bool → Bool → Bool → Bool → Bool → Bool
tests a b c d e = a && b && c && d && e

none_by : (least most : ℕ) (text : Bytes) → is_number_in least most text ≡ false → number_in least most text ≡ None
none_by least most text e = rw e refl

pub not_digits : (least most : ℕ) (text : Bytes) → all_ascii_digits text ≡ false → number_in least most text ≡ None
not_digits least most text e = none_by least most text (rw e refl)

pub no_digit : (least most : ℕ) (text : Bytes) → length text ≡ 0 → number_in least most text ≡ None
no_digit least most text e =
    let short : leb 1 (length text) ≡ false = lt-leb 1 (length text) (omega arith) in
    none_by least most text (rw (short, and_false (all_ascii_digits text)) refl)

pub too_long : (least most : ℕ) (text : Bytes) → 10 < length text → number_in least most text ≡ None
too_long least most text h =
    let long : leb (length text) 10 ≡ false = lt-leb (length text) 10 h in
    none_by least most text (rw (long, and_false (all_ascii_digits text && leb 1 (length text))) refl)

too_large : (least most : ℕ) (text : Bytes) → most < digits_value 10 text → number_in least most text ≡ None
too_large least most text h =
    let high : leb (digits_value 10 text) most ≡ false = lt-leb (digits_value 10 text) most h in
    none_by least most text (rw (high, and_false (all_ascii_digits text && leb 1 (length text) && leb (length text) 10 && leb least (digits_value 10 text))) refl)

-- the tests on the text that stand before `parse`
pub record IsShortNumeral (text : Bytes) : Type 0 where
  pub digits : all_ascii_digits text ≡ true
  pub some : 0 < length text
  pub few : length text ≤ 10

read_fails : {E : Type 0} (least most : ℕ) (text : Bytes) (r : Result ℕ E) (e : E) → ParsesUnsigned 32 10 text r → r ≡ Err e → IsShortNumeral text → most < 2 ^ 32 → number_in least most text ≡ None
read_fails least most text (Ok n) e h is s below = cc
read_fails least most text (Err x) e h is s below = go (leb_tells (2 ^ 32) (digits_value 10 text))
  where
    go : ((leb (2 ^ 32) (digits_value 10 text) ≡ true) × (2 ^ 32 ≤ digits_value 10 text)) ⊎ ((leb (2 ^ 32) (digits_value 10 text) ≡ false) × (digits_value 10 text < 2 ^ 32)) → number_in least most text ≡ None
    go (inl t) = let large : 2 ^ 32 ≤ digits_value 10 text = t.1 in too_large least most text (omega arith)
    go (inr t) = absurd (parse_digits own 32 text (Err x) h s.digits (s.some, t.1))

read_gives : {E : Type 0} (n : ℕ) (text : Bytes) (r : Result ℕ E) → ParsesUnsigned 32 10 text r → result_ok r ≡ Some n → IsShortNumeral text → n ≡ digits_value 10 text
read_gives {E = E} n text (Ok m) h e s =
    let same : n ≡ m = cc in
    same ∙ (parse_digits own {E = E} 32 text (Ok m) h s.digits).1
read_gives n text (Err x) h e s = cc

number_gives : (least most : ℕ) (text : Bytes) → IsShortNumeral text → least ≤ digits_value 10 text → digits_value 10 text ≤ most → number_in least most text ≡ Some (digits_value 10 text)
number_gives least most text s low high =
    let one : leb 1 (length text) ≡ true = le-leb 1 (length text) (omega (arith, s.some)) in
    let ten : leb (length text) 10 ≡ true = le-leb (length text) 10 s.few in
    let above : leb least (digits_value 10 text) ≡ true = le-leb least (digits_value 10 text) low in
    let below : leb (digits_value 10 text) most ≡ true = le-leb (digits_value 10 text) most high in
    rw (s.digits, one, ten, above, below) refl

-- what `parse` gives, as `ok()` hands it on
pub read_none : {E : Type 0} (least most : ℕ) (text : Bytes) (r : Result ℕ E) → ParsesUnsigned 32 10 text r → result_ok r ≡ None → IsShortNumeral text → most < 2 ^ 32 → number_in least most text ≡ None
read_none least most text (Ok n) h e s below = cc
read_none least most text (Err x) h e s below = read_fails least most text (Err x) x h refl s below

pub read_some : {E : Type 0} (least most n : ℕ) (text : Bytes) (r : Result ℕ E) → ParsesUnsigned 32 10 text r → result_ok r ≡ Some n → IsShortNumeral text → least ≤ n → n ≤ most
    → Some n ≡ number_in least most text
read_some least most n text r h e s low high =
    let same = read_gives n text r h e s in
    ap Some same ∙ sym (number_gives least most text s (subst (λ k. least ≤ k) same low) (subst (λ k. k ≤ most) same high))
