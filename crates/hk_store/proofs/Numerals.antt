-- Numbers as they are written, and read.
use Rattle.std.proofs.Common.{◌≡◌, refl, sym, ap, ◌∙◌, subst, arith, rules, ℕ, zero, suc, ◌+◌, ◌*◌, ◌-◌, ◌<◌, ◌≤◌, ◌^◌, ◌==◌, Bool, true, false, not, [], ◌∷◌, length, get_or, drop, Option, Some, None, nat_lt, ltb-true, ltb-false, ne_eqb, eqb-true, eq-eqb}
use Rattle.std.specs.Prelude.{◌&&◌, ◌||◌, ◌≢◌, MatchOption}
use Rattle.std.specs.Char.{is_ascii_digit}
use Rattle.std.specs.Fmt.{decimal}
use Rattle.std.specs.List.{list_all}
use Rattle.std.specs.Str.{all_ascii_digits}
use Rattle.std.proofs.lemmas.Fmt.{digits_decimal, digits_value-decimal, decimal-digits_value, decimal_nonempty, decimal_digit, first_decimal}
use Rattle.std.proofs.lemmas.List.{drop_more}
use Rattle.std.proofs.lemmas.Str.Parse.{IsNumeralModel, numerals_by_fold}
use Rattle.hk_base.specs.Bytes.{Bytes}
use Rattle.hk_store.specs.Digits.{begins_plain, read_on}
use Rattle.hk_store.specs.Told.{Small}

own : IsNumeralModel (λ ds. all_ascii_digits ds ≡ true) (read_on 0)
own = numerals_by_fold _ (search rules) read_on (search rules)

digits-same : (ds : Bytes) → list_all is_ascii_digit ds ≡ all_ascii_digits ds
digits-same [] = refl
digits-same (c ∷ ds) = ap (λ b. is_ascii_digit c && b) (digits-same ds)

-- a number grows as it is read
read-grows : (n : ℕ) (cs : Bytes) → n ≤ read_on n cs
read-grows n [] = omega arith
read-grows n (c ∷ cs) = omega (arith, read-grows (10 * n + (c - 48)) cs)

pub read-step : (line : Bytes) (i v : ℕ) → i < length line → 10 * v + (get_or line i 0 - 48) ≤ read_on v (drop i line)
read-step line i v lt = subst (λ l. 10 * v + (get_or line i 0 - 48) ≤ read_on v l) (sym (drop_more line i 0 lt)) (read-grows (10 * v + (get_or line i 0 - 48)) (drop (i + 1) line))

pub not-below : (a b : ℕ) → (a < b → ⊥) → b ≤ a
not-below a b f = at (nat_lt a b) refl
  where
    at : (t : Bool) → nat_lt a b ≡ t → b ≤ a
    at true e = absurd (f (ltb-true a b e))
    at false e = ltb-false a b e

not-true : (b : Bool) → not b ≡ true → b ≡ false
not-true true e = cc
not-true false e = refl

or-first : (a b : Bool) → a ≡ true → (a || b) ≡ true
or-first true b e = refl
or-first false b e = cc

or-second : (a b : Bool) → b ≡ true → (a || b) ≡ true
or-second true b e = refl
or-second false b e = e

or-rest : (a b : Bool) → (a || b) ≡ true → a ≡ false → b ≡ true
or-rest true b e f = cc
or-rest false b e f = e

plain-by : (n : ℕ) (line : Bytes) → Small n → line ≡ decimal n → begins_plain line ≡ true
plain-by n [] small e = absurd (omega (arith, ap length e, decimal_nonempty n small))
plain-by zero (c ∷ cs) small e = or-second (not (c == 48)) (length (c ∷ cs) == 1) (eq-eqb (length (c ∷ cs)) 1 (ap length (e ∙ decimal_digit 0 (omega arith))))
plain-by (suc n) (c ∷ cs) small e =
    let high : 48 < get_or (c ∷ cs) 0 0 = subst (λ l. 48 < get_or l 0 0) (sym e) (first_decimal (suc n) (omega arith) small) in
    or-first (not (c == 48)) (length (c ∷ cs) == 1) (ap not (ne_eqb c 48 (λ w. absurd (omega (arith, high, w)))))

digits-by : (n : ℕ) (line : Bytes) → Small n → line ≡ decimal n → list_all is_ascii_digit line ≡ true
digits-by n line small e = digits-same line ∙ subst (λ l. all_ascii_digits l ≡ true) (sym e) (digits_decimal own n small)

pub false-true : (b : Bool) → b ≡ false → b ≡ true → ⊥
false-true b e f = let w : false ≡ true = sym e ∙ f in cc

pub not-plain : (line : Bytes) → begins_plain line ≡ false → (n : ℕ) → Small n → line ≢ decimal n
not-plain line bad n small e = false-true (begins_plain line) bad (plain-by n line small e)

pub not-digits : (line : Bytes) → list_all is_ascii_digit line ≡ false → (n : ℕ) → Small n → line ≢ decimal n
not-digits line bad n small e = false-true (list_all is_ascii_digit line) bad (digits-by n line small e)

too-large : (line : Bytes) → 2 ^ 64 ≤ read_on 0 line → (n : ℕ) → Small n → line ≢ decimal n
too-large line large n small e = absurd (omega (arith, large, small, ap (read_on 0) e, digits_value-decimal own n small))

one-digit : (line : Bytes) → begins_plain line ≡ true → get_or line 0 0 ≡ 48 → length line ≡ 1
one-digit [] good w = cc
one-digit (c ∷ cs) good w = eqb-true (length (c ∷ cs)) 1 (or-rest (not (c == 48)) (length (c ∷ cs) == 1) good (ap not (eq-eqb c 48 w)))

some-byte : (line : Bytes) → begins_plain line ≡ true → 0 < length line
some-byte [] good = cc
some-byte (c ∷ cs) good = omega arith

numeral-is : (line : Bytes) → begins_plain line ≡ true → list_all is_ascii_digit line ≡ true → read_on 0 line < 2 ^ 64 → line ≡ decimal (read_on 0 line)
numeral-is line good all small = sym (decimal-digits_value own line (sym (digits-same line) ∙ all) (some-byte line good) (one-digit line good) small)

pub numeral-match : (line : Bytes) (r : Option ℕ) → begins_plain line ≡ true → list_all is_ascii_digit line ≡ true → MatchOption r (2 ^ 64 ≤ read_on 0 line) (λ n. (n ≡ read_on 0 line) × (n < 2 ^ 64)) → MatchOption r ((n : ℕ) → Small n → line ≢ decimal n) (λ n. line ≡ decimal n)
numeral-match line None good all h = too-large line h
numeral-match line (Some n) good all h = numeral-is line good all (omega (arith, h.0, h.1)) ∙ ap decimal (sym h.0)
