-- A date pattern is plain bytes and forms joined.
use Rattle.std.proofs.Common.{◌≡◌, ◌≤◌, ℕ, Bool, true, false, not, ◌&&◌, ◌||◌, ◌==◌, nat_le, nat_lt, List, [], ◌∷◌, ◌++◌, length, codes, refl, ap, sym, subst, ◌∙◌, arith}
use Rattle.std.specs.List.{flat_map, list_all, list_any}
use Rattle.std.proofs.lemmas.Bool.{and_parts, eqb-true}
use Rattle.std.proofs.lemmas.Bool.Decides.{nat_tests}
use Rattle.hk_base.specs.Bytes.{Bytes}
use Rattle.hk_meta.specs.DatePattern.{form_letters, is_form, forms_from, pattern_ok}
use Rattle.hk_meta.specs.DateFormat.{form_text, format_from, format_date}
use Rattle.hk_meta.specs.declared.date.Moment.{Moment}
use Rattle.hk_laws.specs.Runs.{is_of, is_outside}
use Rattle.hk_laws.specs.DatePatterns.{PatternPart, plain, form, pattern_text, is_pattern_part, IsDatePattern, part_printed, AcceptsPatterns, PrintsParts}

either_way : (a b : ℕ) → (a == b) ≡ (b == a)
either_way a b = grind (arith, nat_tests)

form_same : (letter : ℕ) → is_form letter ≡ is_of (codes "YmdHMSeBbAa%") letter
form_same letter = ap (λ (p : ℕ → Bool). list_any p form_letters) (λ i c. either_way c letter i)

both : (a b : Bool) → a ≡ true → b ≡ true → (a && b) ≡ true
both true b e f = f
both false b e f = e

no_percent : (c : ℕ) → (c == 37) ≡ false → is_outside (codes "%") c ≡ true
no_percent c e = ap (λ b. not (b || false)) e

percent_not : (c : ℕ) → is_outside (codes "%") c ≡ true → (c == 37) ≡ false
percent_not c e = go (c == 37) e
  where
    go : (b : Bool) → not (b || false) ≡ true → b ≡ false
    go true e = let no_ : ⊥ = cc in absurd no_
    go false e = refl

record Splits (text : Bytes) : Type 0 where
  pub parts : List PatternPart
  pub spelled : text ≡ flat_map pattern_text parts
  pub fits : list_all is_pattern_part parts ≡ true

abbrev lead : Bool → Bytes → Bytes
lead true text = 37 ∷ text
lead false text = text

splits_more : (text : Bytes) (part : PatternPart) → is_pattern_part part ≡ true → Splits text → Splits (pattern_text part ++ text)
splits_more text part fits inner = record {
  parts = part ∷ inner.parts;
  spelled = ap (λ (t : Bytes). pattern_text part ++ t) inner.spelled;
  fits = both (is_pattern_part part) (list_all is_pattern_part inner.parts) fits inner.fits;
}

splits : (begun : Bool) (text : Bytes) → forms_from begun text ≡ true → Splits (lead begun text)
splits true [] e = let no_ : ⊥ = cc in absurd no_
splits false [] e = record { parts = []; spelled = refl; fits = refl }
splits true (c ∷ cs) e =
    let tests = and_parts (is_form c) (forms_from false cs) e in
    splits_more cs (form c) (sym (form_same c) ∙ tests.0) (splits false cs tests.1)
splits false (c ∷ cs) e =
    elim (c == 37) as (λ b. (c == 37) ≡ b → forms_from b cs ≡ true → Splits (c ∷ cs)) [
      | true ↦ λ is more. subst (λ n. Splits (n ∷ cs)) (sym (eqb-true c 37 is)) (splits true cs more)
      | false ↦ λ other more. splits_more cs (plain c) (no_percent c other) (splits false cs more)
    ] refl e

joins : (parts : List PatternPart) → list_all is_pattern_part parts ≡ true → forms_from false (flat_map pattern_text parts) ≡ true
joins [] fits = refl
joins (plain b ∷ parts) fits =
    let tests = and_parts (is_outside (codes "%") b) (list_all is_pattern_part parts) fits in
    ap (λ begun. forms_from begun (flat_map pattern_text parts)) (percent_not b tests.0) ∙ joins parts tests.1
joins (form letter ∷ parts) fits =
    let tests = and_parts (is_of (codes "YmdHMSeBbAa%") letter) (list_all is_pattern_part parts) fits in
    both (is_form letter) (forms_from false (flat_map pattern_text parts)) (form_same letter ∙ tests.0) (joins parts tests.1)

le_is : (n m : ℕ) → nat_le n m ≡ true → n ≤ m
le_is n m e = grind (arith, nat_tests)

is_le : (n m : ℕ) → n ≤ m → nat_le n m ≡ true
is_le n m e = grind (arith, nat_tests)

pub accepts_patterns : AcceptsPatterns pattern_ok
accepts_patterns pattern = (accepted, λ is. accepts is)
  where
    accepted : pattern_ok pattern ≡ true → IsDatePattern pattern
    accepted e =
        let tests = and_parts (nat_le (length pattern) 256 && list_all (λ b. nat_lt b 128) pattern) (forms_from false pattern) e in
        let more = and_parts (nat_le (length pattern) 256) (list_all (λ b. nat_lt b 128) pattern) tests.0 in
        let cut = splits false pattern tests.1 in
        record { parts = cut.parts; spelled = cut.spelled; fits = cut.fits; short = le_is (length pattern) 256 more.0; ascii = more.1 }

    accepts : IsDatePattern pattern → pattern_ok pattern ≡ true
    accepts is =
        both (nat_le (length pattern) 256 && list_all (λ b. nat_lt b 128) pattern) (forms_from false pattern)
        (both (nat_le (length pattern) 256) (list_all (λ b. nat_lt b 128) pattern) (is_le (length pattern) 256 is.short) is.ascii)
        (ap (forms_from false) is.spelled ∙ joins is.parts is.fits)

prints : (moment : Moment) (parts : List PatternPart) → list_all is_pattern_part parts ≡ true → format_from moment false (flat_map pattern_text parts) ≡ flat_map (part_printed moment) parts
prints moment [] fits = refl
prints moment (plain b ∷ parts) fits =
    let tests = and_parts (is_outside (codes "%") b) (list_all is_pattern_part parts) fits in
    let other = percent_not b tests.0 in
    rw other (ap (λ (t : Bytes). b ∷ t) (prints moment parts tests.1))
prints moment (form letter ∷ parts) fits =
    let tests = and_parts (is_of (codes "YmdHMSeBbAa%") letter) (list_all is_pattern_part parts) fits in
    ap (λ (t : Bytes). form_text moment letter ++ t) (prints moment parts tests.1)

pub prints_parts : PrintsParts format_date
prints_parts moment parts fits = prints moment parts fits
