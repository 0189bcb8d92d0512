-- Quoted scalars are read exactly where they spell their values.
use Rattle.std.proofs.Common.{◌≡◌, ℕ, Bool, true, false, not, ◌&&◌, ◌||◌, ◌==◌, if◌then◌else◌, List, [], ◌∷◌, ◌++◌, map, codes, Option, Some, None, refl, ap, sym, subst, ◌∙◌, append_assoc, append-nil, inl, inr}
use Rattle.std.specs.List.{flat_map, list_all}
use Rattle.std.proofs.lemmas.Bool.{and_parts, eqb-true, or_cases}
use Rattle.hk_base.specs.Bytes.{Bytes}
use Rattle.hk_meta.specs.Scalar.{is_escape, unescaped, double_from, single_from, quoted, scalar_at, scalar, closed}
use Rattle.hk_laws.specs.Runs.{is_of, is_outside, BeginsOther}
use Rattle.hk_laws.specs.Scalars.{Letter, plain, quote, backslash, line_feed, tab, letter_text, letter_value, is_letter, IsDoubleQuoted, doubled, IsSingleQuoted, ReadsQuoted, escaped, ReadsBack}

-- a text was read with this value and this rest
abbrev Reads : Option (Bytes × Bytes) → Bytes → Bytes → Type 0
Reads r value rest = r ≡ Some (value, rest)

no_some : {B : Type 0} (value rest : Bytes) → Reads None value rest → B
no_some value rest e = let no_ : ⊥ = cc in absurd no_

-- a value and what stands after it
abbrev found : Bytes → Bytes → Option (Bytes × Bytes)
found value rest = Some (value, rest)

abbrev value_of : Option (Bytes × Bytes) → Bytes
value_of None = []
value_of (Some p) = p.0

abbrev rest_of : Option (Bytes × Bytes) → Bytes
rest_of None = []
rest_of (Some p) = p.1

both : (a b : Bool) → a ≡ true → b ≡ true → (a && b) ≡ true
both true b e f = f
both false b e f = e

-- a byte that is no double quote and no backslash
plain_tests : (c : ℕ) → is_outside (codes "\"\\") c ≡ true → ((c == 34) ≡ false) × ((c == 92) ≡ false)
plain_tests c e = go (c == 34) (c == 92) e
  where
    go : (a b : Bool) → not (a || (b || false)) ≡ true → (a ≡ false) × (b ≡ false)
    go true b e = let no_ : ⊥ = cc in absurd no_
    go false true e = let no_ : ⊥ = cc in absurd no_
    go false false e = (refl, refl)

tests_plain : (c : ℕ) → (c == 34) ≡ false → (c == 92) ≡ false → is_outside (codes "\"\\") c ≡ true
tests_plain c e f = rw (e, f)

plain_step : (value : Bytes) (c : ℕ) (cs : Bytes) → (c == 34) ≡ false → (c == 92) ≡ false → double_from value false (c ∷ cs) ≡ double_from (value ++ (c ∷ [])) false cs
plain_step value c cs e f = rw (e, f)

more_value : (before : Bytes) (b : ℕ) (after rest : Bytes) → found ((before ++ (b ∷ [])) ++ after) rest ≡ found (before ++ (b ∷ after)) rest
more_value before b after rest = ap (λ (v : Bytes). found v rest) (append_assoc before (b ∷ []) after)

double_reads : (letters : List Letter) (before rest : Bytes) → list_all is_letter letters ≡ true → double_from before false (flat_map letter_text letters ++ (34 ∷ rest)) ≡ Some (before ++ flat_map letter_value letters, rest)
double_reads [] before rest fits = ap (λ (v : Bytes). found v rest) (sym (append-nil before))
double_reads (plain c ∷ letters) before rest fits =
    let tests = and_parts (is_outside (codes "\"\\") c) (list_all is_letter letters) fits in
    let other = plain_tests c tests.0 in
    plain_step before c (flat_map letter_text letters ++ (34 ∷ rest)) other.0 other.1
    ∙ double_reads letters (before ++ (c ∷ [])) rest tests.1
    ∙ more_value before c (flat_map letter_value letters) rest
double_reads (quote ∷ letters) before rest fits = double_reads letters (before ++ (34 ∷ [])) rest fits ∙ more_value before 34 (flat_map letter_value letters) rest
double_reads (backslash ∷ letters) before rest fits = double_reads letters (before ++ (92 ∷ [])) rest fits ∙ more_value before 92 (flat_map letter_value letters) rest
double_reads (line_feed ∷ letters) before rest fits = double_reads letters (before ++ (10 ∷ [])) rest fits ∙ more_value before 10 (flat_map letter_value letters) rest
double_reads (tab ∷ letters) before rest fits = double_reads letters (before ++ (9 ∷ [])) rest fits ∙ more_value before 9 (flat_map letter_value letters) rest

-- what was read after a double quote, given what the bytes before came to
record Spelled (before text value rest : Bytes) : Type 0 where
  pub letters : List Letter
  pub fits : list_all is_letter letters ≡ true
  pub spelled : text ≡ flat_map letter_text letters ++ (34 ∷ rest)
  pub means : value ≡ before ++ flat_map letter_value letters

one_letter : (l : Letter) (b : ℕ) (before text value rest : Bytes) → is_letter l ≡ true → letter_value l ≡ b ∷ [] → Spelled (before ++ (b ∷ [])) text value rest → Spelled before (letter_text l ++ text) value rest
one_letter l b before text value rest fits is inner = record {
  letters = l ∷ inner.letters;
  fits = both (is_letter l) (list_all is_letter inner.letters) fits inner.fits;
  spelled = ap (λ (t : Bytes). letter_text l ++ t) inner.spelled ∙ sym (append_assoc (letter_text l) (flat_map letter_text inner.letters) (34 ∷ rest));
  means = inner.means ∙ append_assoc before (b ∷ []) (flat_map letter_value inner.letters) ∙ ap (λ (v : Bytes). before ++ (v ++ flat_map letter_value inner.letters)) (sym is);
}

abbrev lead : Bool → Bytes → Bytes
lead true text = 92 ∷ text
lead false text = text

closes : (before cs value rest : Bytes) → found before cs ≡ found value rest → Spelled before (34 ∷ cs) value rest
closes before cs value rest e =
    let v : before ≡ value = ap value_of e in
    let r : cs ≡ rest = ap rest_of e in
    record { letters = []; fits = refl; spelled = ap (λ (t : Bytes). 34 ∷ t) r; means = sym v ∙ sym (append-nil before) }

escape_is : (P : ℕ → Type 0) (c : ℕ) → is_escape c ≡ true → P 34 → P 92 → P 110 → P 116 → P c
escape_is P c e q b n t =
    elim (or_cases (((c == 34) || (c == 92)) || (c == 110)) (c == 116) e) [
      | inl most ↦ elim (or_cases ((c == 34) || (c == 92)) (c == 110) most) [
        | inl more ↦ elim (or_cases (c == 34) (c == 92) more) [
          | inl i ↦ subst P (sym (eqb-true c 34 i)) q
          | inr i ↦ subst P (sym (eqb-true c 92 i)) b
        ]
        | inr i ↦ subst P (sym (eqb-true c 110 i)) n
      ]
      | inr i ↦ subst P (sym (eqb-true c 116 i)) t
    ]

double_spelled : (begun : Bool) (text before value rest : Bytes) → double_from before begun text ≡ Some (value, rest) → Spelled before (lead begun text) value rest
double_spelled true [] before value rest e = no_some value rest e
double_spelled false [] before value rest e = no_some value rest e
double_spelled true (c ∷ cs) before value rest e =
    elim (is_escape c) as (λ b. is_escape c ≡ b → (if b then double_from (before ++ (unescaped c ∷ [])) false cs else None) ≡ Some (value, rest) → Spelled before (92 ∷ (c ∷ cs)) value rest) [
      | true ↦ λ is more.
          escape_is (λ n. Spelled (before ++ (unescaped n ∷ [])) cs value rest → Spelled before (92 ∷ (n ∷ cs)) value rest) c is
          (one_letter quote 34 before cs value rest refl refl)
          (one_letter backslash 92 before cs value rest refl refl)
          (one_letter line_feed 10 before cs value rest refl refl)
          (one_letter tab 9 before cs value rest refl refl)
          (double_spelled false cs (before ++ (unescaped c ∷ [])) value rest more)
      | false ↦ λ is more. no_some value rest more
    ] refl e
double_spelled false (c ∷ cs) before value rest e =
    elim (c == 34) as (λ b. (c == 34) ≡ b → (if b then Some (before, cs) else (if c == 92 then double_from before true cs else double_from (before ++ (c ∷ [])) false cs)) ≡ Some (value, rest) → Spelled before (c ∷ cs) value rest) [
      | true ↦ λ is done. subst (λ n. Spelled before (n ∷ cs) value rest) (sym (eqb-true c 34 is)) (closes before cs value rest done)
      | false ↦ λ no_quote. elim (c == 92) as (λ b. (c == 92) ≡ b → (if b then double_from before true cs else double_from (before ++ (c ∷ [])) false cs) ≡ Some (value, rest) → Spelled before (c ∷ cs) value rest) [
        | true ↦ λ is more. subst (λ n. Spelled before (n ∷ cs) value rest) (sym (eqb-true c 92 is)) (double_spelled true cs before value rest more)
        | false ↦ λ no_slash more. one_letter (plain c) c before cs value rest (tests_plain c no_quote no_slash) refl (double_spelled false cs (before ++ (c ∷ [])) value rest more)
      ] refl
    ] refl e

pub reads_double : ReadsQuoted (quoted 34) IsDoubleQuoted
unfolding quoted
reads_double text value rest = (
  λ e. let s = double_spelled false text [] value rest e in record { letters = s.letters; fits = s.fits; spelled = s.spelled; means = s.means },
  λ is. ap (double_from [] false) is.spelled ∙ double_reads is.letters [] rest is.fits ∙ ap (λ (v : Bytes). found v rest) (sym is.means),
)

-- single quotes
other_doubled : (c : ℕ) → (c == 39) ≡ false → doubled c ≡ c ∷ []
other_doubled c e = rw e

other_step : (value : Bytes) (c : ℕ) (cs : Bytes) → (c == 39) ≡ false → single_from value false (c ∷ cs) ≡ single_from (value ++ (c ∷ [])) false cs
other_step value c cs e = rw e

ended_reads : (value rest : Bytes) → BeginsOther (is_of (codes "'")) rest → single_from value true rest ≡ Some (value, rest)
ended_reads value [] ended = refl
ended_reads value (c ∷ cs) ended =
    let other : (c == 39) ≡ false = go (c == 39) ended in
    rw other
  where
    go : (b : Bool) → (b || false) ≡ false → b ≡ false
    go true e = e
    go false e = refl

single_reads : (value before rest : Bytes) → BeginsOther (is_of (codes "'")) rest → single_from before false (flat_map doubled value ++ (39 ∷ rest)) ≡ Some (before ++ value, rest)
single_reads [] before rest ended = ended_reads before rest ended ∙ ap (λ (v : Bytes). found v rest) (sym (append-nil before))
single_reads (c ∷ cs) before rest ended =
    elim (c == 39) as (λ b. (c == 39) ≡ b → single_from before false ((doubled c ++ flat_map doubled cs) ++ (39 ∷ rest)) ≡ Some (before ++ (c ∷ cs), rest)) [
      | true ↦ λ is.
          subst (λ n. single_from before false ((doubled n ++ flat_map doubled cs) ++ (39 ∷ rest)) ≡ Some (before ++ (n ∷ cs), rest)) (sym (eqb-true c 39 is))
          (single_reads cs (before ++ (39 ∷ [])) rest ended ∙ ap (λ (v : Bytes). found v rest) (append_assoc before (39 ∷ []) cs))
      | false ↦ λ other.
          ap (λ (t : Bytes). single_from before false ((t ++ flat_map doubled cs) ++ (39 ∷ rest))) (other_doubled c other)
          ∙ other_step before c (flat_map doubled cs ++ (39 ∷ rest)) other
          ∙ single_reads cs (before ++ (c ∷ [])) rest ended
          ∙ ap (λ (v : Bytes). found v rest) (append_assoc before (c ∷ []) cs)
    ] refl

-- what was read after a single quote
record Paired (before text value rest : Bytes) : Type 0 where
  pub more : Bytes
  pub spelled : text ≡ flat_map doubled more ++ (39 ∷ rest)
  pub ended : BeginsOther (is_of (codes "'")) rest
  pub means : value ≡ before ++ more

one_byte : (c : ℕ) (before text value rest : Bytes) → Paired (before ++ (c ∷ [])) text value rest → Paired before (doubled c ++ text) value rest
one_byte c before text value rest inner = record {
  more = c ∷ inner.more;
  spelled = ap (λ (t : Bytes). doubled c ++ t) inner.spelled ∙ sym (append_assoc (doubled c) (flat_map doubled inner.more) (39 ∷ rest));
  ended = inner.ended;
  means = inner.means ∙ append_assoc before (c ∷ []) inner.more;
}

abbrev quote_lead : Bool → Bytes → Bytes
quote_lead true text = 39 ∷ text
quote_lead false text = text

quote_closes : (before cs value rest : Bytes) → BeginsOther (is_of (codes "'")) cs → found before cs ≡ found value rest → Paired before (39 ∷ cs) value rest
quote_closes before cs value rest ended e =
    let v : before ≡ value = ap value_of e in
    let r : cs ≡ rest = ap rest_of e in
    record { more = []; spelled = ap (λ (t : Bytes). 39 ∷ t) r; ended = subst (λ (t : Bytes). BeginsOther (is_of (codes "'")) t) r ended; means = sym v ∙ sym (append-nil before) }

single_spelled : (begun : Bool) (text before value rest : Bytes) → single_from before begun text ≡ Some (value, rest) → Paired before (quote_lead begun text) value rest
single_spelled true [] before value rest e = quote_closes before [] value rest tt e
single_spelled false [] before value rest e = no_some value rest e
single_spelled true (c ∷ cs) before value rest e =
    elim (c == 39) as (λ b. (c == 39) ≡ b → (if b then single_from (before ++ (c ∷ [])) false cs else Some (before, c ∷ cs)) ≡ Some (value, rest) → Paired before (39 ∷ (c ∷ cs)) value rest) [
      | true ↦ λ is more.
          subst (λ n. Paired (before ++ (n ∷ [])) cs value rest → Paired before (39 ∷ (n ∷ cs)) value rest) (sym (eqb-true c 39 is))
          (one_byte 39 before cs value rest) (single_spelled false cs (before ++ (c ∷ [])) value rest more)
      | false ↦ λ other done. quote_closes before (c ∷ cs) value rest (ap (λ b. b || false) other) done
    ] refl e
single_spelled false (c ∷ cs) before value rest e =
    elim (c == 39) as (λ b. (c == 39) ≡ b → (if b then single_from before true cs else single_from (before ++ (c ∷ [])) false cs) ≡ Some (value, rest) → Paired before (c ∷ cs) value rest) [
      | true ↦ λ is more. subst (λ n. Paired before (n ∷ cs) value rest) (sym (eqb-true c 39 is)) (single_spelled true cs before value rest more)
      | false ↦ λ other more.
          subst (λ (t : Bytes). Paired before (t ++ cs) value rest) (other_doubled c other) (one_byte c before cs value rest (single_spelled false cs (before ++ (c ∷ [])) value rest more))
    ] refl e

pub reads_single : ReadsQuoted (quoted 39) IsSingleQuoted
unfolding quoted
reads_single text value rest = (
  λ e. let s = single_spelled false text [] value rest e in
      record { spelled = s.spelled ∙ ap (λ (v : Bytes). flat_map doubled v ++ (39 ∷ rest)) (sym s.means); ended = s.ended },
  λ is. ap (single_from [] false) is.spelled ∙ single_reads value [] rest is.ended,
)

-- the letter that a byte is printed as
abbrev letter_of : ℕ → Letter
letter_of b = if b == 34 then quote else (if b == 92 then backslash else (if b == 10 then line_feed else (if b == 9 then tab else plain b)))

record Prints (b : ℕ) (l : Letter) (text : Bytes) : Type 0 where
  pub fits : is_letter l ≡ true
  pub spelled : letter_text l ≡ text
  pub means : letter_value l ≡ b ∷ []

prints : (b : ℕ) → Prints b (letter_of b) (escaped b)
prints b =
    elim (b == 34) as (λ t. (b == 34) ≡ t → Prints b (if t then quote else (if b == 92 then backslash else (if b == 10 then line_feed else (if b == 9 then tab else plain b))))
    (if t then codes "\\\"" else (if b == 92 then codes "\\\\" else (if b == 10 then codes "\\n" else (if b == 9 then codes "\\t" else b ∷ []))))) [
      | true ↦ λ e. record { fits = refl; spelled = refl; means = ap (λ n. n ∷ []) (sym (eqb-true b 34 e)) }
      | false ↦ λ no_quote. elim (b == 92) as (λ t. (b == 92) ≡ t → Prints b (if t then backslash else (if b == 10 then line_feed else (if b == 9 then tab else plain b)))
          (if t then codes "\\\\" else (if b == 10 then codes "\\n" else (if b == 9 then codes "\\t" else b ∷ [])))) [
            | true ↦ λ e. record { fits = refl; spelled = refl; means = ap (λ n. n ∷ []) (sym (eqb-true b 92 e)) }
            | false ↦ λ no_slash. elim (b == 10) as (λ t. (b == 10) ≡ t → Prints b (if t then line_feed else (if b == 9 then tab else plain b)) (if t then codes "\\n" else (if b == 9 then codes "\\t" else b ∷ []))) [
              | true ↦ λ e. record { fits = refl; spelled = refl; means = ap (λ n. n ∷ []) (sym (eqb-true b 10 e)) }
              | false ↦ λ _. elim (b == 9) as (λ t. (b == 9) ≡ t → Prints b (if t then tab else plain b) (if t then codes "\\t" else b ∷ [])) [
                | true ↦ λ e. record { fits = refl; spelled = refl; means = ap (λ n. n ∷ []) (sym (eqb-true b 9 e)) }
                | false ↦ λ _. record { fits = tests_plain b no_quote no_slash; spelled = refl; means = refl }
              ] refl
            ] refl
          ] refl
    ] refl

letters_fit : (value : Bytes) → list_all is_letter (map letter_of value) ≡ true
letters_fit [] = refl
letters_fit (b ∷ bs) = both (is_letter (letter_of b)) (list_all is_letter (map letter_of bs)) (prints b).fits (letters_fit bs)

letters_spell : (value : Bytes) → flat_map letter_text (map letter_of value) ≡ flat_map escaped value
letters_spell [] = refl
letters_spell (b ∷ bs) = ap (λ (t : Bytes). t ++ flat_map letter_text (map letter_of bs)) (prints b).spelled ∙ ap (λ (t : Bytes). escaped b ++ t) (letters_spell bs)

letters_mean : (value : Bytes) → flat_map letter_value (map letter_of value) ≡ value
letters_mean [] = refl
letters_mean (b ∷ bs) = ap (λ (t : Bytes). t ++ flat_map letter_value (map letter_of bs)) (prints b).means ∙ ap (λ (t : Bytes). b ∷ t) (letters_mean bs)

double_back : (value : Bytes) → quoted 34 (flat_map escaped value ++ codes "\"") ≡ Some (value, [])
double_back value = (reads_double (flat_map escaped value ++ codes "\"") value []).1 (record {
  letters = map letter_of value;
  fits = letters_fit value;
  spelled = ap (λ (t : Bytes). t ++ codes "\"") (sym (letters_spell value));
  means = sym (letters_mean value);
})

single_back : (value : Bytes) → quoted 39 (flat_map doubled value ++ codes "'") ≡ Some (value, [])
single_back value = (reads_single (flat_map doubled value ++ codes "'") value []).1 (record { spelled = refl; ended = tt })

pub reads_back : ReadsBack scalar
unfolding scalar_at
reads_back in_list value = (ap closed (double_back value), ap closed (single_back value))
