-- What the printer of dates shows by a date pattern.
use Rattle.std.proofs.Common.{◌≡◌, ℕ, ◌≤◌, ◌==◌, ◌&&◌, ◌||◌, zero, suc, ℤ, pos, negsuc, codes, Bool, true, false, cond, [], ◌∷◌, ◌++◌, length, take, Ok, Err, refl, ap, sym, ◌∙◌, subst, arith, unsigned_abs, append_assoc, append-nil}
use Rattle.std.specs.Prelude.{nat_le, nat_lt, ◌≤ℤ◌}
use Rattle.std.specs.List.{list_any, list_all}
use Rattle.std.proofs.lemmas.Bool.Decides.{nat_tests}
use Rattle.hk_base.specs.Bytes.{Bytes}
use Rattle.jiff_strtime.specs.Directive.{plain, read_flag, colon_rest}
use Rattle.jiff_strtime.specs.Show.{Context, Shown, percent_text, directive_text, text_of, int_text, step_text, show_steps, show_format, shown_then, then_show, month_name as shown_month}
use Rattle.jiff_strtime.specs.declared.directive.Config.{Config}
use Rattle.jiff_strtime.specs.declared.directive.Locale.TheVariants.{Default}
use Rattle.hk_meta.specs.Date.{IsMoment, is_day}
use Rattle.hk_meta.specs.DateFormat.{places, form_text, format_from, format_date, month_name}
use Rattle.hk_meta.specs.DateParts.{parts}
use Rattle.hk_meta.specs.DatePattern.{is_form, forms_from, pattern_ok}
use Rattle.hk_meta.specs.declared.date.Moment.{Moment}

abbrev pub strict : Config
strict = record { locale = Default; lenient = false }

-- a context that holds the parts of a moment
abbrev pub at : Context → Moment → Context
at cx moment = record cx { parts = parts moment }

-- a letter of the pattern and what follows it
abbrev pub Prints : Context → Moment → ℕ → Type 0
Prints cx moment letter = (rest : Bytes) → percent_text strict (letter ∷ rest) (at cx moment) ≡ Ok (form_text moment letter, rest)

pub number_text : (pad n : ℕ) → int_text plain pad 2 (pos n) ≡ places 2 pad n
number_text pad n = let e : nat_le 0 n ≡ true = grind (arith, nat_tests) in rw e refl

pub year_text : (year : ℤ) → pos 0 ≤ℤ year → int_text plain 48 4 year ≡ places 4 48 (unsigned_abs year)
year_text (pos n) some = let e : nat_le 0 n ≡ true = grind (arith, nat_tests) in rw e refl
year_text (negsuc n) some = absurd (grind arith)

pub month_text : (moment : Moment) → is_day moment.year moment.month moment.day ≡ true → shown_month moment.month ≡ Ok (month_name moment)
month_text moment day =
    let low : nat_lt moment.month 1 ≡ false = grind (arith, nat_tests) in
    let high : nat_lt 12 moment.month ≡ false = grind (arith, nat_tests) in
    rw low (rw high refl)

module _ (cx : Context) (moment : Moment) where
  pub prints-percent : Prints cx moment 37
  unfolding read_flag colon_rest directive_text text_of form_text
  prints-percent rest = refl

  pub prints-year : pos 0 ≤ℤ moment.year → Prints cx moment 89
  unfolding read_flag colon_rest directive_text text_of form_text
  prints-year some rest = ap (λ text. Ok (text, rest)) (year_text moment.year some)

  pub prints-month : Prints cx moment 109
  unfolding read_flag colon_rest directive_text text_of form_text
  prints-month rest = ap (λ text. Ok (text, rest)) (number_text 48 moment.month)

  pub prints-day : Prints cx moment 100
  unfolding read_flag colon_rest directive_text text_of form_text
  prints-day rest = ap (λ text. Ok (text, rest)) (number_text 48 moment.day)

  pub prints-hour : Prints cx moment 72
  unfolding read_flag colon_rest directive_text text_of form_text
  prints-hour rest = ap (λ text. Ok (text, rest)) (number_text 48 moment.hour)

  pub prints-minute : Prints cx moment 77
  unfolding read_flag colon_rest directive_text text_of form_text
  prints-minute rest = ap (λ text. Ok (text, rest)) (number_text 48 moment.minute)

  pub prints-second : Prints cx moment 83
  unfolding read_flag colon_rest directive_text text_of form_text
  prints-second rest = ap (λ text. Ok (text, rest)) (number_text 48 moment.second)

  pub prints-spaced_day : Prints cx moment 101
  unfolding read_flag colon_rest directive_text text_of form_text
  prints-spaced_day rest = ap (λ text. Ok (text, rest)) (number_text 32 moment.day)

  pub prints-month_name : is_day moment.year moment.month moment.day ≡ true → Prints cx moment 66
  unfolding read_flag colon_rest directive_text text_of form_text
  prints-month_name day rest = ap (λ name. shown_then rest (then_show name (λ n. Ok n))) (month_text moment day)

  pub prints-month_short : is_day moment.year moment.month moment.day ≡ true → Prints cx moment 98
  unfolding read_flag colon_rest directive_text text_of form_text
  prints-month_short day rest = ap (λ name. shown_then rest (then_show name (λ n. Ok (take 3 n)))) (month_text moment day)

  pub prints-weekday : Prints cx moment 65
  unfolding read_flag colon_rest directive_text text_of form_text
  prints-weekday rest = refl

  pub prints-weekday_short : Prints cx moment 97
  unfolding read_flag colon_rest directive_text text_of form_text
  prints-weekday_short rest = refl

-- a letter among others
pub choose : (P : ℕ → Type 0) (k : ℕ) (ks : Bytes) (letter : ℕ) → list_any (λ c. c == letter) (k ∷ ks) ≡ true → P k → (list_any (λ c. c == letter) ks ≡ true → P letter) → P letter
choose P k ks letter among here there = by (k == letter) refl
  where
    by : (b : Bool) → (k == letter) ≡ b → P letter
    by true e = let same : k ≡ letter = grind (arith, nat_tests) in subst P same here
    by false e = there (sym (ap (λ b. b || list_any (λ c. c == letter) ks) e) ∙ among)

pub prints-form : (cx : Context) (moment : Moment) → IsMoment moment → (letter : ℕ) → is_form letter ≡ true → Prints cx moment letter
prints-form cx moment valid letter form =
    let P : ℕ → Type 0 = Prints cx moment in
    choose P 89 (codes "mdHMSeBbAa%") letter form (prints-year cx moment valid.0.0)
    (λ h. choose P 109 (codes "dHMSeBbAa%") letter h (prints-month cx moment)
    (λ h. choose P 100 (codes "HMSeBbAa%") letter h (prints-day cx moment)
    (λ h. choose P 72 (codes "MSeBbAa%") letter h (prints-hour cx moment)
    (λ h. choose P 77 (codes "SeBbAa%") letter h (prints-minute cx moment)
    (λ h. choose P 83 (codes "eBbAa%") letter h (prints-second cx moment)
    (λ h. choose P 101 (codes "BbAa%") letter h (prints-spaced_day cx moment)
    (λ h. choose P 66 (codes "bAa%") letter h (prints-month_name cx moment valid.1)
    (λ h. choose P 98 (codes "Aa%") letter h (prints-month_short cx moment valid.1)
    (λ h. choose P 65 (codes "a%") letter h (prints-weekday cx moment)
    (λ h. choose P 97 (codes "%") letter h (prints-weekday_short cx moment)
    (λ h. choose P 37 [] letter h (prints-percent cx moment) (λ h. cc))))))))))))

-- one step of the printer: a byte of its own, or a form
pub step-byte : (cx : Context) (moment : Moment) (c : ℕ) (cs : Bytes) → (c == 37) ≡ false → nat_lt c 128 ≡ true → step_text strict (c ∷ cs) (at cx moment) ≡ Ok (c ∷ [], cs)
step-byte cx moment c cs other ascii =
    let some : (length (c ∷ cs) == 0) ≡ false = grind (arith, nat_tests) in
    rw some (rw other (rw ascii refl))

pub step-form : (cx : Context) (moment : Moment) → IsMoment moment → (c d : ℕ) (ds : Bytes) → (c == 37) ≡ true → is_form d ≡ true → step_text strict (c ∷ d ∷ ds) (at cx moment) ≡ Ok (form_text moment d, ds)
step-form cx moment valid c d ds percent form =
    let some : (length (c ∷ d ∷ ds) == 0) ≡ false = grind (arith, nat_tests) in
    let more : (length (d ∷ ds) == 0) ≡ false = grind (arith, nat_tests) in
    rw some (rw percent (rw more (prints-form cx moment valid d form ds)))

pub step-end : (cx : Context) (moment : Moment) → step_text strict [] (at cx moment) ≡ Ok ([], [])
step-end cx moment = refl

abbrev pub Shows : Context → Moment → ℕ → Type 0
Shows cx moment fuel = (pattern shown : Bytes) → length pattern ≤ fuel → forms_from false pattern ≡ true → list_all (λ c. nat_lt c 128) pattern ≡ true → show_steps fuel strict pattern (at cx moment) shown ≡ Ok (shown ++ format_from moment false pattern)

pub shows-none : (cx : Context) (moment : Moment) (fuel : ℕ) → Shows cx moment fuel → (shown : Bytes) → show_steps (suc fuel) strict [] (at cx moment) shown ≡ Ok (shown ++ [])
unfolding show_steps
shows-none cx moment fuel rest shown = rest [] (shown ++ []) (omega arith) refl refl ∙ ap Ok (append-nil (shown ++ []))

pub shows-byte : (cx : Context) (moment : Moment) (fuel : ℕ) → Shows cx moment fuel → (c : ℕ) (cs shown : Bytes) → length cs ≤ fuel → (c == 37) ≡ false → nat_lt c 128 ≡ true → forms_from false cs ≡ true → list_all (λ c. nat_lt c 128) cs ≡ true → show_steps (suc fuel) strict (c ∷ cs) (at cx moment) shown ≡ Ok (shown ++ (c ∷ format_from moment false cs))
unfolding show_steps
shows-byte cx moment fuel rest c cs shown short other byte forms ascii =
    rw (step-byte cx moment c cs other byte) (rest cs (shown ++ (c ∷ [])) short forms ascii ∙ ap Ok (append_assoc shown (c ∷ []) (format_from moment false cs)))

pub shows-form : (cx : Context) (moment : Moment) → IsMoment moment → (fuel : ℕ) → Shows cx moment fuel → (c d : ℕ) (ds shown : Bytes) → length ds ≤ fuel → (c == 37) ≡ true → is_form d ≡ true → forms_from false ds ≡ true → list_all (λ c. nat_lt c 128) ds ≡ true → show_steps (suc fuel) strict (c ∷ d ∷ ds) (at cx moment) shown ≡ Ok (shown ++ (form_text moment d ++ format_from moment false ds))
unfolding show_steps
shows-form cx moment valid fuel rest c d ds shown short percent form forms ascii =
    rw (step-form cx moment valid c d ds percent form) (rest ds (shown ++ form_text moment d) short forms ascii ∙ ap Ok (append_assoc shown (form_text moment d) (format_from moment false ds)))

pub and-left : (a b : Bool) → (a && b) ≡ true → a ≡ true
and-left true b both = refl
and-left false b both = both

pub and-right : (a b : Bool) → (a && b) ≡ true → b ≡ true
and-right true b both = both
and-right false b both = cc

-- a byte that is no percent sign, or a form
pub shows-more : (cx : Context) (moment : Moment) → IsMoment moment → (fuel : ℕ) → Shows cx moment fuel → (c : ℕ) (cs shown : Bytes) → length (c ∷ cs) ≤ suc fuel → forms_from false (c ∷ cs) ≡ true → list_all (λ c. nat_lt c 128) (c ∷ cs) ≡ true → show_steps (suc fuel) strict (c ∷ cs) (at cx moment) shown ≡ Ok (shown ++ format_from moment false (c ∷ cs))
shows-more cx moment valid fuel rest c [] shown short forms ascii = by (c == 37) refl
  where
    by : (b : Bool) → (c == 37) ≡ b → show_steps (suc fuel) strict (c ∷ []) (at cx moment) shown ≡ Ok (shown ++ format_from moment false (c ∷ []))
    by true e = let none : false ≡ true = sym (ap (λ b. forms_from b []) e) ∙ forms in cc
    by false e =
        shows-byte cx moment fuel rest c [] shown (omega arith) e (and-left (nat_lt c 128) true ascii) refl refl
        ∙ ap (λ b. Ok (shown ++ cond b (format_from moment true []) (c ∷ []))) (sym e)
shows-more cx moment valid fuel rest c (d ∷ ds) shown short forms ascii = by (c == 37) refl
  where
    by : (b : Bool) → (c == 37) ≡ b → show_steps (suc fuel) strict (c ∷ d ∷ ds) (at cx moment) shown ≡ Ok (shown ++ format_from moment false (c ∷ d ∷ ds))
    by true e =
        let form : (is_form d && forms_from false ds) ≡ true = sym (ap (λ b. forms_from b (d ∷ ds)) e) ∙ forms in
        let after : list_all (λ c. nat_lt c 128) ds ≡ true = and-right (nat_lt d 128) _ (and-right (nat_lt c 128) _ ascii) in
        shows-form cx moment valid fuel rest c d ds shown (omega (arith, short)) e (and-left (is_form d) (forms_from false ds) form) (and-right (is_form d) (forms_from false ds) form) after
        ∙ ap (λ b. Ok (shown ++ cond b (format_from moment true (d ∷ ds)) (c ∷ format_from moment false (d ∷ ds)))) (sym e)
    by false e =
        let form : forms_from false (d ∷ ds) ≡ true = sym (ap (λ b. forms_from b (d ∷ ds)) e) ∙ forms in
        shows-byte cx moment fuel rest c (d ∷ ds) shown (omega (arith, short)) e (and-left (nat_lt c 128) _ ascii) form (and-right (nat_lt c 128) _ ascii)
        ∙ ap (λ b. Ok (shown ++ cond b (format_from moment true (d ∷ ds)) (c ∷ format_from moment false (d ∷ ds)))) (sym e)

pub shows-zero : (cx : Context) (moment : Moment) → Shows cx moment 0
unfolding show_steps
shows-zero cx moment [] shown short forms ascii = ap Ok (sym (append-nil shown))
shows-zero cx moment (c ∷ cs) shown short forms ascii = absurd (omega arith)

pub shows-suc : (cx : Context) (moment : Moment) → IsMoment moment → (fuel : ℕ) → Shows cx moment fuel → Shows cx moment (suc fuel)
shows-suc cx moment valid fuel rest [] shown short forms ascii = shows-none cx moment fuel rest shown
shows-suc cx moment valid fuel rest (c ∷ cs) shown short forms ascii = shows-more cx moment valid fuel rest c cs shown short forms ascii

pub shows : (cx : Context) (moment : Moment) → IsMoment moment → (fuel : ℕ) → Shows cx moment fuel
shows cx moment valid zero = shows-zero cx moment
shows cx moment valid (suc fuel) = shows-suc cx moment valid fuel (shows cx moment valid fuel)

-- the whole pattern
pub shows-pattern : (cx : Context) (moment : Moment) (pattern : Bytes) → IsMoment moment → cx.parts ≡ parts moment → pattern_ok pattern ≡ true → show_format strict pattern cx ≡ Ok (format_date moment pattern)
shows-pattern cx moment pattern valid parts_is ok =
    let front = and-left (nat_le (length pattern) 256 && list_all (λ c. nat_lt c 128) pattern) (forms_from false pattern) ok in
    let forms = and-right (nat_le (length pattern) 256 && list_all (λ c. nat_lt c 128) pattern) (forms_from false pattern) ok in
    ap (λ p. show_format strict pattern (record cx { parts = p })) parts_is
    ∙ shows cx moment valid (length pattern) pattern [] (omega arith) forms (and-right (nat_le (length pattern) 256) (list_all (λ c. nat_lt c 128) pattern) front)

-- the text that was shown
abbrev pub shown_text : Shown → Bytes
shown_text (Ok text) = text
shown_text (Err e) = []
