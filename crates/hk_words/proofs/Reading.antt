-- Clap's reading of the words is the definition's.
use Rattle.std.proofs.Common.{◌≡◌, ◌∙◌, ◌||◌, ℕ, Bool, true, false, cond, refl, ap, ap₂, sym, subst, codes, is_some, option_map, Option, Some, None, List, [], ◌∷◌, ◌++◌}
use Rattle.std.specs.Prelude.{find, option_and_then, slice_get}
use Rattle.std.specs.Str.{bytes_eq}
use Rattle.std.proofs.lemmas.List.{append-nil}
use Rattle.std.specs.Borrow.{Bor}
use Rattle.clap.specs.Words.{IsAmong, Kinds, Row, Rule, fault_of, first_of, first_value, matches_of, one_of, one_text, rows_of}
use Rattle.clap.proofs.WalkLemmas.{first_value-rows, one_text-rows}
use Rattle.clap.specs.declared.parser.matches.Found.{Found}
use Rattle.clap.specs.Simple.{filled}
use Rattle.clap.specs.Lexer.{long_of, short_of}
use Rattle.clap.specs.Faults.{use_fault}
use Rattle.clap.specs.Walk.{more_values, row_text, with_default, at_row, has_row, idle, reading_by, used, values_or_missing, with_values, without, arg_by_index, arg_by_long}
use Rattle.clap.specs.declared.builder.value_parser.Reading.{Reading}
use Rattle.clap.specs.declared.parser.matches.ValueSource.TheVariants.{CommandLine, DefaultValue}
use Rattle.clap.specs.declared.error.kind.ErrorKind.{ErrorKind}
use Rattle.hk_words.specs.Given.{Given, after, given, nothing, with_attached, with_operand, with_word, with_workers}
use Rattle.hk_base.specs.Bytes.{Bytes}
use Rattle.hk_base.specs.Ties.{bytes-same}
use Rattle.hk_words.specs.Arguments.{Refused}
use Rattle.hk_words.specs.Leaf.{app, given_by, listed, operands_of, trace_rule, workers_rule}
use Rattle.hk_words.proofs.Lexing.{IsDashed, after_is, long_is, long_is_dashed, short_is_dashed, tail}
use Rattle.hk_words.proofs.Refusals.{dashed_first, dashed_second, dashed_workers, three_operands, twice_trace, twice_workers}
use Rattle.hk_words.proofs.Clap.{HasNoDashes, at, count_once, count_rule, flag_next, found_is, has_char, idle_turn, if_none, is_dashes, named_rule, number_once, number_rule, once, operand_next, or_left, or_right, rules_now, run, run_refused, run_taken, finishing, settle, start, trace_once, value_next, value_turn, word_next, workers_once}

-- ---- rows

abbrev pub find_id : Bytes → List Row → Option Row
find_id id rows = find (λ r. bytes_eq r.id id) rows

-- the row of an argument that was used with these values
abbrev pub row_for : Rule → List Bytes → Row
row_for a values = record { id = a.id; values = values_or_missing a values; count = None; source = Some CommandLine; reading = reading_by a }

pub has_find : (id : Bytes) (rows : List Row) → has_row id rows ≡ is_some (find_id id rows)
has_find id [] = refl
has_find id (r ∷ rows) = go (bytes_eq r.id id) (has_find id rows)
  where
    go : (b : Bool) → has_row id rows ≡ is_some (find_id id rows) → (b || has_row id rows) ≡ is_some (cond b (Some r) (find_id id rows))
    go true h = refl
    go false h = h

pub at_row_new : (id : Bytes) (change : Row → List Row) (missing rows : List Row) → find_id id rows ≡ None → at_row id change missing rows ≡ rows ++ missing
at_row_new id change missing [] e = refl
at_row_new id change missing (r ∷ rows) e = go (bytes_eq r.id id) e (at_row_new id change missing rows)
  where
    go : (b : Bool) → cond b (Some r) (find_id id rows) ≡ None → (find_id id rows ≡ None → at_row id change missing rows ≡ rows ++ missing)
        → cond b (change r ++ rows) (r ∷ at_row id change missing rows) ≡ r ∷ (rows ++ missing)
    go true f h = cc
    go false f h = ap (λ rs. r ∷ rs) (h f)

-- a first use adds a row
used_new : (id : Bytes) (how : Reading) (values : List Bytes) (rows : List Row) → find_id id rows ≡ None
    → with_values id how CommandLine values (without id rows)
    ≡ rows ++ (record { id = id; values = values; count = None; source = Some CommandLine; reading = how }) ∷ []
used_new id how values rows e =
    ap (with_values id how CommandLine values) (at_row_new id (λ _. []) [] rows e ∙ append-nil rows)
    ∙ at_row_new id (more_values CommandLine values) (record { id = id; values = values; count = None; source = Some CommandLine; reading = how } ∷ []) rows e

find_miss : (id : Bytes) (r : Row) (rows : List Row) → bytes_eq r.id id ≡ false → find_id id (rows ++ r ∷ []) ≡ find_id id rows
find_miss id r [] e = rw e refl
find_miss id r (x ∷ rows) e = ap (cond (bytes_eq x.id id) (Some x)) (find_miss id r rows e)

find_hit : (id : Bytes) (r : Row) (rows : List Row) → find_id id rows ≡ None → bytes_eq r.id id ≡ true → find_id id (rows ++ r ∷ []) ≡ Some r
find_hit id r [] n e = rw e refl
find_hit id r (x ∷ rows) n e = go (bytes_eq x.id id) n (find_hit id r rows)
  where
    go : (b : Bool) → cond b (Some x) (find_id id rows) ≡ None → (find_id id rows ≡ None → bytes_eq r.id id ≡ true → find_id id (rows ++ r ∷ []) ≡ Some r)
        → cond b (Some x) (find_id id (rows ++ r ∷ [])) ≡ Some r
    go true f h = cc
    go false f h = h f e

-- ---- what was read so far

pub data Operands : Type 0 where
  no_operand : Operands
  one_operand : Bytes → Operands
  two_operands : Bytes → Bytes → Operands

abbrev pub number_of : Operands → Option Bytes
number_of no_operand = None
number_of (one_operand a) = Some a
number_of (two_operands a b) = Some a

abbrev pub count_of : Operands → Option Bytes
count_of (two_operands a b) = Some b
count_of _ = None

-- the place of the next operand
abbrev pub place : Operands → ℕ
place no_operand = 1
place (one_operand a) = 2
place (two_operands a b) = 3

-- the rows say that this was read
pub record Shows (workers : Option Bytes) (trace : Bool) (operands : Operands) (rows : List Row) : Type 0 where
  pub workers_row : find_id (codes "workers") rows ≡ option_map (λ v. row_for (filled workers_rule) (v ∷ [])) workers
  pub trace_row : find_id (codes "trace") rows ≡ cond trace (Some (row_for (filled trace_rule) [])) None
  pub number_row : find_id (codes "number") rows ≡ option_map (λ v. row_for number_rule (v ∷ [])) (number_of operands)
  pub count_row : find_id (codes "count") rows ≡ option_map (λ v. row_for count_rule (v ∷ [])) (count_of operands)

abbrev pub before : Option Bytes → List Bytes → List Bytes
before None xs = xs
before (Some x) xs = x ∷ xs

abbrev pub traced : Bool → List Bytes → List Bytes
traced true xs = codes "--trace" ∷ xs
traced false xs = xs

abbrev pub operands_before : Operands → List Bytes → List Bytes
operands_before no_operand xs = xs
operands_before (one_operand a) xs = a ∷ xs
operands_before (two_operands a b) xs = a ∷ b ∷ xs

-- what was read so far, and then this
abbrev pub total : Option Bytes → Bool → Operands → Given → Given
total workers trace operands g = record {
  workers = before workers g.workers;
  traces = traced trace g.traces;
  operands = operands_before operands g.operands;
}

-- clap's rows are those of what is given, and where it has none no command takes that
pub record IsRead (rows : List Row) (g : Given) : Type 0 where
  pub workers : Option Bytes
  pub trace : Bool
  pub operands : Operands
  pub is_all : g ≡ total workers trace operands nothing
  pub shows : Shows workers trace operands rows

abbrev pub Agrees : Option (List Row) → Given → Type 0
Agrees None g = Refused g
Agrees (Some rows) g = IsRead rows g

abbrev pub Sound : List Bytes → Type 0
Sound words = (w : Option Bytes) (t : Bool) (o : Operands) (rows : List Row) → Shows w t o rows
    → Agrees (run (at rows None idle (place o)) words) (total w t o (given words))

-- ---- one use

use_workers : (rest : List Bytes) → Sound rest → (v : Bytes) (w : Option Bytes) (t : Bool) (o : Operands) (rows : List Row) → Shows w t o rows
    → Agrees (if_none (use_fault false (filled workers_rule) (v ∷ []) rows) (run (at (used (filled workers_rule) (v ∷ []) rows) None idle (place o)) rest))
    (total w t o (with_workers v (given rest)))
use_workers rest sound v w t o rows shows =
    subst (λ r. Agrees r (total w t o (with_workers v (given rest))))
    (sym (workers_once v rows next ∙ ap (λ b. once b next) (has_find (codes "workers") rows ∙ ap is_some shows.workers_row)))
    (go w shows)
  where
    next : Option (List Row)
    next = run (at (used (filled workers_rule) (v ∷ []) rows) None idle (place o)) rest

    new : Row
    new = row_for (filled workers_rule) (v ∷ [])

    go : (x : Option Bytes) → Shows x t o rows → Agrees (once (is_some (option_map (λ a. row_for (filled workers_rule) (a ∷ [])) x)) next) (total x t o (with_workers v (given rest)))
    go (Some a) s = twice_workers a v (given rest).workers (traced t (given rest).traces) (operands_before o (given rest).operands)
    go None s = sound (Some v) t o _ (subst (Shows (Some v) t o) (sym (used_new (codes "workers") (reading_by (filled workers_rule)) (v ∷ []) rows s.workers_row)) (record {
      workers_row = find_hit (codes "workers") new rows s.workers_row refl;
      trace_row = find_miss (codes "trace") new rows refl ∙ s.trace_row;
      number_row = find_miss (codes "number") new rows refl ∙ s.number_row;
      count_row = find_miss (codes "count") new rows refl ∙ s.count_row;
    }))

use_trace : (rest : List Bytes) → Sound rest → (w : Option Bytes) (t : Bool) (o : Operands) (rows : List Row) → Shows w t o rows
    → Agrees (if_none (use_fault false (filled trace_rule) [] rows) (run (at (used (filled trace_rule) [] rows) None idle (place o)) rest))
    (total w t o (with_word (codes "--trace") (given rest)))
use_trace rest sound w t o rows shows =
    subst (λ r. Agrees r (total w t o (with_word (codes "--trace") (given rest))))
    (sym (trace_once rows next ∙ ap (λ b. once b next) (has_find (codes "trace") rows ∙ ap is_some shows.trace_row)))
    (go t shows)
  where
    next : Option (List Row)
    next = run (at (used (filled trace_rule) [] rows) None idle (place o)) rest

    new : Row
    new = row_for (filled trace_rule) []

    go : (x : Bool) → Shows w x o rows → Agrees (once (is_some (cond x (Some (row_for (filled trace_rule) [])) None)) next) (total w x o (with_word (codes "--trace") (given rest)))
    go true s = twice_trace (codes "--trace") (codes "--trace") (before w (given rest).workers) (given rest).traces (operands_before o (given rest).operands)
    go false s = sound w true o _ (subst (Shows w true o) (sym (used_new (codes "trace") (reading_by (filled trace_rule)) (codes "true" ∷ []) rows s.trace_row)) (record {
      workers_row = find_miss (codes "workers") new rows refl ∙ s.workers_row;
      trace_row = find_hit (codes "trace") new rows s.trace_row refl;
      number_row = find_miss (codes "number") new rows refl ∙ s.number_row;
      count_row = find_miss (codes "count") new rows refl ∙ s.count_row;
    }))

use_operand : (rest : List Bytes) → HasNoDashes rest → Sound rest → (v : Bytes) (w : Option Bytes) (t : Bool) (o : Operands) (rows : List Row) → Shows w t o rows
    → Agrees (operand_next (arg_by_index rules_now (place o)) v rows (place o) rest) (total w t o (with_operand v (given rest)))
use_operand rest d sound v w t no_operand rows s =
    subst (λ r. Agrees r (total w t no_operand (with_operand v (given rest))))
    (sym (settle rows (Some (codes "number", v ∷ [])) 2 rest d ∙ number_once v rows next ∙ ap (λ b. once b next) (has_find (codes "number") rows ∙ ap is_some s.number_row)))
    (sound w t (one_operand v) _ (subst (Shows w t (one_operand v)) (sym (used_new (codes "number") (reading_by number_rule) (v ∷ []) rows s.number_row)) (record {
      workers_row = find_miss (codes "workers") new rows refl ∙ s.workers_row;
      trace_row = find_miss (codes "trace") new rows refl ∙ s.trace_row;
      number_row = find_hit (codes "number") new rows s.number_row refl;
      count_row = find_miss (codes "count") new rows refl ∙ s.count_row;
    })))
  where
    next : Option (List Row)
    next = run (at (used number_rule (v ∷ []) rows) None idle 2) rest

    new : Row
    new = row_for number_rule (v ∷ [])
use_operand rest d sound v w t (one_operand a) rows s =
    subst (λ r. Agrees r (total w t (one_operand a) (with_operand v (given rest))))
    (sym (settle rows (Some (codes "count", v ∷ [])) 3 rest d ∙ count_once v rows next ∙ ap (λ b. once b next) (has_find (codes "count") rows ∙ ap is_some s.count_row)))
    (sound w t (two_operands a v) _ (subst (Shows w t (two_operands a v)) (sym (used_new (codes "count") (reading_by count_rule) (v ∷ []) rows s.count_row)) (record {
      workers_row = find_miss (codes "workers") new rows refl ∙ s.workers_row;
      trace_row = find_miss (codes "trace") new rows refl ∙ s.trace_row;
      number_row = find_miss (codes "number") new rows refl ∙ s.number_row;
      count_row = find_hit (codes "count") new rows s.count_row refl;
    })))
  where
    next : Option (List Row)
    next = run (at (used count_rule (v ∷ []) rows) None idle 3) rest

    new : Row
    new = row_for count_rule (v ∷ [])
use_operand rest d sound v w t (two_operands a b) rows s = three_operands a b v (before w (given rest).workers) (traced t (given rest).traces) (given rest).operands

-- ---- one word

operand_refused : (v : Bytes) → IsDashed v → (w : Option Bytes) (t : Bool) (o : Operands) (g : Given) → Refused (total w t o (with_operand v g))
operand_refused v d w t no_operand g = dashed_first v (before w g.workers) (traced t g.traces) g.operands d
operand_refused v d w t (one_operand a) g = dashed_second a v (before w g.workers) (traced t g.traces) g.operands d
operand_refused v d w t (two_operands a b) g = three_operands a b v (before w g.workers) (traced t g.traces) g.operands

value_refused : (v : Bytes) → IsDashed v → (w : Option Bytes) (t : Bool) (o : Operands) (g : Given) → Refused (total w t o (with_workers v g))
value_refused v d None t o g = dashed_workers v g.workers (traced t g.traces) (operands_before o g.operands) d
value_refused v d (Some a) t o g = twice_workers a v g.workers (traced t g.traces) (operands_before o g.operands)

given_word : (word : Bytes) (rest : List Bytes) → bytes_eq word (codes "--workers") ≡ false → given (word ∷ rest) ≡ with_word word (given rest)
given_word word [] e = refl
given_word word (next ∷ rest) e = rw e refl

-- a long flag that is none of the definition's
strange_flag : (word : Bytes) (l : Bytes × Option Bytes) → long_of word ≡ Some l → bytes_eq word (codes "--trace") ≡ false → bytes_eq word (codes "--workers") ≡ false
    → after (codes "--workers=") word ≡ None → (rows : List Row) (p : ℕ) (rest : List Bytes) → flag_next (arg_by_long rules_now l.0) l.1 rows p rest ≡ None
strange_flag word l e t w a rows p rest =
    ap (λ f. flag_next f l.1 rows p rest) (found_is l.0)
    ∙ go (bytes_eq (codes "workers") l.0) (bytes_eq (codes "trace") l.0) refl refl l.1 (long_is word l e)
  where
    go : (x y : Bool) → bytes_eq (codes "workers") l.0 ≡ x → bytes_eq (codes "trace") l.0 ≡ y → (v : Option Bytes) → word ≡ 45 ∷ 45 ∷ (l.0 ++ tail v)
        → flag_next (named_rule x y) v rows p rest ≡ None
    go true y ex ey None is =
        let name : l.0 ≡ codes "workers" = sym (bytes-same (codes "workers") l.0 ex) in
        let whole : word ≡ codes "--workers" = is ∙ ap (λ n. 45 ∷ 45 ∷ (n ++ [])) name in
        let yes : bytes_eq word (codes "--workers") ≡ true = rw whole refl in
        cc
    go true y ex ey (Some v) is =
        let name : l.0 ≡ codes "workers" = sym (bytes-same (codes "workers") l.0 ex) in
        let whole : word ≡ codes "--workers=" ++ v = is ∙ ap (λ n. 45 ∷ 45 ∷ (n ++ 61 ∷ v)) name in
        let yes : after (codes "--workers=") word ≡ Some v = rw whole refl in
        cc
    go false true ex ey None is =
        let name : l.0 ≡ codes "trace" = sym (bytes-same (codes "trace") l.0 ey) in
        let whole : word ≡ codes "--trace" = is ∙ ap (λ n. 45 ∷ 45 ∷ (n ++ [])) name in
        let yes : bytes_eq word (codes "--trace") ≡ true = rw whole refl in
        cc
    go false true ex ey (Some v) is = refl
    go false false ex ey v is = refl

-- a word that is neither an option of the definition nor a value
other_word : (word : Bytes) (rest : List Bytes) → HasNoDashes rest → Sound rest → bytes_eq word (codes "--trace") ≡ false → bytes_eq word (codes "--workers") ≡ false
    → after (codes "--workers=") word ≡ None → (w : Option Bytes) (t : Bool) (o : Operands) (rows : List Row) → Shows w t o rows
    → Agrees (word_next (long_of word) (short_of word) rows (place o) word rest) (total w t o (with_operand word (given rest)))
other_word word rest d sound et ew ea w t o rows shows = by_long (long_of word) refl
  where
    by_char : (b : Bool) → IsDashed word → Agrees (cond b None (operand_next (arg_by_index rules_now (place o)) word rows (place o) rest)) (total w t o (with_operand word (given rest)))
    by_char true i = operand_refused word i w t o (given rest)
    by_char false i = use_operand rest d sound word w t o rows shows

    by_short : (s : Option Bytes) → short_of word ≡ s → Agrees (word_next None s rows (place o) word rest) (total w t o (with_operand word (given rest)))
    by_short (Some flags) e = by_char (has_char flags) (short_is_dashed word flags e)
    by_short None e = use_operand rest d sound word w t o rows shows

    by_long : (l : Option (Bytes × Option Bytes)) → long_of word ≡ l → Agrees (word_next l (short_of word) rows (place o) word rest) (total w t o (with_operand word (given rest)))
    by_long (Some l) e =
        subst (λ r. Agrees r (total w t o (with_operand word (given rest)))) (sym (strange_flag word l e et ew ea rows (place o) rest))
        (operand_refused word (long_is_dashed word l e) w t o (given rest))
    by_long None e = by_short (short_of word) refl

-- one more word, which is not `--workers` alone
word_sound : (word : Bytes) (rest : List Bytes) → is_dashes word ≡ false → HasNoDashes rest → bytes_eq word (codes "--workers") ≡ false → Sound rest → Sound (word ∷ rest)
word_sound word rest dw d ew sound w t o rows shows =
    subst (λ g. Agrees (run (at rows None idle (place o)) (word ∷ rest)) (total w t o g)) (sym (given_word word rest ew))
    (subst (λ r. Agrees r (total w t o (with_word word (given rest)))) (sym (idle_turn rows None (place o) word rest dw))
    (by_trace (bytes_eq word (codes "--trace")) refl))
  where
    next : Bytes → Option (List Row)
    next x = word_next (long_of x) (short_of x) rows (place o) x rest

    by_attached : (a : Option Bytes) → after (codes "--workers=") word ≡ a → bytes_eq word (codes "--trace") ≡ false → Agrees (next word) (total w t o (with_attached a word (given rest)))
    by_attached (Some v) e et =
        subst (λ x. Agrees (next x) (total w t o (with_workers v (given rest)))) (sym (after_is (codes "--workers=") word v e)) (use_workers rest sound v w t o rows shows)
    by_attached None e et = other_word word rest d sound et ew e w t o rows shows

    by_trace : (b : Bool) → bytes_eq word (codes "--trace") ≡ b
        → Agrees (next word) (total w t o (cond b (record (given rest) { traces = word ∷ (given rest).traces }) (with_attached (after (codes "--workers=") word) word (given rest))))
    by_trace true e =
        subst (λ x. Agrees (next x) (total w t o (record (given rest) { traces = x ∷ (given rest).traces }))) (sym (bytes-same word (codes "--trace") e)) (use_trace rest sound w t o rows shows)
    by_trace false e = by_attached (after (codes "--workers=") word) refl e

-- `--workers` and its value
value_sound : (v : Bytes) (rest : List Bytes) → is_dashes v ≡ false → HasNoDashes rest → Sound rest → Sound (codes "--workers" ∷ v ∷ rest)
value_sound v rest dv d sound w t o rows shows =
    subst (λ r. Agrees r (total w t o (with_workers v (given rest))))
    (sym (idle_turn rows None (place o) (codes "--workers") (v ∷ rest) refl ∙ value_turn rows (place o) v rest dv))
    (by_long (long_of v) refl)
  where
    plain : Agrees (run (at rows (Some (codes "workers", v ∷ [])) idle (place o)) rest) (total w t o (with_workers v (given rest)))
    plain = subst (λ r. Agrees r (total w t o (with_workers v (given rest)))) (sym (settle rows (Some (codes "workers", v ∷ [])) (place o) rest d)) (use_workers rest sound v w t o rows shows)

    by_char : (b : Bool) → IsDashed v → Agrees (cond b None (run (at rows (Some (codes "workers", v ∷ [])) idle (place o)) rest)) (total w t o (with_workers v (given rest)))
    by_char true i = value_refused v i w t o (given rest)
    by_char false i = plain

    by_short : (s : Option Bytes) → short_of v ≡ s → Agrees (value_next None s rows (place o) v rest) (total w t o (with_workers v (given rest)))
    by_short (Some flags) e = by_char (has_char flags) (short_is_dashed v flags e)
    by_short None e = plain

    by_long : (l : Option (Bytes × Option Bytes)) → long_of v ≡ l → Agrees (value_next l (short_of v) rows (place o) v rest) (total w t o (with_workers v (given rest)))
    by_long (Some l) e = value_refused v (long_is_dashed v l e) w t o (given rest)
    by_long None e = by_short (short_of v) refl

-- `--workers` at the end
last_sound : Sound (codes "--workers" ∷ [])
unfolding run
last_sound w t o rows shows =
    subst (λ r. Agrees r (total w t o (with_operand (codes "--workers") nothing)))
    (sym (idle_turn rows None (place o) (codes "--workers") [] refl))
    (operand_refused (codes "--workers") (_, refl) w t o nothing)

-- ---- all words

nothing_sound : Sound []
unfolding run
nothing_sound w t o rows shows = record { workers = w; trace = t; operands = o; is_all = refl; shows = shows }

pub sound : (words : List Bytes) → HasNoDashes words → Sound words
sound [] d = nothing_sound
sound (word ∷ []) d = go (bytes_eq word (codes "--workers")) refl
  where
    go : (b : Bool) → bytes_eq word (codes "--workers") ≡ b → Sound (word ∷ [])
    go true e = subst (λ x. Sound (x ∷ [])) (sym (bytes-same word (codes "--workers") e)) last_sound
    go false e = word_sound word [] (or_left _ _ d) refl e nothing_sound
sound (word ∷ next ∷ rest) d = go (bytes_eq word (codes "--workers")) refl (sound (next ∷ rest) (or_right _ _ d)) (sound rest (or_right _ _ (or_right _ _ d)))
  where
    go : (b : Bool) → bytes_eq word (codes "--workers") ≡ b → Sound (next ∷ rest) → Sound rest → Sound (word ∷ next ∷ rest)
    go true e one two =
        subst (λ x. Sound (x ∷ next ∷ rest)) (sym (bytes-same word (codes "--workers") e))
        (value_sound next rest (or_left _ _ (or_right _ _ d)) (or_right _ _ (or_right _ _ d)) two)
    go false e one two = word_sound word (next ∷ rest) (or_left _ _ d) (or_right _ _ d) e one

-- ---- the matches

starts : Shows None false no_operand []
starts = record { workers_row = refl; trace_row = refl; number_row = refl; count_row = refl }

-- clap's rows against what the words give
pub read : (words : List Bytes) → HasNoDashes words → Agrees (run start words) (given words)
read words d = sound words d None false no_operand [] starts

either_way : {X : Type 0} (b : Bool) (x : X) → cond b x x ≡ x
either_way true x = refl
either_way false x = refl

abbrev default_trace : Row
default_trace = record { id = codes "trace"; values = codes "false" ∷ []; count = None; source = Some DefaultValue; reading = reading_by (filled trace_rule) }

-- the default of `--trace` comes in where it is absent
finishing_is : (rows : List Row) → finishing rows ≡ with_default rows (filled trace_rule)
finishing_is rows =
    either_way (has_row (codes "count") (with_default (with_default (with_default rows (filled workers_rule)) (filled trace_rule)) number_rule)) _
    ∙ either_way (has_row (codes "number") (with_default (with_default rows (filled workers_rule)) (filled trace_rule))) _
    ∙ ap (λ r. with_default r (filled trace_rule)) (either_way (has_row (codes "workers") rows) rows)

-- the rows of a parse that succeeds
pub record Finished (w : Option Bytes) (t : Bool) (o : Operands) (rows : List Row) : Type 0 where
  pub workers : first_of (codes "workers") rows ≡ w
  pub trace : one_of (codes "trace") rows ≡ Some (cond t (codes "true") (codes "false"))
  pub number : first_of (codes "number") rows ≡ number_of o
  pub count : first_of (codes "count") rows ≡ count_of o

row_value : (a : Rule) (v : Option Bytes) (found : Option Row) → found ≡ option_map (λ x. row_for a (x ∷ [])) v → option_and_then (λ (r : Row). slice_get r.values 0) found ≡ v
row_value a None found e = rw e refl
row_value a (Some x) found e = rw e refl

finished_by : (w : Option Bytes) (t : Bool) (o : Operands) (rows : List Row) → Shows w t o rows → Finished w t o (finishing rows)
finished_by w true o rows s = subst (Finished w true o) (sym (finishing_is rows ∙ ap (λ b. cond b rows (at_row (codes "trace") (more_values DefaultValue (codes "false" ∷ [])) (default_trace ∷ []) rows)) (has_find (codes "trace") rows ∙ ap is_some s.trace_row))) (record {
  workers = row_value (filled workers_rule) w _ s.workers_row;
  trace = ap (option_and_then row_text) s.trace_row;
  number = row_value number_rule (number_of o) _ s.number_row;
  count = row_value count_rule (count_of o) _ s.count_row;
})
finished_by w false o rows s = subst (Finished w false o)
    (sym (finishing_is rows ∙ ap (λ b. cond b rows (at_row (codes "trace") (more_values DefaultValue (codes "false" ∷ [])) (default_trace ∷ []) rows)) (has_find (codes "trace") rows ∙ ap is_some s.trace_row) ∙ at_row_new (codes "trace") (more_values DefaultValue (codes "false" ∷ [])) (default_trace ∷ []) rows s.trace_row)) (record {
      workers = row_value (filled workers_rule) w _ (find_miss (codes "workers") default_trace rows refl ∙ s.workers_row);
      trace = ap (option_and_then row_text) (find_hit (codes "trace") default_trace rows s.trace_row refl);
      number = row_value number_rule (number_of o) _ (find_miss (codes "number") default_trace rows refl ∙ s.number_row);
      count = row_value count_rule (count_of o) _ (find_miss (codes "count") default_trace rows refl ∙ s.count_row);
    })

-- clap takes the words: its matches are what they give
pub record IsTaken (words : List Bytes) : Type 0 where
  pub workers : Option Bytes
  pub trace : Bool
  pub operands : Operands
  pub is_all : given words ≡ total workers trace operands nothing
  pub matches : Finished workers trace operands (matches_of app words)

pub taken : (words : List Bytes) → HasNoDashes words → fault_of app words ≡ [] → IsTaken words
taken words d e =
    let r = run_taken words e in
    let g : IsRead r.0 (given words) = subst (λ x. Agrees x (given words)) r.1 (read words d) in
    record {
      workers = g.workers;
      trace = g.trace;
      operands = g.operands;
      is_all = g.is_all;
      matches = subst (Finished g.workers g.trace g.operands) (sym r.2) (finished_by g.workers g.trace g.operands r.0 g.shows);
    }

-- clap refuses the words: so does each command
pub untaken : (words : List Bytes) → HasNoDashes words → (k : ErrorKind) → IsAmong k (fault_of app words) → Refused (given words)
untaken words d k among = go (fault_of app words) refl among
  where
    go : (f : Kinds) → fault_of app words ≡ f → IsAmong k f → Refused (given words)
    go [] e a = absurd a
    go (x ∷ ks) e a = subst (λ r. Agrees r (given words)) (run_refused words x ks e) (read words d)

-- ---- what the getters of the matches hand back

listed_is : (o : Option Bytes) (x : Option (Bor Bytes)) → option_map (λ s. s.now) x ≡ o → before o [] ≡ listed x
listed_is None None e = refl
listed_is None (Some b) e = cc
listed_is (Some a) None e = cc
listed_is (Some a) (Some b) e = let same : b.now ≡ a = cc in ap (λ t. t ∷ []) (sym same)

operands_are : (o : Operands) (n k : Option (Bor Bytes)) → option_map (λ s. s.now) n ≡ number_of o → option_map (λ s. s.now) k ≡ count_of o → operands_before o [] ≡ operands_of n k
operands_are no_operand None k e f = refl
operands_are no_operand (Some b) k e f = cc
operands_are (one_operand a) None k e f = cc
operands_are (one_operand a) (Some b) k e f = let same : b.now ≡ a = cc in ap₂ (λ t u. t ∷ u) (sym same) (listed_is None k f)
operands_are (two_operands a c) None k e f = cc
operands_are (two_operands a c) (Some b) k e f = let same : b.now ≡ a = cc in ap₂ (λ t u. t ∷ u) (sym same) (listed_is (Some c) k f)

-- a flag, by its text
flag_is : (t b : Bool) (text : Option Bytes) → text ≡ Some (cond t (codes "true") (codes "false")) → (text ≡ Some (codes "true") → b ≡ true) → (text ≡ Some (codes "false") → b ≡ false) → b ≡ t
flag_is true b text e on off = on e
flag_is false b text e on off = off e

traces_are : (t b : Bool) → b ≡ t → traced t [] ≡ cond b (codes "--trace" ∷ []) []
traces_are true b e = rw e refl
traces_are false b e = rw e refl

pub handed : (words : List Bytes) (t : IsTaken words) (f : Found) → rows_of f ≡ matches_of app words
    → (w n k : Option (Bor Bytes)) (b : Bool)
    → option_map (λ s. s.now) w ≡ first_value f (codes "workers")
    → (one_text f (codes "trace") ≡ Some (codes "true") → b ≡ true) → (one_text f (codes "trace") ≡ Some (codes "false") → b ≡ false)
    → option_map (λ s. s.now) n ≡ first_value f (codes "number") → option_map (λ s. s.now) k ≡ first_value f (codes "count")
    → given words ≡ given_by (record { workers = w; trace = b; number = n; count = k })
handed words t f rows w n k b ew on off en ek =
    let values : (id : Bytes) → first_value f id ≡ first_of id (matches_of app words) = λ id. first_value-rows f id ∙ ap (first_of id) rows in
    let flag : b ≡ t.trace = flag_is t.trace b (one_text f (codes "trace")) (one_text-rows f (codes "trace") ∙ ap (one_of (codes "trace")) rows ∙ t.matches.trace) on off in
    let one = listed_is t.workers w (ew ∙ values (codes "workers") ∙ t.matches.workers) in
    let two = traces_are t.trace b flag in
    let three = operands_are t.operands n k (en ∙ values (codes "number") ∙ t.matches.number) (ek ∙ values (codes "count") ∙ t.matches.count) in
    let same : ◌≡◌ {A = Given} (total t.workers t.trace t.operands nothing) (given_by (record { workers = w; trace = b; number = n; count = k })) = λ i. record { workers = one i; traces = two i; operands = three i } in
    t.is_all ∙ same
