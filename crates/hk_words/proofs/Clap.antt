-- What clap makes of the words after the command's name, one use of an argument at a time.
use Rattle.std.proofs.Common.{◌≡◌, ◌==◌, ◌+◌, if◌then◌else◌, ◌∙◌, ◌&&◌, ◌||◌, ℕ, Bool, true, false, cond, refl, ap, sym, min, codes, fold, length, is_some, Option, Some, None, List, [], ◌∷◌}
use Rattle.std.specs.Str.{bytes_eq}
use Rattle.std.specs.List.{list_any}
use Rattle.clap.specs.Words.{Row, Rule, Shape, is_simple, is_simple_and_free, fault_of, new_rule, matches_of, built}
use Rattle.clap.specs.Simple.{filled, with_index, entered}
use Rattle.clap.specs.Kinds.{Kinds, or_else}
use Rattle.clap.specs.Faults.{settle_fault, turn_fault, walk_fault, use_fault, step_fault, positional_fault, stray_fault, bundle_step_fault, long_fault, bundle_fault, flag_word_fault, flags_fault, defaults_fault, check_fault, entered_fault}
use Rattle.clap.specs.Lexer.{long_of, short_of, usize_max}
use Rattle.std.specs.Option.{option_map_or}
use Rattle.std.specs.Str.{chars}
use Rattle.std.specs.Prelude.{slice_get}
use Rattle.clap.specs.Walk.{Held, Waiting, Walk, idle, option, has_row, settled, used, walked, Step, after_step, after_flag, long_met, plain_word, short_word, short_or_plain, long_or_other, subcommand_met, bundle_met, bundle_step, plain, arg_by_long, arg_by_index, takes_values, settled_rows, to_positional, is_pending, with_default, finished}
use Rattle.clap.specs.declared.error.kind.ErrorKind.{ErrorKind}
use Rattle.clap.specs.declared.error.kind.ErrorKind.TheVariants as kind
use Rattle.hk_base.specs.Bytes.{Bytes}
use Rattle.hk_words.specs.Leaf.{app, trace_rule, workers_rule}

-- ---- the command that `arguments` makes

pub app_is_free : is_simple_and_free app ≡ true
app_is_free = refl

pub app_is_simple : is_simple app ≡ true
app_is_simple = refl

abbrev pub shape : Shape
shape = (built app).top

abbrev pub rules_now : List Rule
rules_now = shape.rules

-- ---- the walk and its faults in one: the rows at the end, or none where something is refused

abbrev pub if_none : {X : Type 0} → Kinds → Option X → Option X
if_none [] x = x
if_none (k ∷ ks) x = None

abbrev pub ended : Walk → Option (List Row)
ended w = if_none (settle_fault rules_now false w.held) (Some (settled rules_now w.held).rows)

unfoldable pub run : Walk → List Bytes → Option (List Row)
run w [] = ended w
run w (word ∷ rest) = if_none (turn_fault shape [] w word) (run (walked rules_now [] w word) rest)

abbrev pub end_of : Walk → List Bytes → Walk
end_of w words = fold (walked rules_now []) w words

abbrev both_none : Walk → List Bytes → Kinds → Option (List Row)
both_none w words k = if_none (or_else k (settle_fault rules_now false (end_of w words).held)) (Some (settled rules_now (end_of w words).held).rows)

run_more : (w : Walk) (words : List Bytes) (later : Kinds) (k : Kinds) → run w words ≡ both_none w words later
    → if_none k (run w words) ≡ both_none w words (or_else k later)
run_more w words later [] e = e
run_more w words later (x ∷ ks) e = refl

pub run_is : (w : Walk) (words : List Bytes) → run w words ≡ both_none w words (walk_fault shape [] w words)
unfolding run walk_fault
run_is w [] = refl
run_is w (word ∷ rest) =
    run_more (walked rules_now [] w word) rest (walk_fault shape [] (walked rules_now [] w word) rest) (turn_fault shape [] w word) (run_is (walked rules_now [] w word) rest)

-- ---- a turn

abbrev pub at : List Row → Option (Bytes × List Bytes) → Waiting → ℕ → Walk
at rows pending waiting p = record {
  held = record { rows = rows; pending = pending; skip = 0 };
  waiting = waiting;
  position = p;
  is_trailing = false;
  stopped = None;
}

abbrev pub is_dashes : Bytes → Bool
is_dashes word = bytes_eq word (45 ∷ 45 ∷ [])

-- the rows at the end after a turn, by what the word was
abbrev turned : ℕ → Walk → Bytes → List Bytes → Kinds → Held × Step → Option (List Row)
turned p w word rest k met =
    if_none (or_else k (step_fault shape p met.0 met.1)) (run (after_step rules_now word w met.0 met.1) rest)

abbrev long_turned : Option Rule → Option Bytes → Walk → Bytes → List Bytes → Option (List Row)
long_turned found v w word rest =
    turned w.position w word rest (long_fault rules_now false found v w.held)
    (after_flag rules_now w.waiting word (long_met rules_now found v w.held).0 (long_met rules_now found v w.held).1)

abbrev plain_turned : Walk → Bytes → List Bytes → Option (List Row)
plain_turned w word rest = turned w.position w word rest [] (plain_word rules_now w.waiting word w.held)

abbrev view : Option (Bytes × Option Bytes) → Option Bytes → Walk → Bytes → List Bytes → Option (List Row)
view (Some p) s w word rest = long_turned (arg_by_long rules_now p.0) p.1 w word rest
view None (Some flags) w word rest =
    turned w.position w word rest (bundle_fault rules_now false flags w.held) (short_word rules_now w.waiting word flags w.held)
view None None w word rest = plain_turned w word rest

short_view : (s : Option Bytes) (w : Walk) (word : Bytes) (rest : List Bytes)
    → turned w.position w word rest (option_map_or (λ flags. bundle_fault rules_now false flags w.held) s []) (short_or_plain rules_now w.waiting word s w.held) ≡ view None s w word rest
short_view (Some flags) w word rest = refl
short_view None w word rest = refl

long_view : (l : Option (Bytes × Option Bytes)) (w : Walk) (word : Bytes) (rest : List Bytes)
    → turned w.position w word rest (flag_word_fault rules_now false l word w.held) (long_or_other rules_now w.waiting word l w.held) ≡ view l (short_of word) w word rest
long_view (Some l) w word rest = refl
long_view None w word rest = short_view (short_of word) w word rest

turn_is : (rows : List Row) (pending : Option (Bytes × List Bytes)) (waiting : Waiting) (p : ℕ) (word : Bytes) (rest : List Bytes) → is_dashes word ≡ false
    → subcommand_met [] waiting word ≡ None
    → run (at rows pending waiting p) (word ∷ rest) ≡ view (long_of word) (short_of word) (at rows pending waiting p) word rest
unfolding run walked
turn_is rows pending waiting p word rest d m = rw (m, d) (long_view (long_of word) (at rows pending waiting p) word rest)

-- a word with one hyphen names no argument, unless it is no text
pub has_char : Bytes → Bool
has_char [] = false
has_char (x ∷ xs) = is_some (slice_get (chars (x ∷ xs)) 0)

short_is : (flags : Bytes) (rows : List Row) (pending : Option (Bytes × List Bytes)) (waiting : Waiting) (p : ℕ) (word : Bytes) (rest : List Bytes)
    → turned p (at rows pending waiting p) word rest (bundle_fault rules_now false flags (at rows pending waiting p).held) (short_word rules_now waiting word flags (at rows pending waiting p).held)
    ≡ cond (has_char flags) None (plain_turned (at rows pending waiting p) word rest)
unfolding bundle_met flags_fault has_char
short_is [] rows pending waiting p word rest = refl
short_is (x ∷ xs) rows pending waiting p word rest = go (slice_get (chars (x ∷ xs)) 0)
  where
    go : (c : Option ℕ) → turned p (at rows pending waiting p) word rest
        (bundle_step_fault rules_now false c (x ∷ xs) 0 (at rows pending waiting p).held (flags_fault rules_now false (length xs)))
        (after_flag rules_now waiting word (bundle_step rules_now c (x ∷ xs) 0 plain (at rows pending waiting p).held (bundle_met rules_now (length xs))).0
        (bundle_step rules_now c (x ∷ xs) 0 plain (at rows pending waiting p).held (bundle_met rules_now (length xs))).1)
        ≡ cond (is_some c) None (plain_turned (at rows pending waiting p) word rest)
    go None = refl
    go (Some c) = refl

-- ---- which argument a word names

abbrev pub named_rule : Bool → Bool → Option Rule
named_rule true b = Some (filled workers_rule)
named_rule false true = Some (filled trace_rule)
named_rule false false = None

pub found_is : (name : Bytes) → arg_by_long rules_now name ≡ named_rule (bytes_eq (codes "workers") name) (bytes_eq (codes "trace") name)
found_is name = go (bytes_eq (codes "workers") name) (bytes_eq (codes "trace") name)
  where
    go : (a b : Bool) → cond (a || false) (Some (filled workers_rule)) (cond (b || false) (Some (filled trace_rule)) None) ≡ named_rule a b
    go true b = refl
    go false true = refl
    go false false = refl

abbrev placed_rule : Bool → Bool → Option Rule
placed_rule true b = Some (with_index 1 (filled (new_rule (codes "number"))))
placed_rule false true = Some (with_index 2 (filled (new_rule (codes "count"))))
placed_rule false false = None

place_is : (p : ℕ) → arg_by_index rules_now p ≡ placed_rule (1 == p) (2 == p)
place_is p = go (1 == p) (2 == p)
  where
    go : (a b : Bool) → cond a (Some (with_index 1 (filled (new_rule (codes "number"))))) (cond b (Some (with_index 2 (filled (new_rule (codes "count"))))) None) ≡ placed_rule a b
    go true b = refl
    go false true = refl
    go false false = refl

-- ---- a turn where nothing waits

none_twice : {X : Type 0} (k : Kinds) → None ≡ if_none {X = X} k None
none_twice [] = refl
none_twice (x ∷ ks) = refl

-- the rows that a flag word leads to, where what stands before it is settled
abbrev pub flag_next : Option Rule → Option Bytes → List Row → ℕ → List Bytes → Option (List Row)
flag_next None v rows p rest = None
flag_next (Some a) (Some v) rows p rest =
    if takes_values a then if_none (use_fault false a (v ∷ []) rows) (run (at (used a (v ∷ []) rows) None idle p) rest) else None
flag_next (Some a) None rows p rest =
    if takes_values a then run (at rows (Some (a.id, [])) (option a.id) p) rest
    else if_none (use_fault false a [] rows) (run (at (used a [] rows) None idle p) rest)

abbrev pub operand_next : Option Rule → Bytes → List Row → ℕ → List Bytes → Option (List Row)
operand_next None word rows p rest = None
operand_next (Some a) word rows p rest = run (at rows (Some (a.id, word ∷ [])) idle (min (p + 1) usize_max)) rest

-- a word, by its name and value, its single flags and its place
abbrev pub word_next : Option (Bytes × Option Bytes) → Option Bytes → List Row → ℕ → Bytes → List Bytes → Option (List Row)
word_next (Some l) s rows p word rest = flag_next (arg_by_long rules_now l.0) l.1 rows p rest
word_next None (Some flags) rows p word rest = cond (has_char flags) None (operand_next (arg_by_index rules_now p) word rows p rest)
word_next None None rows p word rest = operand_next (arg_by_index rules_now p) word rows p rest

abbrev pub fault_held : List Row → Option (Bytes × List Bytes) → Kinds
fault_held rows pending = settle_fault rules_now false (at rows pending idle 1).held

abbrev pub rows_held : List Row → Option (Bytes × List Bytes) → List Row
rows_held rows pending = settled_rows rules_now pending rows

or_once : {X : Type 0} (k : Kinds) (x : Option X) → if_none (or_else k []) x ≡ if_none k x
or_once [] x = refl
or_once (y ∷ ks) x = refl

or_twice : {X : Type 0} (k u : Kinds) (x : Option X) → if_none (or_else (or_else k u) []) x ≡ if_none k (if_none u x)
or_twice [] u x = or_once u x
or_twice (y ∷ ks) u x = refl

and_false : (b : Bool) → (b && false) ≡ false
and_false true = refl
and_false false = refl

flag_turn : (a b : Bool) (v : Option Bytes) (rows : List Row) (pending : Option (Bytes × List Bytes)) (p : ℕ) (word : Bytes) (rest : List Bytes)
    → long_turned (named_rule a b) v (at rows pending idle p) word rest
    ≡ if_none (fault_held rows pending) (flag_next (named_rule a b) v (rows_held rows pending) p rest)
flag_turn false false v rows pending p word rest = none_twice (fault_held rows pending)
flag_turn true b (Some v) rows pending p word rest =
    or_twice (fault_held rows pending) (use_fault false (filled workers_rule) (v ∷ []) (rows_held rows pending))
    (run (at (used (filled workers_rule) (v ∷ []) (rows_held rows pending)) None idle p) rest)
flag_turn true b None rows pending p word rest =
    or_once (fault_held rows pending) (run (at (rows_held rows pending) (Some (codes "workers", [])) (option (codes "workers")) p) rest)
flag_turn false true (Some v) rows pending p word rest = none_twice (fault_held rows pending)
flag_turn false true None rows pending p word rest =
    or_twice (fault_held rows pending) (use_fault false (filled trace_rule) [] (rows_held rows pending))
    (run (at (used (filled trace_rule) [] (rows_held rows pending)) None idle p) rest)

abbrev place_turned : Option Rule → List Row → Option (Bytes × List Bytes) → ℕ → Bytes → List Bytes → Option (List Row)
place_turned found rows pending p word rest =
    if_none (option_map_or (λ r. positional_fault rules_now false r (at rows pending idle p).held) found (stray_fault shape))
    (run (to_positional rules_now found word (at rows pending idle p) (at rows pending idle p).held) rest)

operand_turn : (a b : Bool) (rows : List Row) (pending : Option (Bytes × List Bytes)) (p : ℕ) (word : Bytes) (rest : List Bytes)
    → place_turned (placed_rule a b) rows pending p word rest
    ≡ if_none (fault_held rows pending) (operand_next (placed_rule a b) word (rows_held rows pending) p rest)
operand_turn false false rows pending p word rest = none_twice (fault_held rows pending)
operand_turn true b rows pending p word rest = rw (and_false (is_pending (new_rule (codes "number")) pending)) refl
operand_turn false true rows pending p word rest = rw (and_false (is_pending (new_rule (codes "count")) pending)) refl

plain_turn : (rows : List Row) (pending : Option (Bytes × List Bytes)) (p : ℕ) (word : Bytes) (rest : List Bytes)
    → plain_turned (at rows pending idle p) word rest
    ≡ if_none (fault_held rows pending) (operand_next (arg_by_index rules_now p) word (rows_held rows pending) p rest)
plain_turn rows pending p word rest =
    ap (λ f. place_turned f rows pending p word rest) (place_is p)
    ∙ operand_turn (1 == p) (2 == p) rows pending p word rest
    ∙ ap (λ f. if_none (fault_held rows pending) (operand_next f word (rows_held rows pending) p rest)) (sym (place_is p))

idle_view : (l : Option (Bytes × Option Bytes)) (s : Option Bytes) (rows : List Row) (pending : Option (Bytes × List Bytes)) (p : ℕ) (word : Bytes) (rest : List Bytes)
    → view l s (at rows pending idle p) word rest
    ≡ if_none (fault_held rows pending) (word_next l s (rows_held rows pending) p word rest)
idle_view (Some l) s rows pending p word rest =
    ap (λ f. long_turned f l.1 (at rows pending idle p) word rest) (found_is l.0)
    ∙ flag_turn (bytes_eq (codes "workers") l.0) (bytes_eq (codes "trace") l.0) l.1 rows pending p word rest
    ∙ ap (λ f. if_none (fault_held rows pending) (flag_next f l.1 (rows_held rows pending) p rest)) (sym (found_is l.0))
idle_view None (Some flags) rows pending p word rest = short_is flags rows pending idle p word rest ∙ go (has_char flags)
  where
    go : (b : Bool) → cond b None (plain_turned (at rows pending idle p) word rest)
        ≡ if_none (fault_held rows pending) (cond b None (operand_next (arg_by_index rules_now p) word (rows_held rows pending) p rest))
    go true = none_twice (fault_held rows pending)
    go false = plain_turn rows pending p word rest
idle_view None None rows pending p word rest = plain_turn rows pending p word rest

pub idle_turn : (rows : List Row) (pending : Option (Bytes × List Bytes)) (p : ℕ) (word : Bytes) (rest : List Bytes) → is_dashes word ≡ false
    → run (at rows pending idle p) (word ∷ rest)
    ≡ if_none (fault_held rows pending) (word_next (long_of word) (short_of word) (rows_held rows pending) p word rest)
idle_turn rows pending p word rest d =
    turn_is rows pending idle p word rest d refl ∙ idle_view (long_of word) (short_of word) rows pending p word rest

-- ---- what is pending is used first

pub or_left : (a b : Bool) → (a || b) ≡ false → a ≡ false
or_left true b e = e
or_left false b e = refl

pub or_right : (a b : Bool) → (a || b) ≡ false → b ≡ false
or_right true b e = absurd (cc)
or_right false b e = e

abbrev pub HasNoDashes : List Bytes → Type 0
HasNoDashes words = list_any is_dashes words ≡ false

pub settle : (rows : List Row) (pending : Option (Bytes × List Bytes)) (p : ℕ) (words : List Bytes) → HasNoDashes words
    → run (at rows pending idle p) words ≡ if_none (fault_held rows pending) (run (at (rows_held rows pending) None idle p) words)
unfolding run
settle rows pending p [] d = refl
settle rows pending p (word ∷ rest) d =
    idle_turn rows pending p word rest (or_left _ _ d)
    ∙ ap (if_none (fault_held rows pending)) (sym (idle_turn (rows_held rows pending) None p word rest (or_left _ _ d)))

-- ---- a turn where `--workers` waits for its value

abbrev pub value_next : Option (Bytes × Option Bytes) → Option Bytes → List Row → ℕ → Bytes → List Bytes → Option (List Row)
value_next (Some l) s rows p word rest = None
value_next None (Some flags) rows p word rest = cond (has_char flags) None (run (at rows (Some (codes "workers", word ∷ [])) idle p) rest)
value_next None None rows p word rest = run (at rows (Some (codes "workers", word ∷ [])) idle p) rest

abbrev pub waits_at : List Row → ℕ → Walk
waits_at rows p = at rows (Some (codes "workers", [])) (option (codes "workers")) p

value_view : (l : Option (Bytes × Option Bytes)) (s : Option Bytes) (rows : List Row) (p : ℕ) (word : Bytes) (rest : List Bytes)
    → view l s (waits_at rows p) word rest ≡ value_next l s rows p word rest
value_view (Some l) s rows p word rest =
    ap (λ f. long_turned f l.1 (waits_at rows p) word rest) (found_is l.0)
    ∙ go (bytes_eq (codes "workers") l.0) (bytes_eq (codes "trace") l.0) l.1
  where
    go : (a b : Bool) (v : Option Bytes) → long_turned (named_rule a b) v (waits_at rows p) word rest ≡ None
    go true b (Some v) = refl
    go true b None = refl
    go false true (Some v) = refl
    go false true None = refl
    go false false v = refl
value_view None (Some flags) rows p word rest = short_is flags rows (Some (codes "workers", [])) (option (codes "workers")) p word rest
value_view None None rows p word rest = refl

pub value_turn : (rows : List Row) (p : ℕ) (word : Bytes) (rest : List Bytes) → is_dashes word ≡ false
    → run (waits_at rows p) (word ∷ rest) ≡ value_next (long_of word) (short_of word) rows p word rest
value_turn rows p word rest d =
    turn_is rows (Some (codes "workers", [])) (option (codes "workers")) p word rest d refl ∙ value_view (long_of word) (short_of word) rows p word rest

-- ---- one use of an argument

abbrev pub number_rule : Rule
number_rule = with_index 1 (filled (new_rule (codes "number")))

abbrev pub count_rule : Rule
count_rule = with_index 2 (filled (new_rule (codes "count")))

abbrev pub once : Bool → Option (List Row) → Option (List Row)
once was_used x = cond was_used None x

at_most_once : (b : Bool) (x : Option (List Row)) → if_none (or_else (cond (b && true) (kind.ArgumentConflict ∷ []) []) []) x ≡ once b x
at_most_once true x = refl
at_most_once false x = refl

pub workers_once : (v : Bytes) (rows : List Row) (x : Option (List Row)) → if_none (use_fault false (filled workers_rule) (v ∷ []) rows) x ≡ once (has_row (codes "workers") rows) x
workers_once v rows x = at_most_once (has_row (codes "workers") rows) x

pub trace_once : (rows : List Row) (x : Option (List Row)) → if_none (use_fault false (filled trace_rule) [] rows) x ≡ once (has_row (codes "trace") rows) x
trace_once rows x = at_most_once (has_row (codes "trace") rows) x

pub number_once : (v : Bytes) (rows : List Row) (x : Option (List Row)) → if_none (use_fault false number_rule (v ∷ []) rows) x ≡ once (has_row (codes "number") rows) x
number_once v rows x = at_most_once (has_row (codes "number") rows) x

pub count_once : (v : Bytes) (rows : List Row) (x : Option (List Row)) → if_none (use_fault false count_rule (v ∷ []) rows) x ≡ once (has_row (codes "count") rows) x
count_once v rows x = at_most_once (has_row (codes "count") rows) x

-- ---- after the walk

abbrev pub finishing : List Row → List Row
finishing rows = fold with_default rows rules_now

abbrev pub start : Walk
start = at [] None idle 1

no_kinds : (k l : Kinds) → k ≡ [] → l ≡ [] → or_else k l ≡ []
no_kinds k l e f = rw (e, f) refl

no_default : (b : Bool) (k : Kinds) → cond (b || true) [] k ≡ []
no_default true k = refl
no_default false k = refl

good_default : (b : Bool) → cond {A = Kinds} (b || false) [] [] ≡ []
good_default true = refl
good_default false = refl

defaults_pass : (rows : List Row) → defaults_fault rows rules_now ≡ []
unfolding defaults_fault
defaults_pass rows =
    no_kinds _ _ (no_default (has_row (codes "workers") rows) _)
    (no_kinds _ _ (good_default (has_row (codes "trace") (with_default rows (filled workers_rule))))
    (no_kinds _ _ (no_default (has_row (codes "number") (with_default (with_default rows (filled workers_rule)) (filled trace_rule))) _)
    (no_kinds _ _ (no_default (has_row (codes "count") (with_default (with_default (with_default rows (filled workers_rule)) (filled trace_rule)) number_rule)) _) refl)))

checks_pass : (rows : List Row) (b : Bool) → check_fault shape rows b ≡ []
checks_pass rows true = refl
checks_pass rows false = refl

enters_none : (stop : Option (Bytes × List Bytes)) → entered_fault (built app) stop ≡ []
enters_none None = refl
enters_none (Some p) = refl

fault_is : (words : List Bytes) → fault_of app words ≡ or_else (walk_fault shape [] start words) (settle_fault rules_now false (end_of start words).held)
fault_is words =
    ap (λ k. or_else (walk_fault shape [] start words) (or_else k (or_else SF (or_else DF CF)))) (enters_none stop)
    ∙ ap (λ k. or_else (walk_fault shape [] start words) (or_else SF k)) (no_kinds DF CF (defaults_pass _) (checks_pass (finished rules_now (end_of start words).held) _))
    ∙ ap (or_else (walk_fault shape [] start words)) (or_else_nil SF)
  where
    stop : Option (Bytes × List Bytes)
    stop = (end_of start words).stopped

    SF : Kinds
    SF = settle_fault rules_now false (end_of start words).held

    DF : Kinds
    DF = defaults_fault (settled rules_now (end_of start words).held).rows rules_now

    CF : Kinds
    CF = check_fault shape (finished rules_now (end_of start words).held) (is_some (entered (built app) stop))

    or_else_nil : (k : Kinds) → or_else k [] ≡ k
    or_else_nil [] = refl
    or_else_nil (x ∷ ks) = refl

-- ---- clap's answer by `run`

pub run_taken : (words : List Bytes) → fault_of app words ≡ [] → (rows : List Row) × (run start words ≡ Some rows) × (matches_of app words ≡ finishing rows)
run_taken words e = (
  (settled rules_now (end_of start words).held).rows,
  run_is start words ∙ ap (λ k. if_none k (Some (settled rules_now (end_of start words).held).rows)) (sym (fault_is words) ∙ e),
  refl,
)

pub run_refused : (words : List Bytes) (k : ErrorKind) (ks : Kinds) → fault_of app words ≡ k ∷ ks → run start words ≡ None
run_refused words k ks e =
    run_is start words ∙ ap (λ f. if_none f (Some (settled rules_now (end_of start words).held).rows)) (sym (fault_is words) ∙ e)
