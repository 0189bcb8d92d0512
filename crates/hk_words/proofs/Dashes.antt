-- The word `--` is no word of a command.
use Rattle.std.proofs.Common.{◌≡◌, ◌||◌, Bool, true, false, cond, refl, sym, subst, codes, Option, Some, None, List, [], ◌∷◌, ◌⊎◌, inl, inr}
use Rattle.std.specs.List.{list_any}
use Rattle.std.specs.Str.{bytes_eq}
use Rattle.hk_words.specs.Given.{Given, after, given, with_attached, with_word, with_workers}
use Rattle.hk_base.specs.Bytes.{Bytes}
use Rattle.hk_base.specs.Ties.{bytes-same}
use Rattle.hk_words.specs.Arguments.{Refused}
use Rattle.hk_words.proofs.Clap.{is_dashes}
use Rattle.hk_words.proofs.Lexing.{IsDashed}
use Rattle.hk_words.proofs.Refusals.{dashed_first, dashed_second, dashed_workers, three_operands, twice_workers}

abbrev HasDash : List Bytes → Type 0
HasDash words = list_any is_dashes words ≡ true

dashed : (word : Bytes) → is_dashes word ≡ true → IsDashed word
dashed word e = (45 ∷ [], bytes-same word (45 ∷ 45 ∷ []) e)

either : (a b : Bool) → (a || b) ≡ true → (a ≡ true) ⊎ (b ≡ true)
either true b e = inl refl
either false b e = inr e

-- the word stands among the values of `--workers` or the operands
abbrev Holds : Given → Type 0
Holds g = HasDash g.workers ⊎ HasDash g.operands

first_holds : (word : Bytes) (words : List Bytes) → is_dashes word ≡ true → HasDash (word ∷ words)
first_holds word words e = rw e refl

later_holds : (word : Bytes) (words : List Bytes) → HasDash words → HasDash (word ∷ words)
later_holds word words e = go (is_dashes word)
  where
    go : (b : Bool) → (b || list_any is_dashes words) ≡ true
    go true = refl
    go false = e

-- such words are refused
values_refused : (w t o : List Bytes) → HasDash w → Refused (record { workers = w; traces = t; operands = o })
values_refused [] t o e = cc
values_refused (v ∷ []) t o e = go (either (is_dashes v) false e)
  where
    go : (is_dashes v ≡ true) ⊎ (false ≡ true) → Refused (record { workers = v ∷ []; traces = t; operands = o })
    go (inl y) = dashed_workers v [] t o (dashed v y)
    go (inr y) = cc
values_refused (v ∷ u ∷ w) t o e = twice_workers v u w t o

operands_refused : (w t o : List Bytes) → HasDash o → Refused (record { workers = w; traces = t; operands = o })
operands_refused w t [] e = cc
operands_refused w t (a ∷ []) e = go (either (is_dashes a) false e)
  where
    go : (is_dashes a ≡ true) ⊎ (false ≡ true) → Refused (record { workers = w; traces = t; operands = a ∷ [] })
    go (inl y) = dashed_first a w t [] (dashed a y)
    go (inr y) = cc
operands_refused w t (a ∷ b ∷ []) e = go (either (is_dashes a) (is_dashes b || false) e)
  where
    second : (is_dashes b ≡ true) ⊎ (false ≡ true) → Refused (record { workers = w; traces = t; operands = a ∷ b ∷ [] })
    second (inl y) = dashed_second a b w t [] (dashed b y)
    second (inr y) = cc

    go : (is_dashes a ≡ true) ⊎ ((is_dashes b || false) ≡ true) → Refused (record { workers = w; traces = t; operands = a ∷ b ∷ [] })
    go (inl y) = dashed_first a w t (b ∷ []) (dashed a y)
    go (inr y) = second (either (is_dashes b) false y)
operands_refused w t (a ∷ b ∷ c ∷ o) e = three_operands a b c w t o

refused_by : (g : Given) → Holds g → Refused g
refused_by g (inl h) = values_refused g.workers g.traces g.operands h
refused_by g (inr h) = operands_refused g.workers g.traces g.operands h

-- a word keeps what the others hold
word_keeps : (word : Bytes) (g : Given) → Holds g → Holds (with_word word g)
word_keeps word g h = by_trace (bytes_eq word (codes "--trace"))
  where
    by_attached : (a : Option Bytes) → Holds g → Holds (with_attached a word g)
    by_attached (Some v) (inl k) = inl (later_holds v g.workers k)
    by_attached (Some v) (inr k) = inr k
    by_attached None (inl k) = inl k
    by_attached None (inr k) = inr (later_holds word g.operands k)

    by_trace : (b : Bool) → Holds (cond b (record g { traces = word ∷ g.traces }) (with_attached (after (codes "--workers=") word) word g))
    by_trace true = h
    by_trace false = by_attached (after (codes "--workers=") word) h

word_holds : (word : Bytes) (g : Given) → is_dashes word ≡ true → Holds (with_word word g)
word_holds word g e = subst (λ w. Holds (with_word w g)) (sym (bytes-same word (45 ∷ 45 ∷ []) e)) (inr refl)

all_hold : (words : List Bytes) → HasDash words → Holds (given words)
all_hold [] e = cc
all_hold (word ∷ []) e = go (either (is_dashes word) false e)
  where
    go : (is_dashes word ≡ true) ⊎ (false ≡ true) → Holds (given (word ∷ []))
    go (inl y) = word_holds word _ y
    go (inr y) = cc
all_hold (word ∷ next ∷ rest) e = by_workers (bytes_eq word (codes "--workers")) refl (all_hold (next ∷ rest)) (all_hold rest)
  where
    by_word : (is_dashes word ≡ true) ⊎ (HasDash (next ∷ rest)) → (HasDash (next ∷ rest) → Holds (given (next ∷ rest))) → Holds (with_word word (given (next ∷ rest)))
    by_word (inl y) h = word_holds word (given (next ∷ rest)) y
    by_word (inr y) h = word_keeps word (given (next ∷ rest)) (h y)

    by_rest : Holds (given rest) → Holds (with_workers next (given rest))
    by_rest (inl k) = inl (later_holds next (given rest).workers k)
    by_rest (inr k) = inr k

    by_value : (is_dashes next ≡ true) ⊎ (HasDash rest) → (HasDash rest → Holds (given rest)) → Holds (with_workers next (given rest))
    by_value (inl y) h = inl (first_holds next (given rest).workers y)
    by_value (inr y) h = by_rest (h y)

    by_workers : (b : Bool) → bytes_eq word (codes "--workers") ≡ b → (HasDash (next ∷ rest) → Holds (given (next ∷ rest))) → (HasDash rest → Holds (given rest))
        → Holds (cond b (with_workers next (given rest)) (with_word word (given (next ∷ rest))))
    by_workers true w one two =
        let whole : word ≡ codes "--workers" = bytes-same word (codes "--workers") w in
        let others : HasDash (next ∷ rest) = subst (λ x. HasDash (x ∷ next ∷ rest)) whole e in
        by_value (either (is_dashes next) (list_any is_dashes rest) others) two
    by_workers false w one two = by_word (either (is_dashes word) (list_any is_dashes (next ∷ rest)) e) one

pub dashes_refused : (words : List Bytes) → HasDash words → Refused (given words)
dashes_refused words e = refused_by (given words) (all_hold words e)
