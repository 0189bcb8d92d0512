-- What is left of a header after some of its lines.
use Rattle.std.proofs.Common.{◌≡◌, ℕ, ◌+◌, true, false, cond, List, [], ◌∷◌, map, length, Option, Some, None, Result, Err, fold, refl, ap, ◌∙◌, arith}
use Rattle.std.specs.Option.{is_some}
use Rattle.hk_base.specs.Bytes.{Bytes}
use Rattle.hk_meta.specs.Line.{Line, ignored, member, key_line, refused, line_of}
use Rattle.hk_meta.specs.Lines.{line_text, all_lines}
use Rattle.hk_meta.specs.Metadata.{Pairs, put}
use Rattle.hk_meta.specs.Reader.{State, OpenList, step, finished}
use Rattle.hk_meta.specs.Header.{assigned, members_of, join_after, assign, first_refused, accepted, before_fence, with_line, split_by, after_fence, is_fence, companion_line}
use Rattle.hk_meta.specs.declared.answer.Split.{Split}
use Rattle.hk_meta.specs.declared.answer.HeaderFault.{HeaderFault}
use Rattle.hk_meta.specs.declared.answer.HeaderFault.TheVariants.{Unclosed}

-- the keys and values after more lines
abbrev pub pairs_by : Pairs → Option OpenList → List Line → Pairs
pairs_by pairs None lines = fold assign pairs (assigned lines)
pairs_by pairs (Some o) lines = fold assign (put o.0 (join_after o.1 (members_of lines)) pairs) (assigned lines)

abbrev pub read_on : ℕ → Option ℕ → State → List Line → Result Pairs ℕ
read_on number None s lines = accepted (first_refused number (is_some s.1) lines) (pairs_by s.0 s.1 lines)
read_on number (Some bad) s lines = Err bad

-- the same after one more line
abbrev pub read_by : ℕ → Option State → List Line → Result Pairs ℕ
read_by number None lines = Err number
read_by number (Some s) lines = read_on (number + 1) None s lines

pub read_on-step : (number : ℕ) (pairs : Pairs) (o : Option OpenList) (line : Line) (lines : List Line) → read_on number None (pairs, o) (line ∷ lines) ≡ read_by number (step (pairs, o) line) lines
read_on-step number pairs None ignored lines = refl
read_on-step number pairs (Some o) ignored lines = refl
read_on-step number pairs None (member value) lines = refl
read_on-step number pairs (Some o) (member value) lines = refl
read_on-step number pairs None (key_line key None) lines = refl
read_on-step number pairs (Some o) (key_line key None) lines = refl
read_on-step number pairs None (key_line key (Some value)) lines = refl
read_on-step number pairs (Some o) (key_line key (Some value)) lines = refl
read_on-step number pairs None refused lines = refl
read_on-step number pairs (Some o) refused lines = refl

pub read_on-end : (number : ℕ) (bad : Option ℕ) (pairs : Pairs) (o : Option OpenList) → read_on number bad (pairs, o) [] ≡ finished bad (pairs, o)
read_on-end number None pairs None = refl
read_on-end number None pairs (Some o) = refl
read_on-end number (Some bad) pairs o = refl

-- what a header gives, from the lines up to its fence that are left
abbrev pub outcome : ℕ → ℕ → Option ℕ → State → Option (List Bytes × ℕ) → Result Split HeaderFault
outcome at number bad s None = Err (Unclosed 1)
outcome at number bad s (Some left) = split_by (at + left.1) (read_on number bad s (map line_of left.0))

pub outcome-start : (at : ℕ) (left : Option (List Bytes × ℕ)) → outcome at 2 None ([], None) left ≡ after_fence at left
outcome-start at None = refl
outcome-start at (Some left) = refl

-- a line that fits
pub outcome-taken : (at number : ℕ) (s t : State) (line : Bytes) (left : Option (List Bytes × ℕ)) → step s (line_of (line_text line)) ≡ Some t → outcome at number None s (with_line line left) ≡ outcome (at + length line) (number + 1) None t left
outcome-taken at number s t line None taken = refl
outcome-taken at number s t line (Some left) taken =
    let size : at + (length line + left.1) ≡ at + length line + left.1 = omega arith in
    ap (λ n. split_by n (read_on number None s (line_of (line_text line) ∷ map line_of left.0))) size
    ∙ ap (split_by (at + length line + left.1)) (read_on-step number s.0 s.1 (line_of (line_text line)) (map line_of left.0) ∙ ap (λ r. read_by number r (map line_of left.0)) taken)

-- the first that doesn't
pub outcome-refused : (at number : ℕ) (s t : State) (line : Bytes) (left : Option (List Bytes × ℕ)) → step s (line_of (line_text line)) ≡ None → outcome at number None s (with_line line left) ≡ outcome (at + length line) (number + 1) (Some number) t left
outcome-refused at number s t line None taken = refl
outcome-refused at number s t line (Some left) taken =
    let size : at + (length line + left.1) ≡ at + length line + left.1 = omega arith in
    ap (λ n. split_by n (read_on number None s (line_of (line_text line) ∷ map line_of left.0))) size
    ∙ ap (split_by (at + length line + left.1)) (read_on-step number s.0 s.1 (line_of (line_text line)) (map line_of left.0) ∙ ap (λ r. read_by number r (map line_of left.0)) taken)

-- the lines after it
pub outcome-passed : (at number bad : ℕ) (s t : State) (line : Bytes) (left : Option (List Bytes × ℕ)) → outcome at number (Some bad) s (with_line line left) ≡ outcome (at + length line) (number + 1) (Some bad) t left
outcome-passed at number bad s t line None = refl
outcome-passed at number bad s t line (Some left) =
    let size : at + (length line + left.1) ≡ at + length line + left.1 = omega arith in ap (λ n. split_by n (Err bad)) size

-- the fence
pub outcome-fence : (at number : ℕ) (bad : Option ℕ) (s : State) (line : Bytes) (lines : List Bytes) → is_fence (line_text line) ≡ true → outcome at number bad s (before_fence (line ∷ lines)) ≡ split_by (at + length line) (finished bad s)
outcome-fence at number bad s line lines fence =
    ap (λ b. outcome at number bad s (cond b (Some ([], length line)) (with_line line (before_fence lines)))) fence
    ∙ ap (split_by (at + length line)) (read_on-end number bad s.0 s.1)

pub before_fence-more : (line : Bytes) (lines : List Bytes) → is_fence (line_text line) ≡ false → before_fence (line ∷ lines) ≡ with_line line (before_fence lines)
before_fence-more line lines none = ap (λ b. cond b (Some ([], length line)) (with_line line (before_fence lines))) none

-- the lines of a companion file
abbrev pub companion_lines : Bytes → List Line
companion_lines text = map companion_line (map line_text (all_lines text))

pub companion-fence : (number : ℕ) (s : State) (line : Bytes) (lines : List Line) → is_fence (line_text line) ≡ true → read_on number None s (companion_line (line_text line) ∷ lines) ≡ read_on (number + 1) None s lines
companion-fence number s line lines fence =
    ap (λ b. read_on number None s (cond b ignored (line_of (line_text line)) ∷ lines)) fence
    ∙ read_on-step number s.0 s.1 ignored lines

pub companion-line : (number : ℕ) (s : State) (r : Option State) (line : Bytes) (lines : List Line) → is_fence (line_text line) ≡ false → step s (line_of (line_text line)) ≡ r → read_on number None s (companion_line (line_text line) ∷ lines) ≡ read_by number r lines
companion-line number s r line lines none taken =
    ap (λ b. read_on number None s (cond b ignored (line_of (line_text line)) ∷ lines)) none
    ∙ read_on-step number s.0 s.1 (line_of (line_text line)) lines
    ∙ ap (λ r. read_by number r lines) taken
