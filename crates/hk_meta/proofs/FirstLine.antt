-- The line at the start of a text is the first of all its lines.
use Rattle.std.proofs.Common.{◌≡◌, ℕ, ◌+◌, ◌-◌, ◌<◌, ◌≤◌, ◌==◌, suc, Bool, true, false, cond, not, [], ◌∷◌, length, take, drop, Option, Some, None, refl, ap, sym, ◌∙◌, arith, nat_lt, inl, inr, ◌⊎◌, ⊎_elim}
use Rattle.std.specs.List.{prefix_len, slice_get}
use Rattle.std.proofs.lemmas.Bool.Decides.{nat_tests}
use Rattle.std.proofs.lemmas.Grind.{common_steps}
use Rattle.std.proofs.lemmas.List.{take-take, take_all, drop_all, length-take-le}
use Rattle.std.proofs.lemmas.List.Sums.{prefix_len-le-length}
use Rattle.hk_base.specs.Bytes.{Bytes}
use Rattle.hk_base.specs.Line.{line_end, line_next, end_by, next_by, without_return, without_return_by, before_feed}
use Rattle.hk_meta.specs.Lines.{all_lines, begin_with, line_text, first_line}

-- how many bytes stand before the first LF, all where there is none
abbrev pub feed_at : Bytes → ℕ
feed_at text = prefix_len (λ b. not (b == 10)) text

-- all lines, cut behind the first LF
pub all_lines-cut : (c : ℕ) (cs : Bytes) → all_lines (c ∷ cs) ≡ take (suc (feed_at (c ∷ cs))) (c ∷ cs) ∷ all_lines (drop (suc (feed_at (c ∷ cs))) (c ∷ cs))
all_lines-cut c [] = by (c == 10)
  where
    by : (b : Bool) → cond b ((c ∷ []) ∷ []) ((c ∷ []) ∷ []) ≡ (c ∷ take (cond (not b) (1 + 0) 0) []) ∷ all_lines (drop (cond (not b) (1 + 0) 0) [])
    by true = refl
    by false = refl
all_lines-cut c (d ∷ ds) = by (c == 10) (all_lines-cut d ds)
  where
    by : (b : Bool) → all_lines (d ∷ ds) ≡ take (suc (feed_at (d ∷ ds))) (d ∷ ds) ∷ all_lines (drop (suc (feed_at (d ∷ ds))) (d ∷ ds)) → cond b ((c ∷ []) ∷ all_lines (d ∷ ds)) (begin_with c (all_lines (d ∷ ds))) ≡ (c ∷ take (cond (not b) (1 + feed_at (d ∷ ds)) 0) (d ∷ ds)) ∷ all_lines (drop (cond (not b) (1 + feed_at (d ∷ ds)) 0) (d ∷ ds))
    by true cut = refl
    by false cut = let e : suc (feed_at (d ∷ ds)) ≡ 1 + feed_at (d ∷ ds) = omega arith in ap (begin_with c) cut ∙ ap (λ n. (c ∷ take n (d ∷ ds)) ∷ all_lines (drop n (d ∷ ds))) e

-- the first line has the same first LF
pub feed_at-take : (text : Bytes) → feed_at (take (suc (feed_at text)) text) ≡ feed_at text
feed_at-take [] = refl
feed_at-take (c ∷ cs) = by (c == 10) refl (feed_at-take cs)
  where
    by : (b : Bool) → (c == 10) ≡ b → feed_at (take (suc (feed_at cs)) cs) ≡ feed_at cs → cond (not (c == 10)) (1 + feed_at (take (cond (not b) (1 + feed_at cs) 0) cs)) 0 ≡ cond (not b) (1 + feed_at cs) 0
    by true e same = ap (λ b. cond (not b) (1 + feed_at (take 0 cs)) 0) e
    by false e same = let next : 1 + feed_at cs ≡ suc (feed_at cs) = omega arith in ap (λ b. cond (not b) (1 + feed_at (take (1 + feed_at cs) cs)) 0) e ∙ ap (λ n. 1 + feed_at (take n cs)) next ∙ ap (λ n. 1 + n) same

pub without_return-le : (line : Bytes) → without_return line ≤ length line
without_return-le line = by (slice_get line (length line - 1))
  where
    by : (last : Option ℕ) → without_return_by line last ≤ length line
    by None = omega arith
    by (Some b) = grind (arith, common_steps)

-- a text with an LF, and one without
pub record IsFed (text : Bytes) : Type 0 where
  pub below : feed_at text < length text
  pub next : line_next text 0 ≡ suc (feed_at text)
  pub end : line_end text 0 ≡ without_return (take (feed_at text) text)

pub record IsUnfed (text : Bytes) : Type 0 where
  pub all : feed_at text ≡ length text
  pub next : line_next text 0 ≡ length text
  pub end : line_end text 0 ≡ length text

pub fed_or_not : (text : Bytes) → IsFed text ⊎ IsUnfed text
fed_or_not text = by (nat_lt (feed_at text) (length text)) refl
  where
    by : (b : Bool) → nat_lt (feed_at text) (length text) ≡ b → IsFed text ⊎ IsUnfed text
    by true e =
        let found : before_feed text ≡ Some (feed_at text) = ap (λ b. cond b (Some (feed_at text)) None) e in
        inl (record {
          below = grind (arith, nat_tests);
          next = ap (next_by text 0) found ∙ omega arith;
          end = ap (end_by text 0) found ∙ omega arith;
        })
    by false e =
        let found : before_feed text ≡ None = ap (λ b. cond b (Some (feed_at text)) None) e in
        inr (record {
          all = (let le = prefix_len-le-length (λ b. not (b == 10)) text in grind (arith, nat_tests));
          next = ap (next_by text 0) found;
          end = ap (end_by text 0) found;
        })

pub next-le : (text : Bytes) → line_next text 0 ≤ length text
next-le text = ⊎_elim (λ fed. omega (arith, fed.below, fed.next)) (λ unfed. omega (arith, unfed.next)) (fed_or_not text)

pub next-some : (text : Bytes) → 0 < length text → 0 < line_next text 0
next-some text some = ⊎_elim (λ fed. omega (arith, fed.next)) (λ unfed. omega (arith, unfed.next, some)) (fed_or_not text)

pub first_line-is : (text : Bytes) → first_line text ≡ take (suc (feed_at text)) text
unfolding first_line
first_line-is text =
    ⊎_elim (λ fed. ap (λ n. take n text) fed.next)
    (λ unfed. ap (λ n. take n text) unfed.next ∙ take_all (length text) text (omega arith) ∙ sym (take_all (suc (feed_at text)) text (omega (arith, unfed.all))))
    (fed_or_not text)

pub after_line-is : (text : Bytes) → drop (line_next text 0) text ≡ drop (suc (feed_at text)) text
after_line-is text =
    ⊎_elim (λ fed. ap (λ n. drop n text) fed.next)
    (λ unfed. ap (λ n. drop n text) unfed.next ∙ drop_all (length text) text (omega arith) ∙ sym (drop_all (suc (feed_at text)) text (omega (arith, unfed.all))))
    (fed_or_not text)

pub all_lines-first : (text : Bytes) → 0 < length text → all_lines text ≡ first_line text ∷ all_lines (drop (line_next text 0) text)
all_lines-first [] some = absurd (omega arith)
all_lines-first (c ∷ cs) some =
    all_lines-cut c cs
    ∙ ap (λ l. l ∷ all_lines (drop (suc (feed_at (c ∷ cs))) (c ∷ cs))) (sym (first_line-is (c ∷ cs)))
    ∙ ap (λ rest. first_line (c ∷ cs) ∷ all_lines rest) (sym (after_line-is (c ∷ cs)))

pub length-first_line : (text : Bytes) → length (first_line text) ≡ line_next text 0
unfolding first_line
length-first_line text = length-take-le (line_next text 0) text (next-le text)

-- the first line ends where the text's does
pub end-fed : (text : Bytes) → IsFed text → line_end (take (suc (feed_at text)) text) 0 ≡ line_end text 0
end-fed text fed =
    let line = take (suc (feed_at text)) text in
    let same : feed_at line ≡ feed_at text = feed_at-take text in
    let size : length line ≡ suc (feed_at text) = length-take-le (suc (feed_at text)) text (omega (arith, fed.below)) in
    ⊎_elim
    (λ inner. inner.end ∙ ap (λ n. without_return (take n line)) same ∙ ap without_return (take-take (feed_at text) (suc (feed_at text)) text (omega arith)) ∙ sym fed.end)
    (λ unfed. absurd (omega (arith, unfed.all, same, size)))
    (fed_or_not line)

pub line_text-first : (text : Bytes) → take (line_end text 0) text ≡ line_text (first_line text)
unfolding line_text
line_text-first text =
    ⊎_elim
    (λ fed.
    let within : line_end text 0 ≤ suc (feed_at text) = omega (arith, fed.end, without_return-le (take (feed_at text) text), length-take-le (feed_at text) text (omega (arith, fed.below))) in
    sym (take-take (line_end text 0) (suc (feed_at text)) text within)
    ∙ ap (λ n. take n (take (suc (feed_at text)) text)) (sym (end-fed text fed))
    ∙ ap (λ line. take (line_end line 0) line) (sym (first_line-is text)))
    (λ unfed.
    ap (λ line. take (line_end line 0) line) (sym (take_all (suc (feed_at text)) text (omega (arith, unfed.all))) ∙ sym (first_line-is text)))
    (fed_or_not text)
