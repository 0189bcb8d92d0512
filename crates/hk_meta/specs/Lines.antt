-- The lines of a text.
use Rattle.std.specs.Prelude.{ℕ, ◌==◌, if◌then◌else◌, List, [], ◌∷◌, take}
use Rattle.hk_base.specs.Bytes.{Bytes}
use Rattle.hk_base.specs.Line.{line_end, line_next}

-- lines with one more byte at the start of the first
abbrev pub begin_with : ℕ → List Bytes → List Bytes
begin_with c [] = (c ∷ []) ∷ []
begin_with c (l ∷ ls) = (c ∷ l) ∷ ls

-- all lines of a text, each with its LF
abbrev pub all_lines : Bytes → List Bytes
all_lines [] = []
all_lines (c ∷ cs) = if c == 10 then (c ∷ []) ∷ all_lines cs else begin_with c (all_lines cs)

-- a line without its LF and one CR before that
unfoldable pub line_text : Bytes → Bytes
line_text line = take (line_end line 0) line

-- the line at the start of a text
unfoldable pub first_line : Bytes → Bytes
first_line text = take (line_next text 0) text
