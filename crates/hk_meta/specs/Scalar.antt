-- Scalars: what a header line says after its dash or its colon.
use Rattle.std.specs.Prelude.{ℕ, zero, suc, ◌+◌, ◌-◌, Bool, true, false, not, ◌&&◌, ◌||◌, ◌==◌, if◌then◌else◌, [], ◌∷◌, ◌++◌, length, take, drop, Option, Some, None}
use Rattle.std.specs.Option.{unwrap_or}
use Rattle.std.specs.List.{prefix_len, suffix_len}
use Rattle.hk_base.specs.Bytes.{Bytes}

-- a blank inside a line: a space or a tab
abbrev pub is_blank : ℕ → Bool
is_blank c = (c == 32) || (c == 9)

abbrev pub skip_blanks : Bytes → Bytes
skip_blanks text = drop (prefix_len is_blank text) text

abbrev pub trim_end : Bytes → Bytes
trim_end text = take (length text - suffix_len is_blank text) text

-- the end or a comment
abbrev pub begins_comment : Bytes → Bool
begins_comment [] = true
begins_comment (c ∷ cs) = c == 35

-- blanks, then the end or a comment
abbrev pub is_ignored : Bytes → Bool
is_ignored text = begins_comment (skip_blanks text)

-- what may follow a closing quote or bracket: blanks, or a blank and a comment
abbrev pub ends_scalar : Bytes → Bool
ends_scalar [] = true
ends_scalar (c ∷ cs) = is_blank c && is_ignored cs

-- the bytes that may follow a backslash, and what they stand for
abbrev pub is_escape : ℕ → Bool
is_escape c = (c == 34) || (c == 92) || (c == 110) || (c == 116)

abbrev pub unescaped : ℕ → ℕ
unescaped c = if c == 110 then 10 else (if c == 116 then 9 else c)

-- a text after a double quote: its value and what follows the closing quote, given the value so far and whether a
-- backslash stands just before
abbrev pub double_from : Bytes → Bool → Bytes → Option (Bytes × Bytes)
double_from value begun [] = None
double_from value true (c ∷ cs) = if is_escape c then double_from (value ++ (unescaped c ∷ [])) false cs else None
double_from value false (c ∷ cs) =
    if c == 34 then Some (value, cs)
    else (if c == 92 then double_from value true cs else double_from (value ++ (c ∷ [])) false cs)

-- the same after a single quote, where two single quotes are one; `begun` says that one stands just before
abbrev pub single_from : Bytes → Bool → Bytes → Option (Bytes × Bytes)
single_from value true [] = Some (value, [])
single_from value false [] = None
single_from value true (c ∷ cs) = if c == 39 then single_from (value ++ (c ∷ [])) false cs else Some (value, c ∷ cs)
single_from value false (c ∷ cs) = if c == 39 then single_from value true cs else single_from (value ++ (c ∷ [])) false cs

-- a double quote or a single one
abbrev pub is_quote : ℕ → Bool
is_quote c = (c == 34) || (c == 39)

-- a text after this quote: its value and what follows the closing quote
unfoldable pub quoted : ℕ → Bytes → Option (Bytes × Bytes)
quoted quote text = if quote == 34 then double_from [] false text else single_from [] false text

-- members joined by `, `, given what the earlier ones came to
abbrev pub with_one_more : Option Bytes → Bytes → Option Bytes
with_one_more None member = Some member
with_one_more (Some text) member = Some (text ++ (44 ∷ 32 ∷ member))

-- a bracketed list's plain member ends before one of `,`, `[`, `]`, `{` and `}`
abbrev pub ends_member : ℕ → Bool
ends_member c = (c == 44) || (c == 91) || (c == 93) || (c == 123) || (c == 125)

abbrev pub member_len : Bytes → ℕ
member_len text = prefix_len (λ c. not (ends_member c)) text

-- a plain member without bytes is skipped
abbrev pub joined_plain : Option Bytes → Bytes → Option Bytes
joined_plain before [] = before
joined_plain before (c ∷ cs) = with_one_more before (c ∷ cs)

-- the members with one more, and what follows it
abbrev pub plain_member : Option Bytes → Bytes → Option (Option Bytes × Bytes)
plain_member before text = Some (joined_plain before (trim_end (take (member_len text) text)), drop (member_len text) text)

abbrev pub quoted_member : Option Bytes → Option (Bytes × Bytes) → Option (Option Bytes × Bytes)
quoted_member before None = None
quoted_member before (Some (value, rest)) = Some (with_one_more before value, skip_blanks rest)

unfoldable pub read_member : Option Bytes → Bytes → Option (Option Bytes × Bytes)
read_member before [] = plain_member before []
read_member before (c ∷ cs) = if is_quote c then quoted_member before (quoted c cs) else plain_member before (c ∷ cs)

-- a comma goes on to the next member, and a bracket closes the list
abbrev pub after_member : Option Bytes → Bytes → (Option Bytes → Bytes → Option (Bytes × Bytes)) → Option (Bytes × Bytes)
after_member before [] next = None
after_member before (c ∷ cs) next =
    if c == 44 then next before cs else (if c == 93 then Some (unwrap_or before [], cs) else None)

abbrev pub then_member : Option (Option Bytes × Bytes) → (Option Bytes → Bytes → Option (Bytes × Bytes)) → Option (Bytes × Bytes)
then_member None next = None
then_member (Some (before, rest)) next = after_member before rest next

-- at most so many members: their join, and what follows the closing bracket
unfoldable pub members_from : ℕ → Option Bytes → Bytes → Option (Bytes × Bytes)
members_from zero before text = None
members_from (suc count) before text = then_member (read_member before (skip_blanks text)) (members_from count)

-- a text after `[`; there are no more members than bytes
abbrev pub bracketed : Bytes → Option (Bytes × Bytes)
bracketed text = members_from (length text) None text

-- how many bytes stand before a comment: before the first `#` that stands first or after a blank
abbrev pub comment_from : ℕ → Bool → Bytes → ℕ
comment_from count free [] = count
comment_from count free (c ∷ cs) = if (c == 35) && free then count else comment_from (count + 1) (is_blank c) cs

unfoldable pub plain : Bytes → Bytes
plain text = trim_end (take (comment_from 0 true text) text)

-- the bytes that begin no plain scalar
abbrev pub is_reserved : ℕ → Bool
is_reserved c = (c == 124) || (c == 62) || (c == 123) || (c == 38) || (c == 42) || (c == 33)

-- a value, and whether it is that of a plain scalar
abbrev pub Scalar : Type 0
Scalar = Bytes × Bool

abbrev pub closed : Option (Bytes × Bytes) → Option Scalar
closed None = None
closed (Some (value, rest)) = if ends_scalar rest then Some (value, false) else None

-- the scalar of a text without blanks at its beginning; a list's line has no bracketed one
unfoldable pub scalar_at : Bool → Bytes → Option Scalar
scalar_at in_list [] = Some ([], true)
scalar_at in_list (c ∷ cs) =
    if is_quote c then closed (quoted c cs)
    else (if c == 91 then (if in_list then None else closed (bracketed cs))
    else (if is_reserved c then None else Some (plain (c ∷ cs), true)))

abbrev pub scalar : Bool → Bytes → Option Scalar
scalar in_list text = scalar_at in_list (skip_blanks text)
