-- What the header of a file says, by the list of all its lines.
use Rattle.std.specs.Prelude.{ℕ, ◌+◌, Bool, true, false, ◌&&◌, ◌==◌, nat_le, if◌then◌else◌, List, [], ◌∷◌, map, fold, length, drop, slice_index, Option, Some, None, Result, Ok, Err}
use Rattle.std.specs.Option.{unwrap_or, is_none}
use Rattle.std.specs.List.{list_all}
use Rattle.hk_base.specs.Bytes.{Bytes}
use Rattle.hk_meta.specs.Line.{Line, ignored, member, key_line, refused, line_of}
use Rattle.hk_meta.specs.Lines.{all_lines, line_text}
use Rattle.hk_meta.specs.Metadata.{Pair, Pairs, put}
use Rattle.hk_meta.specs.Scalar.{is_blank, with_one_more}
use Rattle.hk_meta.specs.declared.answer.Split.{Split}
use Rattle.hk_meta.specs.declared.answer.HeaderFault.{HeaderFault}
use Rattle.hk_meta.specs.declared.answer.HeaderFault.TheVariants.{Unclosed, BadLine}

abbrev pub is_all_blank : Bytes → Bool
is_all_blank text = list_all is_blank text

-- three dashes, and then blanks only
unfoldable pub is_fence : Bytes → Bool
is_fence text =
    nat_le 3 (length text) && (slice_index text 0 == 45) && (slice_index text 1 == 45) && (slice_index text 2 == 45)
    && is_all_blank (drop 3 text)

-- the members of a list that is open before these lines: those up to the next key
abbrev pub members_of : List Line → List Bytes
members_of [] = []
members_of (ignored ∷ ls) = members_of ls
members_of (member m ∷ ls) = m ∷ members_of ls
members_of (key_line key value ∷ ls) = []
members_of (refused ∷ ls) = members_of ls

-- members joined by `, `, the empty text where there are none
abbrev pub join_after : Option Bytes → List Bytes → Bytes
join_after before members = unwrap_or (fold with_one_more before members) []

abbrev pub join : List Bytes → Bytes
join members = join_after None members

-- each key line's key, with its value or the members that follow it
abbrev pub assigned : List Line → List Pair
assigned [] = []
assigned (ignored ∷ ls) = assigned ls
assigned (member m ∷ ls) = assigned ls
assigned (key_line key (Some value) ∷ ls) = (key, value) ∷ assigned ls
assigned (key_line key None ∷ ls) = (key, join (members_of ls)) ∷ assigned ls
assigned (refused ∷ ls) = assigned ls

-- a repeated key keeps its place and takes the last value
abbrev pub assign : Pairs → Pair → Pairs
assign pairs p = put p.0 p.1 pairs

-- the number of the first refused line, where the first of these has the number given; a member is refused where no
-- list is open
abbrev pub first_refused : ℕ → Bool → List Line → Option ℕ
first_refused number list_open [] = None
first_refused number list_open (ignored ∷ ls) = first_refused (number + 1) list_open ls
first_refused number true (member m ∷ ls) = first_refused (number + 1) true ls
first_refused number false (member m ∷ ls) = Some number
first_refused number list_open (key_line key value ∷ ls) = first_refused (number + 1) (is_none value) ls
first_refused number list_open (refused ∷ ls) = Some number

abbrev pub accepted : Option ℕ → Pairs → Result Pairs ℕ
accepted None pairs = Ok pairs
accepted (Some number) pairs = Err number

-- the keys and values of header lines, the first of which has this number, or the number of the first refused line
abbrev pub read_lines : ℕ → List Line → Result Pairs ℕ
read_lines number lines = accepted (first_refused number false lines) (fold assign [] (assigned lines))

-- one more line before those that stand before a fence
abbrev pub with_line : Bytes → Option (List Bytes × ℕ) → Option (List Bytes × ℕ)
with_line line None = None
with_line line (Some (texts, size)) = Some (line_text line ∷ texts, length line + size)

-- the texts of the lines before the first fence, and how many bytes these and the fence have; nothing without a fence
abbrev pub before_fence : List Bytes → Option (List Bytes × ℕ)
before_fence [] = None
before_fence (l ∷ ls) = if is_fence (line_text l) then Some ([], length l) else with_line l (before_fence ls)

abbrev pub split_by : ℕ → Result Pairs ℕ → Result Split HeaderFault
split_by body_start (Ok meta) = Ok (record { meta = meta; body_start = body_start })
split_by body_start (Err number) = Err (BadLine number)

abbrev pub after_fence : ℕ → Option (List Bytes × ℕ) → Result Split HeaderFault
after_fence first None = Err (Unclosed 1)
after_fence first (Some (texts, size)) = split_by (first + size) (read_lines 2 (map line_of texts))

abbrev pub split_lines : List Bytes → Result Split HeaderFault
split_lines [] = Ok (record { meta = []; body_start = 0 })
split_lines (l ∷ ls) =
    if is_fence (line_text l) then after_fence (length l) (before_fence ls) else Ok (record { meta = []; body_start = 0 })

-- the metadata of a file's header and where its body starts
abbrev pub split : Bytes → Result Split HeaderFault
split file = split_lines (all_lines file)

abbrev pub companion_by : Result Pairs ℕ → Result Pairs HeaderFault
companion_by (Ok meta) = Ok meta
companion_by (Err number) = Err (BadLine number)

-- a line of a companion file, where a fence says nothing
abbrev pub companion_line : Bytes → Line
companion_line text = if is_fence text then ignored else line_of text

-- the metadata of a companion file
abbrev pub read_companion : Bytes → Result Pairs HeaderFault
read_companion file = companion_by (read_lines 1 (map companion_line (map line_text (all_lines file))))
