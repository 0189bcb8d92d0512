-- When a text is a date.
use Rattle.std.specs.Prelude.{ℕ, ℤ, pos, ◌+◌, ◌-◌, ◌*◌, ◌≡◌, Bool, true, ◌&&◌, ◌||◌, ◌==◌, nat_le, nat_lt, if◌then◌else◌, [], ◌∷◌, length, Option, Some, None, slice_range, slice_index, take, drop, not, codes}
use Rattle.jiff.specs.Words.{days_in_month, IsBetween}
use Rattle.std.specs.List.{suffix_len}
use Rattle.hk_base.specs.Bytes.{Bytes}
use Rattle.hk_meta.specs.Metadata.{Pairs, value_of}
use Rattle.hk_meta.specs.declared.date.Moment.{Moment}

abbrev pub is_digit : ℕ → Bool
is_digit c = nat_le 48 c && nat_le c 57

-- what the digits count to, after `value`; nothing where another byte stands among them
abbrev pub number_from : ℕ → Bytes → Option ℕ
number_from value [] = Some value
number_from value (c ∷ cs) = if is_digit c then number_from (value * 10 + (c - 48)) cs else None

-- the number that the bytes from one place to another write
abbrev pub number_at : Bytes → ℕ → ℕ → Option ℕ
number_at text first last = number_from 0 (slice_range text first last)

-- the calendar has this day
abbrev pub is_day : ℤ → ℕ → ℕ → Bool
is_day year month day = nat_le 1 month && nat_le month 12 && nat_le 1 day && nat_le day (days_in_month year month)

-- a clock shows this time
abbrev pub is_time : ℕ → ℕ → ℕ → Bool
is_time hour minute second = nat_le hour 23 && nat_le minute 59 && nat_le second 59

-- a day of the years 0 to 9999, and a time
abbrev pub IsMoment : Moment → Type 0
IsMoment moment =
    IsBetween (pos 0) (pos 9999) moment.year × (is_day moment.year moment.month moment.day ≡ true)
    × (is_time moment.hour moment.minute moment.second ≡ true)

abbrev pub midnight_by : Option ℕ → Option ℕ → Option ℕ → Option Moment
midnight_by (Some y) (Some m) (Some d) =
    if is_day (pos y) m d then Some (record { year = pos y; month = m; day = d; hour = 0; minute = 0; second = 0 }) else None
midnight_by year month day = None

-- `YYYY-MM-DD` as the start of that day
unfoldable pub read_day : Bytes → Option Moment
read_day text =
    if (length text == 10) && (slice_index text 4 == 45) && (slice_index text 7 == 45)
    then midnight_by (number_at text 0 4) (number_at text 5 7) (number_at text 8 10)
    else None

abbrev pub time_by : Moment → Option ℕ → Option ℕ → Option ℕ → Option Moment
time_by start (Some h) (Some m) (Some s) =
    if is_time h m s then Some (record start { hour = h; minute = m; second = s }) else None
time_by start hour minute second = None

-- `HH:MM:SS` of that day
unfoldable pub read_time : Moment → Bytes → Option Moment
read_time start text =
    if (length text == 8) && (slice_index text 2 == 58) && (slice_index text 5 == 58)
    then time_by start (number_at text 0 2) (number_at text 3 5) (number_at text 6 8)
    else None

abbrev pub with_time : Option Moment → Bytes → Option Moment
with_time None text = None
with_time (Some start) text = read_time start text

-- a text without one `Z` at its end
abbrev pub without_zone : Bytes → Bytes
without_zone text = if (length text == 20) && (slice_index text 19 == 90) then take 19 text else text

-- a space or `T`
abbrev pub begins_time : ℕ → Bool
begins_time c = (c == 32) || (c == 84)

-- a day, a space or `T`, and a time
abbrev pub read_day_and_time : Bytes → Option Moment
read_day_and_time text =
    if (length text == 19) && begins_time (slice_index text 10)
    then with_time (read_day (take 10 text)) (drop 11 text)
    else None

-- a date text: a day, or a day and a time, which a `Z` may follow
abbrev pub read_date : Bytes → Option Moment
read_date text = if length text == 10 then read_day text else read_day_and_time (without_zone text)

-- what follows the last `/` of a path
abbrev pub last_component : Bytes → Bytes
last_component path = drop (length path - suffix_len (λ c. not (c == 47)) path) path

-- the day before a `-` at the start of a name
abbrev pub read_name : Bytes → Option Moment
read_name name = if nat_lt 10 (length name) && (slice_index name 10 == 45) then read_day (take 10 name) else None

abbrev pub read_value : Option Bytes → Option Moment
read_value None = None
read_value (Some text) = read_date text

abbrev pub first_of_two : Option Moment → Option Moment → Option Moment
first_of_two (Some moment) other = Some moment
first_of_two None other = other

-- the first that is a date: the value of `published`, that of `date`, the start of the path's last component
abbrev pub date_of : Pairs → Bytes → Option Moment
date_of meta path =
    first_of_two (read_value (value_of (codes "published") meta))
    (first_of_two (read_value (value_of (codes "date") meta)) (read_name (last_component path)))
