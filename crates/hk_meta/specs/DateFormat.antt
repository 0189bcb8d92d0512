-- What a date pattern prints of a moment.
use Rattle.std.specs.Prelude.{ℕ, ◌-◌, Bool, true, false, ◌==◌, if◌then◌else◌, List, [], ◌∷◌, ◌++◌, length, take, get_or, replicate, codes, unsigned_abs}
use Rattle.std.specs.Fmt.{decimal}
use Rattle.jiff_core.specs.Calendar.{days_from_civil, weekday_number}
use Rattle.hk_base.specs.Bytes.{Bytes}
use Rattle.hk_meta.specs.declared.date.Moment.{Moment}

abbrev pub months : List Bytes
months =
    codes "January" ∷ codes "February" ∷ codes "March" ∷ codes "April" ∷ codes "May" ∷ codes "June" ∷ codes "July"
    ∷ codes "August" ∷ codes "September" ∷ codes "October" ∷ codes "November" ∷ codes "December" ∷ []

abbrev pub weekdays : List Bytes
weekdays =
    codes "Monday" ∷ codes "Tuesday" ∷ codes "Wednesday" ∷ codes "Thursday" ∷ codes "Friday" ∷ codes "Saturday"
    ∷ codes "Sunday" ∷ []

abbrev pub month_name : Moment → Bytes
month_name moment = get_or months (moment.month - 1) []

-- by the number of days that lie between 1970-01-01 and the day
abbrev pub weekday_index : Moment → ℕ
weekday_index moment = weekday_number (days_from_civil moment.year moment.month moment.day)

abbrev pub weekday_name : Moment → Bytes
weekday_name moment = get_or weekdays (weekday_index moment) []

-- a number, with so many of a byte in front that it has as many places
abbrev pub places : ℕ → ℕ → ℕ → Bytes
places width byte number = replicate (width - length (decimal number)) byte ++ decimal number

-- what a percent sign and a letter stand for
unfoldable pub form_text : Moment → ℕ → Bytes
form_text moment letter =
    if letter == 89 then places 4 48 (unsigned_abs moment.year)
    else (if letter == 109 then places 2 48 moment.month
    else (if letter == 100 then places 2 48 moment.day
    else (if letter == 72 then places 2 48 moment.hour
    else (if letter == 77 then places 2 48 moment.minute
    else (if letter == 83 then places 2 48 moment.second
    else (if letter == 101 then places 2 32 moment.day
    else (if letter == 66 then month_name moment
    else (if letter == 98 then take 3 (month_name moment)
    else (if letter == 65 then weekday_name moment
    else (if letter == 97 then take 3 (weekday_name moment)
    else letter ∷ []))))))))))

-- each form, and the other bytes as they are; `begun` says that a percent sign stands just before
abbrev pub format_from : Moment → Bool → Bytes → Bytes
format_from moment begun [] = []
format_from moment true (c ∷ cs) = form_text moment c ++ format_from moment false cs
format_from moment false (c ∷ cs) = if c == 37 then format_from moment true cs else c ∷ format_from moment false cs

abbrev pub format_date : Moment → Bytes → Bytes
format_date moment pattern = format_from moment false pattern
