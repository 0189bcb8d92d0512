-- The order of time.
use Rattle.std.specs.Ordering.{int_cmp, nat_cmp, ordering_then}
use Rattle.std.specs.declared.cmp.Ordering.{Ordering}
use Rattle.hk_meta.specs.declared.date.Moment.{Moment}

-- by the year, and where that is the same by the month, and so on to the second
abbrev pub moment_cmp : Moment → Moment → Ordering
moment_cmp a b =
    ordering_then (int_cmp a.year b.year) (ordering_then (nat_cmp a.month b.month) (ordering_then (nat_cmp a.day b.day)
    (ordering_then (nat_cmp a.hour b.hour) (ordering_then (nat_cmp a.minute b.minute) (nat_cmp a.second b.second)))))
