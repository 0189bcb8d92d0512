-- The parts of a moment, as the printer of dates takes them.
use Rattle.std.specs.Prelude.{Some}
use Rattle.jiff_strtime.specs.Text.{Parts, no_parts}
use Rattle.hk_meta.specs.DateFormat.{weekday_index}
use Rattle.hk_meta.specs.declared.date.Moment.{Moment}

abbrev pub parts : Moment → Parts
parts moment = record no_parts {
  year = Some moment.year;
  month = Some moment.month;
  day = Some moment.day;
  hour = Some moment.hour;
  minute = Some moment.minute;
  second = Some moment.second;
  weekday = Some (weekday_index moment);
}
