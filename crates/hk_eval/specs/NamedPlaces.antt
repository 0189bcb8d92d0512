-- The names of what a plan numbers where a rendering stands.
use Rattle.std.specs.Prelude.{ℕ}
use Rattle.hk_fix.specs.Table.{Traits}
use Rattle.hk_rules.specs.Plan.{Lookups}
use Rattle.hk_rules.specs.Recipe.{NamedList, context_name, pattern_text}
use Rattle.hk_eval.specs.NamedValue.{NamedPlace, NamedValue, no_value, text_value, flag_value, list_value}
use Rattle.hk_eval.specs.Value.{Listing, Value, absent, text, flag, list}
use Rattle.hk_eval.specs.declared.place.Place.{Place}

abbrev pub traits_by : Lookups → ℕ → Traits
traits_by plan item = record { target = plan.target_of item; meta = plan.meta item }

abbrev pub named_place : Lookups → Place → NamedPlace
named_place plan here = record { id = plan.id here.item; page = here.page; traits = traits_by plan here.item; context = context_name plan here.context }

abbrev pub named_listing : Lookups → Listing → NamedList
named_listing plan l =
    record { pattern = pattern_text plan l.pattern; snapshot = l.snapshot; order = l.order; limit = l.limit; context = context_name plan l.context }

abbrev pub named_value : Lookups → Value → NamedValue
named_value plan absent = no_value
named_value plan (text bytes) = text_value bytes
named_value plan flag = flag_value
named_value plan (list listing) = list_value (named_listing plan listing)
