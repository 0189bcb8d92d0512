-- The value of a key at a place: that of the first field of the place's context that has one.
use Rattle.std.specs.Prelude.{ℕ, Bool, true, false, cond, List, [], ◌∷◌, Option, Some, None, option_map, bytes_eq, codes}
use Rattle.hk_base.specs.Bytes.{Bytes}
use Rattle.hk_chain.specs.declared.context.Field.{Field}
use Rattle.hk_chain.specs.declared.context.Field.TheVariants as fields
use Rattle.hk_chain.specs.declared.page.Page.{Page}
use Rattle.hk_fix.specs.Task.{Task, gives, ◌▷◌}
use Rattle.hk_html.specs.Teasers.{teaser_of}
use Rattle.hk_html.specs.Url.{url_of}
use Rattle.hk_meta.specs.Date.{date_of, last_component}
use Rattle.hk_meta.specs.DateFormat.{format_date}
use Rattle.hk_meta.specs.Metadata.{value_of}
use Rattle.hk_meta.specs.declared.date.Moment.{Moment}
use Rattle.hk_route.specs.Rewriting.{without_extension}
use Rattle.hk_rules.specs.Plan.{Lookups}
use Rattle.hk_eval.specs.Asking.{need_text, ask_text}
use Rattle.hk_eval.specs.Value.{Value, absent, text, flag, list}
use Rattle.hk_eval.specs.declared.place.Place.{Place}

-- the last component of a path, without its extension
abbrev pub title_of : Bytes → Bytes
title_of path = without_extension (last_component path)

-- the date of an item
abbrev pub date_at : Lookups → ℕ → Option Moment
date_at plan item = date_of (plan.meta item) (plan.id item).path

-- a text, where there is one
abbrev pub text_if_any : Option Bytes → Value
text_if_any None = absent
text_if_any (Some bytes) = text bytes

abbrev pub flag_if : Bool → Value
flag_if true = flag
flag_if false = absent

abbrev pub printed_by : Bytes → Moment → Bytes
printed_by pattern moment = format_date moment pattern

abbrev pub body_text : Page → Task Value
body_text page = gives (text page.body)

-- the body of the place's page, which must be text
abbrev pub body_task : Lookups → Place → Task Value
body_task plan here = need_text (plan.id here.item) here.page ▷ body_text

abbrev pub teaser_text : Page → Task Value
teaser_text page = gives (text_if_any (teaser_of page.body))

-- the teaser of the text that the place's item saves under a name
abbrev pub teaser_task : Lookups → Place → Bytes → Task Value
teaser_task plan here name = ask_text plan (plan.id here.item) name ▷ teaser_text

-- the only key that a field has a value for; metadata may have one for any key
abbrev pub key_of : Field → Option Bytes
key_of fields.Body = Some (codes "body")
key_of fields.Metadata = None
key_of fields.Url = Some (codes "url")
key_of fields.Path = Some (codes "path")
key_of fields.Title = Some (codes "title")
key_of (fields.Const own bytes) = Some own
key_of (fields.Date own pattern) = Some own
key_of (fields.Bool own set) = Some own
key_of (fields.Teaser own name) = Some own
key_of (fields.List own pattern snapshot order limit context) = Some own

abbrev pub fits_by : Option Bytes → Bytes → Bool
fits_by None key = true
fits_by (Some own) key = bytes_eq own key

-- whether a field may have a value for a key
abbrev pub fits : Field → Bytes → Bool
fits field key = fits_by (key_of field) key

-- what a field has for a key that fits it
abbrev pub own_task : Lookups → Place → Bytes → Field → Task Value
own_task plan here key fields.Body = body_task plan here
own_task plan here key fields.Metadata = gives (text_if_any (value_of key (plan.meta here.item)))
own_task plan here key fields.Url = gives (text_if_any (option_map url_of (plan.target_of here.item)))
own_task plan here key fields.Path = gives (text (plan.id here.item).path)
own_task plan here key fields.Title = gives (text (title_of (plan.id here.item).path))
own_task plan here key (fields.Const own bytes) = gives (text bytes)
own_task plan here key (fields.Date own pattern) = gives (text_if_any (option_map (printed_by pattern) (date_at plan here.item)))
own_task plan here key (fields.Bool own set) = gives (flag_if set)
own_task plan here key (fields.Teaser own name) = teaser_task plan here name
own_task plan here key (fields.List own pattern snapshot order limit context) =
    gives (list (record { pattern = pattern; snapshot = snapshot; order = order; limit = limit; context = context }))

-- what one field has for a key
abbrev pub value_task : Lookups → Place → Bytes → Field → Task Value
value_task plan here key field = cond (fits field key) (own_task plan here key field) (gives absent)

-- a value, or what comes after where it is absent
abbrev pub or_task : Task Value → Value → Task Value
or_task rest absent = rest
or_task rest (text bytes) = gives (text bytes)
or_task rest flag = gives flag
or_task rest (list listing) = gives (list listing)

-- what the first of these fields that isn't absent has for a key
abbrev pub first_task : Lookups → Place → Bytes → List Field → Task Value
first_task plan here key [] = gives absent
first_task plan here key (field ∷ more) = value_task plan here key field ▷ or_task (first_task plan here key more)

-- the value of a key at a place
unfoldable pub field_task : Lookups → Place → Bytes → Task Value
field_task plan here key = first_task plan here key (plan.context here.context).fields
