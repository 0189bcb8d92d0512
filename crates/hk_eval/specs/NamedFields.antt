-- The value of a key at a place, as a deed: that of the first field of the place's context that has one.
use Rattle.std.specs.Prelude.{Bool, cond, List, [], ◌∷◌, Option, Some, None, option_map, bytes_eq, codes}
use Rattle.hk_base.specs.Bytes.{Bytes}
use Rattle.hk_chain.specs.declared.page.Page.{Page}
use Rattle.hk_fix.specs.Deed.{Deed, returns, ◌then◌}
use Rattle.hk_html.specs.Teasers.{teaser_of}
use Rattle.hk_html.specs.Url.{url_of}
use Rattle.hk_meta.specs.Date.{date_of}
use Rattle.hk_meta.specs.Metadata.{value_of}
use Rattle.hk_meta.specs.declared.date.Moment.{Moment}
use Rattle.hk_rules.specs.Recipe as recipe
use Rattle.hk_rules.specs.Recipe.{NamedContext, NamedField}
use Rattle.hk_eval.specs.Fields.{title_of, printed_by, fits_by}
use Rattle.hk_eval.specs.NamedAsking.{need_text_deed, ask_text_deed}
use Rattle.hk_eval.specs.NamedValue.{NamedPlace, NamedValue, no_value, text_value, flag_value, list_value}

-- the date of an item
abbrev pub named_date : NamedPlace → Option Moment
named_date here = date_of here.traits.meta here.id.path

-- a text, where there is one
abbrev pub text_value_if : Option Bytes → NamedValue
text_value_if None = no_value
text_value_if (Some bytes) = text_value bytes

abbrev pub flag_value_if : Bool → NamedValue
flag_value_if set = cond set flag_value no_value

abbrev pub body_value : Page → Deed NamedValue
body_value page = returns (text_value page.body)

abbrev pub teaser_value : Page → Deed NamedValue
teaser_value page = returns (text_value_if (teaser_of page.body))

-- the only key that a field has a value for; metadata may have one for any key
abbrev pub named_key : NamedField → Option Bytes
named_key recipe.page_body = Some (codes "body")
named_key recipe.metadata = None
named_key recipe.url = Some (codes "url")
named_key recipe.path = Some (codes "path")
named_key recipe.title = Some (codes "title")
named_key (recipe.constant own bytes) = Some own
named_key (recipe.date own pattern) = Some own
named_key (recipe.flag own set) = Some own
named_key (recipe.teaser own name) = Some own
named_key (recipe.list own listing) = Some own

-- what a field has for a key that fits it
abbrev pub own_deed : NamedPlace → Bytes → NamedField → Deed NamedValue
own_deed here key recipe.page_body = need_text_deed here.id here.page then body_value
own_deed here key recipe.metadata = returns (text_value_if (value_of key here.traits.meta))
own_deed here key recipe.url = returns (text_value_if (option_map url_of here.traits.target))
own_deed here key recipe.path = returns (text_value here.id.path)
own_deed here key recipe.title = returns (text_value (title_of here.id.path))
own_deed here key (recipe.constant own bytes) = returns (text_value bytes)
own_deed here key (recipe.date own pattern) = returns (text_value_if (option_map (printed_by pattern) (named_date here)))
own_deed here key (recipe.flag own set) = returns (flag_value_if set)
own_deed here key (recipe.teaser own name) = ask_text_deed here.id name then teaser_value
own_deed here key (recipe.list own listing) = returns (list_value listing)

-- what one field has for a key
abbrev pub value_deed : NamedPlace → Bytes → NamedField → Deed NamedValue
value_deed here key field = cond (fits_by (named_key field) key) (own_deed here key field) (returns no_value)

-- a value, or what comes after where there is none
abbrev pub or_deed : Deed NamedValue → NamedValue → Deed NamedValue
or_deed rest no_value = rest
or_deed rest (text_value bytes) = returns (text_value bytes)
or_deed rest flag_value = returns flag_value
or_deed rest (list_value listing) = returns (list_value listing)

-- what the first of these fields that has a value has for a key
abbrev pub first_deed : NamedPlace → Bytes → List NamedField → Deed NamedValue
first_deed here key [] = returns no_value
first_deed here key (field ∷ more) = value_deed here key field then or_deed (first_deed here key more)

-- the fields of the context with a name
abbrev pub fields_in : List NamedContext → Bytes → List NamedField
fields_in [] name = []
fields_in (c ∷ contexts) name = cond (bytes_eq c.name name) c.fields (fields_in contexts name)

-- the value of a key at a place
abbrev pub field_deed : List NamedContext → NamedPlace → Bytes → Deed NamedValue
field_deed contexts here key = first_deed here key (fields_in contexts here.context)
