-- The members of a table, and their dates and tags.
use Rattle.std.specs.Prelude.{ℕ, Bool, List, [], filter, Option, Some, None, bytes_eq}
use Rattle.std.specs.List.{list_any, range_with_len}
use Rattle.hk_base.specs.Bytes.{Bytes}
use Rattle.hk_base.specs.Identifier.{Ident}
use Rattle.hk_meta.specs.Date.{date_of}
use Rattle.hk_meta.specs.Metadata.{value_of}
use Rattle.hk_meta.specs.declared.date.Moment.{Moment}
use Rattle.hk_pattern.specs.Pattern.{matches}
use Rattle.hk_pattern.specs.declared.pattern.Pattern.{Pattern}
use Rattle.hk_rules.specs.Plan.{Lookups}
use Rattle.hk_tags.specs.TagTexts.{tags_in}

abbrev pub is_match : Pattern → Ident → Bool
is_match of id = matches of id.path id.version

abbrev pub is_member : Lookups → Pattern → ℕ → Bool
is_member plan of item = is_match of (plan.id item)

-- the items that a pattern matches, in identifier order
abbrev pub members : Lookups → Pattern → List ℕ
members plan of = filter (is_member plan of) (range_with_len 0 plan.count)

abbrev pub date_at : Lookups → ℕ → Option Moment
date_at plan item = date_of (plan.meta item) (plan.id item).path

abbrev pub tags_by : Option Bytes → List Bytes
tags_by (Some text) = tags_in text
tags_by None = []

-- the tags of an item, which its metadata lists at a key
abbrev pub tags_at : Lookups → Bytes → ℕ → List Bytes
tags_at plan field item = tags_by (value_of field (plan.meta item))

abbrev pub has_tag : Lookups → Bytes → Bytes → ℕ → Bool
has_tag plan field tag item = list_any (λ own. bytes_eq own tag) (tags_at plan field item)
