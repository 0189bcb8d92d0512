-- The title of an item.
use Rattle.std.specs.Prelude.{ℕ, codes}
use Rattle.std.specs.Option.{unwrap_or}
use Rattle.hk_base.specs.Bytes.{Bytes}
use Rattle.hk_meta.specs.Date.{last_component}
use Rattle.hk_meta.specs.Metadata.{value_of}
use Rattle.hk_route.specs.Rewriting.{without_extension}
use Rattle.hk_rules.specs.Plan.{Lookups}

-- the last component of a path, without its extension
abbrev pub title_of : Bytes → Bytes
title_of path = without_extension (last_component path)

-- the metadata `title` of an item, else what its path gives
abbrev pub title_at : Lookups → ℕ → Bytes
title_at plan item = unwrap_or (value_of (codes "title") (plan.meta item)) (title_of (plan.id item).path)
