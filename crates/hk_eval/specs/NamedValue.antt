-- Where a rendering stands, and what a key comes to there, by names.
use Rattle.hk_base.specs.Bytes.{Bytes}
use Rattle.hk_base.specs.Identifier.{Ident}
use Rattle.hk_chain.specs.declared.page.Page.{Page}
use Rattle.hk_fix.specs.Table.{Traits}
use Rattle.hk_rules.specs.Recipe.{NamedList}

-- an item with a page of it and its traits, and the context that keys are looked up in
pub record NamedPlace : Type 0 where
  pub id : Ident
  pub page : Page
  pub traits : Traits
  pub context : Bytes

pub data NamedValue : Type 0 where
  no_value : NamedValue
  text_value : Bytes → NamedValue
  flag_value : NamedValue
  -- a list that isn't made yet
  list_value : NamedList → NamedValue
