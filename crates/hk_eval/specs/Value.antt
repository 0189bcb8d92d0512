-- What a key comes to at a place.
use Rattle.std.specs.Prelude.{ℕ, Option}
use Rattle.hk_base.specs.Bytes.{Bytes}
use Rattle.hk_chain.specs.declared.context.Order.{Order}

-- a list that isn't made yet: the items that a pattern matches, each with the page that it saves under a name; their order,
-- how many of them at most, and the context of each
pub record Listing : Type 0 where
  pub pattern : ℕ
  pub snapshot : Bytes
  pub order : Order
  pub limit : Option ℕ
  pub context : ℕ

pub data Value : Type 0 where
  absent : Value
  text : Bytes → Value
  flag : Value
  list : Listing → Value
