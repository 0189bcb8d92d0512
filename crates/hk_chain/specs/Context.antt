-- A context as plain data.
use Rattle.std.specs.Prelude.{ℕ, List}
use Rattle.hk_chain.specs.declared.context.Field.{Field}

pub record ContextView : Type 0 where
  pub name : List ℕ
  pub fields : List Field
