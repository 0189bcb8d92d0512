-- What a compiler used on its way, as plain data.
use Rattle.std.specs.Prelude.{ℕ, List}

-- a group of pairs that were asked for at once, or a pair whose page was saved
pub data TraceMark : Type 0 where
  group : List ℕ → TraceMark
  save : ℕ → TraceMark

pub record FactsView : Type 0 where
  pub asks : List ℕ
  pub patterns : List ℕ
  pub trace : List TraceMark
