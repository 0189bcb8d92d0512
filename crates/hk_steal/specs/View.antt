-- What the ends of a deque know, and what clauses see of them.
use Rattle.std.specs.Prelude.{◌≡◌, ℕ, true, Option, Some, None, is_some}
use Rattle.std.specs.Global.{Global}
use Rattle.atomic_blocks.specs.Lent.{RowsId}
use Rattle.crossbeam_deque.specs.Handles.{Pass, IsPassOf, view}
use Rattle.hk_steal.specs.declared.view.View.{View}

-- which deque it is
abbrev pub DeckId : Type 0
DeckId = RowsId × Global

-- an owner as a clause sees it: how many tasks it has pushed, and how many it may push
pub record OwnerView (K : Type 0) : Type 0 where
  pub deck : DeckId
  pub key : Option K
  pub made : ℕ
  pub capacity : ℕ

-- a thief as a clause sees it: how many thieves can still be split from it
pub record ThiefView (K : Type 0) : Type 0 where
  pub deck : DeckId
  pub key : Option K
  pub spare : ℕ

module _ {K : Type 0} where
  -- the owner before it has a key, and every end with one
  abbrev pub unnamed : View K
  unnamed = record { key = None }

  abbrev pub keyed : K → View K
  keyed key = record { key = Some key }

-- a pass of this deque, with this key
abbrev pub IsEnd : {T K : Type 0} → DeckId → Option K → Pass T (View K) Global → Type 0
IsEnd deck key p = IsPassOf deck p × ((view p).key ≡ key) × (is_some key ≡ true)
