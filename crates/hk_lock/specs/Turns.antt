-- The rule of a turn lock: a table of one word and one slot. The word is 1 while a seat has the turn, and the slot is then out with that seat.
use Rattle.std.specs.Prelude.{◌≡◌, ℕ, ◌+◌, ◌≤◌, Bool, true, false, cond, [], ◌∷◌, length, slice_index, Option, Some, None, is_some}
use Rattle.std.specs.List.{count_by}
use mathlib.Core.Option.{some, none}
use lib.ListN.{get_elem?}
use Rattle.atomic_table.specs.Table.{State, Me, Step}
use Rattle.hk_lock.specs.declared.view.View.{View}
use Rattle.hk_lock.specs.Lawful.{IsLawfulFor}
use Rattle.hk_lock.specs.View.{spent_view, after_take, after_give_back}

module _ {K : Type 0} where
  -- it isn't spent
  abbrev pub is_live : View K → Bool
  is_live v = is_some v.key

  abbrev pub has_turn : View K → Bool
  has_turn v = v.has_turn

  abbrev pub is_first : View K → Bool
  is_first v = v.is_first

  -- what holds of each seat's view
  pub record SeatFits (key : K) (live : ℕ) (v : View K) : Type 0 where
    -- all views but spent ones carry one key
    pub keyed : is_live v ≡ true → v.key ≡ Some key
    pub spent : is_live v ≡ false → v ≡ spent_view
    -- a view has the board exactly where it has the turn
    pub board : v.has_board ≡ v.has_turn
    -- the first seat's count of lent seats is that of all others that aren't spent
    pub others : v.is_first ≡ true → v.lent + 1 ≡ live

module _ {B K : Type 0} (lawful : K → B → Type 0) where
  -- what holds between any two steps
  pub record IsLockState (key : K) (s : State (Option B) (View K)) : Type 0 where
    pub one_word : length s.words ≡ 1
    pub one_slot : length s.homes ≡ 1
    pub fits : (n : ℕ) (v : View K) → get_elem? s.views n ≡ some v → SeatFits key (count_by is_live s.views) v
    -- the word is 0 or 1, and 1 exactly where one view has the turn: never do two have it
    pub turns : count_by has_turn s.views ≡ slice_index s.words 0
    pub one_turn : slice_index s.words 0 ≤ 1
    -- one view is the first seat's, and it isn't spent
    pub one_first : count_by is_first s.views ≡ 1
    -- a slot that is at home holds a board that is lawful for the key
    pub home : slice_index s.words 0 ≡ 0 → (b : B) × (get_elem? s.homes 0 ≡ some (some (Some b))) × lawful key b
    -- and it is at home exactly where nobody has the turn
    pub away : slice_index s.words 0 ≡ 1 → get_elem? s.homes 0 ≡ some none

  -- the turn was taken, with the slot, in which a lawful board lies
  abbrev pub HasTaken : Me (Option B) (View K) → Me (Option B) (View K) → Type 0
  HasTaken me after = (b : B) × (after ≡ (after_take me.0, (0, Some b) ∷ me.1)) × IsLawfulFor lawful me.0.key b

  -- the turn was taken where the word was 0
  abbrev pub Tried : Step (Option B) → Me (Option B) (View K) → ℕ → Me (Option B) (View K) → Type 0
  Tried step me found after = (found ≡ 0 → HasTaken me after) × ((found ≡ 0 → ⊥) → after ≡ me)

module _ {B K : Type 0} where
  -- the turn was given up, with the slot
  abbrev pub Released : Step (Option B) → Me (Option B) (View K) → ℕ → Me (Option B) (View K) → Type 0
  Released step me found after = after ≡ (after_give_back me.0, [])

  -- between two calls a seat isn't spent, and its slot, if it has the turn, is empty: the board is out
  pub record HoldsItsSlot (me : Me (Option B) (View K)) : Type 0 where
    pub slot : me.1 ≡ cond me.0.has_turn ((0, None) ∷ []) []
    pub is_live : is_some me.0.key ≡ true
    pub board : me.0.has_board ≡ me.0.has_turn
