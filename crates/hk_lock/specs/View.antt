-- What a seat of a turn lock knows, and what each call makes of that.
use Rattle.std.specs.Prelude.{◌≡◌, ℕ, ◌+◌, ◌-◌, true, false, Option, Some, None}
use Rattle.atomic_table.specs.Seated.{TableId}
use Rattle.hk_lock.specs.declared.view.View.{View}

-- a seat as a clause sees it: which lock it is of, and what it knows
pub record SeatView (K : Type 0) : Type 0 where
  pub lock : TableId
  pub view : View K

module _ {K : Type 0} where
  -- the seat that comes with a lock, and one that was joined
  abbrev pub first_view : K → View K
  first_view key = record { key = Some key; has_turn = false; has_board = false; is_first = true; lent = 0 }

  abbrev pub spent_view : View K
  spent_view = record { key = None; has_turn = false; has_board = false; is_first = false; lent = 0 }

  -- the first seat after a split, and the seat that was split from it
  abbrev pub after_split : View K → View K
  after_split v = record v { lent = v.lent + 1 }

  abbrev pub split_from : View K → View K
  split_from v = record { key = v.key; has_turn = false; has_board = false; is_first = false; lent = 0 }

  -- the first seat after another came back
  abbrev pub after_join : View K → View K
  after_join v = record v { lent = v.lent - 1 }

  abbrev pub after_take : View K → View K
  after_take v = record v { has_turn = true; has_board = true }

  abbrev pub after_give_back : View K → View K
  after_give_back v = record v { has_turn = false; has_board = false }

  -- it has no turn and no board
  abbrev pub IsIdle : View K → Type 0
  IsIdle v = (v.has_turn ≡ false) × (v.has_board ≡ false)

  -- an idle seat of this lock, with this key
  abbrev pub IsSeatFor : TableId → Option K → SeatView K → Type 0
  IsSeatFor lock key s = (s.lock ≡ lock) × IsIdle s.view × (s.view.key ≡ key)

  -- the first seat of this lock, idle, from which so many are lent
  abbrev pub IsFirstSeat : TableId → ℕ → SeatView K → Type 0
  IsFirstSeat lock lent s = (s.lock ≡ lock) × IsIdle s.view × (s.view.is_first ≡ true) × (s.view.lent ≡ lent)
