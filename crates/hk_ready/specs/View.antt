-- What a pass of a queue knows, and what each call makes of that.
use Rattle.std.specs.Prelude.{◌≡◌, ℕ, ◌+◌, Bool, true, false, ◌||◌, Option, Some, None, is_some}
use Rattle.atomic_table.specs.Seated.{TableId}
use Rattle.hk_ready.specs.declared.view.View.{View}

-- a queue and a pass as a clause sees them
pub record QueueView : Type 0 where
  pub id : TableId
  pub capacity : ℕ

pub record PassView (K : Type 0) : Type 0 where
  pub queue : TableId
  pub view : View K

module _ {K : Type 0} where
  -- the first pass before it has a key, the same with one, and a pass that nobody has
  abbrev pub unnamed : View K
  unnamed = record { key = None; is_alone = true; pushed = 0; popped = 0 }

  abbrev pub first_view : K → View K
  first_view key = record { key = Some key; is_alone = true; pushed = 0; popped = 0 }

  abbrev pub spent_view : View K
  spent_view = record { key = None; is_alone = false; pushed = 0; popped = 0 }

  -- a pass after a split, and the pass that was split from it
  abbrev pub after_split : View K → View K
  after_split v = record v { is_alone = false }

  abbrev pub split_from : View K → View K
  split_from v = record { key = v.key; is_alone = false; pushed = 0; popped = 0 }

  abbrev pub after_push : View K → View K
  after_push v = record v { pushed = v.pushed + 1 }

  abbrev pub after_pop : View K → View K
  after_pop v = record v { popped = v.popped + 1 }

  -- it has a key, or is alone
  abbrev pub can_act : View K → Bool
  can_act v = is_some v.key || v.is_alone

  -- a pass of this queue, with this key
  abbrev pub IsPassFor : TableId → Option K → PassView K → Type 0
  IsPassFor queue key p = (p.queue ≡ queue) × (p.view.key ≡ key)
