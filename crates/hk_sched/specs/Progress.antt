-- How a run ends on one thread, and what is left to happen in it.
use Rattle.std.specs.Prelude.{◌≡◌, ℕ, ◌+◌, ◌*◌, ◌<◌, ◌≤◌, cond, ◌⊎◌, Option, Some, None, length}
use Rattle.std.specs.List.{sum_by}
use Rattle.hk_chain.specs.declared.page.Page.{Page}
use Rattle.hk_chain.specs.Kept.{at_place}
use Rattle.hk_chain.specs.Layout.{Shape}
use Rattle.hk_fix.specs.Meaning.{Meaning, fresh}
use Rattle.hk_fix.specs.Pages.{Pages}
use Rattle.hk_fix.specs.Task.{Run}
use Rattle.hk_sched.specs.declared.turn.Turn.{Turn}
use Rattle.hk_sched.specs.declared.turn.Turn.TheVariants as turn
use Rattle.hk_sched.specs.Standings.{Standing, is_out, is_ready}
use Rattle.hk_sched.specs.Turns.{FirstOut}
use Rattle.hk_sched.specs.Board.{BoardView, NoneReady, HandsOut, to_save}
use Rattle.hk_sched.specs.Lawful.{Key, IsLawful, InHand}

module _ {X C : Type 0} (meaning : X → Meaning C) where
  -- nothing stands ready, and this is the first item that is out
  abbrev pub BeginsAnew : BoardView X C → Turn X → BoardView X C → Type 0
  BeginsAnew b (turn.Fresh i) n = NoneReady meaning b × FirstOut b.places (Some i) × (n ≡ b)
  BeginsAnew b (turn.Woken x) n = ⊥

  -- what stands ready is handed out, and else the first item that is out begins anew
  abbrev pub TakesAny : BoardView X C → Option (Turn X) → BoardView X C → Type 0
  TakesAny b None n = NoneReady meaning b × FirstOut b.places None × (n ≡ b)
  TakesAny b (Some t) n = HandsOut meaning b t n ⊎ BeginsAnew b t n

  -- the compiler that a turn starts with
  abbrev pub Starts : C → Turn X → Meaning C → Type 0
  Starts c (turn.Fresh i) m = m ≡ fresh c i
  Starts c (turn.Woken x) m = m ≡ meaning x

  -- how many turns an item may still have: where it stands ready, its compiler may be dropped once, to begin anew
  abbrev pub turns_at : Pages → Standing X → ℕ
  turns_at k s = cond (is_ready meaning k s) 2 (cond (is_out s) 1 0)

  abbrev pub turns_left : BoardView X C → ℕ
  turns_left b = sum_by (turns_at (at_place b.known)) b.places

  -- what is left to happen: pages that aren't known, each of which may wake all items, and turns
  abbrev pub potential : BoardView X C → ℕ
  potential b = sum_by to_save b.known * (2 * length b.places + 1) + turns_left b

  -- a lawful board after a compiler was polled as far as it goes: less is left to happen where it was in hand
  pub record HasPlayed (run : C → ℕ → Pages → Run Page) (key : Key C) (b : BoardView X C) (m : Meaning C) (n : BoardView X C) : Type 0 where
    pub lawful : IsLawful run meaning key n
    pub spent : potential n ≤ potential b
    pub less : InHand run meaning key b m → potential n < potential b

abbrev pub CanStart : {X : Type 0} → Shape → Turn X → Type 0
CanStart lay (turn.Fresh i) = i < lay.items
CanStart lay (turn.Woken x) = Unit {0}
