-- The turns of a round, before their polls and after them.
use Rattle.std.specs.Prelude.{ℕ}
use Rattle.hk_chain.specs.declared.page.Page.{Page}
use Rattle.hk_chain.specs.Layout.{Shape}
use Rattle.hk_fix.specs.Meaning.{Meaning}
use Rattle.hk_fix.specs.Pages.{Pages}
use Rattle.hk_fix.specs.Task.{Run}
use Rattle.hk_sched.specs.Lawful.{Key}
use Rattle.hk_workers.specs.Working.{IsTurnFor, HasPolled}
use Rattle.hk_workers.specs.declared.rounds.Slot.{Slot}
use Rattle.hk_workers.specs.declared.rounds.Slot.TheVariants as slot

module _ {C : Type 0} (run : C → ℕ → Pages → Run Page) (shape : C → Shape) {X : Type 0} (meaning : X → Meaning C) where
  -- a lawful turn, whose compiler is to be polled
  abbrev pub IsReadySlot : Key C → Slot X → Type 0
  IsReadySlot key (slot.Ready t) = IsTurnFor run shape meaning key t
  IsReadySlot key (slot.Polled x p) = ⊥
  IsReadySlot key slot.NoMemory = ⊥

  -- a lawful compiler that was polled, or memory was wanting
  abbrev pub IsPolledSlot : Key C → Slot X → Type 0
  IsPolledSlot key (slot.Ready t) = ⊥
  IsPolledSlot key (slot.Polled x p) = HasPolled run shape key p (meaning x)
  IsPolledSlot key slot.NoMemory = Unit {0}
