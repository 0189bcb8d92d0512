-- What is lawful for the key of a run: boards, turns, and compilers that a worker has in its hand.
use Rattle.std.specs.Prelude.{◌≡◌, ℕ}
use Rattle.hk_chain.specs.declared.page.Page.{Page}
use Rattle.hk_chain.specs.Layout.{Shape}
use Rattle.hk_fix.specs.declared.polled.Polled.{Polled}
use Rattle.hk_fix.specs.Calls.{Goes}
use Rattle.hk_fix.specs.Meaning.{Meaning}
use Rattle.hk_fix.specs.Pages.{Pages}
use Rattle.hk_fix.specs.Results.{ResultsView}
use Rattle.hk_fix.specs.Task.{Run}
use Rattle.hk_sched.specs.declared.turn.Turn.{Turn}
use Rattle.hk_sched.specs.Board.{BoardView}
use Rattle.hk_sched.specs.Lawful.{Key, sown, IsRunOf, IsKey, MayPoll, IsTurn, IsLawful}
use Rattle.hk_workers.specs.declared.step.Next.{Next}
use Rattle.hk_workers.specs.declared.step.Next.TheVariants as next

-- the compilers have this in common
abbrev pub HasCommon : {C : Type 0} → Key C → C → Type 0
HasCommon key c = key.common ≡ c

-- a compiler that goes on is such a one
abbrev pub GoesOn : {X : Type 0} → (X → Type 0) → Next X → Type 0
GoesOn P (next.On m) = P m
GoesOn P next.Parked = Unit {0}
GoesOn P (next.Ended m) = Unit {0}
GoesOn P (next.Refused m p) = Unit {0}
GoesOn P (next.NoMemory m) = Unit {0}

-- the results of the key's run
abbrev pub IsRunFor : {C : Type 0} → (C → ℕ → Pages → Run Page) → Key C → ResultsView → Type 0
IsRunFor run key r = IsRunOf key.lay (run key.common) (sown key) r

module _ {C : Type 0} (run : C → ℕ → Pages → Run Page) (shape : C → Shape) where
  -- a lawful compiler off the board, which may be polled
  pub record IsPlay (key : Key C) (m : Meaning C) : Type 0 where
    pub is_key : IsKey run shape key
    pub may : MayPoll run key m

  -- such a compiler was polled, and is n now
  pub record HasPolled (key : Key C) (polled : Polled) (n : Meaning C) : Type 0 where
    pub before : Meaning C
    pub play : IsPlay key before
    pub goes : Goes shape run before polled n

  module _ {X : Type 0} (meaning : X → Meaning C) where
    -- whoever has a lawful board or turn knows the laws of the runs
    pub record IsBoardFor (key : Key C) (b : BoardView X C) : Type 0 where
      pub is_key : IsKey run shape key
      pub lawful : IsLawful run meaning key b

    pub record IsTurnFor (key : Key C) (t : Turn X) : Type 0 where
      pub is_key : IsKey run shape key
      pub lawful : IsTurn run meaning key t
