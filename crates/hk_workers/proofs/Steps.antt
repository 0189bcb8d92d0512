-- What the steps of a worker keep.
use Rattle.std.proofs.Common.{◌≡◌, ℕ, ◌<◌, [], length, Option, Some, None, Result, Ok, Err, IfOk, sym, subst}
use Rattle.hk_base.specs.declared.refusal.NoMemory.{NoMemory}
use Rattle.hk_chain.specs.declared.page.Page.{Page}
use Rattle.hk_chain.specs.Kept.{at_place, IsKept}
use Rattle.hk_chain.specs.Layout.{Shape}
use Rattle.hk_fix.specs.declared.polled.Polled.{Polled}
use Rattle.hk_fix.specs.declared.polled.Polled.TheVariants as polled
use Rattle.hk_fix.specs.Calls.{Goes, Polls}
use Rattle.hk_fix.specs.Meaning.{Meaning}
use Rattle.hk_fix.specs.Pages.{Pages, lacking}
use Rattle.hk_fix.specs.Task.{Run}
use Rattle.hk_sched.specs.declared.turn.Turn.TheVariants as turn
use Rattle.hk_sched.specs.Standings.{all_told, out}
use Rattle.hk_sched.specs.Board.{BoardView, opened, place_at, Admits}
use Rattle.hk_sched.specs.BoardLaws.{BoardLaws, PollLaws}
use Rattle.hk_sched.specs.Lawful.{Key, IsKey, IsLawful, Allows}
use Rattle.hk_lock.specs.Lawful.{IsLawfulFor}
use Rattle.hk_workers.specs.Working.{IsBoardFor, IsTurnFor, IsPlay, HasPolled}

module _ {X C : Type 0} (run : C → ℕ → Pages → Run Page) (shape : C → Shape) (meaning : X → Meaning C) where
  abbrev B : Type 0
  B = BoardView X C

  -- what the two calls that tell the laws say
  abbrev Laws : Type 0
  Laws = (key : Key C) → IsKey run shape key → BoardLaws run meaning key

  abbrev Polling : Type 0
  Polling = (key : Key C) → IsKey run shape key → PollLaws run meaning key shape

  -- for any key that a holder may have
  abbrev BoardAt : Option (Key C) → B → Type 0
  BoardAt o b = IsLawfulFor (IsBoardFor run shape meaning) o b

  abbrev PlayAt : Option (Key C) → Meaning C → Type 0
  PlayAt o m = IsLawfulFor (IsPlay run shape) o m

  abbrev PolledAt : Option (Key C) → Polled → Meaning C → Type 0
  PolledAt o p n = IsLawfulFor (λ key m. HasPolled run shape key p m) o n

  -- a board as its run opens it
  pub opens-lawful : (key : Key C) (r : Result B NoMemory) → Laws → IsKey run shape key → IsKept key.lay key.kept → IfOk r (λ b. b ≡ opened key.common key.lay key.kept) → IfOk r (λ b. IsBoardFor run shape meaning key b)
  opens-lawful key (Ok b) laws is kept e = subst (IsBoardFor run shape meaning key) (sym e) record { is_key = is; lawful = (laws key is).opens kept }
  opens-lawful key (Err e) laws is kept h = tt

  -- an item that is out may begin anew
  pub begins-anew : (o : Option (Key C)) (b : B) (i : ℕ) → Laws → place_at b i ≡ out → BoardAt o b → IsLawfulFor (IsTurnFor run shape meaning) o (turn.Fresh i)
  begins-anew None b i laws at s = s
  begins-anew (Some key) b i laws at s = record { is_key = s.is_key; lawful = (laws key s.is_key).begins_anew b i s.lawful at }

  -- a compiler that was polled
  polled-at : (o : Option (Key C)) (p : Polled) (m n : Meaning C) → Goes shape run m p n → PlayAt o m → PolledAt o p n
  polled-at None p m n g s = s
  polled-at (Some key) p m n g s = record { before = m; play = s; goes = g }

  pub polls-play : (o : Option (Key C)) (r : Result Polled NoMemory) (m n : Meaning C) → Polls shape run m r n → PlayAt o m → IfOk r (λ p. PolledAt o p n)
  polls-play o (Ok p) m n h s = polled-at o p m n h.1 s
  polls-play o (Err e) m n h s = tt

  module _ (laws : Laws) (polling : Polling) where
    -- what a poll's answer allows on a board that admits the compiler, whatever the key is
    pub allowed : {P : Type 0} (o : Option (Key C)) (b : B) (p : Polled) (n : Meaning C) → ((key : Key C) → IsKey run shape key → IsLawful run meaning key b → Allows run meaning key b p n → P) → Admits run b n → BoardAt o b → PolledAt o p n → P
    allowed None b p n f a s t = absurd s
    allowed (Some key) b p n f a s t = f key s.is_key s.lawful ((polling key s.is_key).allows b p t.before n s.lawful t.play.may t.goes a)

    pub settled : (o : Option (Key C)) (b after : B) (p : Polled) (n : Meaning C) → ((key : Key C) → IsKey run shape key → IsLawful run meaning key b → Allows run meaning key b p n → IsLawful run meaning key after) → Admits run b n → BoardAt o b → PolledAt o p n → BoardAt o after
    settled None b after p n f a s t = s
    settled (Some key) b after p n f a s t = record { is_key = s.is_key; lawful = f key s.is_key s.lawful ((polling key s.is_key).allows b p t.before n s.lawful t.play.may t.goes a) }

    pub save-below : (o : Option (Key C)) (b : B) (q : ℕ) (page : Page) (n : Meaning C) → Admits run b n → BoardAt o b → PolledAt o (polled.Saved q page) n → q < length b.known
    save-below o b q page n = allowed o b (polled.Saved q page) n (λ key is l may. ((laws key is).saves b q page l may).0)

    -- a compiler each of whose open pairs was answered goes on
    pub answered : (o : Option (Key C)) (b : B) (m n : Meaning C) → lacking (at_place b.known) m.awaits ≡ [] → n ≡ all_told (at_place b.known) m → Admits run b m → BoardAt o b → PolledAt o polled.Ask m → PlayAt o n
    answered None b m n none is a s t = s
    answered (Some key) b m n none is a s t =
        let may = (polling key s.is_key).allows b polled.Ask t.before m s.lawful t.play.may t.goes a in
        subst (IsPlay run shape key) (sym is) record { is_key = s.is_key; may = (polling key s.is_key).answers b m s.lawful may none }
