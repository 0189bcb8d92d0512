-- What each call of a board keeps, and what polls allow, for one key.
use Rattle.std.specs.Prelude.{◌≡◌, ℕ, ◌<◌, [], false, length, None, All}
use Rattle.hk_chain.specs.declared.page.Page.{Page}
use Rattle.hk_chain.specs.declared.fault.Fault.{Fault}
use Rattle.hk_chain.specs.Facts.{FactsView}
use Rattle.hk_chain.specs.Kept.{at_place, IsKept}
use Rattle.hk_chain.specs.Layout.{Shape}
use Rattle.hk_fix.specs.declared.polled.Polled.{Polled}
use Rattle.hk_fix.specs.declared.polled.Polled.TheVariants as polled
use Rattle.hk_fix.specs.Calls.{Goes}
use Rattle.hk_fix.specs.Fix.{seeded}
use Rattle.hk_fix.specs.Meaning.{Meaning, fresh}
use Rattle.hk_fix.specs.Pages.{Pages, lacking}
use Rattle.hk_fix.specs.Task.{Run}
use Rattle.hk_sched.specs.declared.turn.Turn.{Turn}
use Rattle.hk_sched.specs.declared.turn.Turn.TheVariants as turn
use Rattle.hk_sched.specs.Standings.{out, held, all_told}
use Rattle.hk_sched.specs.Turns.{FirstOut}
use Rattle.hk_sched.specs.Board.{BoardView, place_at, opened, with_place, after_save, after_done, after_fail, after_put_back, HandsOut, ToldOne, NoneReady, Admits, results_of}
use Rattle.hk_sched.specs.Lawful.{Key, sown, IsMachine, MayPoll, IsTurn, IsLawful, IsRunOf, MaySave, MayFinish, MayFail, MayAsk, Allows}

module _ {X C : Type 0} (run : C → ℕ → Pages → Run Page) (meaning : X → Meaning C) (key : Key C) where
  pub record BoardLaws : Type 0 where
    -- a board opens lawful
    pub opens : IsKept key.lay key.kept → IsLawful run meaning key (opened key.common key.lay key.kept)
    -- each call keeps that under its condition, and what is handed out is lawful
    pub hands_out : (b n : BoardView X C) (t : Turn X) → IsLawful run meaning key b → HandsOut meaning b t n → IsLawful run meaning key n × IsTurn run meaning key t
    pub tells : (b n : BoardView X C) → IsLawful run meaning key b → ToldOne meaning b n → IsLawful run meaning key n
    pub puts_back : (b : BoardView X C) (t : Turn X) → IsLawful run meaning key b → IsTurn run meaning key t → IsLawful run meaning key (after_put_back meaning b t)
    pub saves : (b : BoardView X C) (p : ℕ) (page : Page) → IsLawful run meaning key b → MaySave run meaning key b p page → (p < length b.known) × IsLawful run meaning key (after_save b p page)
    pub parks : (b : BoardView X C) (x : X) → IsLawful run meaning key b → MayAsk run meaning key b (meaning x) → All (λ p. p < length b.known) (meaning x).awaits × IsLawful run meaning key (with_place b (meaning x).item (held x))
    pub finishes : (b : BoardView X C) (i : ℕ) (page : Page) (facts : FactsView) → IsLawful run meaning key b → MayFinish run meaning key b i page facts → IsLawful run meaning key (after_done b i page facts)
    pub fails : (b : BoardView X C) (i : ℕ) (f : Fault) → IsLawful run meaning key b → MayFail run meaning key b i f → IsLawful run meaning key (after_fail b i f)
    -- an item that is out may begin anew
    pub begins_anew : (b : BoardView X C) (i : ℕ) → IsLawful run meaning key b → place_at b i ≡ out → IsTurn run meaning key (turn.Fresh i)
    -- where nothing stands ready and nothing is out, it closes with the results of the run
    pub closes : (b : BoardView X C) → IsLawful run meaning key b → NoneReady meaning b → FirstOut b.places None → IsRunOf key.lay (run key.common) (sown key) (results_of meaning b)

  pub record PollLaws (shape : C → Shape) : Type 0 where
    -- a compiler that was made anew may be polled
    pub makes : (i : ℕ) → i < key.lay.items → seeded (sown key) i ≡ false → MayPoll run key (fresh key.common i)
    -- a poll leaves it lawful
    pub polls : (p : Polled) (m n : Meaning C) → MayPoll run key m → Goes shape run m p n → IsMachine run key n
    -- and what it answered may go to any lawful board that admits the compiler
    pub allows : (b : BoardView X C) (p : Polled) (m n : Meaning C) → IsLawful run meaning key b → MayPoll run key m → Goes shape run m p n → Admits run b n → Allows run meaning key b p n
    -- after a save it may be polled again
    pub goes_on : (p : ℕ) (page : Page) (m n : Meaning C) → MayPoll run key m → Goes shape run m (polled.Saved p page) n → MayPoll run key n
    -- and so after an ask that was answered
    pub answers : (b : BoardView X C) (m : Meaning C) → IsLawful run meaning key b → MayAsk run meaning key b m → lacking (at_place b.known) m.awaits ≡ [] → MayPoll run key (all_told (at_place b.known) m)
