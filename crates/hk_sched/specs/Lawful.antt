-- When a board, and what it hands out, are lawful for a run.
use Rattle.std.specs.Prelude.{◌≡◌, ℕ, ◌-◌, ◌<◌, ◌≤◌, true, false, cond, ◌⊎◌, List, [], length, reverse, Some, is_some, slice_get}
use Rattle.hk_chain.specs.declared.page.Page.{Page}
use Rattle.hk_chain.specs.declared.fault.Fault.{Fault}
use Rattle.hk_chain.specs.Facts.{FactsView}
use Rattle.hk_chain.specs.Kept.{KeptView, at_place}
use Rattle.hk_chain.specs.Layout.{Shape, pairs, item_of}
use Rattle.hk_chain.specs.Traces.{AreFacts, AllAreFacts}
use Rattle.hk_fix.specs.declared.polled.Polled.{Polled}
use Rattle.hk_fix.specs.declared.polled.Polled.TheVariants as polled
use Rattle.hk_fix.specs.declared.event.Event.{Event}
use Rattle.hk_fix.specs.declared.event.Event.TheVariants.{Begin}
use Rattle.hk_fix.specs.Calls.{run_of, to_give}
use Rattle.hk_fix.specs.Facts.{facts_of, whole_log}
use Rattle.hk_fix.specs.Fix.{Seeds, IsSetting, seeded, seeds_of, fix, status, after, stands, ended, finished, is_finished, LawfulNewest, IsComplete}
use Rattle.hk_fix.specs.Report as report
use Rattle.hk_fix.specs.Report.{CanReport}
use Rattle.hk_fix.specs.Meaning.{Meaning}
use Rattle.hk_fix.specs.Pages.{Pages, Extends, lacking}
use Rattle.hk_fix.specs.Results.{ResultsView}
use Rattle.hk_fix.specs.Run.{snapshot}
use Rattle.hk_fix.specs.Task.{done, fault, waits, Run}
use Rattle.hk_sched.specs.declared.turn.Turn.{Turn}
use Rattle.hk_sched.specs.declared.turn.Turn.TheVariants as turn
use Rattle.hk_sched.specs.Standings.{Standing, unbegun, again, out, held, over}
use Rattle.hk_sched.specs.Board.{BoardView, place_at, IsBacked}

-- what a run is about: what its compilers have in common, the layout, and the kept pages and facts
pub record Key (C : Type 0) : Type 0 where
  pub common : C
  pub lay : Shape
  pub kept : KeptView

abbrev pub sown : {C : Type 0} → Key C → Seeds
sown key = seeds_of key.kept

-- how many pages a compiler gave before its last poll
abbrev pub used_saves : {C : Type 0} → Meaning C → ℕ
used_saves m = m.given - cond m.just_saved 1 0

-- a complete history, and the pages, ends and facts of the fixpoint
pub record IsRunOf (lay : Shape) (run : ℕ → Pages → Run Page) (seeds : Seeds) (r : ResultsView) : Type 0 where
  pub complete : IsComplete lay run seeds r.history
  pub page_count : length r.pages ≡ pairs lay
  pub pages : at_place r.pages ≡ fix lay run seeds
  pub outcome_count : length r.outcomes ≡ lay.items
  pub outcomes : (i : ℕ) → i < lay.items → slice_get r.outcomes i ≡ Some (status lay run seeds i)
  -- so each item that waits does so for pairs of items that aren't done,
  pub reports : CanReport lay r.outcomes
  -- a done item has a page for each of its pairs,
  pub pages_of_done : (p : ℕ) → p < pairs lay → is_finished (report.ending_at r.outcomes (item_of lay p)) ≡ true → is_some (at_place r.pages p) ≡ true
  -- and its facts are those of a run that went through, where those of the seeds are
  pub facts_of_done : AllAreFacts lay seeds.facts → (i : ℕ) (f : FactsView) → i < lay.items → slice_get r.outcomes i ≡ Some (finished f) → AreFacts lay i f

module _ {C : Type 0} (run : C → ℕ → Pages → Run Page) where
  -- the layout is the one that the common value determines, the runs keep the laws, and what is kept are seeds
  pub record IsKey (shape : C → Shape) (key : Key C) : Type 0 where
    pub layout : key.lay ≡ shape key.common
    pub setting : IsSetting key.lay (run key.common) (sown key)

  -- it has given all that its run saves, and the run waits for exactly what is asked
  pub record IsAsking (m : Meaning C) : Type 0 where
    pub going : m.has_ended ≡ false
    pub quiet : m.just_saved ≡ false
    pub gave : length (to_give run m) ≤ m.given
    pub stops : (run_of run m).end ≡ waits m.awaits

  -- a compiler of the run, which was told pages of the fixpoint
  pub record IsMachine (key : Key C) (m : Meaning C) : Type 0 where
    pub common : m.common ≡ key.common
    pub in_range : m.item < key.lay.items
    pub unseeded : seeded (sown key) m.item ≡ false
    pub told : Extends m.told (fix key.lay (run key.common) (sown key))
    pub few : m.given ≤ length (to_give run m)
    pub asks : 0 < length m.awaits → IsAsking m

  -- a lawful compiler that is off the board and may be polled
  pub record MayPoll (key : Key C) (m : Meaning C) : Type 0 where
    pub machine : IsMachine key m
    pub going : m.has_ended ≡ false
    pub closed : m.awaits ≡ []

  -- an item has begun and hasn't ended
  pub record IsGoing (h : List Event) (i : ℕ) : Type 0 where
    pub begun : stands (Begin i) h ≡ true
    pub going : ended i h ≡ false

  module _ {X : Type 0} (meaning : X → Meaning C) where
    abbrev pub IsTurn : Key C → Turn X → Type 0
    IsTurn key (turn.Fresh i) = (i < key.lay.items) × (seeded (sown key) i ≡ false)
    IsTurn key (turn.Woken x) = MayPoll key (meaning x)

    -- a compiler of the item that stands on the board, or is parked and used known pairs alone
    pub record IsHeld (key : Key C) (k : Pages) (i : ℕ) (m : Meaning C) : Type 0 where
      pub item : m.item ≡ i
      pub machine : IsMachine key m
      pub going : m.has_ended ≡ false
      pub backed : 0 < length (lacking k m.awaits) → IsBacked run k m (used_saves m)

    -- an item may stand so after this history, the newest event first
    abbrev pub MayStand : Key C → List Event → ℕ → Standing X → Type 0
    MayStand key h i unbegun = (seeded (sown key) i ≡ false) × (stands (Begin i) h ≡ false)
    MayStand key h i again = IsGoing h i
    MayStand key h i out = IsGoing h i
    MayStand key h i (held x) = IsGoing h i × IsHeld key (after key.lay (run key.common) (sown key) h) i (meaning x)
    MayStand key h i (over e) = ((seeded (sown key) i ≡ true) ⊎ (ended i h ≡ true)) × (e ≡ status key.lay (run key.common) (sown key) i)

    pub record IsLawful (key : Key C) (b : BoardView X C) : Type 0 where
      pub common : b.common ≡ key.common
      pub layout : b.lay ≡ key.lay
      pub pages : length b.known ≡ pairs key.lay
      pub items : length b.places ≡ key.lay.items
      pub history : LawfulNewest key.lay (run key.common) (sown key) (reverse b.history)
      pub known : at_place b.known ≡ after key.lay (run key.common) (sown key) (reverse b.history)
      pub places : (i : ℕ) → i < key.lay.items → MayStand key (reverse b.history) i (place_at b i)

    -- a page may be saved: its item is out, the item's run under the known pages saves it, and what that saves before is known
    pub record MaySave (key : Key C) (b : BoardView X C) (p : ℕ) (page : Page) : Type 0 where
      pub in_range : p < pairs key.lay
      pub is_out : place_at b (item_of key.lay p) ≡ out
      pub saves : snapshot (run key.common (item_of key.lay p) (at_place b.known)) p ≡ Some page
      pub earlier : (q : ℕ) → q < p → is_some (snapshot (run key.common (item_of key.lay p) (at_place b.known)) q) ≡ true → is_some (at_place b.known q) ≡ true

    -- an item may end: it is out, its run under the known pages doesn't wait, and all that it saves on the way is known
    pub record MayEnd (key : Key C) (b : BoardView X C) (i : ℕ) : Type 0 where
      pub in_range : i < key.lay.items
      pub is_out : place_at b i ≡ out
      pub saved : (q : ℕ) → is_some (snapshot (run key.common i (at_place b.known)) q) ≡ true → is_some (at_place b.known q) ≡ true

    abbrev pub MayFinish : Key C → BoardView X C → ℕ → Page → FactsView → Type 0
    MayFinish key b i page facts =
        MayEnd key b i × ((run key.common i (at_place b.known)).end ≡ done page) × (facts ≡ facts_of (whole_log key.lay i (run key.common i (at_place b.known))))

    abbrev pub MayFail : Key C → BoardView X C → ℕ → Fault → Type 0
    MayFail key b i f = MayEnd key b i × ((run key.common i (at_place b.known)).end ≡ fault f)

    -- a compiler may ask: its item is out, it has an open pair, and the pairs that it used are known
    pub record MayAsk (key : Key C) (b : BoardView X C) (m : Meaning C) : Type 0 where
      pub is_out : place_at b m.item ≡ out
      pub machine : IsMachine key m
      pub some : 0 < length m.awaits
      pub backed : IsBacked run (at_place b.known) m (used_saves m)

    -- a compiler that was handed out and may be polled: what it used is known, and so is its last save
    pub record InHand (key : Key C) (b : BoardView X C) (m : Meaning C) : Type 0 where
      pub is_out : place_at b m.item ≡ out
      pub machine : IsMachine key m
      pub closed : m.awaits ≡ []
      pub going : m.has_ended ≡ false
      pub backed : IsBacked run (at_place b.known) m m.given

    -- what the answer of a poll allows on a board that admits the compiler
    abbrev pub Allows : Key C → BoardView X C → Polled → Meaning C → Type 0
    Allows key b (polled.Saved p page) m = MaySave key b p page
    Allows key b polled.Ask m = MayAsk key b m
    Allows key b (polled.Done page facts) m = MayFinish key b m.item page facts
    Allows key b (polled.Failed f) m = MayFail key b m.item f
