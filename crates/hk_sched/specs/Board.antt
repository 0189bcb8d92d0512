-- A board as plain data, and what its calls do.
use Rattle.std.specs.Prelude.{◌≡◌, ℕ, ◌+◌, ◌-◌, ◌<◌, true, cond, ◌⊎◌, List, [], ◌∷◌, ◌++◌, length, map, Option, Some, None, is_some, slice_set, Result, Ok, Err, take, Contains}
use Rattle.std.specs.List.{sum_by}
use Rattle.hk_base.specs.declared.refusal.NoMemory.{NoMemory}
use Rattle.hk_chain.specs.declared.page.Page.{Page}
use Rattle.hk_chain.specs.declared.fault.Fault.{Fault}
use Rattle.hk_chain.specs.Facts.{FactsView}
use Rattle.hk_chain.specs.Kept.{KeptView, at_place}
use Rattle.hk_chain.specs.Layout.{Shape, final_of}
use Rattle.hk_fix.specs.declared.event.Event.{Event}
use Rattle.hk_fix.specs.declared.event.Event.TheVariants.{Begin, Saved, Done, Failed}
use Rattle.hk_fix.specs.Fix.{finished, faulted}
use Rattle.hk_fix.specs.Meaning.{Meaning}
use Rattle.hk_fix.specs.Calls.{to_give}
use Rattle.hk_fix.specs.Pages.{Pages, lacking}
use Rattle.hk_fix.specs.Run.{Save}
use Rattle.hk_fix.specs.Task.{Run}
use Rattle.hk_fix.specs.Results.{ResultsView}
use Rattle.hk_sched.specs.declared.turn.Turn.{Turn}
use Rattle.hk_sched.specs.declared.turn.Turn.TheVariants as turn
use Rattle.hk_sched.specs.declared.turn.Asked.{Asked}
use Rattle.hk_sched.specs.declared.turn.Asked.TheVariants as asked
use Rattle.hk_sched.specs.Standings.{RosterView, Standing, unbegun, again, out, held, over, standing_at, is_out, first_standing, ending_at, all_told, SomeTold}
use Rattle.hk_sched.specs.Turns as rosters

-- what the compilers have in common, the layout, the known pages, where each item stands, and the events in their order
pub record BoardView (X C : Type 0) : Type 0 where
  pub common : C
  pub lay : Shape
  pub known : List (Option Page)
  pub places : List (Standing X)
  pub history : List Event

-- how many events may still come of a place and of a pair
abbrev pub to_come : {X : Type 0} → Standing X → ℕ
to_come unbegun = 2
to_come again = 1
to_come out = 1
to_come (held x) = 1
to_come (over e) = 0

abbrev pub to_save : Option Page → ℕ
to_save o = cond (is_some o) 0 1

abbrev pub events_left : {X : Type 0} → List (Option Page) → List (Standing X) → ℕ
events_left known places = sum_by to_come places + sum_by to_save known

module _ {X C : Type 0} where
  abbrev pub opened : C → Shape → KeptView → BoardView X C
  opened c lay kept = record { common = c; lay = lay; known = kept.pages; places = map first_standing kept.facts; history = [] }

  abbrev pub roster_of : BoardView X C → RosterView X
  roster_of b = record { known = b.known; places = b.places }

  abbrev pub place_at : BoardView X C → ℕ → Standing X
  place_at b i = standing_at b.places i

  abbrev pub with_place : BoardView X C → ℕ → Standing X → BoardView X C
  with_place b i s = record b { places = slice_set b.places i s }

  abbrev pub after_begin : BoardView X C → ℕ → BoardView X C
  after_begin b i = record b { places = slice_set b.places i out; history = b.history ++ Begin i ∷ [] }

  -- a page that is known already changes nothing
  abbrev pub after_save : BoardView X C → ℕ → Page → BoardView X C
  after_save b p page = cond (is_some (at_place b.known p)) b (record b { known = slice_set b.known p (Some page); history = b.history ++ Saved p ∷ [] })

  abbrev pub after_done : BoardView X C → ℕ → Page → FactsView → BoardView X C
  after_done b i page facts =
      record b { known = slice_set b.known (final_of b.lay i) (Some page); places = slice_set b.places i (over (finished facts)); history = b.history ++ Done i ∷ [] }

  abbrev pub after_fail : BoardView X C → ℕ → Fault → BoardView X C
  after_fail b i fault = record b { places = slice_set b.places i (over (faulted fault)); history = b.history ++ Failed i ∷ [] }

-- each page that a compiler was answered is known, and each of the first n that it saved
pub record IsBacked {C : Type 0} (run : C → ℕ → Pages → Run Page) (k : Pages) (m : Meaning C) (n : ℕ) : Type 0 where
  pub told : (p : ℕ) → is_some (m.told p) ≡ true → is_some (k p) ≡ true
  pub gave : (p : ℕ) → Contains (map (λ (s : Save). s.pair) (take n (to_give run m))) p → is_some (k p) ≡ true

-- a compiler may come back to a board: its item is out, and the pairs are known that it was answered, and those that its
-- polls before the last one saved
pub record Admits {X C : Type 0} (run : C → ℕ → Pages → Run Page) (b : BoardView X C) (m : Meaning C) : Type 0 where
  pub is-out : place_at b m.item ≡ out
  pub backed : IsBacked run (at_place b.known) m (m.given - cond m.just_saved 1 0)

module _ {X C : Type 0} (meaning : X → Meaning C) where
  abbrev pub NoneReady : BoardView X C → Type 0
  NoneReady b = rosters.NoneReady meaning (roster_of b)

  -- a turn that stands on the board is out; where a fresh item begins, the event is recorded; a woken compiler's open
  -- pairs were answered with their pages
  abbrev pub HandsOut : BoardView X C → Turn X → BoardView X C → Type 0
  HandsOut b (turn.Fresh i) n =
      (i < length b.places) × (((place_at b i ≡ unbegun) × (n ≡ after_begin b i)) ⊎ ((place_at b i ≡ again) × (n ≡ with_place b i out)))
  HandsOut b (turn.Woken y) n =
      (i : ℕ) × (x : X) × (i < length b.places) × (place_at b i ≡ held x) × (lacking (at_place b.known) (meaning x).awaits ≡ []) × (meaning y ≡ all_told (at_place b.known) (meaning x)) × (n ≡ with_place b i out)

  -- some open pairs of a woken compiler may have been answered
  abbrev pub ToldOne : BoardView X C → BoardView X C → Type 0
  ToldOne b n =
      (i : ℕ) × (x : X) × (y : X) × (i < length b.places) × (place_at b i ≡ held x) × (lacking (at_place b.known) (meaning x).awaits ≡ []) × SomeTold (at_place b.known) (meaning x) (meaning y) × (n ≡ with_place b i (held y))

  -- nothing exactly where nothing stands ready
  abbrev pub Gives : BoardView X C → Result (Option (Turn X)) NoMemory → BoardView X C → Type 0
  Gives b (Ok None) n = NoneReady b × (n ≡ b)
  Gives b (Ok (Some t)) n = HandsOut b t n
  Gives b (Err e) n = ToldOne b n

  -- the compiler comes back exactly where each open pair is known, and else it is parked
  abbrev pub Asks : BoardView X C → X → Asked X → BoardView X C → Type 0
  Asks b x (asked.Value y) n = (lacking (at_place b.known) (meaning x).awaits ≡ []) × (meaning y ≡ all_told (at_place b.known) (meaning x)) × (n ≡ b)
  Asks b x asked.Parked n = (lacking (at_place b.known) (meaning x).awaits ≡ [] → ⊥) × (n ≡ with_place b (meaning x).item (held x))
  Asks b x (asked.NoMemory y) n = (lacking (at_place b.known) (meaning x).awaits ≡ []) × SomeTold (at_place b.known) (meaning x) (meaning y) × (n ≡ b)

  -- a turn is dropped where its item isn't out
  abbrev pub after_put_back : BoardView X C → Turn X → BoardView X C
  after_put_back b (turn.Fresh i) = cond (is_out (place_at b i)) (with_place b i again) b
  after_put_back b (turn.Woken x) = cond (is_out (place_at b (meaning x).item)) (with_place b (meaning x).item (held x)) b

  abbrev pub IsClosed : Turn X → Type 0
  IsClosed (turn.Fresh i) = Unit {0}
  IsClosed (turn.Woken x) = (meaning x).awaits ≡ []

  abbrev pub results_of : BoardView X C → ResultsView
  results_of b = record { outcomes = map (ending_at meaning (at_place b.known)) b.places; pages = b.known; history = b.history }
