-- What a replay is to others, and what it keeps between its polls.
use Rattle.std.specs.Prelude.{◌≡◌, ℕ, ◌+◌, ◌-◌, ◌<◌, ◌≤◌, Bool, true, false, cond, not, ◌&&◌, ◌||◌, List, [], ◌++◌, length, map, take, Option, Some, None, is_some, nat_eq, option_to_list}
use Rattle.std.specs.BTreeSet.{contains}
use Rattle.std.specs.Ordering.{nat_cmp}
use Rattle.std.specs.Vec.{vec_capacity}
use Rattle.std.specs.List.{AllByRecursion, IsDistinct}
use Rattle.hk_chain.specs.declared.page.Page.{Page}
use Rattle.hk_chain.specs.Layout.{Shape}
use Rattle.hk_fix.specs.Pages.{Pages}
use Rattle.hk_fix.specs.Task.{Run}
use Rattle.hk_fix.specs.Run.{Save, saves_of}
use Rattle.hk_fix.specs.Facts.{is_in}
use Rattle.hk_fix.specs.Meaning.{Meaning}
use Rattle.hk_replay.specs.declared.record.Step.{Step}
use Rattle.hk_replay.specs.declared.record.Record.{Record}
use Rattle.hk_replay.specs.declared.record.Records.{Records}
use Rattle.hk_replay.specs.declared.way.Way.{Way}
use Rattle.hk_replay.specs.Going.{both, drop_saves, all_saves}
use Rattle.hk_replay.specs.Replays.{over, passed, kept_by, record_at, steps_of, Passes, Breaks}
use Rattle.hk_eval.specs.Told.{ToldView, told_pages, is_listed}

-- what the replays of a family have in common
pub record HeldView (C : Type 0) : Type 0 where
  pub inner : C
  pub records : Records

abbrev pub over_shape : {C : Type 0} → (C → Shape) → HeldView C → Shape
over_shape shape c = shape c.inner

abbrev pub over_run : {C : Type 0} → (C → ℕ → Pages → Run Page) → HeldView C → ℕ → Pages → Run Page
over_run run c i k = over c.records (run c.inner) i k

pub record ReplayView (M : Type 0) : Type 0 where
  pub records : Records
  pub inner : M
  pub told : ToldView
  pub awaits : List ℕ
  pub given : ℕ
  pub is_broken : Bool
  pub has_ended : Bool
  pub just_saved : Bool
  pub is_spent : Bool

abbrev pub view_of : {M : Type 0} → Records → Way M → Bool → ReplayView M
view_of records w spent =
    record {
      records = records;
      inner = w.inner;
      told = w.told;
      awaits = w.awaits;
      given = w.given;
      is_broken = w.is_broken;
      has_ended = w.is_ended;
      just_saved = is_some w.last;
      is_spent = spent;
    }

-- before the break the record's groups are passed, with it the last of them has a page with another digest
abbrev pub Phase : Pages → Option Record → ℕ → Bool → Type 0
Phase k None at false = ⊥
Phase k None at true = Unit {0}
Phase k (Some r) at false = Passes k (take at r.steps.items)
Phase k (Some r) at true = Breaks k (take at r.steps.items)

-- a compiler that wasn't polled
pub record IsFresh {C : Type 0} (m : Meaning C) : Type 0 where
  pub told : (q : ℕ) → m.told q ≡ None
  pub given : m.given ≡ 0
  pub closed : m.awaits ≡ []

module _ {M C : Type 0} (meaning : M → Meaning C) where
  abbrev pub meaning_of : ReplayView M → Meaning (HeldView C)
  meaning_of v =
      record {
        common = record { inner = (meaning v.inner).common; records = v.records };
        item = (meaning v.inner).item;
        told = both (meaning v.inner).told (told_pages v.told);
        given = v.given;
        awaits = cond (v.is_broken && not v.is_spent) (meaning v.inner).awaits v.awaits;
        has_ended = v.has_ended;
        just_saved = v.just_saved;
        is_spent = v.is_spent;
      }

  abbrev pub way_meaning : Records → Way M → Meaning (HeldView C)
  way_meaning records w = meaning_of (view_of records w false)

  -- the open pairs: those of the inner compiler after the break
  abbrev pub open_of : Way M → List ℕ
  open_of w = cond w.is_broken (meaning w.inner).awaits w.awaits

  abbrev pub known_of : Way M → Pages
  known_of w = both (meaning w.inner).told (told_pages w.told)

  abbrev pub record_of : Records → Way M → Option Record
  record_of records w = record_at records (meaning w.inner).item

  -- the steps that were passed
  abbrev pub front_of : Records → Way M → List Step
  front_of records w = take w.at (steps_of (record_of records w))

  -- what stays where memory was wanting
  pub record Stays (old new : Way M) : Type 0 where
    pub common : (meaning new.inner).common ≡ (meaning old.inner).common
    pub item : (meaning new.inner).item ≡ (meaning old.inner).item
    pub told : (q : ℕ) → known_of new q ≡ known_of old q
    pub awaits : new.awaits ≡ []
    pub given : new.given ≡ old.given
    pub ended : new.is_ended ≡ old.is_ended

  -- and what it used
  pub record UsesSame (old new : Way M) : Type 0 where
    pub last : new.last ≡ old.last
    pub used : new.used.items ≡ old.used.items

  -- each open pair isn't told, and has its room
  pub record HasRoom (w : Way M) : Type 0 where
    pub listed : w.is_broken ≡ false → AllByRecursion (λ p. is_listed w.told p ≡ true) w.awaits
    pub untold : AllByRecursion (λ p. known_of w p ≡ None) (open_of w)
    pub distinct : IsDistinct nat_eq (open_of w)
    pub room : 0 < length (open_of w) → length w.used.items + length (open_of w) ≤ vec_capacity w.used

  module _ (run : C → ℕ → Pages → Run Page) where
    -- the pages that were given: those of the passed steps, and those of the inner compiler that the steps didn't save
    abbrev pub gave : Records → Way M → List Save
    gave records w = saves_of (passed (front_of records w)) ++ drop_saves (is_in (kept_by [] (front_of records w))) (take (meaning w.inner).given (all_saves run (told_pages w.told) (meaning w.inner)))

    -- the pairs that it gave before the last poll
    abbrev pub given_before : Records → Way M → List ℕ
    given_before records w = map (λ s. s.pair) (take (w.given - cond (is_some w.last) 1 0) (saves_of (over records (run (meaning w.inner).common) (meaning w.inner).item (known_of w)).log))

    -- whether it goes on, has ended or wanted memory: the known pairs are used, and those that it gave before
    abbrev pub HasUsed : Records → Way M → Type 0
    HasUsed records w = (q : ℕ) → is_in w.used.items q ≡ (is_some (known_of w q) || is_in (given_before records w) q)

    pub record Keeps (records : Records) (w : Way M) : Type 0 where
      pub phase : Phase (known_of w) (record_of records w) w.at w.is_broken
      pub within : w.at ≤ length (steps_of (record_of records w))
      pub early : w.is_broken ≡ false → IsFresh (meaning w.inner)
      pub own : w.is_broken ≡ true → w.awaits ≡ []
      pub kept : w.is_broken ≡ true → contains nat_cmp w.kept ≡ is_in (kept_by [] (front_of records w))
      pub few : (meaning w.inner).given ≤ length (all_saves run (told_pages w.told) (meaning w.inner))
      pub going : w.is_ended ≡ false → (meaning w.inner).has_ended ≡ false
      pub count : w.given ≡ length (gave records w)
      pub past : List ℕ
      pub pairs : map (λ s. s.pair) (gave records w) ≡ past ++ option_to_list w.last
      pub bound : length past ≤ length w.used.items
      pub used : (q : ℕ) → is_in w.used.items q ≡ (is_some (known_of w q) || is_in past q)
