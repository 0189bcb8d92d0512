-- What a record that is gone through comes to.
use Rattle.std.specs.Prelude.{◌≡◌, ℕ, true, Option, Some, None}
use Rattle.hk_chain.specs.declared.page.Page.{Page}
use Rattle.hk_chain.specs.Layout.{Shape}
use Rattle.hk_fix.specs.declared.polled.Polled.{Polled}
use Rattle.hk_fix.specs.Calls.{Goes}
use Rattle.hk_fix.specs.Pages.{Pages}
use Rattle.hk_fix.specs.Task.{Run}
use Rattle.hk_fix.specs.Meaning.{Meaning}
use Rattle.hk_replay.specs.declared.record.Records.{Records}
use Rattle.hk_replay.specs.declared.way.Way.{Way}
use Rattle.hk_replay.specs.Keeping.{over_shape, over_run, way_meaning}

module _ {M C : Type 0} (meaning : M → Meaning C) (shape : C → Shape) (run : C → ℕ → Pages → Run Page) where
  -- an answer, or a break after which nothing else has changed
  abbrev pub Turns : Records → Way M → Option Polled → Way M → Type 0
  Turns records old (Some polled) new = Goes (over_shape shape) (over_run run) (way_meaning meaning records old) polled (way_meaning meaning records new)
  Turns records old None new = (way_meaning meaning records new ≡ way_meaning meaning records old) × (new.inner ≡ old.inner) × (new.is_broken ≡ true) × (new.is_ended ≡ old.is_ended) × (new.last ≡ old.last)
