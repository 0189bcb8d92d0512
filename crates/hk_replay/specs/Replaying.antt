-- What holds of every replay.
use Rattle.std.specs.Prelude.{◌≡◌, ℕ, ◌<◌, Bool, true, false, []}
use Rattle.hk_chain.specs.declared.page.Page.{Page}
use Rattle.hk_chain.specs.Layout.{Shape}
use Rattle.hk_fix.specs.Pages.{Pages}
use Rattle.hk_fix.specs.Task.{Run}
use Rattle.hk_fix.specs.Meaning.{Meaning}
use Rattle.hk_replay.specs.declared.record.Records.{Records}
use Rattle.hk_replay.specs.declared.way.Way.{Way}
use Rattle.hk_replay.specs.Keeping.{Keeps, HasRoom, HasUsed, HeldView}
use Rattle.hk_replay.specs.Replays.{AreRecords}

abbrev pub IsHeld : {C : Type 0} → (C → Type 0) → (C → Shape) → HeldView C → Type 0
IsHeld valid shape c = valid c.inner × AreRecords (shape c.inner) c.records

pub record IsReplay {M C : Type 0} (valid : C → Type 0) (shape : C → Shape) (run : C → ℕ → Pages → Run Page) (meaning : M → Meaning C) (records : Records) (w : Way M) (spent : Bool) : Type 0 where
  pub valid_now : valid (meaning w.inner).common
  pub fit : AreRecords (shape (meaning w.inner).common) records
  pub item : (meaning w.inner).item < (shape (meaning w.inner).common).items
  pub keeps : spent ≡ false → Keeps meaning run records w
  pub room : spent ≡ false → HasRoom meaning w
  pub nothing : spent ≡ true → w.awaits ≡ []
  pub used : HasUsed meaning run records w
