-- Records in the numbers of a plan: those of the entries that fit.
use Rattle.std.specs.Prelude.{◌≡◌, ℕ, ◌<◌, cond, List, map, Option, Some, None, option_map}
use Rattle.hk_base.specs.Bytes.{Bytes}
use Rattle.hk_base.specs.Identifier.{Ident}
use Rattle.hk_chain.specs.declared.page.Page.{Page}
use Rattle.hk_chain.specs.Layout.{final_of}
use Rattle.hk_fix.specs.Table.{Table}
use Rattle.hk_store.specs.Digests.{Digests}
use Rattle.hk_store.specs.Entry.{MarkView, asked, stored, EntryView}
use Rattle.hk_reuse.specs.Entries.{Entries, front, last_page}
use Rattle.hk_reuse.specs.Fits.{fits}
use Rattle.hk_reuse.specs.Replay.{asked_pairs, pattern_numbers}
use Rattle.hk_reuse.specs.Site.{Items, pair_named}
use Rattle.hk_replay.specs.declared.record.Step.{Step}
use Rattle.hk_replay.specs.declared.record.Step.TheVariants.{Asked, Saved}
use Rattle.hk_replay.specs.declared.record.Record.{Record}
use Rattle.hk_replay.specs.declared.record.Records.{Records}
use Rattle.hk_replay.specs.Replays.{record_at}

-- a step and a record as plain data
pub data StepView : Type 0 where
  group : List ℕ → List Bytes → StepView
  save : ℕ → Page → StepView

pub record RecordView : Type 0 where
  pub steps : List StepView
  pub patterns : List ℕ
  pub last : ℕ
  pub page : Page

abbrev pub step_view : Step → StepView
step_view (Asked pairs digests) = group pairs.items digests.items
step_view (Saved pair page) = save pair page

abbrev pub record_view : Record → RecordView
record_view r = record { steps = map step_view r.steps.items; patterns = r.patterns.items; last = r.last; page = r.page }

-- a mark of an item's entry, in numbers
abbrev pub numbered_step : Table → Ident → MarkView → StepView
numbered_step table own (asked views) = group (asked_pairs table views) (map (λ v. v.page) views)
numbered_step table own (stored name page) = save (pair_named table own name) page

abbrev pub numbered_entry : Items → ℕ → EntryView → RecordView
numbered_entry items i e =
    record {
      steps = map (numbered_step items.table (items.id i)) (front e.marks);
      patterns = pattern_numbers items.table e;
      last = final_of items.table.layout i;
      page = last_page e.marks;
    }

abbrev pub numbered_by : Digests → Items → ℕ → Option EntryView → Option RecordView
numbered_by dig items i None = None
numbered_by dig items i (Some e) = cond (fits dig items i e) (Some (numbered_entry items i e)) None

-- each item has the record of its entry, where that fits
abbrev pub AreNumbered : Digests → Items → Entries → Records → Type 0
AreNumbered dig items entries records = (i : ℕ) → i < items.table.layout.items → option_map record_view (record_at records i) ≡ numbered_by dig items i (entries (items.id i))
