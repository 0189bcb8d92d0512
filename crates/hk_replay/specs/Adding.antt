-- One more entry's record among those of the items.
use Rattle.std.specs.Prelude.{◌≡◌, ℕ, ◌<◌, cond, List, Option, Some, None, option_map, get_or}
use Rattle.std.specs.Ordering.{eq_by_cmp}
use Rattle.hk_base.specs.Identifier.{ident_cmp}
use Rattle.hk_store.specs.Entry.{EntryView}
use Rattle.hk_store.specs.Traits.{sha_digests}
use Rattle.hk_reuse.specs.Site.{Items}
use Rattle.hk_replay.specs.declared.record.Record.{Record}
use Rattle.hk_replay.specs.Numbered.{RecordView, record_view, numbered_by}

abbrev pub view_at : List (Option Record) → ℕ → Option RecordView
view_at records i = option_map record_view (get_or records i None)

-- the item of the entry has its record, and the others have what they had
abbrev pub AddsRecord : Items → EntryView → List (Option Record) → List (Option Record) → Type 0
AddsRecord items e old new =
    (i : ℕ) → i < items.table.layout.items
    → view_at new i ≡ cond (eq_by_cmp ident_cmp (items.id i) e.id) (numbered_by sha_digests items i (Some e)) (view_at old i)
