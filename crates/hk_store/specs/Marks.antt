-- The marks of an entry as plain data.
use Rattle.hk_store.specs.declared.entry.MarkRecord.{MarkRecord}
use Rattle.hk_store.specs.declared.entry.MarkRecord.TheVariants.{Asks, Save}
use Rattle.hk_store.specs.Entry.{MarkView, asked, stored}

abbrev pub mark_view : MarkRecord → MarkView
mark_view (Asks asks) = asked asks.items
mark_view (Save save) = stored save.name save.page
