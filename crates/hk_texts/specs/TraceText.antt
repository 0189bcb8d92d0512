-- The trace of a run. Each line ends with LF.
use Rattle.std.specs.Prelude.{ℕ, ◌<◌, List, ◌++◌, codes}
use Rattle.std.specs.List.{flat_map}
use Rattle.hk_base.specs.Bytes.{Bytes}
use Rattle.hk_chain.specs.Layout.{item_of}
use Rattle.hk_fix.specs.declared.event.Event.{Event}
use Rattle.hk_fix.specs.declared.event.Event.TheVariants.{Begin, Saved, Done, Failed}
use Rattle.hk_rules.specs.Plan.{Lookups}
use Rattle.hk_texts.specs.Printed.{end_of_line}
use Rattle.hk_texts.specs.ReportText.{item_text}

module _ (plan : Lookups) where
  -- a word in front of an item
  abbrev pub item_line : Bytes → ℕ → Bytes
  item_line front item = front ++ (item_text plan item ++ end_of_line)

  -- the item of a saved page, and the page's name
  abbrev pub saved_line : ℕ → Bytes
  saved_line pair = codes "saved " ++ (item_text plan (item_of plan.layout pair) ++ (codes " " ++ (plan.pair_name pair ++ end_of_line)))

  abbrev pub event_line : Event → Bytes
  event_line (Begin item) = item_line (codes "begin ") item
  event_line (Saved pair) = saved_line pair
  event_line (Done item) = item_line (codes "done ") item
  event_line (Failed item) = item_line (codes "failed ") item

-- a line for each event
abbrev pub trace_text : Lookups → List Event → Bytes
trace_text plan history = flat_map (event_line plan) history

-- the number in an event is that of an item or a pair
abbrev pub IsEventWithin : ℕ → ℕ → Event → Type 0
IsEventWithin items pairs (Begin item) = item < items
IsEventWithin items pairs (Saved pair) = pair < pairs
IsEventWithin items pairs (Done item) = item < items
IsEventWithin items pairs (Failed item) = item < items
