-- Plans of which a printed trace tells the history.
use Rattle.std.specs.Prelude.{◌≡◌, ℕ, ◌<◌, List, length, All}
use Rattle.std.specs.List.{AllByRecursion}
use Rattle.hk_chain.specs.Layout.{pairs}
use Rattle.hk_fix.specs.declared.event.Event.{Event}
use Rattle.hk_rules.specs.Pairs.{layout}
use Rattle.hk_rules.specs.Plan.{Lookups}
use Rattle.hk_rules.specs.PlanView.{PlanView}
use Rattle.hk_store.specs.Stored.{HeldId}
use Rattle.hk_texts.specs.ReportText.{item_text}
use Rattle.hk_texts.specs.TraceText.{IsEventWithin}

-- no two items print alike
abbrev pub PrintApart : Lookups → Type 0
PrintApart plan = (i j : ℕ) → i < plan.count → j < plan.count → item_text plan i ≡ item_text plan j → i ≡ j

-- each item has the path and the version of an identifier, as every item in memory has
abbrev pub HasIdentifiers : PlanView → Type 0
HasIdentifiers plan = AllByRecursion (λ item. HeldId item.0) plan.items

-- the numbers in the events are those of the plan's items and pairs
abbrev pub IsHistoryOf : PlanView → List Event → Type 0
IsHistoryOf plan history = All (IsEventWithin (length plan.items) (pairs (layout plan.items))) history
