-- Pages and facts that are known before a run begins.
use Rattle.std.specs.Prelude.{◌≡◌, ℕ, ◌<◌, List, length, Option, None, is_some, replicate}
use Rattle.std.specs.List.{slice_index_or}
use Rattle.hk_chain.specs.declared.page.Page.{Page}
use Rattle.hk_chain.specs.Facts.{FactsView}
use Rattle.hk_chain.specs.Layout.{Shape, pairs, item_of}

-- a place for each pair and one for each item
pub record KeptView : Type 0 where
  pub pages : List (Option Page)
  pub facts : List (Option FactsView)

-- what stands at a place of a list of options, and nothing past its end
abbrev pub at_place : {A : Type 0} → List (Option A) → ℕ → Option A
at_place xs n = slice_index_or xs n None

-- an item has facts and a page for each of its pairs, or neither facts nor any page
pub record IsKept (lay : Shape) (kept : KeptView) : Type 0 where
  pub page_count : length kept.pages ≡ pairs lay
  pub facts_count : length kept.facts ≡ lay.items
  pub each : (p : ℕ) → p < pairs lay → is_some (at_place kept.pages p) ≡ is_some (at_place kept.facts (item_of lay p))

-- nothing is known
abbrev pub none_kept : Shape → KeptView
none_kept lay = record { pages = replicate (pairs lay) None; facts = replicate lay.items None }
