-- The pages and feeds of a build at their targets.
use Rattle.std.specs.Prelude.{ℕ, List, [], ◌∷◌, Option, Some, None, length, map, option_map, option_to_list}
use Rattle.std.specs.Ordering.{nat_cmp}
use Rattle.std.specs.Cmp.Lexicographic.{slice_cmp}
use Rattle.std.specs.List.{flat_map}
use Rattle.std.specs.FinMap.Entries.{put}
use Rattle.hk_base.specs.Bytes.{Bytes}
use Rattle.hk_chain.specs.declared.page.Kind.TheVariants.{Text}
use Rattle.hk_chain.specs.declared.page.Page.{Page}
use Rattle.hk_chain.specs.Layout.{final_of}
use Rattle.hk_feed.specs.FeedText.{feed_text}
use Rattle.hk_fix.specs.Pages as known
use Rattle.hk_fix.specs.Report.{upto}
use Rattle.hk_machine.specs.Machine.{plan_shape}
use Rattle.hk_rules.specs.Plan.{lookups}
use Rattle.hk_rules.specs.PlanView.{PlanView}
use Rattle.hk_rules_file.specs.declared.tables.FeedRule.{FeedRule}
use Rattle.hk_writer.specs.declared.page_out.PageOut.{PageOut}

-- the bodies of some pages, each with its target
abbrev pub bodies : List (Bytes × Page) → List (Bytes × Bytes)
bodies es = map (λ e. (e.0, e.1.body)) es

-- a page with its target
abbrev pub placed_out : PageOut → Bytes × Page
placed_out out = (out.target, out.page)

-- one page more, in the order of the targets
abbrev pub with_page : Option (Bytes × Page) → List (Bytes × Page) → List (Bytes × Page)
with_page None es = es
with_page (Some e) es = put (slice_cmp nat_cmp) e.0 e.1 es

-- pages in the order of their targets
abbrev pub in_order : List (Bytes × Page) → List (Bytes × Page)
in_order [] = []
in_order (e ∷ es) = put (slice_cmp nat_cmp) e.0 e.1 (in_order es)

-- a target with a page, where both are there
abbrev pub placed : Option Bytes → Option Page → Option (Bytes × Page)
placed None page = None
placed (Some target) page = option_map (λ p. (target, p)) page

-- pages put over others, the last one first
abbrev pub over : List (Bytes × Page) → List (Bytes × Page) → List (Bytes × Page)
over [] es = es
over (d ∷ ds) es = put (slice_cmp nat_cmp) d.0 d.1 (over ds es)

-- the target of an item with its finished page
abbrev pub page_at : PlanView → known.Pages → ℕ → Option (Bytes × Page)
page_at plan pages item = placed ((lookups plan).target_of item) (pages (final_of (plan_shape plan) item))

-- the pages of all items that have a target and a finished page
abbrev pub item_pages : PlanView → known.Pages → List (Bytes × Page)
item_pages plan pages = in_order (flat_map (λ item. option_to_list (page_at plan pages item)) (upto (length plan.items)))

-- a feed as a page at its target
abbrev pub feed_page : PlanView → known.Pages → FeedRule → Bytes × Page
feed_page plan pages feed = (feed.target, record { kind = Text; body = feed_text (lookups plan) pages feed })

abbrev pub feed_pages : PlanView → known.Pages → List (Bytes × Page)
feed_pages plan pages = map (feed_page plan pages) plan.feeds

-- those pages and the feeds
abbrev pub pages_at : PlanView → known.Pages → List (Bytes × Page)
pages_at plan pages = over (feed_pages plan pages) (item_pages plan pages)
