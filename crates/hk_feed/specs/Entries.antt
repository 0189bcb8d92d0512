-- The entries of a feed.
use Rattle.std.specs.Prelude.{ℕ, List, Option, Some, None}
use Rattle.std.specs.List.{filter_map}
use Rattle.hk_base.specs.Bytes.{Bytes}
use Rattle.hk_chain.specs.declared.page.Kind.{Kind}
use Rattle.hk_chain.specs.declared.page.Kind.TheVariants.{Text, Template, File}
use Rattle.hk_chain.specs.declared.page.Page.{Page}
use Rattle.hk_fix.specs.Pages.{Pages}
use Rattle.hk_rules.specs.Plan.{Lookups}
use Rattle.hk_feed.specs.Recent.{first_recent}
use Rattle.hk_rules_file.specs.declared.tables.FeedRule.{FeedRule}
-- an item with the page that its entry shows
pub use Rattle.hk_feed.specs.declared.entries.Entry.{Entry}

-- the page of a pair, where it is known
abbrev pub page_by : Pages → Option ℕ → Option Page
page_by pages None = None
page_by pages (Some pair) = pages pair

abbrev pub entry_of_kind : ℕ → Page → Kind → Option Entry
entry_of_kind item page Text = Some (record { item = item; page = page })
entry_of_kind item page Template = None
entry_of_kind item page File = None

-- an entry, where there is a page and it is text
abbrev pub entry_by : ℕ → Option Page → Option Entry
entry_by item None = None
entry_by item (Some page) = entry_of_kind item page page.kind

abbrev pub entry_of : Lookups → Pages → Bytes → ℕ → Option Entry
entry_of plan pages name item = entry_by item (page_by pages (plan.pair item name))

-- the entries of those items that have a text under a name
abbrev pub entries_of : Lookups → Pages → Bytes → List ℕ → List Entry
entries_of plan pages name items = filter_map (entry_of plan pages name) items

-- the entries of a feed: of the first members in recent order, as many as the limit says, those whose page is text
abbrev pub entries : Lookups → Pages → FeedRule → List Entry
entries plan pages feed = entries_of plan pages feed.snapshot (first_recent plan feed)
