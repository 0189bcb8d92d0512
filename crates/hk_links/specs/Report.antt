-- The links of pages that lead nowhere inside their site.
use Rattle.std.specs.Prelude.{◌≡◌, ℕ, ◌+◌, ◌-◌, ◌^◌, Bool, true, false, ◌||◌, ◌&&◌, not, List, [], ◌∷◌, ◌++◌, map, filter, min, length, slice_index_or, bytes_eq, nat_eq, if◌then◌else◌, codes}
use Rattle.std.specs.List.{list_any, ends_with}
use Rattle.hk_base.specs.Bytes.{Bytes}
use Rattle.hk_chain.specs.declared.page.Kind.{Kind}
use Rattle.hk_chain.specs.declared.page.Kind.TheVariants.{Text, Template, File}
use Rattle.hk_chain.specs.declared.page.Page.{Page}
use Rattle.hk_html.specs.Relative.{links_of}
use Rattle.hk_links.specs.declared.broken.Broken.{Broken}
use Rattle.hk_links.specs.Value.{is_internal}
use Rattle.hk_links.specs.Path.{resolved}

-- a link: the number of its page, the page's target, and its value
pub record Link : Type 0 where
  pub page : ℕ
  pub target : Bytes
  pub value : Bytes

-- how many links there are, and the broken ones
pub record Report : Type 0 where
  pub links : ℕ
  pub broken : List Broken

abbrev pub is_text : Kind → Bool
is_text Text = true
is_text Template = false
is_text File = false

-- the links of a text are tested whose target ends in `.html` or `.htm`
abbrev pub is_tested : Bytes → Page → Bool
is_tested target page =
    is_text page.kind && (ends_with nat_eq target (codes ".html") || ends_with nat_eq target (codes ".htm"))

-- the internal links among the values of a page, in their order
abbrev pub internal_links : ℕ → Bytes → List Bytes → List Link
internal_links number target values =
    map (λ value. record { page = number; target = target; value = value }) (filter is_internal values)

abbrev pub page_links : ℕ → Bytes → Page → List Link
page_links number target page =
    if is_tested target page then internal_links number target (links_of page.body) else []

-- the internal links of pages, of which the first has this number, in the order of the pages
abbrev pub site_links : ℕ → List Bytes → List Page → List Link
site_links number (target ∷ targets) (page ∷ pages) =
    page_links number target page ++ site_links (number + 1) targets pages
site_links number [] pages = []
site_links number (target ∷ targets) [] = []

-- the target of the page with this number
abbrev pub target_at : List Bytes → ℕ → Bytes
target_at targets number = slice_index_or targets number []

abbrev pub is_target : List Bytes → Bytes → Bool
is_target targets path = list_any (λ target. bytes_eq target path) targets

-- whether a link leads to no target
abbrev pub is_broken : List Bytes → Link → Bool
is_broken targets link = not (is_target targets (resolved link.target link.value))

abbrev pub broken_of : Link → Broken
broken_of link = record { page = link.page; value = link.value }

-- the number of links, or the last number of 64 bits where there are more, and the broken ones
abbrev pub report_on : List Bytes → List Link → Report
report_on targets links =
    record { links = min (length links) (2 ^ 64 - 1); broken = map broken_of (filter (is_broken targets) links) }

-- the report on the pages of a site
abbrev pub link_report : List Bytes → List Page → Report
link_report targets pages = report_on targets (site_links 0 targets pages)

-- one link more is counted
abbrev pub counted : Report → Report
counted report = record { links = min (report.links + 1) (2 ^ 64 - 1); broken = report.broken }

-- a broken one is kept
abbrev pub with_broken : Broken → Report → Report
with_broken broken report = record { links = report.links; broken = report.broken ++ broken ∷ [] }

-- a report on some links becomes that on these links behind them
abbrev pub Adds : List Bytes → List Link → Report → Report → Type 0
Adds targets links old new =
    (found : List Link) → old ≡ report_on targets found → new ≡ report_on targets (found ++ links)
