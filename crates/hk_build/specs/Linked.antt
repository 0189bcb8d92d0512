-- The links of a site's pages.
use Rattle.std.specs.Prelude.{◌≡◌, ◌==◌, Bool, List, length, map}
use Rattle.hk_base.specs.Bytes.{Bytes}
use Rattle.hk_chain.specs.declared.page.Page.{Page}
use Rattle.hk_links.specs.Printed.{links_text}
use Rattle.hk_links.specs.Report.{Report, link_report}
use Rattle.hk_build.specs.declared.links.LinkLines.{LinkLines}

module _ (pages : List (Bytes × Page)) where
  -- the targets of the pages
  abbrev pub targets : List Bytes
  targets = map (λ e. e.0) pages

  -- the report of the pages' links, where these targets and no others are there
  abbrev pub report_of_links : Report
  report_of_links = link_report targets (map (λ e. e.1) pages)

  -- whether each link leads somewhere
  abbrev pub all_lead : Bool
  all_lead = length report_of_links.broken == 0

  -- what is printed of them
  abbrev pub link_lines : Bytes
  link_lines = links_text targets report_of_links

  pub record AreLines (lines : LinkLines) : Type 0 where
    pub text : lines.text ≡ link_lines
    pub all : lines.all_lead ≡ all_lead
