-- What is printed of a report of links.
use Rattle.std.specs.Prelude.{ℕ, List, [], ◌∷◌, ◌++◌, length, codes}
use Rattle.std.specs.List.{flat_map}
use Rattle.std.specs.Fmt.{decimal}
use Rattle.hk_base.specs.Bytes.{Bytes}
use Rattle.hk_links.specs.declared.broken.Broken.{Broken}
use Rattle.hk_links.specs.Report.{Report, target_at}

-- the line of a broken link on the page with this target
abbrev pub broken_line : Bytes → Bytes → Bytes
broken_line target value = codes "broken " ++ (target ++ (codes ": " ++ (value ++ 10 ∷ [])))

abbrev pub broken_line_of : List Bytes → Broken → Bytes
broken_line_of targets broken = broken_line (target_at targets broken.page) broken.value

-- the line of how many links there are and how many of them are broken
abbrev pub count_line : ℕ → ℕ → Bytes
count_line links broken =
    codes "links " ++ (decimal links ++ (codes ", broken " ++ (decimal broken ++ 10 ∷ [])))

-- a line for each broken link, and one that counts
abbrev pub links_text : List Bytes → Report → Bytes
links_text targets report =
    flat_map (broken_line_of targets) report.broken ++ count_line report.links (length report.broken)
