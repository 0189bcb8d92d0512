-- The posts of a generated site.
use Rattle.std.specs.Prelude.{ℕ, ◌+◌, ◌-◌, ◌^◌, ◌%◌, List, ◌++◌, map, codes}
use Rattle.std.specs.Fmt.{decimal, format_spec, styled_decimal}
use Rattle.std.specs.List.{range_with_len}
use Rattle.hk_base.specs.Bytes.{Bytes}
use Rattle.hk_gen.specs.Random.{before, draws}
use Rattle.hk_gen.specs.declared.random.Draws.{Draws}

-- a number in decimal, with zeros in front up to so many digits, as `{:02}` and `{:05}` write it
abbrev pub with_zeros : ℕ → ℕ → Bytes
with_zeros width number = styled_decimal (format_spec 32 0 4 width (2 ^ 64 - 1)) number

abbrev pub date : Draws → Bytes
date d = decimal (2000 + d.first % 25) ++ (codes "-" ++ (with_zeros 2 (1 + d.second % 12) ++ (codes "-" ++ with_zeros 2 (1 + d.third % 28))))

abbrev pub post_path : ℕ → Bytes
post_path number = codes "posts/" ++ (with_zeros 5 number ++ codes ".md")

abbrev pub header : ℕ → Bytes → Bytes → Bytes
header number date body = codes "---\ntitle: Post " ++ (decimal number ++ (codes "\ndate: " ++ (date ++ (codes "\n---\n" ++ body))))

-- the text in front of the mark, and the rest
abbrev pub body : Draws → Bytes
body d = codes "<p>Text " ++ (decimal d.first ++ (codes ".</p>\n<!--more-->\n<p><a href=\"/archive.html\">Rest " ++ (decimal d.second ++ codes "</a></p>\n")))

abbrev pub post_text : ℕ → Draws → Bytes
post_text number d = header number (date d) (body d)

-- the post at a place, counted from 0
abbrev pub post : ℕ → ℕ → Bytes × Bytes
post number place = (post_path (place + 1), post_text (place + 1) (draws (before number place)))

-- each post with its path
abbrev pub posts : ℕ → ℕ → List (Bytes × Bytes)
posts number count = map (post number) (range_with_len 0 count)
