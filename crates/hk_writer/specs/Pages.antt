-- The pages of a site, as targets with the bytes of their bodies.
use Rattle.std.specs.Prelude.{List, map}
use Rattle.hk_base.specs.Bytes.{Bytes}
use Rattle.hk_writer.specs.declared.page_out.PageOut.{PageOut}

-- a page's target, with the bytes of its body
abbrev pub page_of : PageOut → Bytes × Bytes
page_of out = (out.target, out.page.body)

abbrev pub pages_of : List PageOut → List (Bytes × Bytes)
pages_of outs = map page_of outs
