-- What a scan has read of a whole text.
use Rattle.std.specs.Prelude.{◌≡◌, length}
use Rattle.hk_base.specs.Bytes.{Bytes}
use Rattle.hk_html.specs.declared.scan.Scan.{Scan}
use Rattle.hk_html.specs.Relative.{with_roots, links_of}
use Rattle.hk_html.specs.Scan.{written, link_values}

-- the text with any root, and the values of its links
pub record ReadsAll (text : Bytes) (scan : Scan) : Type 0 where
  pub same : scan.body.now ≡ text
  pub whole : scan.at ≡ length text
  pub relative : (root : Bytes) → written root scan ≡ with_roots root text
  pub found : link_values scan.links.items ≡ links_of text
