use Rattle.std.proofs.Common.{◌≡◌}
use Rattle.std.specs.Prelude.{chars}
use Rattle.std.specs.List.{flat_map}
use Rattle.std.specs.Str.Lossy.{utf8_lossy}
use Rattle.hk_feed.specs.Xml.{text_of_char, xml}
use Rattle.hk_feed.proofs.Unescaping.{written-xml}
use Rattle.hk_feed.proofs.xml.append_xml.Goals as goal

pub returns : goal.returns
returns c =
    let written : flat_map text_of_char (chars (utf8_lossy c.args.bytes.now)) ≡ xml c.args.bytes.now = written-xml c.args.bytes.now in
    cc (c.in_ok-text.ensures.lossy, c.as_str.ensures.value, c.in_ok-append_kept.ensures)
