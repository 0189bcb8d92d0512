-- Names of pages that are built in.
use Rattle.std.specs.Prelude.{codes}
use Rattle.hk_base.specs.Bytes.{Bytes}

-- the name of the page that an item ends with
abbrev pub final_name : Bytes
final_name = codes "_final"
