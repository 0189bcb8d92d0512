-- What stands before the mark of a teaser.
use Rattle.std.specs.Prelude.{Option, Some, None, length, take, nat_lt, if◌then◌else◌, codes}
use Rattle.hk_base.specs.Bytes.{Bytes}
use Rattle.hk_html.specs.Place.{place_of_word}

abbrev pub teaser_mark : Bytes
teaser_mark = codes "<!--more-->"

-- the bytes before the first mark, if there is one
abbrev pub teaser_of : Bytes → Option Bytes
teaser_of body =
    if nat_lt (place_of_word teaser_mark body) (length body)
    then Some (take (place_of_word teaser_mark body) body)
    else None
