-- Joined bodies, as the call that joins them answers.
use Rattle.std.specs.Prelude.{ℕ, List, Option, Some, None, Result, Ok, Err}
use Rattle.std.specs.List.{flat_map}
use Rattle.hk_base.specs.Bytes.{Bytes}
use Rattle.hk_chain.specs.declared.page.Page.{Page}
use Rattle.hk_machine.specs.declared.joins.Joined.{Joined}
use Rattle.hk_machine.specs.declared.joins.Joined.TheVariants.{Bodies, Other}

abbrev pub body_of_page : Page → Bytes
body_of_page page = page.body

abbrev pub bodies : List Page → Bytes
bodies pages = flat_map body_of_page pages

-- the first item whose page is no text, or else all bodies
abbrev pub joined_of : List Page → Option ℕ → Result Bytes ℕ
joined_of pages None = Ok (bodies pages)
joined_of pages (Some item) = Err item

abbrev pub joining_of : Joined → Result Bytes ℕ
joining_of (Bodies bytes) = Ok bytes.items
joining_of (Other item) = Err item
