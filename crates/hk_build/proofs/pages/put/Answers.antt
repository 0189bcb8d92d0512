use Rattle.std.proofs.Common.{ap, ◌∙◌, sym}
use Rattle.std.specs.Option.{option_map}
use Rattle.hk_build.specs.Pages.{placed_out, with_page}
use Rattle.hk_build.proofs.PageMaps.{insert-put}
use Rattle.hk_build.proofs.pages.put.Goals as goal

pub returns-in_ok-insert : goal.returns-in_ok-insert
returns-in_ok-insert c =
    c.in_ok-insert.ensures.entries ∙ insert-put c.args.pages.now.entries c.in-Some.page.target c.in-Some.page.page
    ∙ ap (λ o. with_page (option_map placed_out o) c.args.pages.now.entries) (sym c.in-Some.is)
