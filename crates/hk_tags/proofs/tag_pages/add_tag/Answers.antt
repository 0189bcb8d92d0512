use Rattle.std.proofs.Common.{◌∙◌, ap}
use Rattle.std.specs.BTreeMap.{insert_entry}
use Rattle.hk_tags.specs.Pages.{with_last}
use Rattle.hk_tags.proofs.Regrouping.{R, insert-removed}
use Rattle.hk_tags.proofs.tag_pages.add_tag.Goals as goal

pub returns : goal.returns
returns c =
    c.in_ok-insert.ensures.entries
    ∙ (ap (λ es. insert_entry R es c.args.tag c.in_ok-group.group) c.taken-group.ensures.rest
    ∙ (insert-removed c.args.tag c.in_ok-group.group c.args.groups.now.entries c.taken-group.ensures.ordered
    ∙ ap (insert_entry R c.args.groups.now.entries c.args.tag) (c.in_ok-group.ensures ∙ ap (λ g. with_last g c.args.item) c.taken-group.ensures.group)))
