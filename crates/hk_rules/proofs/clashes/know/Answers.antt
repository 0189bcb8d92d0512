use Rattle.std.proofs.Common.{sym, ap, ◌∙◌}
use Rattle.std.specs.Option.{is_some}
use Rattle.hk_rules.specs.SiteMap.{site_in}
use Rattle.hk_rules.proofs.Clashing.{know-turn}
use Rattle.hk_rules.proofs.SitesByTarget.{site_in-insert_entry}
use Rattle.hk_rules.proofs.clashes.know.Goals as goal

pub returns-in_ok-insert : goal.returns-in_ok-insert
returns-in_ok-insert c = λ path.
    let old = c.args.sites.now.entries in
    let target = c.as_slice-target.ensures ∙ ap (λ s. s.target) c.get.ensures in
    let free = ap (λ t. is_some (site_in old t)) (sym target) ∙ sym c.contains_key.ensures ∙ c.if-not-contains_key.true in
    know-turn c.args.site.now.target c.in_ok-key.key.items path c.args.site.now _ (site_in old) _ (c.in_ok-key.ensures.items ∙ target) c.in_ok-try_clone.ensures free (ap (λ es. site_in es path) c.in_ok-insert.ensures.entries ∙ site_in-insert_entry old c.in_ok-key.key _ path)
