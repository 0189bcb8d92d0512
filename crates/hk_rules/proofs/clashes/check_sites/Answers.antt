use Rattle.std.proofs.Common.{subst}
use Rattle.hk_rules.specs.SiteMap.{site_in}
use Rattle.hk_rules.specs.Outcomes.{Passes}
use Rattle.hk_rules.proofs.Clashing.{clash_fault-by}
use Rattle.hk_rules.proofs.clashes.check_sites.Goals as goal

pub returns : goal.returns
returns c =
    subst (λ f. Passes f c.check_clashes.result)
    (clash_fault-by c.args.all.now (site_in c.in_ok-placed.placed.sites.entries) c.in_ok-placed.placed.same c.in_ok-nested.nested c.in_ok-placed.ensures.sites c.in_ok-placed.ensures.same c.in_ok-nested.ensures)
    c.check_clashes.ensures
