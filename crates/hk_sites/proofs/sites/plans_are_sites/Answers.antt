use Rattle.hk_sites.proofs.PlanSites.{is-site, uses-own, items-same, shape-same, are-items}
use Rattle.hk_sites.proofs.Storables.{are-storable}
use Rattle.hk_sites.proofs.sites.plans_are_sites.Goals as goal

pub returns-clause-site : goal.returns-clause-site
returns-clause-site c = is-site

pub returns-clause-own : goal.returns-clause-own
returns-clause-own c = uses-own

pub returns-clause-items : goal.returns-clause-items
returns-clause-items c = items-same

pub returns-clause-shape : goal.returns-clause-shape
returns-clause-shape c = shape-same

pub returns-clause-numbers : goal.returns-clause-numbers
returns-clause-numbers c = are-items

pub returns-clause-storable : goal.returns-clause-storable
returns-clause-storable c = are-storable
