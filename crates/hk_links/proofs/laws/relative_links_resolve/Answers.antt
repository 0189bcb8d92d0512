-- What was made relative leads to where it led.
use Rattle.hk_links.proofs.RelativeLemmas.{same-internal, same-path, same-pages}
use Rattle.hk_links.proofs.laws.relative_links_resolve.Goals as goal

pub returns-clause-internal : goal.returns-clause-internal
returns-clause-internal c = same-internal

pub returns-clause-path : goal.returns-clause-path
returns-clause-path c = same-path

pub returns-clause-page : goal.returns-clause-page
returns-clause-page c = same-pages
