-- The laws of the scanner of tags hold.
use Rattle.hk_laws.proofs.CutLemmas
use Rattle.hk_laws.proofs.LinkLemmas
use Rattle.hk_laws.proofs.tags.tag_laws.Goals as goal

pub returns-clause-cuts : goal.returns-clause-cuts
returns-clause-cuts c = CutLemmas.cuts_each

pub returns-clause-one_cutting : goal.returns-clause-one_cutting
returns-clause-one_cutting c = CutLemmas.one_cutting

pub returns-clause-links : goal.returns-clause-links
returns-clause-links c = LinkLemmas.links_of_each

pub returns-clause-roots : goal.returns-clause-roots
returns-clause-roots c = LinkLemmas.roots_of_each
