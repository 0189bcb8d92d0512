-- The test decides whether there is a cut.
use Rattle.std.proofs.Common.{ap, ◌∙◌}
use Rattle.hk_pattern.specs.Glob.{covers, pieces}
use Rattle.hk_pattern.proofs.Cuts.{covers-cut}
use Rattle.hk_pattern.proofs.glob.Glob.covers.Goals as goal

pub returns-clause-cut : goal.returns-clause-cut
returns-clause-cut c =
    covers-cut _ (pieces c.args.self.now) c.args.path.now (c.covers_from_end.ensures ∙ ap (λ ps. covers ps c.args.path.now) (c.deref.ensures.value ∙ c.self.invariant.1 ∙ ap pieces c.self.view_is))
