use Rattle.std.proofs.Common.{ap, ◌∙◌}
use Rattle.std.specs.FinMap.{remove}
use Rattle.hk_outside.specs.Held.{files_of}
use Rattle.hk_outside.proofs.HeldLemmas.{files_of-remove_entry}
use Rattle.hk_outside.proofs.held.Held.remove.Goals as goal

pub returns : goal.returns
returns c = ap files_of c.remove.ensures.entries ∙ files_of-remove_entry c.self.inside.map.entries c.args.path.now c.len-count.ensures.ordered ∙ ap (λ m. remove m c.args.path.now) c.self.view_is
