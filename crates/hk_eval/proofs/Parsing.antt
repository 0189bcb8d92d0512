-- What the task of a text that must be a template gives.
use Rattle.std.proofs.Common.{◌≡◌, ap, [], Result, Ok, Err}
use Rattle.hk_chain.specs.declared.fault.Fault.TheVariants.{BadTemplate}
use Rattle.hk_fix.specs.Pages.{Pages}
use Rattle.hk_fix.specs.Task.{done, fault, Run, run}
use Rattle.hk_template.specs.Place.{fault_place}
use Rattle.hk_template.specs.Tree.{Nodes}
use Rattle.hk_template.specs.declared.fault.TemplateFault.{TemplateFault}
use Rattle.hk_eval.specs.Templates.{tree_by}

-- it is the text's tree
pub tree-given : (r : Result Nodes TemplateFault) (tree : Nodes) (k : Pages) → run (tree_by r) k ≡ record { log = []; end = done tree } → r ≡ Ok tree
tree-given (Ok own) tree k e = let end : done own ≡ done tree = ap (λ (r : Run Nodes). r.end) e in cc
tree-given (Err bad) tree k e = let end : fault (BadTemplate (fault_place bad)) ≡ done tree = ap (λ (r : Run Nodes). r.end) e in cc
