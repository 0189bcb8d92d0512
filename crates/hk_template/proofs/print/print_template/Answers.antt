-- What is printed has its tree alone.
use Rattle.std.proofs.Common.{◌≡◌, rules}
use Rattle.hk_template.specs.Template.{tree_text}
use Rattle.hk_template.proofs.Grammar.{again}
use Rattle.hk_template.proofs.print.print_template.Goals as goal

pub returns-clause-again : goal.returns-clause-again
returns-clause-again c =
    let printed : c.from_vec.result ≡ tree_text c.args.tree.now = search rules in
    again c.from_vec.result c.args.tree.now printed
