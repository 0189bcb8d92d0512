-- What the text was read as is its tree.
use Rattle.std.proofs.Common.{◌≡◌, ap, ◌∙◌, subst, [], Ok}
use Rattle.hk_base.specs.Bytes.{Bytes}
use Rattle.hk_chain.specs.declared.page.Page.{Page}
use Rattle.hk_fix.specs.Pages.{Pages, no_page}
use Rattle.hk_fix.specs.Task.{Run, done, run}
use Rattle.hk_template.specs.Growing.{read_tree}
use Rattle.hk_template.specs.Tree.{Nodes}
use Rattle.hk_eval.specs.Blocks.{block_nodes}
use Rattle.hk_eval.specs.Replies.{found_end, IsFoundPrintable}
use Rattle.hk_eval.specs.declared.found.Found.{Found}
use Rattle.hk_eval.proofs.Parsing.{tree-given}
use Rattle.hk_eval.proofs.finding.tree_of.Goals as goal

pub keep-requires : goal.keep-requires
keep-requires c =
    let nodes : Nodes = block_nodes c.in-Tree.block in
    let body : c.as_slice-text.result.now ≡ c.args.page.now.body = c.as_slice-text.ensures ∙ ap (λ (x : Page). x.body) c.get.ensures in
    let read : read_tree c.as_slice-text.result.now ≡ Ok nodes =
    tree-given (read_tree c.as_slice-text.result.now) nodes no_page (c.in_ok-found.ensures.comes no_page ∙ ap (λ (f : Found). record { log = []; end = found_end f }) c.in-Tree.is) in
    (subst (λ (b : Bytes). read_tree b ≡ Ok nodes) body read, subst (λ (f : Found). IsFoundPrintable f) c.in-Tree.is c.in_ok-found.ensures.printable)
