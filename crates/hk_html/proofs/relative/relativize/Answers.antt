use Rattle.std.proofs.Common.{◌≡◌, ◌++◌, drop, ◌∙◌}
use Rattle.hk_html.specs.Relative.{with_roots}
use Rattle.hk_html.specs.Root.{root_of, level_of}
use Rattle.hk_html.specs.Scan.{links_with_root}
use Rattle.hk_html.proofs.RootedLemmas.{IsRoot-root_at}
use Rattle.hk_html.proofs.PiecesAgainLemmas.{links_of-with_roots}
use Rattle.hk_html.proofs.JoinLemmas.{joined, unchanged}
use Rattle.hk_html.proofs.WholeLemmas.{ReadsAll-text}
use Rattle.hk_html.proofs.relative.relativize.Goals as goal
use Rattle.hk_html.proofs.relative.relativize.Goals.{After-drop-root-2}

value_is : (c : After-drop-root-2) → c.from_vec.result ≡ with_roots (root_of c.args.target.now) c.args.body.now
value_is c =
    let root = c.in_ok-root.root.items in
    let whole = ReadsAll-text c.args.body.now c.in_ok-scan.scan root c.in_ok-scan.ensures in
    let written : c.from_vec.result ≡ links_with_root root c.in_ok-scan.scan.links.items ++ drop c.in_ok-scan.scan.from c.args.body.now =
    rw (c.from_vec.ensures, c.in_ok-extend_from_slice.ensures.items, c.rest_of.ensures, c.in_ok-push_links.ensures, c.in_ok-text.ensures.items, c.deref-2.ensures.value, c.deref-3.ensures.value) in
    rw (← c.in_ok-root.ensures) (rw written whole)

pub returns-clause-value : goal.returns-clause-value
returns-clause-value c = value_is c

pub returns-clause-joined : goal.returns-clause-joined
returns-clause-joined c = joined c.args.body.now

pub returns-clause-links : goal.returns-clause-links
returns-clause-links c =
    rw (value_is c) (links_of-with_roots (root_of c.args.target.now) (IsRoot-root_at (level_of c.args.target.now)) c.args.body.now)

pub returns-clause-unchanged : goal.returns-clause-unchanged
returns-clause-unchanged c = λ none. value_is c ∙ unchanged (root_of c.args.target.now) c.args.body.now none
