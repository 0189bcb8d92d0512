use Rattle.std.proofs.Common.{◌≡◌, ◌++◌, List, drop, map}
use Rattle.hk_chain.specs.declared.page.Page.{Page}
use Rattle.hk_eval.specs.Asking.{other_kind}
use Rattle.hk_eval.specs.Groups.{told_page}
use Rattle.hk_machine.specs.Groups.{bodies}
use Rattle.hk_eval.specs.Told.{told_pages}
use Rattle.hk_machine.proofs.joins.join.Given as goal

abbrev pub invariant-loop-i : goal.invariant-loop-i
invariant-loop-i l =
    let pages : List Page = map (told_page (told_pages l.told)) l.pairs in
    let rest : List Page = map (told_page (told_pages l.told)) (drop l.i l.pairs) in
    (bodies pages ≡ l.bytes.items ++ bodies rest) × (other_kind l.items pages ≡ other_kind (drop l.i l.items) rest)
