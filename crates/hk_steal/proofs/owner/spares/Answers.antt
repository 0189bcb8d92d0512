use Rattle.std.proofs.Common.{rules, ◌≡◌, All, sym, ap, ◌∙◌, subst}
use Rattle.std.proofs.lemmas.List.Elements.{All-push}
use Rattle.crossbeam_deque.specs.Handles.{worker_deque, worker_view, view}
use Rattle.hk_steal.specs.declared.view.View.{View}
use Rattle.hk_steal.specs.View.{IsEnd}
use Rattle.hk_steal.proofs.Decking.{splits}
use Rattle.hk_steal.proofs.owner.spares.Goals as goal

pub another-requires : goal.another-requires
another-requires g c = splits g.T.Lawful.is_lawful _ _ (search rules)

pub loop-spare-preserved : goal.loop-spare-preserved
loop-spare-preserved g c =
    let inv = c.loop-spare.invariant in let key = (worker_view c.args.bench.now).key in let deck = worker_deque c.args.bench.now in
    let seen : (view c.another.result).key ≡ key = ap (λ (v : View g.row.K.Denot). v.key) (c.another.ensures.rule.1 ∙ inv.1) in
    let pass : IsEnd deck key c.another.result = (search rules, seen, c.requires) in (
      search rules,
      search rules,
      search rules,
      subst (All (IsEnd deck key)) (sym c.push_reserved.ensures.items) (All-push (IsEnd deck key) _ _ inv.3 pass),
      search rules,
      search rules,
    )
