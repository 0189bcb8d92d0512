use Rattle.std.proofs.Common.{◌≡◌, sym, ap, ◌∙◌, arith, ℕ, List, cond, ◌++◌, ◌∷◌, [], get_or}
use Rattle.hk_eval.proofs.NotedLogs.{add-turn}
use Rattle.hk_eval.proofs.notes.add_all.Goals as goal
use Rattle.hk_eval.proofs.notes.add_all.Goals.{then-branch+in_ok-push, else-branch}

pub loop-pair-preserved : goal.loop-pair-preserved
loop-pair-preserved c =
    let p : ℕ = c.pair.inside.0 in
    let old : List ℕ = c.loop-pair.fresh.items in
    let at : p ≡ get_or c.args.pairs.now c.loop-pair.pair-index p = c.pair.view_is ∙ (c.pair-item.is ∙ ap (get_or c.args.pairs.now c.loop-pair.pair-index) (sym c.pair.view_is)) in
    let pushed : c.if-branch.fresh.items ≡ cond c.in_ok-add.field-0 (old ++ p ∷ []) old = elim c.if-branch.branch as (λ x. c.if-branch.fresh.items ≡ cond c.in_ok-add.field-0 (old ++ p ∷ []) old) [
      | then-branch+in_ok-push w ↦ ap (λ v. v.items) w.fresh-is ∙ (w.in_ok-push.ensures.items ∙ ap (λ b. cond b (old ++ p ∷ []) old) (sym w.if-branch.true))
      | else-branch w ↦ ap (λ v. v.items) w.fresh-is ∙ ap (λ b. cond b (old ++ p ∷ []) old) (sym w.if-branch.false)
    ] in
    add-turn c.args.seen.now c.loop-pair.seen c.add.new.self c.args.pairs.now c.loop-pair.pair-index p old c.if-branch.fresh.items c.in_ok-add.field-0 (omega arith) at c.loop-pair.invariant.0 c.loop-pair.invariant.1 c.in_ok-add.ensures.first c.in_ok-add.ensures.added pushed
