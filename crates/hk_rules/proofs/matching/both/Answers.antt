use Rattle.std.proofs.Common.{sym, ap, ◌∙◌, ◌++◌, ◌∷◌, [], get_or, false}
use Rattle.std.specs.Prelude.{◌&&◌}
use Rattle.hk_rules.proofs.Flagging.{merged-turn}
use Rattle.hk_rules.proofs.matching.both.Goals as goal
use Rattle.hk_rules.proofs.matching.both.Goals.{then-flags-index, else-flags-index}

pub loop-index-preserved : goal.loop-index-preserved
loop-index-preserved c =
    merged-turn (λ a b. a && b) c.args.flags.now c.args.more.now c.loop-index.index c.loop-index.merged.items _ _ c.loop-index-test.true c.requires
    (c.in_ok-push.ensures.items ∙ ap (λ b. c.loop-index.merged.items ++ b ∷ []) (elim c.if-flags-index.branch [
      | then-flags-index w ↦ w.push-is ∙ sym (ap (λ a. a && get_or c.args.more.now c.loop-index.index false) w.if-flags-index.true)
      | else-flags-index w ↦ w.push-is ∙ w.if-flags-index.false ∙ sym (ap (λ a. a && get_or c.args.more.now c.loop-index.index false) w.if-flags-index.false)
    ]))
    c.loop-index.invariant
