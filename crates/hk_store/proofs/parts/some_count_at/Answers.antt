use Rattle.std.proofs.Common.{refl, sym, ◌∙◌, arith}
use Rattle.hk_store.proofs.Telling.{num-same}
use Rattle.hk_store.proofs.parts.some_count_at.Goals as goal

pub returns-else-count-gt0 : goal.returns-else-count-gt0
returns-else-count-gt0 c =
    (refl, λ n r h e. let t = num-same c.in-Some.count n c.in-Some.ensures.0 h.0 c.in-Some.rest.now r (sym c.in-Some.ensures.1 ∙ e) in absurd (omega (arith, t.0, h.1, c.if-count-gt0.false)))
