use Rattle.hk_outside.proofs.HeldLemmas.{set_all-turn}
use Rattle.hk_outside.proofs.held.Held.new.Goals as goal

pub loop-path-preserved : goal.loop-path-preserved
loop-path-preserved c = set_all-turn _ _ c.loop-path.map.entries _ c.into_vec.result c.into_vec-in-loop-path.result _ _ _ c.in-Some.ensures.steps.0 c.in_ok-insert.ensures.entries c.into_vec.ensures c.into_vec-in-loop-path.ensures c.loop-path.invariant

pub loop-path-preserved-in_ok-insert : goal.loop-path-preserved-in_ok-insert
loop-path-preserved-in_ok-insert c = set_all-turn _ _ c.loop-path.map.entries _ c.into_vec.result c.into_vec-in-loop-path.result _ _ _ c.in-Some.ensures.steps.0 c.in_ok-insert.ensures.entries c.into_vec.ensures c.into_vec-in-loop-path.ensures c.loop-path.invariant
