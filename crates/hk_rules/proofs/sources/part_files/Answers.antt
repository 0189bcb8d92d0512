use Rattle.std.proofs.Common.{◌∙◌, sym, ap}
use Rattle.hk_rules.specs.Resource.{is_companion}
use Rattle.hk_rules.proofs.Companions.{others-turn, text-turn}
use Rattle.hk_rules.proofs.sources.part_files.Goals as goal

pub loop-path-preserved-in_ok-insert : goal.loop-path-preserved-in_ok-insert
loop-path-preserved-in_ok-insert c =
    let is = ap is_companion (sym c.as_slice.ensures) ∙ sym c.is_companion.ensures ∙ c.if-is_companion.true in
    record {
      others = c.loop-path.invariant.others ∙ others-turn c.loop-path.yielded c.in-Some.path c.in-Some.text is;
      companions = λ path. text-turn c.loop-path.yielded c.in-Some.path c.in-Some.text _ path _ _ is c.in_ok-new.ensures (c.in_ok-insert.ensures.updates.0 path) (c.loop-path.invariant.companions path);
    }

pub loop-path-preserved-in_ok-insert-2 : goal.loop-path-preserved-in_ok-insert-2
loop-path-preserved-in_ok-insert-2 c =
    let is = ap is_companion (sym c.as_slice.ensures) ∙ sym c.is_companion.ensures ∙ c.if-is_companion.true in
    record {
      others = c.loop-path.invariant.others ∙ others-turn c.loop-path.yielded c.in-Some.path c.in-Some.text is;
      companions = λ path. text-turn c.loop-path.yielded c.in-Some.path c.in-Some.text _ path _ _ is c.in_ok-new.ensures (c.in_ok-insert.ensures.updates.0 path) (c.loop-path.invariant.companions path);
    }
