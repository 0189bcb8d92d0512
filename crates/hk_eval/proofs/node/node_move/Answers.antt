-- Each kind of node as its own task.
use Rattle.std.proofs.Common.{◌≡◌, refl, sym, ap, ◌∙◌, subst, List, [], ◌∷◌, ◌++◌, option_map, codes}
use Rattle.hk_fix.specs.Task.{run}
use Rattle.hk_rules.specs.Plan.{lookups}
use Rattle.hk_template.specs.Tree.{Node}
use Rattle.hk_eval.specs.Blocks.{block_nodes}
use Rattle.hk_eval.specs.Going.{Moves}
use Rattle.hk_eval.specs.Rendering.{node_task, partial_at}
use Rattle.hk_eval.specs.Told.{told_pages}
use Rattle.hk_eval.proofs.Blocks.{text_part, dollar_part, if_part, for_part}
use Rattle.hk_eval.proofs.node.node_move.Goals as goal

pub returns-in_ok-extend_from_slice-in-Text-clause-moves : goal.returns-in_ok-extend_from_slice-in-Text-clause-moves
returns-in_ok-extend_from_slice-in-Text-clause-moves c =
    let p = lookups c.args.plan.now in
    record {
      log = [];
      text = c.in-Text.bytes;
      notes = refl;
      written = c.in_ok-extend_from_slice-in-Text.ensures.items ∙ ap (λ b. c.args.out.now.items ++ b) c.as_slice.ensures;
      is = ap (λ n. run (node_task p (partial_at p c.args.left) n c.args.here.now) (told_pages c.args.told.now)) (text_part c.args.part.now c.in-Text.bytes c.in-Text.is);
    }

pub returns-in_ok-push-in-Dollar-clause-moves : goal.returns-in_ok-push-in-Dollar-clause-moves
returns-in_ok-push-in-Dollar-clause-moves c =
    let p = lookups c.args.plan.now in
    record {
      log = [];
      text = codes "$";
      notes = refl;
      written = c.in_ok-push-in-Dollar.ensures.items;
      is = ap (λ n. run (node_task p (partial_at p c.args.left) n c.args.here.now) (told_pages c.args.told.now)) (dollar_part c.args.part.now c.in-Dollar.is);
    }

pub returns-in_ok-moved-in-If-clause-moves : goal.returns-in_ok-moved-in-If-clause-moves
returns-in_ok-moved-in-If-clause-moves c =
    let p = lookups c.args.plan.now in
    subst (λ (n : Node). Moves p (told_pages c.args.told.now) (node_task p (partial_at p c.args.left) n c.args.here.now) c.args.notes.now c.args.out.now.items c.in_ok-moved-in-If.moved c.if_move.new.notes c.args.out.now.items)
    (sym (if_part c.args.part.now c.in-If.key c.in-If.yes c.in-If.no c.in-If.is)) (c.in_ok-moved-in-If.ensures.moves c.args.out.now.items)

pub returns-in_ok-moved-in-For-clause-moves : goal.returns-in_ok-moved-in-For-clause-moves
returns-in_ok-moved-in-For-clause-moves c =
    let p = lookups c.args.plan.now in
    subst (λ (n : Node). Moves p (told_pages c.args.told.now) (node_task p (partial_at p c.args.left) n c.args.here.now) c.args.notes.now c.args.out.now.items c.in_ok-moved-in-For.moved c.for_move.new.notes c.args.out.now.items)
    (sym (for_part c.args.part.now c.in-For.key c.in-For.each c.in-For.sep c.in-For.is)) (c.in_ok-moved-in-For.ensures.moves c.args.out.now.items)
