-- What a node came to is a step of the stack.
use Rattle.std.proofs.Common.{◌≡◌, refl, sym, ap, ◌∙◌, subst, ◌+◌, List, [], ◌∷◌, ◌++◌}
use Rattle.hk_rules.specs.Plan.{lookups}
use Rattle.hk_eval.specs.Blocks.{block_nodes, part_node, nodes_from}
use Rattle.hk_eval.specs.Going.{Moves, Steps}
use Rattle.hk_eval.specs.Rendering.{node_task, partial_at}
use Rattle.hk_eval.specs.Rest.{rest}
use Rattle.hk_eval.specs.Told.{told_pages}
use Rattle.hk_eval.specs.declared.frame.Frame.TheVariants as frames
use Rattle.hk_eval.specs.declared.moves.Move.{Move}
use Rattle.hk_eval.specs.declared.moves.Move.TheVariants as moves
use Rattle.hk_eval.specs.declared.moves.Act.TheVariants as acts
use Rattle.hk_eval.proofs.Advancing.{goes-none}
use Rattle.hk_eval.proofs.Naming.{names-at}
use Rattle.hk_eval.proofs.Stacks.{nodes-end, step-wrote, step-pushed, step-asks, step-fails}
use Rattle.hk_eval.proofs.step.nodes_step.Goals as goal

pub returns-in-None-clause-steps : goal.returns-in-None-clause-steps
returns-in-None-clause-steps c =
    let p = lookups c.args.plan.now in
    let fs = c.args.frames.now.items in
    let out = c.args.out.now.items in
    goes-none (told_pages c.args.told.now) (rest p (fs ++ frames.Nodes c.args.section ∷ []) out) (rest p fs out) c.args.notes.now (nodes-end p fs c.args.section out c.in-None.ensures)

pub node_move-requires-clause-named : goal.node_move-requires-clause-named
node_move-requires-clause-named c = names-at c.args.section.at (block_nodes c.args.section.block) (part_node c.in-Some.part.now) (nodes_from (c.args.section.at + 1) (block_nodes c.args.section.block)) c.requires.frame.0 c.in-Some.ensures.1

pub returns-in_ok-push-in-Wrote-clause-steps : goal.returns-in_ok-push-in-Wrote-clause-steps
returns-in_ok-push-in-Wrote-clause-steps c =
    let p = lookups c.args.plan.now in
    let k = told_pages c.args.told.now in
    let s = c.args.section in
    let n = part_node c.in-Some.part.now in
    let fs = c.args.frames.now.items in
    step-wrote p fs s c.args.out.now.items n c.in-Some.ensures.1 k c.args.notes.now c.node_move.new.notes c.node_move.new.out.items c.push.new.self.items
    (c.in_ok-push-in-Wrote.ensures.items ∙ ap (λ f. fs ++ f ∷ []) c.next.ensures)
    (subst (λ (m : Move). Moves p k (node_task p (partial_at p s.left) n s.here) c.args.notes.now c.args.out.now.items m c.node_move.new.notes c.node_move.new.out.items) c.in-Wrote.is c.in_ok-moved-in-Some.ensures.moves)

pub returns-in_ok-push-in-Push-2-clause-steps : goal.returns-in_ok-push-in-Push-2-clause-steps
returns-in_ok-push-in-Push-2-clause-steps c =
    let p = lookups c.args.plan.now in
    let k = told_pages c.args.told.now in
    let s = c.args.section in
    let n = part_node c.in-Some.part.now in
    let fs = c.args.frames.now.items in
    step-pushed p fs s c.args.out.now.items n c.in-Some.ensures.1 k c.args.notes.now c.node_move.new.notes c.node_move.new.out.items c.push-in-Push-2.new.self.items c.in-Push.frame
    (c.in_ok-push-in-Push-2.ensures.items ∙ ap (λ l. l ++ c.in-Push.frame ∷ []) (c.in_ok-push-in-Push.ensures.items ∙ ap (λ f. fs ++ f ∷ []) c.next-in-Push.ensures))
    (subst (λ (m : Move). Moves p k (node_task p (partial_at p s.left) n s.here) c.args.notes.now c.args.out.now.items m c.node_move.new.notes c.node_move.new.out.items) c.in-Push.is c.in_ok-moved-in-Some.ensures.moves)

pub returns-in_ok-push-in-Asks-clause-steps : goal.returns-in_ok-push-in-Asks-clause-steps
returns-in_ok-push-in-Asks-clause-steps c =
    let p = lookups c.args.plan.now in
    step-asks p c.args.frames.now.items c.args.section c.args.out.now.items (part_node c.in-Some.part.now) c.in-Some.ensures.1 (told_pages c.args.told.now) c.args.notes.now c.node_move.new.notes c.node_move.new.out.items c.push-in-Asks.new.self.items
    (acts.Asks c.in-Asks.pairs) c.in_ok-moved-in-Some.moved c.in_ok-moved-in-Some.ensures.moves c.in_ok-push-in-Asks.ensures.items c.in-Asks.pairs c.in-Asks.is refl

pub returns-in-Fails-clause-steps : goal.returns-in-Fails-clause-steps
returns-in-Fails-clause-steps c =
    let p = lookups c.args.plan.now in
    let k = told_pages c.args.told.now in
    let s = c.args.section in
    let n = part_node c.in-Some.part.now in
    let u = rest p c.args.frames.now.items c.args.out.now.items in
    step-fails p c.args.frames.now.items s c.args.out.now.items n c.in-Some.ensures.1 k c.args.notes.now c.node_move.new.notes c.node_move.new.out.items u c.in-Fails.fault
    (subst (λ (m : Move). Moves p k (node_task p (partial_at p s.left) n s.here) c.args.notes.now c.args.out.now.items m c.node_move.new.notes c.node_move.new.out.items) c.in-Fails.is c.in_ok-moved-in-Some.ensures.moves)
