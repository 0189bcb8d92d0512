-- A partial goes on with its template.
use Rattle.std.proofs.Common.{◌≡◌, refl, sym, ap, ◌∙◌, subst, ℕ, ◌-◌, List, ◌++◌}
use Rattle.hk_base.specs.Bytes.{Bytes}
use Rattle.hk_base.specs.Identifier.{Ident}
use Rattle.hk_fix.specs.Task.{Task, ◌▷◌}
use Rattle.hk_rules.specs.Plan.{Lookups, lookups}
use Rattle.hk_template.specs.Template.{IsPrintable}
use Rattle.hk_template.specs.Tree.{Nodes}
use Rattle.hk_eval.specs.Blocks.{block_nodes}
use Rattle.hk_eval.specs.Rendering.{nodes_task, partial_at, plain_id}
use Rattle.hk_eval.specs.Replies.{found_end, Comes, IsFoundPrintable}
use Rattle.hk_eval.specs.Rest.{onto}
use Rattle.hk_eval.specs.Templates.{template_task}
use Rattle.hk_eval.specs.Told.{told_pages}
use Rattle.hk_eval.specs.Within.{IsPlaceOf}
use Rattle.hk_eval.specs.declared.found.Found.{Found}
use Rattle.hk_eval.specs.declared.place.Place.{Place}
use Rattle.hk_eval.proofs.Forms.{partial-task}
use Rattle.hk_eval.proofs.Moving.{then_asks, then_faults, then_frame}
use Rattle.hk_eval.proofs.Naming.{printable-names}
use Rattle.hk_eval.proofs.node.partial_move.Goals as goal

abbrev inner : Lookups → ℕ → Place → Nodes → Task Bytes
inner plan left here tree = nodes_task plan (partial_at plan (left - 1)) tree here

pub returns-in-Tree-clause-moves : goal.returns-in-Tree-clause-moves
returns-in-Tree-clause-moves c = λ out.
    let p = lookups c.args.plan.now in
    let k = told_pages c.args.told.now in
    let came = subst (λ (id : Ident). Comes k (template_task p id) c.args.notes.now (found_end c.in_ok-found.found) c.find_template.new.notes) c.in_ok-id.ensures c.in_ok-found.ensures.comes in
    then_frame p k (template_task p (plain_id c.args.path.now)) (inner p c.args.left c.args.here.now) _ (partial-task p c.args.left c.args.path.now c.args.here.now c.if-left-eq0.false)
    c.args.notes.now c.find_template.new.notes (found_end c.in_ok-found.found) came out (block_nodes c.in-Tree.block) (ap found_end c.in-Tree.is) c.whole.result
    (λ o. sym (c.whole.ensures.rest p o ∙ ap (λ (x : Place). onto o (nodes_task p (partial_at p (c.args.left - 1)) (block_nodes c.in-Tree.block) x)) c.in_ok-place-in-Tree.ensures))

pub returns-in-Tree-clause-within : goal.returns-in-Tree-clause-within
returns-in-Tree-clause-within c =
    let printable : IsPrintable (block_nodes c.in-Tree.block) = subst (λ (f : Found). IsFoundPrintable f) c.in-Tree.is c.in_ok-found.ensures.printable in
    c.whole.ensures.within c.args.plan.now (printable-names (block_nodes c.in-Tree.block) printable) (subst (IsPlaceOf c.args.plan.now) (sym c.in_ok-place-in-Tree.ensures) c.requires.here)

pub returns-in-Asks-clause-moves : goal.returns-in-Asks-clause-moves
returns-in-Asks-clause-moves c = λ out.
    let p = lookups c.args.plan.now in
    let k = told_pages c.args.told.now in
    let came = subst (λ (id : Ident). Comes k (template_task p id) c.args.notes.now (found_end c.in_ok-found.found) c.find_template.new.notes) c.in_ok-id.ensures c.in_ok-found.ensures.comes in
    then_asks p k (template_task p (plain_id c.args.path.now)) (inner p c.args.left c.args.here.now) _ (partial-task p c.args.left c.args.path.now c.args.here.now c.if-left-eq0.false)
    c.args.notes.now c.find_template.new.notes (found_end c.in_ok-found.found) came out c.in_ok-pairs-in-Asks.pairs c.in-Asks.pair c.in_ok-pairs-in-Asks.ensures (ap found_end c.in-Asks.is)

pub returns-clause-moves : goal.returns-clause-moves
returns-clause-moves c = λ out.
    let p = lookups c.args.plan.now in
    let k = told_pages c.args.told.now in
    let came = subst (λ (id : Ident). Comes k (template_task p id) c.args.notes.now (found_end c.in_ok-found.found) c.find_template.new.notes) c.in_ok-id.ensures c.in_ok-found.ensures.comes in
    then_faults p k (template_task p (plain_id c.args.path.now)) (inner p c.args.left c.args.here.now) _ (partial-task p c.args.left c.args.path.now c.args.here.now c.if-left-eq0.false)
    c.args.notes.now c.find_template.new.notes (found_end c.in_ok-found.found) came out c.in-Fails.fault (ap found_end c.in-Fails.is)
