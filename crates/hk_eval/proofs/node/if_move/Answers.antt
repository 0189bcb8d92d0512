-- An `if` goes on with one of its parts.
use Rattle.std.proofs.Common.{◌≡◌, refl, sym, ap, ◌∙◌, ℕ, List, [], ◌++◌, Option, option_map}
use Rattle.hk_base.specs.Bytes.{Bytes}
use Rattle.hk_fix.specs.Task.{Task, gives, ◌▷◌}
use Rattle.hk_rules.specs.Plan.{Lookups, lookups}
use Rattle.hk_template.specs.Tree.{Nodes}
use Rattle.hk_eval.specs.Blocks.{block_nodes, nodes_or_none}
use Rattle.hk_eval.specs.Fields.{field_task}
use Rattle.hk_eval.specs.Rendering.{nodes_task, partial_at, branch}
use Rattle.hk_eval.specs.Replies.{look_end}
use Rattle.hk_eval.specs.Rest.{onto}
use Rattle.hk_eval.specs.Told.{told_pages}
use Rattle.hk_eval.specs.Value.{Value, absent}
use Rattle.hk_eval.specs.declared.place.Place.{Place}
use Rattle.hk_eval.proofs.Forms.{if-task, has-value, same-key}
use Rattle.hk_eval.proofs.Moving.{then_asks, then_faults, then_frame}
use Rattle.hk_eval.proofs.node.if_move.Goals as goal

abbrev parts : Lookups → ℕ → Nodes → Nodes → Place → Value → Task Bytes
parts plan left first second here = branch (nodes_task plan (partial_at plan left) first here) (nodes_task plan (partial_at plan left) second here)

pub returns-in-Absent-clause-moves : goal.returns-in-Absent-clause-moves
returns-in-Absent-clause-moves c = λ out.
    let p = lookups c.args.plan.now in
    let first = block_nodes c.args.yes.now in
    let second = option_map block_nodes c.args.no.now in
    then_frame p (told_pages c.args.told.now) (field_task p c.args.here.now c.args.key.now) (parts p c.args.left first (nodes_or_none second) c.args.here.now) _ (if-task p (partial_at p c.args.left) c.args.key.now c.args.here.now first second)
    c.args.notes.now c.look_up.new.notes (look_end c.in_ok-found.found) (same-key (told_pages c.args.told.now) (lookups c.args.plan.now) c.args.here.now c.as_slice.result.now c.args.key.now c.args.notes.now c.look_up.new.notes (look_end c.in_ok-found.found) c.as_slice.ensures c.in_ok-found.ensures.comes) out absent (ap look_end c.in-Absent.is) c.whole.result
    (λ o. sym (c.whole.ensures.rest p o ∙ (λ i. onto o (nodes_task p (partial_at p c.args.left) (c.in_ok-block-in-Absent.ensures i) (c.in_ok-place-in-Absent.ensures i)))))

pub returns-in-Asks-clause-moves : goal.returns-in-Asks-clause-moves
returns-in-Asks-clause-moves c = λ out.
    let p = lookups c.args.plan.now in
    let first = block_nodes c.args.yes.now in
    let second = option_map block_nodes c.args.no.now in
    then_asks p (told_pages c.args.told.now) (field_task p c.args.here.now c.args.key.now) (parts p c.args.left first (nodes_or_none second) c.args.here.now) _ (if-task p (partial_at p c.args.left) c.args.key.now c.args.here.now first second)
    c.args.notes.now c.look_up.new.notes (look_end c.in_ok-found.found) (same-key (told_pages c.args.told.now) (lookups c.args.plan.now) c.args.here.now c.as_slice.result.now c.args.key.now c.args.notes.now c.look_up.new.notes (look_end c.in_ok-found.found) c.as_slice.ensures c.in_ok-found.ensures.comes) out c.in_ok-pairs-in-Asks.pairs c.in-Asks.pair c.in_ok-pairs-in-Asks.ensures (ap look_end c.in-Asks.is)

pub returns-in-Fails-clause-moves : goal.returns-in-Fails-clause-moves
returns-in-Fails-clause-moves c = λ out.
    let p = lookups c.args.plan.now in
    let first = block_nodes c.args.yes.now in
    let second = option_map block_nodes c.args.no.now in
    then_faults p (told_pages c.args.told.now) (field_task p c.args.here.now c.args.key.now) (parts p c.args.left first (nodes_or_none second) c.args.here.now) _ (if-task p (partial_at p c.args.left) c.args.key.now c.args.here.now first second)
    c.args.notes.now c.look_up.new.notes (look_end c.in_ok-found.found) (same-key (told_pages c.args.told.now) (lookups c.args.plan.now) c.args.here.now c.as_slice.result.now c.args.key.now c.args.notes.now c.look_up.new.notes (look_end c.in_ok-found.found) c.as_slice.ensures c.in_ok-found.ensures.comes) out c.in-Fails.fault (ap look_end c.in-Fails.is)

pub returns : goal.returns
returns c =
    let p = lookups c.args.plan.now in
    let first = block_nodes c.args.yes.now in
    let second = option_map block_nodes c.args.no.now in
    let v = has-value c.in_ok-found.found c.in_default.not-Absent c.in_default.not-Asks c.in_default.not-Fails in
    record {
      moves = λ out.
          then_frame p (told_pages c.args.told.now) (field_task p c.args.here.now c.args.key.now) (parts p c.args.left first (nodes_or_none second) c.args.here.now) _ (if-task p (partial_at p c.args.left) c.args.key.now c.args.here.now first second)
          c.args.notes.now c.look_up.new.notes (look_end c.in_ok-found.found) (same-key (told_pages c.args.told.now) (lookups c.args.plan.now) c.args.here.now c.as_slice.result.now c.args.key.now c.args.notes.now c.look_up.new.notes (look_end c.in_ok-found.found) c.as_slice.ensures c.in_ok-found.ensures.comes) out v.0 v.1 c.in_ok-frame-in_default.frame
          (λ o. ap (onto o) (v.2 (nodes_task p (partial_at p c.args.left) first c.args.here.now) (nodes_task p (partial_at p c.args.left) (nodes_or_none second) c.args.here.now)) ∙ sym (c.in_ok-frame-in_default.ensures.rest p o));
      within = c.in_ok-frame-in_default.ensures.within c.args.plan.now c.requires.first c.requires.here;
    }
