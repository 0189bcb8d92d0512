-- A `for` goes on with the list of its key.
use Rattle.std.proofs.Common.{◌≡◌, refl, sym, ap, ◌∙◌, ℕ, List, [], ◌++◌, Option, option_map}
use Rattle.hk_base.specs.Bytes.{Bytes}
use Rattle.hk_chain.specs.declared.fault.Fault.TheVariants.{NoKey, NotList}
use Rattle.hk_fix.specs.Task.{Task, gives, fails, ◌▷◌}
use Rattle.hk_rules.specs.Plan.{Lookups, lookups}
use Rattle.hk_template.specs.Tree.{Nodes}
use Rattle.hk_eval.specs.Blocks.{block_nodes, nodes_or_none}
use Rattle.hk_eval.specs.Fields.{field_task}
use Rattle.hk_eval.specs.Rendering.{nodes_task, partial_at, as_places, each_place}
use Rattle.hk_eval.specs.Replies.{look_end, listing_of}
use Rattle.hk_eval.specs.Rest.{onto}
use Rattle.hk_eval.specs.Told.{told_pages}
use Rattle.hk_eval.specs.Value.{Value, absent, list}
use Rattle.hk_eval.specs.declared.frame.Frame.TheVariants as frames
use Rattle.hk_eval.specs.declared.place.Place.{Place}
use Rattle.hk_eval.proofs.Forms.{for-task, make-frame, no-list, same-key}
use Rattle.hk_eval.proofs.Moving.{then_asks, then_faults, then_fails, then_frame}
use Rattle.hk_eval.proofs.node.for_move.Goals as goal

abbrev shown : Lookups → Bytes → ℕ → Nodes → Nodes → Place → Value → Task Bytes
shown plan key left each between here v = as_places plan key v ▷ each_place (nodes_task plan (partial_at plan left) each) (nodes_task plan (partial_at plan left) between here)

pub returns-in-List-clause-moves : goal.returns-in-List-clause-moves
returns-in-List-clause-moves c = λ out.
    let p = lookups c.args.plan.now in
    let each = block_nodes c.args.each.now in
    let between = option_map block_nodes c.args.sep.now in
    then_frame p (told_pages c.args.told.now) (field_task p c.args.here.now c.args.key.now) (shown p c.args.key.now c.args.left each (nodes_or_none between) c.args.here.now) _ (for-task p (partial_at p c.args.left) c.args.key.now c.args.here.now each between)
    c.args.notes.now c.look_up.new.notes (look_end c.in_ok-found.found) (same-key (told_pages c.args.told.now) (lookups c.args.plan.now) c.args.here.now c.as_slice.result.now c.args.key.now c.args.notes.now c.look_up.new.notes (look_end c.in_ok-found.found) c.as_slice.ensures c.in_ok-found.ensures.comes) out (list (listing_of c.in-List.listing)) (ap look_end c.in-List.is) (frames.Make c.in_ok-list-in-List.list c.in_ok-body-in-List.body)
    (λ o. make-frame p c.in_ok-list-in-List.list c.in_ok-body-in-List.body (listing_of c.in-List.listing) each (nodes_or_none between) c.args.left c.args.here.now c.in_ok-list-in-List.ensures c.in_ok-body-in-List.ensures o)

pub returns-in-Absent-clause-moves : goal.returns-in-Absent-clause-moves
returns-in-Absent-clause-moves c = λ out.
    let p = lookups c.args.plan.now in
    let each = block_nodes c.args.each.now in
    let between = option_map block_nodes c.args.sep.now in
    then_fails p (told_pages c.args.told.now) (field_task p c.args.here.now c.args.key.now) (shown p c.args.key.now c.args.left each (nodes_or_none between) c.args.here.now) _ (for-task p (partial_at p c.args.left) c.args.key.now c.args.here.now each between)
    c.args.notes.now c.look_up.new.notes (look_end c.in_ok-found.found) (same-key (told_pages c.args.told.now) (lookups c.args.plan.now) c.args.here.now c.as_slice.result.now c.args.key.now c.args.notes.now c.look_up.new.notes (look_end c.in_ok-found.found) c.as_slice.ensures c.in_ok-found.ensures.comes) out absent (ap look_end c.in-Absent.is) (NoKey c.in_ok-key-in-Absent.key) (ap (λ k. fails (NoKey k)) (sym c.in_ok-key-in-Absent.ensures))

pub returns-in-Asks-clause-moves : goal.returns-in-Asks-clause-moves
returns-in-Asks-clause-moves c = λ out.
    let p = lookups c.args.plan.now in
    let each = block_nodes c.args.each.now in
    let between = option_map block_nodes c.args.sep.now in
    then_asks p (told_pages c.args.told.now) (field_task p c.args.here.now c.args.key.now) (shown p c.args.key.now c.args.left each (nodes_or_none between) c.args.here.now) _ (for-task p (partial_at p c.args.left) c.args.key.now c.args.here.now each between)
    c.args.notes.now c.look_up.new.notes (look_end c.in_ok-found.found) (same-key (told_pages c.args.told.now) (lookups c.args.plan.now) c.args.here.now c.as_slice.result.now c.args.key.now c.args.notes.now c.look_up.new.notes (look_end c.in_ok-found.found) c.as_slice.ensures c.in_ok-found.ensures.comes) out c.in_ok-pairs-in-Asks.pairs c.in-Asks.pair c.in_ok-pairs-in-Asks.ensures (ap look_end c.in-Asks.is)

pub returns-in-Fails-clause-moves : goal.returns-in-Fails-clause-moves
returns-in-Fails-clause-moves c = λ out.
    let p = lookups c.args.plan.now in
    let each = block_nodes c.args.each.now in
    let between = option_map block_nodes c.args.sep.now in
    then_faults p (told_pages c.args.told.now) (field_task p c.args.here.now c.args.key.now) (shown p c.args.key.now c.args.left each (nodes_or_none between) c.args.here.now) _ (for-task p (partial_at p c.args.left) c.args.key.now c.args.here.now each between)
    c.args.notes.now c.look_up.new.notes (look_end c.in_ok-found.found) (same-key (told_pages c.args.told.now) (lookups c.args.plan.now) c.args.here.now c.as_slice.result.now c.args.key.now c.args.notes.now c.look_up.new.notes (look_end c.in_ok-found.found) c.as_slice.ensures c.in_ok-found.ensures.comes) out c.in-Fails.fault (ap look_end c.in-Fails.is)

pub returns-clause-moves : goal.returns-clause-moves
returns-clause-moves c = λ out.
    let p = lookups c.args.plan.now in
    let each = block_nodes c.args.each.now in
    let between = option_map block_nodes c.args.sep.now in
    let v = no-list p c.args.key.now c.in_ok-found.found c.in_default.not-Absent c.in_default.not-List c.in_default.not-Asks c.in_default.not-Fails in
    then_fails p (told_pages c.args.told.now) (field_task p c.args.here.now c.args.key.now) (shown p c.args.key.now c.args.left each (nodes_or_none between) c.args.here.now) _ (for-task p (partial_at p c.args.left) c.args.key.now c.args.here.now each between)
    c.args.notes.now c.look_up.new.notes (look_end c.in_ok-found.found) (same-key (told_pages c.args.told.now) (lookups c.args.plan.now) c.args.here.now c.as_slice.result.now c.args.key.now c.args.notes.now c.look_up.new.notes (look_end c.in_ok-found.found) c.as_slice.ensures c.in_ok-found.ensures.comes) out v.0 v.1 (NotList c.in_ok-key-in_default.key)
    (ap (λ (t : Task (List Place)). t ▷ each_place (nodes_task p (partial_at p c.args.left) each) (nodes_task p (partial_at p c.args.left) (nodes_or_none between) c.args.here.now)) v.2 ∙ ap (λ k. fails (NotList k)) (sym c.in_ok-key-in_default.ensures))
