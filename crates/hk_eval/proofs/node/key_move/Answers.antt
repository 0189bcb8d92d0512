-- A key gives its text.
use Rattle.std.proofs.Common.{◌≡◌, refl, sym, ap, ◌∙◌, List, ◌++◌}
use Rattle.hk_base.specs.Bytes.{Bytes}
use Rattle.hk_chain.specs.declared.fault.Fault.TheVariants.{NoKey, NotText}
use Rattle.hk_fix.specs.Task.{Task, fails, ◌▷◌}
use Rattle.hk_rules.specs.Plan.{lookups}
use Rattle.hk_eval.specs.Fields.{field_task}
use Rattle.hk_eval.specs.Rendering.{as_text}
use Rattle.hk_eval.specs.Replies.{look_end, listing_of}
use Rattle.hk_eval.specs.Told.{told_pages}
use Rattle.hk_eval.specs.Value.{absent, text, flag, list}
use Rattle.hk_eval.proofs.Forms.{same-key}
use Rattle.hk_eval.proofs.Moving.{then_asks, then_faults, then_fails, then_gives}
use Rattle.hk_eval.proofs.node.key_move.Goals as goal

pub returns-in_ok-extend_from_slice-in-Lent-clause-moves : goal.returns-in_ok-extend_from_slice-in-Lent-clause-moves
returns-in_ok-extend_from_slice-in-Lent-clause-moves c =
    let p = lookups c.args.plan.now in
    let u = field_task p c.args.here.now c.args.key.now in
    then_gives p (told_pages c.args.told.now) u (as_text c.args.key.now) (u ▷ as_text c.args.key.now) refl c.args.notes.now c.look_up.new.notes (look_end c.in_ok-found.found) (same-key (told_pages c.args.told.now) (lookups c.args.plan.now) c.args.here.now c.as_slice.result.now c.args.key.now c.args.notes.now c.look_up.new.notes (look_end c.in_ok-found.found) c.as_slice.ensures c.in_ok-found.ensures.comes) c.args.out.now.items
    (text c.in-Lent.bytes.now) (ap look_end c.in-Lent.is) c.in-Lent.bytes.now c.extend_from_slice.new.self.items refl c.in_ok-extend_from_slice-in-Lent.ensures.items

pub returns-in_ok-extend_from_slice-in-Made-clause-moves : goal.returns-in_ok-extend_from_slice-in-Made-clause-moves
returns-in_ok-extend_from_slice-in-Made-clause-moves c =
    let p = lookups c.args.plan.now in
    let u = field_task p c.args.here.now c.args.key.now in
    then_gives p (told_pages c.args.told.now) u (as_text c.args.key.now) (u ▷ as_text c.args.key.now) refl c.args.notes.now c.look_up.new.notes (look_end c.in_ok-found.found) (same-key (told_pages c.args.told.now) (lookups c.args.plan.now) c.args.here.now c.as_slice.result.now c.args.key.now c.args.notes.now c.look_up.new.notes (look_end c.in_ok-found.found) c.as_slice.ensures c.in_ok-found.ensures.comes) c.args.out.now.items
    (text c.in-Made.bytes) (ap look_end c.in-Made.is) c.in-Made.bytes c.extend_from_slice-in-Made.new.self.items refl (c.in_ok-extend_from_slice-in-Made.ensures.items ∙ ap (λ b. c.args.out.now.items ++ b) c.as_slice-in-Made.ensures)

pub returns-in_ok-key-in-Absent-clause-moves : goal.returns-in_ok-key-in-Absent-clause-moves
returns-in_ok-key-in-Absent-clause-moves c =
    let p = lookups c.args.plan.now in
    let u = field_task p c.args.here.now c.args.key.now in
    then_fails p (told_pages c.args.told.now) u (as_text c.args.key.now) (u ▷ as_text c.args.key.now) refl c.args.notes.now c.look_up.new.notes (look_end c.in_ok-found.found) (same-key (told_pages c.args.told.now) (lookups c.args.plan.now) c.args.here.now c.as_slice.result.now c.args.key.now c.args.notes.now c.look_up.new.notes (look_end c.in_ok-found.found) c.as_slice.ensures c.in_ok-found.ensures.comes) c.args.out.now.items
    absent (ap look_end c.in-Absent.is) (NoKey c.in_ok-key-in-Absent.key) (ap (λ k. fails (NoKey k)) (sym c.in_ok-key-in-Absent.ensures))

pub returns-in_ok-key-in-Flag-clause-moves : goal.returns-in_ok-key-in-Flag-clause-moves
returns-in_ok-key-in-Flag-clause-moves c =
    let p = lookups c.args.plan.now in
    let u = field_task p c.args.here.now c.args.key.now in
    then_fails p (told_pages c.args.told.now) u (as_text c.args.key.now) (u ▷ as_text c.args.key.now) refl c.args.notes.now c.look_up.new.notes (look_end c.in_ok-found.found) (same-key (told_pages c.args.told.now) (lookups c.args.plan.now) c.args.here.now c.as_slice.result.now c.args.key.now c.args.notes.now c.look_up.new.notes (look_end c.in_ok-found.found) c.as_slice.ensures c.in_ok-found.ensures.comes) c.args.out.now.items
    flag (ap look_end c.in-Flag.is) (NotText c.in_ok-key-in-Flag.key) (ap (λ k. fails (NotText k)) (sym c.in_ok-key-in-Flag.ensures))

pub returns-in_ok-key-in-List-clause-moves : goal.returns-in_ok-key-in-List-clause-moves
returns-in_ok-key-in-List-clause-moves c =
    let p = lookups c.args.plan.now in
    let u = field_task p c.args.here.now c.args.key.now in
    then_fails p (told_pages c.args.told.now) u (as_text c.args.key.now) (u ▷ as_text c.args.key.now) refl c.args.notes.now c.look_up.new.notes (look_end c.in_ok-found.found) (same-key (told_pages c.args.told.now) (lookups c.args.plan.now) c.args.here.now c.as_slice.result.now c.args.key.now c.args.notes.now c.look_up.new.notes (look_end c.in_ok-found.found) c.as_slice.ensures c.in_ok-found.ensures.comes) c.args.out.now.items
    (list (listing_of c.in-List.field-0)) (ap look_end c.in-List.is) (NotText c.in_ok-key-in-List.key) (ap (λ k. fails (NotText k)) (sym c.in_ok-key-in-List.ensures))

pub returns-in_ok-pairs-in-Asks-clause-moves : goal.returns-in_ok-pairs-in-Asks-clause-moves
returns-in_ok-pairs-in-Asks-clause-moves c =
    let p = lookups c.args.plan.now in
    let u = field_task p c.args.here.now c.args.key.now in
    then_asks p (told_pages c.args.told.now) u (as_text c.args.key.now) (u ▷ as_text c.args.key.now) refl c.args.notes.now c.look_up.new.notes (look_end c.in_ok-found.found) (same-key (told_pages c.args.told.now) (lookups c.args.plan.now) c.args.here.now c.as_slice.result.now c.args.key.now c.args.notes.now c.look_up.new.notes (look_end c.in_ok-found.found) c.as_slice.ensures c.in_ok-found.ensures.comes) c.args.out.now.items
    c.in_ok-pairs-in-Asks.pairs c.in-Asks.pair c.in_ok-pairs-in-Asks.ensures (ap look_end c.in-Asks.is)

pub returns-in-Fails-clause-moves : goal.returns-in-Fails-clause-moves
returns-in-Fails-clause-moves c =
    let p = lookups c.args.plan.now in
    let u = field_task p c.args.here.now c.args.key.now in
    then_faults p (told_pages c.args.told.now) u (as_text c.args.key.now) (u ▷ as_text c.args.key.now) refl c.args.notes.now c.look_up.new.notes (look_end c.in_ok-found.found) (same-key (told_pages c.args.told.now) (lookups c.args.plan.now) c.args.here.now c.as_slice.result.now c.args.key.now c.args.notes.now c.look_up.new.notes (look_end c.in_ok-found.found) c.as_slice.ensures c.in_ok-found.ensures.comes) c.args.out.now.items
    c.in-Fails.fault (ap look_end c.in-Fails.is)
