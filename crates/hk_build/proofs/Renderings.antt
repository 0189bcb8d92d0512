-- Threads may pass on and share the nodes of a template.
use denote.Hole.FixSend.{Crosses, both_send, both_sync}
use denote.Struct.Field.{row_field}
use denote.Param.Send.{IsSend, IsSync, sendable}
use denote.Param.SendFields.{declared_send, declared_sync, variants_send, variants_sync, as_row_send, as_row_sync}
use Rattle.std.proofs.option.Option.TheSendSync as option
use Rattle.std.specs.contracts.option.Option as Option
use Rattle.std.proofs.Crossing.{Arc-send, Arc-sync, Vec-send, Vec-sync}
use Rattle.hk_base.proofs.text.Text.TheSendSync as text
use Rattle.hk_eval.proofs.frame.Places.TheSendSync as places
use Rattle.hk_eval.proofs.frame.Stage.TheSendSync as stage
use Rattle.hk_eval.proofs.frame.Wanted.TheSendSync as wanted
use Rattle.hk_eval.proofs.place.Place.TheSendSync as place
use Rattle.hk_eval.specs.contracts.block.Block as block
use Rattle.hk_eval.specs.contracts.block.Part.TheKnot as knot
use Rattle.hk_eval.specs.contracts.frame.Section as section
use Rattle.hk_eval.specs.contracts.frame.Repeat as repeat
use Rattle.hk_eval.specs.contracts.frame.Frame as frame
use Rattle.hk_eval.specs.contracts.stack.Stack as stack

part-crosses : Crosses knot.ring knot.member-Part
part-crosses = record {
  send = λ h s y.
      let b = as_row_send (row_field (h knot.member-Block)) (s knot.member-Block) in
      let o = as_row_send (row_field (Option.the_row (h knot.member-Block))) (option.the_send (h knot.member-Block) (s knot.member-Block)) in
      let t = text.the_send in
      variants_send (knot.type-Part (h knot.member-Block) (h knot.member-Block) (h knot.member-Block) (h knot.member-Block))
      ((t, tt), (tt, ((t, tt), ((t, (b, (o, tt))), ((t, (b, (o, tt))), ((t, tt), tt))))));
  sync = λ h s y.
      let b = as_row_sync (row_field (h knot.member-Block)) (y knot.member-Block) in
      let o = as_row_sync (row_field (Option.the_row (h knot.member-Block))) (option.the_sync (h knot.member-Block) (y knot.member-Block)) in
      let t = text.the_sync in
      variants_sync (knot.type-Part (h knot.member-Block) (h knot.member-Block) (h knot.member-Block) (h knot.member-Block))
      ((t, tt), (tt, ((t, tt), ((t, (b, (o, tt))), ((t, (b, (o, tt))), ((t, tt), tt))))));
}

block-crosses : Crosses knot.ring knot.member-Block
block-crosses = record {
  send = λ h s y. declared_send (knot.type-Block (h knot.member-Part)) (as_row_send (row_field _) (Arc-send _ (Vec-send _ (s knot.member-Part)) (Vec-sync _ (y knot.member-Part))), tt);
  sync = λ h s y. declared_sync (knot.type-Block (h knot.member-Part)) (as_row_sync (row_field _) (Arc-sync _ (Vec-send _ (s knot.member-Part)) (Vec-sync _ (y knot.member-Part))), tt);
}

crosses : (i : knot.the_members) → Crosses knot.ring i
crosses = block.by_members (λ i. Crosses knot.ring i) part-crosses block-crosses

pub part_send : IsSend knot.hole-Part
part_send = both_send knot.ring crosses knot.member-Part

pub part_sync : IsSync knot.hole-Part
part_sync = both_sync knot.ring crosses knot.member-Part

pub block_send : IsSend block.the_row
block_send = declared_send block.the_type (as_row_send (row_field _) (Arc-send _ (Vec-send _ part_send) (Vec-sync _ part_sync)), tt)

section_send : IsSend section.the_row
section_send = declared_send section.the_type (block_send, (search sendable, (search sendable, (place.the_send, tt))))

repeat_send : IsSend repeat.the_row
repeat_send = declared_send repeat.the_type (block_send, (block_send, (search sendable, (place.the_send, tt))))

frame_send : IsSend frame.the_row
frame_send = variants_send frame.enum ((section_send, tt), ((wanted.the_send, (repeat_send, tt)), ((places.the_send, (stage.the_send, (repeat_send, tt))), tt)))

pub stack_send : IsSend stack.the_row
stack_send = declared_send stack.the_type (as_row_send (row_field _) (Vec-send _ frame_send), (as_row_send (row_field _) (Vec-send _ (search sendable)), tt))
