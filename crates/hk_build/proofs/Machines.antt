-- Threads may pass machines on and share what makes them.
use denote.Param.Send.{IsSend, IsSync, view_send, sendable}
use denote.Param.SendFields.{declared_send, declared_sync, as_row_send}
use denote.Builtin.{u32}
use Rattle.std_collections.proofs.Crosses.{BTreeMap-send}
use Rattle.std.proofs.Crossing.{Vec-send, send, frees}
use Rattle.std.specs.contracts.alloc.Global as Heap
use Rattle.std.specs.contracts.collections.BTreeMap as BTreeMap
use Rattle.std.specs.contracts.impls.GlobalAllocator.TheImpl as heap
use Rattle.std.specs.contracts.prelude.U32Ord.TheImpl as u32-ord
use Rattle.std.specs.contracts.prelude.U32PartialEq.TheImpl as u32-eq
use Rattle.std.specs.contracts.prelude.U32PartialOrd.TheImpl as u32-partial
use Rattle.std.proofs.option.Option.TheSendSync as option
use Rattle.hk_base.proofs.shared.Shared.TheSendSync as shared
use Rattle.hk_chain.proofs.facts.Mark.TheSendSync as mark
use Rattle.hk_chain.proofs.numbers.ItemNo.TheSendSync as item
use Rattle.hk_chain.proofs.numbers.PairNo.TheSendSync as pair
use Rattle.hk_chain.proofs.page.Page.TheSendSync as pages
use Rattle.hk_chain.specs.contracts.numbers.PairNo as PairNo
use Rattle.hk_chain.specs.contracts.page.Page as page
use Rattle.hk_eval.proofs.awaited.Awaited.TheSendSync as awaited
use Rattle.hk_eval.proofs.seen.Seen.TheSendSync as seen
use Rattle.hk_eval.proofs.told.Told.TheSendSync as told
use Rattle.hk_eval.specs.contracts.notes.Notes as notes
use Rattle.hk_eval.specs.contracts.notes.Notes.TheInside as inside-notes
use Rattle.hk_eval.specs.contracts.parsed.Parsed as parsed
use Rattle.hk_eval.specs.contracts.parsed.Parsed.TheInside as inside-parsed
use Rattle.hk_eval.specs.contracts.stack.Stack as stack
use Rattle.hk_machine.specs.contracts.machine.Machine as machine
use Rattle.hk_machine.specs.contracts.machine.Machine.TheInside as inside
use Rattle.hk_machine.specs.contracts.maker.PlanMaker as maker
use Rattle.hk_machine.specs.contracts.way.Way as way
use Rattle.hk_machine.specs.contracts.work.Work as work
use Rattle.hk_rules.specs.contracts.plan.Plan as plan
use Rattle.hk_build.proofs.Plans.{plan_send, plan_sync}
use Rattle.hk_build.proofs.Renderings.{block_send, stack_send}

parsed_send : IsSend parsed.the_row
parsed_send = view_send _ _ _ _ _ (declared_send inside-parsed.the_type (shared.the_send page.the_row pages.the_send pages.the_sync, (block_send, tt)))

notes_send : IsSend notes.the_row
notes_send =
    let map = as_row_send (BTreeMap.the_field u32 parsed.the_row Heap.the_row u32-ord.ghosts u32-eq.ghosts u32-partial.ghosts heap.ghosts) (BTreeMap-send u32 parsed.the_row Heap.the_row u32-ord.ghosts u32-eq.ghosts u32-partial.ghosts heap.ghosts (search sendable) parsed_send send frees) in
    view_send _ _ _ _ _ (declared_send inside-notes.the_type (seen.the_send, (seen.the_send, (Vec-send _ mark.the_send, (map, tt)))))

work_send : IsSend work.the_row
work_send = declared_send work.the_type (search sendable, (shared.the_send page.the_row pages.the_send pages.the_sync, (option.the_send stack.the_row stack_send, (notes_send, tt))))

way_send : IsSend way.the_row
way_send = declared_send way.the_type (work_send, (told.the_send, (awaited.the_send, (search sendable, (option.the_send PairNo.the_row pair.the_send, (Vec-send PairNo.the_row pair.the_send, (search sendable, tt)))))))

inside_send : IsSend inside.the_row
inside_send = declared_send inside.the_type (shared.the_send plan.the_row plan_send plan_sync, (item.the_send, (way_send, (search sendable, tt))))

pub machine_send : IsSend machine.the_row
machine_send = view_send _ _ _ _ _ inside_send

pub maker_sync : IsSync maker.the_row
maker_sync = declared_sync maker.the_type (shared.the_sync plan.the_row plan_send plan_sync, tt)
