use Rattle.std.proofs.Common.{◌≡◌, true, arith, rules}
use Rattle.hk_eval.specs.Groups.{told_page}
use Rattle.hk_eval.specs.Told.{told_pages}
use Rattle.hk_eval.proofs.Grouping.{told-at}
use Rattle.hk_machine.proofs.Joining.{join-turn}
use Rattle.hk_machine.proofs.joins.join.Goals as goal

pub loop-i-preserved : goal.loop-i-preserved
loop-i-preserved c =
    let text : c.in_ok-append.field-0 ≡ true = search rules in
    join-turn (told_page (told_pages c.args.told.now)) c.args.items.now c.args.pairs.now c.loop-i.i c.index-pairs-i.result c.loop-i.bytes.items c.append.new.bytes.items c.in_ok-append.field-0 c.requires.same (omega arith) c.index-pairs-i.is c.in_ok-append.ensures.text text c.loop-i.invariant (c.in_ok-append.ensures.body text)

pub append-requires : goal.append-requires
append-requires c =
    told-at (told_pages c.args.told.now) c.args.pairs.now c.loop-i.i c.index-pairs-i.result c.requires.told (omega arith) c.index-pairs-i.is
