use Rattle.std.proofs.Common.{sym, subst}
use Rattle.hk_os.proofs.Fronts.{Front, Front-slice, Front-kept}
use Rattle.hk_os.proofs.bytes.write_all.Goals as goal
use Rattle.hk_os.proofs.bytes.write_all.Goals.{in-Ok, in-Err}

pub loop-preserved : goal.loop-preserved
loop-preserved g c =
    let old = g.W.Write.contents c.args.writer.now in
    let now = g.W.Write.contents c.loop.writer in
    let new = g.W.Write.contents c.write.new.self in
    elim c.match-write.branch [
      | in-Ok w ↦ subst (Front c.args.bytes.now old new) (sym w.at-is) (Front-slice c.args.bytes.now old now new c.loop.at w.in-Ok.count c.loop.invariant w.in-Ok.ensures.bound w.in-Ok.ensures.bytes)
      | in-Err w ↦ subst (Front c.args.bytes.now old new) (sym w.at-is) (Front-kept c.args.bytes.now old now new c.loop.at c.loop.invariant w.in-Err.ensures.bytes)
    ]
