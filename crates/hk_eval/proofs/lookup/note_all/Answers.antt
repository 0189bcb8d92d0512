use Rattle.hk_eval.proofs.Looks.{note-turn}
use Rattle.hk_eval.proofs.lookup.note_all.Goals as goal

pub loop-pair-preserved : goal.loop-pair-preserved
loop-pair-preserved c = note-turn c.args.notes.now c.loop-pair.notes c.note_group.new.self c.args.pairs.now c.loop-pair.pair-index c.pair-item.result c.loop-pair-test.true c.pair-item.is c.loop-pair.invariant c.in_ok-note_group.ensures
