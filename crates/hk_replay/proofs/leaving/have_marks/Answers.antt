use Rattle.hk_chain.specs.Kept.{at_place}
use Rattle.hk_chain.specs.Marks.{mark_view}
use Rattle.hk_replay.specs.Storing.{HavePages}
use Rattle.hk_replay.proofs.LeftEntries.{all-mapped}
use Rattle.hk_replay.proofs.leaving.have_marks.Goals as goal

pub has_mark-requires-clause-pages : goal.has_mark-requires-clause-pages
has_mark-requires-clause-pages c =
    all-mapped (HavePages c.args.plan.now (at_place c.args.pages.now)) mark_view c.args.trace.now c.loop-i.i c.index-trace-i.result c.requires.pages c.loop-i-test.true c.index-trace-i.is
