use Rattle.hk_chain.specs.Kept.{at_place}
use Rattle.hk_chain.specs.Marks.{mark_view}
use Rattle.hk_replay.specs.Storing.{HavePages}
use Rattle.hk_replay.proofs.LeftEntries.{all-mapped}
use Rattle.hk_replay.proofs.storing.marks_of.Goals as goal

pub mark_of-requires-clause-pages : goal.mark_of-requires-clause-pages
mark_of-requires-clause-pages c = all-mapped (HavePages c.args.plan.now (at_place c.args.pages.now)) mark_view c.args.trace.now c.loop-mark.mark-index c.mark-item.result c.requires.pages c.loop-mark-test.true c.mark-item.is
