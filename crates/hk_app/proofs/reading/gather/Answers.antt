use Rattle.hk_app.specs.World.{folder}
use Rattle.hk_app.proofs.SourceReads.{gathered}
use Rattle.hk_app.proofs.reading.gather.Goals as goal

pub returns-in-Ok-clause-gathers : goal.returns-in-Ok-clause-gathers
returns-in-Ok-clause-gathers g c =
    gathered (folder (g.S.Tree.files c.args.source.now) (g.S.Tree.faults c.args.source.now)) (folder (g.S.Tree.files c.read_folder.new.source) (g.S.Tree.faults c.read_folder.new.source)) _ _ c.in-Ok.ensures.each c.plan_files.ensures.reads
