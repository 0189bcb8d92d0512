use Rattle.hk_app.specs.FolderReading.{is_read}
use Rattle.hk_app.proofs.FolderReads.{whole_folder}
use Rattle.hk_app.proofs.folder.read_folder.Goals as goal

pub returns-clause-each : goal.returns-clause-each
returns-clause-each g c = whole_folder is_read _ _ _ _ _ c.in_ok-paths.ensures.each c.in_ok-ordered.ensures c.list.ensures.same c.read_each.ensures.each

pub returns-clause-ascending : goal.returns-clause-ascending
returns-clause-ascending g c = c.read_each.ensures.ascending
