use Rattle.hk_app.proofs.FolderReads.{IsReadSoFar}
use Rattle.hk_app.proofs.folder.read_each.Given as goal

abbrev pub invariant-loop-path : goal.invariant-loop-path
invariant-loop-path g l = IsReadSoFar (g.S.Tree.files l.fn.source) (g.S.Tree.files l.source) (g.S.Tree.faults l.fn.source) (g.S.Tree.faults l.source) l.files.items l.path-iterator l.fn.paths.keys
