use Rattle.std.proofs.Common.{length}
use Rattle.hk_writer.specs.Pages.{pages_of}
use Rattle.hk_writer.proofs.FolderWrites.{IsRemovedSoFar}
use Rattle.hk_writer.proofs.writer.remove_others.Given as goal

abbrev pub invariant-loop-path : goal.invariant-loop-path
invariant-loop-path g l = IsRemovedSoFar (g.T.Tree.files l.fn.site) (g.T.Tree.files l.site) (g.T.Tree.faults l.fn.site) (g.T.Tree.faults l.site) (pages_of l.pages) l.removed (length l.yielded) l.path-iterator l.fn.paths.keys
