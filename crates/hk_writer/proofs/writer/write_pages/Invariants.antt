use Rattle.std.proofs.Common.{drop}
use Rattle.hk_writer.specs.Pages.{pages_of}
use Rattle.hk_writer.proofs.FolderWrites.{IsWrittenSoFar}
use Rattle.hk_writer.proofs.writer.write_pages.Given as goal

abbrev pub invariant-loop-page : goal.invariant-loop-page
invariant-loop-page g l = IsWrittenSoFar (g.T.Tree.files l.fn.site) (g.T.Tree.files l.site) (g.T.Tree.faults l.fn.site) (g.T.Tree.faults l.site) l.written l.page-index (pages_of (drop l.page-index l.pages)) (pages_of l.pages)
