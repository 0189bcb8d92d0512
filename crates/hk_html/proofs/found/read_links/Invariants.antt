use Rattle.std.proofs.Common.{length, ◌-◌}
use Rattle.hk_html.proofs.WholeLemmas.{PiecesRead}
use Rattle.hk_html.proofs.found.read_links.Given as goal

abbrev pub invariant-loop-scan : goal.invariant-loop-scan
invariant-loop-scan l = PiecesRead l.fn.body l.scan

abbrev pub decreases-loop-scan : goal.decreases-loop-scan
decreases-loop-scan l = length l.scan.body.now - l.scan.at
