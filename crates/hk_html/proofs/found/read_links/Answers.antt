use Rattle.std.proofs.Common.{◌≡◌, ◌<◌, length, arith, ap}
use Rattle.std.proofs.lemmas.List.{length-drop}
use Rattle.hk_html.specs.Scan.{ahead}
use Rattle.hk_html.proofs.WholeLemmas.{PiecesRead-more}
use Rattle.hk_html.proofs.found.read_links.Goals as goal

pub loop-scan-preserved : goal.loop-scan-preserved
loop-scan-preserved c =
    let now = c.loop-scan.scan in
    let body : length now.body.now ≡ length c.args.body.now = ap length c.loop-scan.invariant.same in
    let some : 0 < length (ahead now) = omega (arith, length-drop now.at now.body.now) in
    PiecesRead-more c.args.body.now now c.piece.new.self c.loop-scan.invariant some c.in_ok-piece.ensures
