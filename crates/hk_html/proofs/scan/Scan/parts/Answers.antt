use Rattle.std.proofs.Common.{◌<◌, length, arith, ◌∙◌, sym}
use Rattle.std.proofs.lemmas.List.{length-drop}
use Rattle.hk_html.specs.Scan.{ahead}
use Rattle.hk_html.proofs.SliceLemmas.{get_or-ahead}
use Rattle.hk_html.proofs.PartsLemmas.{PartsRead-none, PartsRead-more}
use Rattle.hk_html.proofs.scan.Scan.parts.Goals as goal

pub loop-self-init : goal.loop-self-init
loop-self-init c = PartsRead-none c.args.self.now

pub loop-self-preserved : goal.loop-self-preserved
loop-self-preserved c =
    let now = c.loop-self.self in
    let some : 0 < length (ahead now) = omega (arith, length-drop now.at now.body.now) in
    PartsRead-more c.args.self.now now c.part.new.self c.loop-self.invariant some
    (λ e. c.if-self-eq62.false (sym (get_or-ahead now.body.now now.at) ∙ e)) c.in_ok-part.ensures
