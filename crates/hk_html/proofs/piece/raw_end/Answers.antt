use Rattle.std.proofs.Common.{◌<◌, ◌≡◌, length, drop, true, false, sym, arith}
use Rattle.hk_html.specs.Piece.{ends_raw_text}
use Rattle.hk_html.proofs.PlaceLemmas.{first_place-drop_no, first_place-drop_yes}
use Rattle.hk_html.proofs.piece.raw_end.Goals as goal

pub loop-at-preserved : goal.loop-at-preserved
loop-at-preserved c =
    let within : c.loop-at.at < length c.args.text.now = omega arith in
    let missed : ends_raw_text c.args.name.now (drop c.loop-at.at c.args.text.now) ≡ false = rw (← c.rest_of.ensures) (sym c.if-ends_raw_text.ensures) in
    let step = first_place-drop_no (ends_raw_text c.args.name.now) c.args.text.now c.loop-at.at within missed in
    omega (arith, step, c.loop-at.invariant)

pub returns-then-ends_raw_text-clause-value : goal.returns-then-ends_raw_text-clause-value
returns-then-ends_raw_text-clause-value c =
    let within : c.loop-at.at < length c.args.text.now = omega arith in
    let found : ends_raw_text c.args.name.now (drop c.loop-at.at c.args.text.now) ≡ true = rw (← c.rest_of.ensures) (sym c.if-ends_raw_text.ensures) in
    let step = first_place-drop_yes (ends_raw_text c.args.name.now) c.args.text.now c.loop-at.at within found in
    omega (arith, step, c.loop-at.invariant)
