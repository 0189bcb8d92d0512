use Rattle.std.proofs.Common.{arith, length, drop, ◌<◌, ◌≡◌, true, false, nat_eq, sym}
use Rattle.std.specs.List.{starts_with}
use Rattle.hk_html.proofs.PlaceLemmas.{first_place-drop_no, first_place-drop_yes}
use Rattle.hk_html.proofs.place.place_of_word.Goals as goal

pub loop-at-preserved : goal.loop-at-preserved
loop-at-preserved c =
    let within : c.loop-at.at < length c.args.text.now = omega arith in
    let missed : starts_with nat_eq (drop c.loop-at.at c.args.text.now) c.args.word.now ≡ false = rw (← c.rest_of.ensures) (sym c.if-starts_with.ensures.value) in
    let step = first_place-drop_no (λ rest. starts_with nat_eq rest c.args.word.now) c.args.text.now c.loop-at.at within missed in
    omega (arith, step, c.loop-at.invariant)

pub returns-then-starts_with-clause-value : goal.returns-then-starts_with-clause-value
returns-then-starts_with-clause-value c =
    let within : c.loop-at.at < length c.args.text.now = omega arith in
    let found : starts_with nat_eq (drop c.loop-at.at c.args.text.now) c.args.word.now ≡ true = rw (← c.rest_of.ensures) (sym c.if-starts_with.ensures.value) in
    let step = first_place-drop_yes (λ rest. starts_with nat_eq rest c.args.word.now) c.args.text.now c.loop-at.at within found in
    omega (arith, step, c.loop-at.invariant)
