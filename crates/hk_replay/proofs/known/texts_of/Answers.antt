use Rattle.std.proofs.Common.{sym, ap, ◌∙◌, arith, ◌<◌, ◌∷◌, ◌++◌, [], length, map, take}
use Rattle.hk_pattern.specs.declared.pattern.Pattern.TheVariants.{HasNoVersion}
use Rattle.hk_rules.specs.PatternText.{text_of}
use Rattle.hk_rules.specs.Plan.{lookups}
use Rattle.hk_replay.proofs.Matching.{pattern-same, map-more}
use Rattle.hk_replay.proofs.known.texts_of.Goals as goal

pub loop-number-preserved : goal.loop-number-preserved
loop-number-preserved c =
    let plan = c.args.plan.now in
    let n = c.loop-number.number in
    let lt : n < length plan.patterns = omega (arith, c.loop-number-test.true, c.pattern_count-number-end.ensures) in
    let text = c.in_ok-text.ensures ∙ ap text_of (c.pattern.ensures ∙ (ap (lookups plan).pattern c.in_ok-pattern.ensures ∙ pattern-same plan n)) in
    c.in_ok-push.ensures.items ∙ (ap (λ l. l ++ c.in_ok-text.text ∷ []) c.loop-number.invariant ∙ (ap (λ t. map text_of (take n plan.patterns) ++ t ∷ []) text ∙ sym (map-more text_of plan.patterns n HasNoVersion lt)))
