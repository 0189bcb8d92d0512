use Rattle.std.proofs.Common.{sym, ap, ◌∙◌, ◌≡◌, length, true, false, append-nil, ◌++◌, ◌∷◌, [], filter, get_or, arith}
use Rattle.std.specs.List.{range_with_len}
use Rattle.std.proofs.lemmas.List.{get_or_default}
use Rattle.hk_rules.proofs.Pairing.{filter-turn}
use Rattle.hk_rules.proofs.matching.numbers_of.Goals as goal
use Rattle.hk_rules.proofs.matching.numbers_of.Goals.{then-flags-index+in_ok-push, else-flags-index}

pub loop-index-preserved : goal.loop-index-preserved
loop-index-preserved c = λ d.
    elim c.if-flags-index.branch [
      | then-flags-index+in_ok-push w ↦
          ap (λ v. v.items) w.numbers-is
          ∙ w.in_ok-push.ensures.items
          ∙ ap (λ xs. xs ++ c.loop-index.index ∷ []) (c.loop-index.invariant d)
          ∙ sym (filter-turn (λ index. get_or c.args.flags.now index d) c.loop-index.index true (get_or_default c.args.flags.now c.loop-index.index d _ c.loop-index-test.true ∙ w.if-flags-index.true))
      | else-flags-index w ↦
          ap (λ v. v.items) w.numbers-is
          ∙ c.loop-index.invariant d
          ∙ sym (append-nil (filter (λ index. get_or c.args.flags.now index d) (range_with_len 0 c.loop-index.index)))
          ∙ sym (filter-turn (λ index. get_or c.args.flags.now index d) c.loop-index.index false (get_or_default c.args.flags.now c.loop-index.index d _ c.loop-index-test.true ∙ w.if-flags-index.false))
    ]

pub returns : goal.returns
returns c = λ d.
    let all : c.loop-index.index ≡ length c.args.flags.now = omega (arith, c.loop-index-test.false, c.loop-index.auto.index-end) in
    c.loop-index.invariant d ∙ ap (λ n. filter (λ index. get_or c.args.flags.now index d) (range_with_len 0 n)) all
