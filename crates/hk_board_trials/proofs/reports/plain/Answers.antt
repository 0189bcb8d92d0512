use Rattle.std.proofs.Common.{◌≡◌, refl, ap, ◌∙◌, arith, ℕ, zero, suc, ◌+◌, [], ◌∷◌, length, replicate, length-append}
use Rattle.hk_chain.specs.Counts.{pair_items}
use Rattle.hk_board_trials.proofs.reports.plain.Goals as goal

one-each : (n i : ℕ) → length (pair_items i (replicate n 0)) ≡ n
one-each zero i = refl
one-each (suc n) i = omega (arith, length-append (i ∷ []) (pair_items (i + 1) (replicate n 0)), one-each n (i + 1))

pub of_counts-requires-clause-pairs : goal.of_counts-requires-clause-pairs
of_counts-requires-clause-pairs c =
    let same : c.deref.result.now ≡ replicate c.args.items 0 = c.deref.ensures.value ∙ c.in_ok-counts.ensures.items_if_clones_equal (λ y e. e) in
    let count : length (pair_items 0 c.deref.result.now) ≡ c.args.items = ap (λ l. length (pair_items 0 l)) same ∙ one-each c.args.items 0 in
    omega (arith, count, c.if-len-gt70000.false, c.len.ensures, c.in_ok-counts.ensures.len)
