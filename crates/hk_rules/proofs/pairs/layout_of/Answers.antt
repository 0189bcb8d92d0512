use Rattle.std.proofs.Common.{◌<◌, sym, subst, ◌∙◌}
use Rattle.hk_chain.specs.Counts.{layout_of}
use Rattle.hk_chain.specs.Layout.{pairs}
use Rattle.hk_rules.proofs.Pairing.{pairs-fit}
use Rattle.hk_rules.proofs.pairs.layout_of.Goals as goal

pub of_counts-requires-clause-pairs : goal.of_counts-requires-clause-pairs
of_counts-requires-clause-pairs c = subst (λ cs. pairs (layout_of cs) < 4294967296) (sym (c.deref.ensures.value ∙ c.in_ok-counts.ensures)) (pairs-fit c.args.items.now c.requires.few c.requires.short)
