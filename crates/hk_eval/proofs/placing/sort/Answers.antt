use Rattle.std.proofs.Common.{rules}
use Rattle.std.proofs.lemmas.List.Sorted.{answers_always, ranks_by}
use Rattle.hk_meta.specs.contracts.date.MomentOrd.TheImpl.Laws.{total-law}
use Rattle.hk_eval.specs.Lists.{Dated, is_earlier}
use Rattle.hk_chain.proofs.Sorting.{sorted-same}
use Rattle.hk_eval.proofs.placing.sort.Goals as goal

pub returns : goal.returns
returns c =
    sorted-same is_earlier (ranks_by total-law (λ (d : Dated). d.date)) c.args.dated.now.items c.sort_by_key.new.self.items
    (c.in_ok-sort_by_key.ensures.sorted (λ d. d.date) (answers_always _ (λ a r. _) _ (λ f a r q k. search rules)))
    (c.in_ok-sort_by_key.ensures.stable (λ d. d.date) (answers_always _ (λ a r. _) _ (λ f a r q k. search rules)))
