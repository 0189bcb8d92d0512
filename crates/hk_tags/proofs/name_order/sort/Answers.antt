use Rattle.std.proofs.Common.{rules}
use Rattle.std.proofs.lemmas.List.Sorted.{answers_always}
use Rattle.hk_tags.specs.NameOrder.{is_named_before}
use Rattle.hk_tags.proofs.Renumbering.{name-ranks}
use Rattle.hk_chain.proofs.Sorting.{sorted-same}
use Rattle.hk_tags.proofs.name_order.sort.Goals as goal

pub returns-clause-value : goal.returns-clause-value
returns-clause-value c =
    sorted-same is_named_before name-ranks c.args.contexts.now.items c.sort_by.new.self.items
    (c.in_ok-sort_by.ensures.sorted is_named_before name-ranks (answers_always _ (λ a r. _) _ (λ f a r q k. search rules)))
    (c.in_ok-sort_by.ensures.stable is_named_before name-ranks (answers_always _ (λ a r. _) _ (λ f a r q k. search rules)))

pub returns-clause-sorted : goal.returns-clause-sorted
returns-clause-sorted c = c.in_ok-sort_by.ensures.sorted is_named_before name-ranks (answers_always _ (λ a r. _) _ (λ f a r q k. search rules))
