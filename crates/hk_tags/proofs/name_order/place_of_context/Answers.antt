use Rattle.std.proofs.Common.{rules}
use Rattle.std.proofs.lemmas.List.Sorted.{IsPartitionPoint-from_clause}
use Rattle.hk_tags.specs.NameOrder.{is_before}
use Rattle.hk_tags.proofs.Renumbering.{number-found, parted}
use Rattle.hk_tags.proofs.name_order.place_of_context.Goals as goal

pub returns : goal.returns
returns c =
    let contexts = c.args.contexts.now in
    let name = c.args.name.now in
    number-found contexts name c.partition_point.result c.partition_point.ensures.bound
    (IsPartitionPoint-from_clause (is_before name) contexts c.partition_point.result c.partition_point.ensures.partitioned (parted contexts name c.requires) (λ a r g called. search rules))
