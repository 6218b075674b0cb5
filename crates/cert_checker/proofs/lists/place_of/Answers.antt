use Rattle.std.proofs.Common.{rules, ltb}
use Rattle.std.proofs.lemmas.List.Sorted.{IsPartitionedBy-ltb, IsPartitionPoint-from_clause}
use Rattle.cert_checker.proofs.Orders.{partition_is}
use Rattle.cert_checker.proofs.lists.place_of.Goals as goal

pub returns-clause-value : goal.returns-clause-value
returns-clause-value c =
    let vertices = c.args.vertices.now in
    let parted = IsPartitionedBy-ltb (λ x. x) vertices c.args.vertex c.requires in
    let point = IsPartitionPoint-from_clause (λ x. ltb x c.args.vertex) _ _ c.partition_point.ensures.partitioned parted (λ a r q k. search rules) in
    partition_is (λ x. ltb x c.args.vertex) vertices c.partition_point.result c.partition_point.ensures.bound point
