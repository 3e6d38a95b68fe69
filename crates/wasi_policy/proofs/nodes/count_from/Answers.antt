use Rattle.std.proofs.Common.{leb, leb-true, arith, rules}
use Rattle.std.proofs.lemmas.Bool.Decides.{nat_tests}
use Rattle.std.proofs.lemmas.List.Sorted.{IsPartitionPoint-from_clause, IsPartitionedBy-leb}
use Rattle.wasi_policy.specs.declared.node.Node.{Node}
use Rattle.wasi_policy.proofs.nodes.count_from.Goals as goal

pub returns-clause-begun : goal.returns-clause-begun
returns-clause-begun c =
    let parted = IsPartitionedBy-leb (λ (node : Node). node.low) _ c.args.number c.requires in
    let point = IsPartitionPoint-from_clause (λ (node : Node). leb node.low c.args.number) _ _ c.partition_point.ensures.partitioned parted (λ a r q k. search rules) in
    λ k d h. leb-true _ _ (point.0 k d (omega arith) h)

pub returns-clause-later : goal.returns-clause-later
returns-clause-later c =
    let parted = IsPartitionedBy-leb (λ (node : Node). node.low) _ c.args.number c.requires in
    let point = IsPartitionPoint-from_clause (λ (node : Node). leb node.low c.args.number) _ _ c.partition_point.ensures.partitioned parted (λ a r q k. search rules) in
    λ k d h e. let out = point.1 k d h e in grind (arith, nat_tests)
