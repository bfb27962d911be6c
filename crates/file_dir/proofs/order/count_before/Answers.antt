use Rattle.std.proofs.Common.{rules}
use Rattle.std.proofs.lemmas.List.Sorted.{IsPartitionPoint-from_clause}
use Rattle.file_dir.specs.Order.{precedes}
use Rattle.file_dir.proofs.Places.{partitioned}
use Rattle.file_dir.proofs.order.count_before.Goals as goal

pub returns-clause-place : goal.returns-clause-place
returns-clause-place c =
    IsPartitionPoint-from_clause (precedes c.args.names.now c.args.text.now) c.args.order.now c.partition_point.result c.partition_point.ensures.partitioned
    (partitioned c.args.names.now c.args.order.now c.requires c.args.text.now) (λ a r f k. search rules)
