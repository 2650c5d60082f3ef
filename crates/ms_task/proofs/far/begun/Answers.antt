use Rattle.std.proofs.Common.{leb, leb-false, leb-true, rules}
use Rattle.std.proofs.lemmas.List.Sorted.{IsPartitionPoint-from_clause, IsPartitionedBy-leb}
use Rattle.ms_task.specs.declared.far.Far.{Far}
use Rattle.ms_task.proofs.Beginnings.{all_in_front, beginnings_rise}
use Rattle.ms_task.proofs.far.begun.Goals as goal

pub returns-then-f-p-clause-parted : goal.returns-then-f-p-clause-parted
returns-then-f-p-clause-parted c = all_in_front c.args.far.now c.in-Some.f.now _ _ _ _ c.args.p c.in-Some.ensures c.requires.3 c.if-f-p.true

pub returns-clause-parted : goal.returns-clause-parted
returns-clause-parted c =
    let rise = beginnings_rise c.args.far.now _ _ _ c.requires.3 in
    let parted = IsPartitionedBy-leb (λ (f : Far). f.first) _ c.args.p rise in
    let point = IsPartitionPoint-from_clause (λ (f : Far). leb f.first c.args.p) _ _ c.partition_point.ensures.partitioned parted (λ a r q k. search rules) in
    ((λ k d a b. leb-true _ _ (point.0 k d a b)), (λ k d a b. leb-false _ _ (point.1 k d a b)))
