use Rattle.std.proofs.Common.{leb, arith, rules}
use Rattle.std.proofs.lemmas.Option.{gets}
use Rattle.std.proofs.lemmas.Grind.{common_steps}
use Rattle.std.proofs.lemmas.List.Sorted.{IsPartitionPoint-from_clause}
use Rattle.ms_module.proofs.Runs.{rise_parts, slice_get-types_of}
use Rattle.ms_module.proofs.locals.Locals.get.Goals as goal

pub returns : goal.returns
returns c =
    let parted = rise_parts 0 c.args.index c.self.inside.runs.items c.self.invariant.0 in
    let point = IsPartitionPoint-from_clause (λ r. leb r.end c.args.index) _ _ c.partition_point-run.ensures.partitioned (rw c.deref.ensures.value parted) (λ a r q k. search rules) in
    let is = slice_get-types_of 0 c.args.index c.self.inside.runs.items c.partition_point-run.result c.self.invariant.0 (omega arith) (rw c.deref.ensures.value at point) in
    rw (← c.self.view_is) (grind (arith, common_steps, gets, is))
