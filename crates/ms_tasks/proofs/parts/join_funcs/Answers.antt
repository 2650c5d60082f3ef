use Rattle.std.proofs.Common.{arith, below_more}
use Rattle.std.proofs.lemmas.Option.{slice_get_within}
use Rattle.ms_tasks.specs.refinement.Parting.{IsWithFuncs}
use Rattle.ms_tasks.proofs.Noting.{with_funcs_here, with_funcs_kept}
use Rattle.ms_tasks.proofs.parts.join_funcs.Goals as goal

pub loop-n-init : goal.loop-n-init
loop-n-init g c = record {
  kept = λ m k together. together;
  parts = c.requires.parts;
  joins = λ m low. absurd (omega (arith, low));
}

pub join_definers-requires-clause-names : goal.join_definers-requires-clause-names
join_definers-requires-clause-names g c = (c.instance_at-instance.result.now, c.instance_at-instance.ensures, c.as_slice.ensures)

pub loop-n-preserved : goal.loop-n-preserved
loop-n-preserved g c =
    let l = c.loop-n in
    let v = l.invariant in
    let s = c.args.store.now in
    let e = c.join_definers.ensures in
    let new = c.join_definers.new.parts in
    record {
      kept = λ m k together. e.kept m k (v.kept m k together);
      parts = e.parts;
      joins = below_more (λ m. IsWithFuncs s new m) l.n (λ m low. with_funcs_kept s l.parts new m e.kept (v.joins m low))
          (with_funcs_here s new l.n c.instance_at-instance.result.now c.as_slice.result.now c.instance_at-instance.ensures c.as_slice.ensures e.joins);
    }

pub returns-clause-joins : goal.returns-clause-joins
returns-clause-joins g c = λ n i found.
    let low = slice_get_within c.args.store.now.instances n i found in
    let many = c.instance_count-count.ensures in
    let past = c.loop-n-test.false in
    c.loop-n.invariant.joins n (omega (arith, low, many, past)) i found
