use Rattle.std.proofs.Common.{◌∙◌, ap, Some, arith}
use Rattle.std.proofs.lemmas.Option.{slice_get-get_or}
use Rattle.ms_tasks.proofs.Listing.{row_more}
use Rattle.ms_tasks.proofs.by_list.row_of.Goals as goal

pub loop-row-preserved : goal.loop-row-preserved
loop-row-preserved c =
    let l = c.loop-row in
    let xs = c.args.entries.now in
    record {
      within = let lt = c.loop-row-test.true in omega (arith, lt);
      row = row_more xs l.row c.args.k (slice_get-get_or xs l.row 0 c.loop-row-test.true ∙ ap Some c.if-entries-row.false) l.invariant.row;
    }
