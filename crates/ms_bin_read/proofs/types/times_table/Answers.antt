use Rattle.std.proofs.Common.{◌≡◌, ◌++◌, ◌∷◌, [], ◌∙◌, arith}
use Rattle.std.proofs.lemmas.Result.{err_from_is_err_and}
use Rattle.ms_bin_grammar.specs.Types.{table_type}
use Rattle.ms_bin_read.proofs.Loops.{times_fails, times_goes, times_done}
use Rattle.ms_bin_read.proofs.types.times_table.Goals as goal

pub returns-in_err-table_type_of : goal.returns-in_err-table_type_of
returns-in_err-table_type_of c =
    let p = err_from_is_err_and c.from_residual.result c.from_residual.ensures.1 in
    let l = c.loop in
    rw (p.1, p.2) (times_fails table_type l.tables c.args.count l.counter l.c.end l.c.left _ l.invariant.so_far c.in_err-table_type_of.field-0.0 c.loop-test.true c.in_err-table_type_of.ensures)

pub loop-preserved : goal.loop-preserved
loop-preserved c =
    let l = c.loop in
    let e : c.push.new.self ≡ l.tables ++ c.in_ok-table_type_of.field-0 ∷ [] = grind arith in
    record {
      so_far = rw (e, c.in_ok-table_type_of.ensures.1) (times_goes table_type l.tables c.args.count l.counter l.c.end l.c.left _ l.invariant.so_far c.in_ok-table_type_of.field-0 c.table_type_of.new.c.left c.loop-test.true c.in_ok-table_type_of.ensures.0);
      same_end = c.in_ok-table_type_of.ensures.1 ∙ l.invariant.same_end;
    }

pub returns : goal.returns
returns c =
    let l = c.loop in
    (times_done table_type l.tables c.args.count l.counter l.c.end l.c.left _ l.invariant.so_far c.loop-test.false, l.invariant.same_end)
