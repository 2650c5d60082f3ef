use Rattle.std.proofs.Common.{sym, ◌∙◌}
use Rattle.c_emit.proofs.Defined.{passed_import, picked_import}
use Rattle.c_emit.proofs.tables.imports.Goals.{then-is_import+in_ok-number+in_ok-push, else-is_import}
use Rattle.c_emit.proofs.tables.imports.Goals as goal

pub loop-i-preserved : goal.loop-i-preserved
loop-i-preserved c = elim c.if-is_import.branch [
  | then-is_import+in_ok-number+in_ok-push w ↦
      rw (w.all-is, w.in_ok-push.ensures.items, w.in_ok-number.ensures)
      (picked_import c.args.functions.now c.args.used.now c.loop-i.i _ _ c.loop-i-test.true c.index-functions-i.is (sym c.is_import.ensures ∙ w.if-is_import.true) c.loop-i.invariant)
  | else-is_import w ↦
      rw w.all-is
      (passed_import c.args.functions.now c.args.used.now c.loop-i.i _ _ c.loop-i-test.true c.index-functions-i.is (sym c.is_import.ensures ∙ w.if-is_import.false) c.loop-i.invariant)
]
