use Rattle.std.proofs.Common.{◌≡◌, ◌∙◌, ◌+◌, ap, drop}
use Rattle.std.proofs.lemmas.List.{drop_all}
use Rattle.c_place.proofs.Marking.{ahead}
use Rattle.c_emit.specs.refinement.Found.{found, with_uses}
use Rattle.c_emit.proofs.Using.{by_stmt, by_stmts, finds_then, finds_three, found_as, found_end, found_step, if_uses, loop_uses, nothing_found, scope_uses, switch_uses}
use Rattle.c_emit.proofs.uses.+using_statements.Goals as goal

pub in_stmt-returns-in-Nothing : goal.in_stmt-returns-in-Nothing
in_stmt-returns-in-Nothing t c = nothing_found _ _ _ (ap by_stmt c.in-Nothing.is)

pub in_stmt-returns-in-ReturnNothing : goal.in_stmt-returns-in-ReturnNothing
in_stmt-returns-in-ReturnNothing t c = nothing_found _ _ _ (ap by_stmt c.in-ReturnNothing.is)

pub in_stmt-returns-in-Break : goal.in_stmt-returns-in-Break
in_stmt-returns-in-Break t c = nothing_found _ _ _ (ap by_stmt c.in-Break.is)

pub in_stmt-returns-in-Continue : goal.in_stmt-returns-in-Continue
in_stmt-returns-in-Continue t c = nothing_found _ _ _ (ap by_stmt c.in-Continue.is)

pub in_stmt-returns-in_ok-in_stmt-in-If : goal.in_stmt-returns-in_ok-in_stmt-in-If
in_stmt-returns-in_ok-in_stmt-in-If t c =
    found_as _ _ c.in_stmt-in-If.result _ _ _ _ _
    (if_uses c.args.s.now _ _ _ _ _ c.in-If.is c.deref.ensures c.deref-in-If.ensures)
    (finds_three _ _ c.in_stmt-in-If.result _ _ _ _ _ _ _ _ c.in_ok-in_expr-in-If.ensures c.in_ok-in_stmt-in-If.ensures c.in_stmt-in-If.ensures)

pub in_stmt-returns-in_ok-in_step-in-Loop : goal.in_stmt-returns-in_ok-in_step-in-Loop
in_stmt-returns-in_ok-in_step-in-Loop t c =
    found_as _ _ c.in_stmt-in-Loop.result _ _ _ _ _
    (loop_uses c.args.s.now _ _ _ _ c.in-Loop.is c.deref-in-Loop.ensures)
    (finds_three _ _ c.in_stmt-in-Loop.result _ _ _ _ _ _ _ _ c.in_ok-in_expr-in-Loop.ensures c.in_ok-in_step-in-Loop.ensures c.in_stmt-in-Loop.ensures)

pub in_stmt-returns-in_ok-in_expr-in-Switch : goal.in_stmt-returns-in_ok-in_expr-in-Switch
in_stmt-returns-in_ok-in_expr-in-Switch t c =
    found_as _ _ c.in_stmts.result _ _ _ _ _
    (switch_uses c.args.s.now _ _ _ _ _ _ c.in-Switch.is c.deref-in-Switch.ensures.value)
    (finds_then _ _ c.in_stmts.result _ _ _ _ _ _ c.in_ok-in_expr-in-Switch.ensures c.in_stmts.ensures)

pub in_stmt-returns-in-Scope : goal.in_stmt-returns-in-Scope
in_stmt-returns-in-Scope t c =
    found_as _ _ c.in_stmts-in-Scope.result _ _ _ _ _
    (scope_uses c.args.s.now _ _ _ c.in-Scope.is c.deref-in-Scope.ensures.value) c.in_stmts-in-Scope.ensures

pub in_stmts-loop-s-preserved : goal.in_stmts-loop-s-preserved
in_stmts-loop-s-preserved t c =
    let ss = c.args.ss.now in
    let i = c.loop-s.s-index in
    let s = c.s-item.result in
    found_step c.args.structs.now (by_stmt s) (by_stmts (drop (i + 1) ss)) (by_stmts (drop i ss)) (found c.loop-s.uses) (found c.in_stmt.new.uses)
    (with_uses c.args.structs.now (by_stmts ss) (found c.args.uses.now)) (ap by_stmts (ahead ss i s c.loop-s-test.true c.s-item.is))
    c.in_ok-in_stmt.ensures c.loop-s.invariant

pub in_stmts-returns : goal.in_stmts-returns
in_stmts-returns t c =
    let ss = c.args.ss.now in
    let i = c.loop-s.s-index in
    found_end c.args.structs.now (by_stmts (drop i ss)) (by_stmts ss) (found c.args.uses.now) (found c.loop-s.uses)
    (ap by_stmts (drop_all i ss c.loop-s-test.false)) c.loop-s.invariant
