use Rattle.std.proofs.Common.{◌≡◌, ◌||◌, ◌+◌, drop, subst, sym}
use Rattle.std.proofs.lemmas.List.{drop_all}
use Rattle.c_typed.proofs.Sequences.{scope_is, switch_is}
use Rattle.c_typed.specs.Objects.{in_stmt}
use Rattle.c_typed.specs.Tree as to
use Rattle.c_typed.specs.refinement.Views.{step_of, stmt_of}
use Rattle.c_place.specs.refinement.Marks.{in_iteration, marked}
use Rattle.c_place.proofs.Marking.{ahead, at_same, both, by_expr, by_stmt, by_stmts, iteration_of, marked_none, of_same, stmts_end, stmts_step}
use Rattle.c_place.proofs.walk.+statements.Goals as goal

pub stmt-returns-in-Nothing : goal.stmt-returns-in-Nothing
stmt-returns-in-Nothing t c = let m = c.args.marks.now in at_same by_stmt m m c.in-Nothing.is (marked_none m)

pub stmt-returns-in-ReturnNothing : goal.stmt-returns-in-ReturnNothing
stmt-returns-in-ReturnNothing t c = let m = c.args.marks.now in at_same by_stmt m m c.in-ReturnNothing.is (marked_none m)

pub stmt-returns-in-Break : goal.stmt-returns-in-Break
stmt-returns-in-Break t c = let m = c.args.marks.now in at_same by_stmt m m c.in-Break.is (marked_none m)

pub stmt-returns-in-Continue : goal.stmt-returns-in-Continue
stmt-returns-in-Continue t c = let m = c.args.marks.now in at_same by_stmt m m c.in-Continue.is (marked_none m)

pub stmt-returns-in-If : goal.stmt-returns-in-If
stmt-returns-in-If t c =
    let m = c.args.marks.now in
    let m1 = c.expr-in-If.new.marks in
    let m2 = c.stmt.new.marks in
    let m3 = c.stmt-in-If.new.marks in
    let a = c.in-If.a.value in
    let b = c.in-If.b.value in
    at_same by_stmt m m3 c.in-If.is
    (both (by_expr c.in-If.c) (λ v. by_stmt a v || by_stmt b v) m m1 m3 c.expr-in-If.ensures
    (both (by_stmt a) (by_stmt b) m1 m2 m3 (of_same by_stmt m1 m2 c.deref.ensures c.stmt.ensures) (of_same by_stmt m2 m3 c.deref-in-If.ensures c.stmt-in-If.ensures)))

pub stmt-returns-in-Loop : goal.stmt-returns-in-Loop
stmt-returns-in-Loop t c =
    let m = c.args.marks.now in
    let m1 = c.expr-in-Loop.new.marks in
    let m2 = c.iteration.new.marks in
    at_same by_stmt m m2 c.in-Loop.is
    (iteration_of m m1 m2 c.in-Loop.c c.in-Loop.after c.deref-in-Loop.result.now c.in-Loop.s.value c.deref-in-Loop.ensures c.expr-in-Loop.ensures c.iteration.ensures)

pub stmt-returns-in-DoWhile : goal.stmt-returns-in-DoWhile
stmt-returns-in-DoWhile t c =
    let m = c.args.marks.now in
    let m1 = c.stmt-in-DoWhile.new.marks in
    let m2 = c.expr-in-DoWhile.new.marks in
    at_same by_stmt m m2 c.in-DoWhile.is
    (both (by_stmt c.in-DoWhile.s.value) (by_expr c.in-DoWhile.c) m m1 m2 (of_same by_stmt m m1 c.deref-in-DoWhile.ensures c.stmt-in-DoWhile.ensures) c.expr-in-DoWhile.ensures)

pub stmt-returns-in-Switch : goal.stmt-returns-in-Switch
stmt-returns-in-Switch t c =
    let m = c.args.marks.now in
    let m1 = c.expr-in-Switch.new.marks in
    let m2 = c.stmts.new.marks in
    at_same by_stmt m m2 c.in-Switch.is
    (subst (λ (s : to.Stmt). m2 ≡ marked (λ v. in_stmt v s) m)
    (sym (switch_is c.in-Switch.field-0 c.in-Switch.e c.in-Switch.field-2 c.in-Switch.field-3 c.in-Switch.groups))
    (both (by_expr c.in-Switch.e) (by_stmts c.in-Switch.groups.items) m m1 m2 c.expr-in-Switch.ensures
    (of_same by_stmts m1 m2 c.deref-in-Switch.ensures.value c.stmts.ensures)))

pub stmt-returns-in-Scope : goal.stmt-returns-in-Scope
stmt-returns-in-Scope t c =
    let m = c.args.marks.now in
    let n = c.stmts-in-Scope.new.marks in
    at_same by_stmt m n c.in-Scope.is
    (subst (λ (s : to.Stmt). n ≡ marked (λ v. in_stmt v s) m) (sym (scope_is c.in-Scope.field-0 c.in-Scope.ss))
    (of_same by_stmts m n c.deref-in-Scope.ensures.value c.stmts-in-Scope.ensures))

pub iteration-returns-in-Some : goal.iteration-returns-in-Some
iteration-returns-in-Some t c =
    let m = c.args.marks.now in
    let m1 = c.expr.new.marks in
    let m2 = c.stmt-in-Some.new.marks in
    let s = c.args.s.now in
    subst (λ x. m2 ≡ marked (λ v. in_iteration v (step_of x) (stmt_of s)) m) (sym c.in-Some.is)
    (both (by_expr c.in-Some.e) (by_stmt s) m m1 m2 c.expr.ensures c.stmt-in-Some.ensures)

pub stmts-loop-s-preserved : goal.stmts-loop-s-preserved
stmts-loop-s-preserved t c =
    let ss = c.args.ss.now in
    let i = c.loop-s.s-index in
    let s = c.s-item.result in
    stmts_step c.loop-s.marks c.stmt.new.marks (marked (by_stmts ss) c.args.marks.now) s (drop (i + 1) ss) (drop i ss)
    (ahead ss i s c.loop-s-test.true c.s-item.is) c.stmt.ensures c.loop-s.invariant

pub stmts-returns : goal.stmts-returns
stmts-returns t c =
    let ss = c.args.ss.now in
    let i = c.loop-s.s-index in
    stmts_end c.loop-s.marks (marked (by_stmts ss) c.args.marks.now) (drop i ss) (drop_all i ss c.loop-s-test.false) c.loop-s.invariant
