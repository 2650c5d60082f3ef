use Rattle.std.proofs.Common.{◌≡◌, ◌∙◌, ◌+◌, ℕ, suc, Bool, true, false, List, get_or, reverse, add-one, ap, arith, refl, subst, sym}
use Rattle.std.specs.Prelude.{OnOk}
use Rattle.ms_emit.proofs.Adding.{adds_nothing, adds_then}
use Rattle.ms_emit.specs.Codes.{Code}
use Rattle.ms_emit.specs.refinement.Parts.{Adds}
use Rattle.c_typed.proofs.Sequences.{scope_is, switch_is}
use Rattle.c_typed.specs.declared.ops.Variable.{Variable}
use Rattle.c_typed.specs.declared.tree.Case.{Case}
use Rattle.c_typed.specs.declared.tree.Stmt.{Stmt}
use Rattle.c_typed.specs.Parts.{sequence}
use Rattle.c_typed.specs.Tree as tree
use Rattle.c_typed.specs.refinement.Views.{expr_of, list_of, place_of, step_of, stmt_of}
use Rattle.c_typed.specs.Statements.{count}
use Rattle.c_code.specs.Expressions.{decayed, expr, is_deref, place, step}
use Rattle.c_code.specs.Operations.{width_of}
use Rattle.c_code.specs.Statements as words
use Rattle.c_code.specs.Statements.{Exits, stmt, stmts}
use Rattle.c_code.specs.Targets.{scratch_of_width, waiting}
use Rattle.c_emit.specs.refinement.Exits.{exits_of}
use Rattle.c_emit.proofs.BlockObjects.{are_in_front}
use Rattle.c_emit.proofs.Items.{item_is_added, items_are_added}
use Rattle.c_emit.proofs.Steps.{then as behind, then_block, then_choice, then_only, then_repeat}
use Rattle.c_place.proofs.Lists.{count_is}
use Rattle.c_compile.proofs.Walk.{group_is_added, iterated_is, with_block, without_block}
use Rattle.c_compile.proofs.statements.+statements.Goals as goal

pub arm-returns-clause-code : goal.arm-returns-clause-code
arm-returns-clause-code t c =
    let x = c.args.t.now in
    subst (λ (e : Exits). OnOk c.stmt.result (Adds c.args.body.now c.stmt.new.body (stmt x.target x.slots c.args.d e (stmt_of c.args.s.now))))
    (c.in_ok-within.ensures (reverse c.args.objects.now.items)) c.stmt.ensures.code

pub stmt-returns-in-Nothing-clause-code : goal.stmt-returns-in-Nothing-clause-code
stmt-returns-in-Nothing-clause-code t c =
    let x = c.args.t.now in
    let here = exits_of c.args.exits (reverse c.args.objects.now.items) in
    subst (λ (k : Stmt). Adds c.args.body.now c.args.body.now (stmt x.target x.slots c.args.d here (stmt_of k))) (sym c.in-Nothing.is) (adds_nothing c.args.body.now)

pub stmt-returns-in-Fill-clause-code : goal.stmt-returns-in-Fill-clause-code
stmt-returns-in-Fill-clause-code t c =
    let x = c.args.t.now in
    let here = exits_of c.args.exits (reverse c.args.objects.now.items) in
    let p = place_of c.in-Fill.p in
    subst (λ (k : Stmt). OnOk c.fill.result (Adds c.args.body.now c.fill.new.body (stmt x.target x.slots c.args.d here (stmt_of k)))) (sym c.in-Fill.is)
    (subst (λ (l : List ℕ). OnOk c.fill.result (Adds c.args.body.now c.fill.new.body (words.filled x.target (decayed (is_deref p) c.in-Fill.n (place x.target c.args.d p)) l)))
    c.deref.ensures.value c.fill.ensures)

pub stmt-returns-in_ok-arm-in-If-2-clause-code : goal.stmt-returns-in_ok-arm-in-If-2-clause-code
stmt-returns-in_ok-arm-in-If-2-clause-code t c =
    let x = c.args.t.now in
    let at = λ (vs : List Variable). exits_of c.args.exits (reverse vs) in
    let here = at c.args.objects.now.items in
    let first = subst (λ (k : Stmt). Adds c.begin.new.body c.arm.new.body (stmt x.target x.slots c.args.d (words.within here) (stmt_of k))) c.deref-in-If.ensures c.in_ok-arm-in-If.ensures.code in
    let second = subst (λ (k : Stmt). Adds c.turn.new.body c.arm-in-If.new.body (stmt x.target x.slots c.args.d (words.within here) (stmt_of k))) c.deref-in-If-2.ensures
    (subst (λ (vs : List Variable). Adds c.turn.new.body c.arm-in-If.new.body (stmt x.target x.slots c.args.d (words.within (at vs)) (stmt_of c.deref-in-If-2.result.now))) c.in_ok-arm-in-If.ensures.objects c.in_ok-arm-in-If-2.ensures.code) in
    subst (λ (k : Stmt). OnOk c.end.result (Adds c.args.body.now c.end.new.body (stmt x.target x.slots c.args.d here (stmt_of k)))) (sym c.in-If.is)
    (behind _ _ _ _ _ _ _ _ c.in_ok-value-in-If.ensures (then_choice _ _ _ _ _ _ _ _ _ _ _ _ c.in_ok-begin-in-If.ensures first c.turn.ensures second c.end.ensures))

pub stmt-returns-in-Loop-clause-code : goal.stmt-returns-in-Loop-clause-code
stmt-returns-in-Loop-clause-code t c =
    let x = c.args.t.now in
    let here = exits_of c.args.exits (reverse c.args.objects.now.items) in
    subst (λ (k : Stmt). OnOk c.test_first.result (Adds c.args.body.now c.test_first.new.body (stmt x.target x.slots c.args.d here (stmt_of k)))) (sym c.in-Loop.is)
    (subst (λ (k : Stmt). OnOk c.test_first.result (Adds c.args.body.now c.test_first.new.body (stmt x.target x.slots c.args.d here (tree.loop (expr_of c.in-Loop.c) (step_of c.in-Loop.after) (stmt_of k)))))
    c.deref-in-Loop.ensures c.test_first.ensures.code)

pub stmt-returns-in-Switch-clause-code : goal.stmt-returns-in-Switch-clause-code
stmt-returns-in-Switch-clause-code t c =
    let x = c.args.t.now in
    let here = exits_of c.args.exits (reverse c.args.objects.now.items) in
    let k = c.in-Switch in
    let e = expr_of k.e in
    let groups = λ (l : List Stmt). sequence (list_of l) in
    let is =
    ap (λ (l : List Stmt). tree.switch k.u e c.deref-in-Switch-2.result.now c.deref-in-Switch-3.result.now (groups l)) c.deref-in-Switch.ensures.value
    ∙ ap (λ (l : List ℕ). tree.switch k.u e l c.deref-in-Switch-3.result.now (groups k.groups.items)) c.deref-in-Switch-2.ensures.value
    ∙ ap (λ (l : List Case). tree.switch k.u e k.slots.items l (groups k.groups.items)) c.deref-in-Switch-3.ensures.value
    ∙ sym (switch_is k.u k.e k.slots k.cases k.groups)
    ∙ ap stmt_of (sym k.is) in
    subst (λ (s : tree.Stmt). OnOk c.switch.result (Adds c.args.body.now c.switch.new.body (stmt x.target x.slots c.args.d here s))) is c.switch.ensures.code

pub stmt-returns-in-Scope-clause-code : goal.stmt-returns-in-Scope-clause-code
stmt-returns-in-Scope-clause-code t c =
    let x = c.args.t.now in
    let here = exits_of c.args.exits (reverse c.args.objects.now.items) in
    let k = c.in-Scope in
    let is =
    ap (λ (l : List Stmt). tree.scope c.deref-in-Scope-2.result.now (sequence (list_of l))) c.deref-in-Scope.ensures.value
    ∙ ap (λ (l : List ℕ). tree.scope l (sequence (list_of k.ss.items))) c.deref-in-Scope-2.ensures.value
    ∙ sym (scope_is k.slots k.ss)
    ∙ ap stmt_of (sym k.is) in
    subst (λ (s : tree.Stmt). OnOk c.scope.result (Adds c.args.body.now c.scope.new.body (stmt x.target x.slots c.args.d here s))) is c.scope.ensures.code

pub stmt-returns-in-Return-clause-code : goal.stmt-returns-in-Return-clause-code
stmt-returns-in-Return-clause-code t c =
    let x = c.args.t.now in
    let here = exits_of c.args.exits (reverse c.args.objects.now.items) in
    subst (λ (k : Stmt). OnOk c.return_value.result (Adds c.args.body.now c.return_value.new.body (stmt x.target x.slots c.args.d here (stmt_of k)))) (sym c.in-Return.is)
    (subst (λ (vs : List Variable). OnOk c.return_value.result (Adds c.args.body.now c.return_value.new.body (stmt x.target x.slots c.args.d (words.at_body (reverse vs)) (tree.return (expr_of c.in-Return.e)))))
    c.deref-in-Return.ensures.value c.return_value.ensures)

-- ---- one behind another

pub stmts-loop-s-preserved : goal.stmts-loop-s-preserved
stmts-loop-s-preserved t c =
    let x = c.args.t.now in
    let here = exits_of c.args.exits (reverse c.args.objects.now.items) in
    let s = c.s-item.result in
    let same = c.loop-s.invariant.0 in (
      ◌∙◌ {A = List Variable} c.in_ok-stmt.ensures.objects same,
      item_is_added (λ (l : List Stmt). stmts x.target x.slots c.args.d here (sequence (list_of l))) (λ (k : Stmt). stmt x.target x.slots c.args.d here (stmt_of k)) (λ k l. refl)
          _ _ _ c.args.ss.now c.loop-s.s-index _ s _ c.loop-s-test.true c.s-item.is refl c.loop-s.invariant.1
          (subst (λ (l : List Variable). Adds c.loop-s.body c.stmt.new.body (stmt x.target x.slots c.args.d (exits_of c.args.exits (reverse l)) (stmt_of s))) same c.in_ok-stmt.ensures.code),
    )

pub stmts-returns-clause-code : goal.stmts-returns-clause-code
stmts-returns-clause-code t c =
    let x = c.args.t.now in
    let here = exits_of c.args.exits (reverse c.args.objects.now.items) in
    items_are_added (λ (l : List Stmt). stmts x.target x.slots c.args.d here (sequence (list_of l))) refl
    _ _ c.args.ss.now c.loop-s.s-index _ c.loop-s-test.false c.loop-s.invariant.1

pub scope-returns-clause-code : goal.scope-returns-clause-code
scope-returns-clause-code t c =
    let x = c.args.t.now in
    let vs = words.objects_in x.target x.slots c.args.slots.now in
    let ws = c.args.objects.now.items in
    let opened = c.in_ok-count.ensures in
    let inside = exits_of c.in_ok-with_objects.field-0 in
    let is = ap inside (are_in_front c.enter.new.objects.items vs ws opened.objects) ∙ c.in_ok-with_objects.ensures vs (reverse ws) opened.count in
    behind _ _ _ _ _ _ _ _ opened.code
    (behind _ _ _ _ _ _ _ _
    (subst (λ (e : Exits). Adds c.enter.new.body c.stmts.new.body (stmts x.target x.slots c.args.d e (sequence (list_of c.args.ss.now)))) is c.in_ok-stmts.ensures.code)
    (c.leave.ensures.code vs ws (◌∙◌ {A = List Variable} c.in_ok-stmts.ensures.objects opened.objects) opened.count))

-- ---- loops

pub test_first-returns-clause-code : goal.test_first-returns-clause-code
test_first-returns-clause-code t c =
    behind _ _ _ _ _ _ _ _ c.in_ok-value.ensures (then_only _ _ _ _ _ _ _ _ _ c.in_ok-begin.ensures c.in_ok-iterated.ensures.code c.end.ensures)

pub test_last-returns-clause-code : goal.test_last-returns-clause-code
test_last-returns-clause-code t c = then_block _ _ _ _ _ _ _ _ _ c.in_ok-begin.ensures c.in_ok-iterated.ensures.code c.end.ensures

pub iterated-returns-clause-code : goal.iterated-returns-clause-code
iterated-returns-clause-code t c =
    let x = c.args.t.now in
    let s = stmt_of c.args.s.now in
    let test = expr x.target true c.args.d (expr_of c.args.c.now) in
    subst (λ (k : Code). OnOk c.end.result (Adds c.args.body.now c.end.new.body k))
    (sym (iterated_is x.target (words.continues s) (λ b. stmt x.target x.slots c.args.d (words.in_loop b (words.at_body (reverse c.args.objects.now.items))) s) (step x.target c.args.d (step_of c.args.after.now)) test))
    (then_repeat _ _ _ _ _ _ _ _ _ c.in_ok-begin.ensures (adds_then _ _ _ _ _ c.in_ok-iteration.ensures.code c.in_ok-go_round.ensures) c.end.ensures)

pub iteration-returns-then-not-continues-clause-code : goal.iteration-returns-then-not-continues-clause-code
iteration-returns-then-not-continues-clause-code t c =
    let x = c.args.t.now in
    let s = stmt_of c.args.s.now in
    let here = words.at_body (reverse c.args.objects.now.items) in
    let body = λ (b : Bool). stmt x.target x.slots c.args.d (words.in_loop b here) s in
    subst (λ (k : Code). OnOk c.stmt.result (Adds c.args.body.now c.stmt.new.body k)) (without_block (words.continues s) body (sym c.continues.ensures ∙ c.if-not-continues.true))
    (subst (λ (e : Exits). OnOk c.stmt.result (Adds c.args.body.now c.stmt.new.body (stmt x.target x.slots c.args.d e s))) (c.in_loop.ensures here) c.stmt.ensures.code)

pub iteration-returns-clause-code : goal.iteration-returns-clause-code
iteration-returns-clause-code t c =
    let x = c.args.t.now in
    let s = stmt_of c.args.s.now in
    let here = words.at_body (reverse c.args.objects.now.items) in
    let body = λ (b : Bool). stmt x.target x.slots c.args.d (words.in_loop b here) s in
    subst (λ (k : Code). OnOk c.end.result (Adds c.args.body.now c.end.new.body k)) (with_block (words.continues s) body (sym c.continues.ensures ∙ c.if-not-continues.false))
    (then_block _ _ _ _ _ _ _ _ _ c.in_ok-begin.ensures
    (subst (λ (e : Exits). Adds c.begin.new.body c.stmt-2.new.body (stmt x.target x.slots c.args.d e s)) (c.in_loop-2.ensures here) c.in_ok-stmt.ensures.code) c.end.ensures)

-- ---- switches

pub switch-returns-clause-code : goal.switch-returns-clause-code
switch-returns-clause-code t c =
    let x = c.args.t.now in
    let vs = words.objects_in x.target x.slots c.args.slots.now in
    let ws = c.args.objects.now.items in
    let opened = c.in_ok-count.ensures in
    let inside = exits_of c.in_ok-with_objects.field-0 in
    let front = are_in_front c.enter.new.objects.items vs ws opened.objects in
    let is =
    c.in_ok-inside.ensures (reverse c.enter.new.objects.items)
    ∙ ap (λ (n : ℕ). words.in_group n (inside (reverse c.enter.new.objects.items))) c.in_ok-waiting.ensures
    ∙ ap (λ (l : List Variable). words.in_group (waiting x.target c.args.d) (inside l)) front
    ∙ ap (words.in_group (waiting x.target c.args.d)) (c.in_ok-with_objects.ensures vs (reverse ws) opened.count) in
    let selected = λ (n : ℕ). words.selected x.target c.args.u (scratch_of_width x.target (width_of c.args.u)) (waiting x.target c.args.d) c.args.cases.now n (expr x.target true c.args.d (expr_of c.args.e.now)) in
    behind _ _ _ _ _ _ _ _ (subst (λ (n : ℕ). Adds c.args.body.now c.select.new.body (selected n)) (count_is c.args.groups.now) c.in_ok-select.ensures)
    (behind _ _ _ _ _ _ _ _ opened.code
    (behind _ _ _ _ _ _ _ _
    (subst (λ (e : Exits). Adds c.enter.new.body c.grouped.new.body (words.groups x.target x.slots c.args.d e 0 (sequence (list_of c.args.groups.now)))) is c.in_ok-grouped.ensures.code)
    (c.leave.ensures.code vs ws (◌∙◌ {A = List Variable} c.in_ok-grouped.ensures.objects opened.objects) opened.count)))

pub group-returns-clause-code : goal.group-returns-clause-code
group-returns-clause-code t c =
    let x = c.args.t.now in
    let deeper : c.in_ok-deeper.deeper ≡ suc c.args.d = c.in_ok-deeper.ensures ∙ rw add-one refl in
    behind _ _ _ _ _ _ _ _ c.in_ok-test_group.ensures
    (then_only _ _ _ _ _ _ _ _ _ c.in_ok-begin.ensures
    (subst (λ (n : ℕ). Adds c.begin.new.body c.stmt.new.body (stmt x.target x.slots n (exits_of c.args.exits (reverse c.args.objects.now.items)) (stmt_of c.args.s.now))) deeper c.in_ok-stmt.ensures.code)
    c.end.ensures)

pub grouped-loop-s-preserved : goal.grouped-loop-s-preserved
grouped-loop-s-preserved t c =
    let x = c.args.t.now in
    let at = λ (vs : List Variable). exits_of c.args.exits (reverse vs) in
    let here = at c.args.objects.now.items in
    let s = c.s-item.result in
    let n = c.loop-s.number in
    let inv = c.loop-s.invariant in (
      c.in_ok-number.ensures ∙ ap (λ (i : ℕ). i + 1) inv.0,
      ◌∙◌ {A = List Variable} c.in_ok-group.ensures.objects inv.1,
      group_is_added x.target x.slots c.args.d here _ _ _ c.args.groups.now n _ s _ (omega (arith, inv.0, c.loop-s-test.true))
          (subst (λ (i : ℕ). s ≡ get_or c.args.groups.now i s) (sym inv.0) c.s-item.is) c.in_ok-number.ensures inv.2
          (subst (λ (vs : List Variable). Adds c.loop-s.body c.group.new.body (words.group_from x.target (waiting x.target c.args.d) n (stmt x.target x.slots (suc c.args.d) (at vs) (stmt_of s)))) inv.1 c.in_ok-group.ensures.code),
    )

pub grouped-returns-clause-code : goal.grouped-returns-clause-code
grouped-returns-clause-code t c =
    let x = c.args.t.now in
    let here = exits_of c.args.exits (reverse c.args.objects.now.items) in
    let n = c.loop-s.number in
    let inv = c.loop-s.invariant in
    items_are_added (λ (l : List Stmt). words.groups x.target x.slots c.args.d here n (sequence (list_of l))) refl
    _ _ c.args.groups.now n _ (omega (arith, inv.0, c.loop-s-test.false)) inv.2
