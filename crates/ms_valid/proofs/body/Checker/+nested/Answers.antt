use Rattle.std.proofs.Common.{Ok, ◌∷◌, ◌≡◌, ◌∙◌, ap, sym, subst}
use Rattle.ms_rules.specs.Typing.{InstrTyped, OtherTyped, Typed}
use Rattle.ms_valid.specs.refinement.Shape.{Becomes, Stuck}
use Rattle.ms_valid.proofs.Sequences.{begins, if_nothing, if_typed}
use Rattle.ms_valid.proofs.body.Checker.+nested.Goals as goal

pub sequence-loop-instr-init : goal.sequence-loop-instr-init
sequence-loop-instr-init t c = (
  c.operands-operands.ensures.labels ∙ c.in_ok-push.ensures.ok,
  c.sequence-instr-items.ensures.later,
  begins c.args.scope.now.context c.args.scope.now.code (c.args.label ∷ c.args.self.now.labels) c.args.number c.args.ty c.operands-operands.result c.sequence-instr-items.result.now c.operands-operands.ensures.none c.sequence-instr-items.ensures.instrs,
)

pub instr-returns-then-not-take-clause-typed : goal.instr-returns-then-not-take-clause-typed
instr-returns-then-not-take-clause-typed t c =
    let K = Typed c.args.scope.now.context c.args.scope.now.code in
    subst (λ i. Stuck c.args.operands.now (InstrTyped K c.args.scope.now.context c.args.self.now.labels i)) (sym c.in-If.is)
    (if_nothing K c.args.scope.now.context c.args.self.now.labels c.in-If.ty c.in-If.then c.in-If.other c.if-not-take.ensures)

pub instr-returns-in_ok-give_result-in-If-clause-typed : goal.instr-returns-in_ok-give_result-in-If-clause-typed
instr-returns-in_ok-give_result-in-If-clause-typed t c =
    let K = Typed c.args.scope.now.context c.args.scope.now.code in
    let same : c.sequence-in-If.new.self.labels ≡ c.args.self.now.labels = c.in_ok-sequence-in-If.ensures.labels (ap Ok c.if-not-branch-3.false) in
    let arm : OtherTyped K c.args.self.now.labels c.in-If.ty c.in-If.other = subst (λ l. OtherTyped K l c.in-If.ty c.in-If.other) same (c.in_ok-other-in-If.ensures.typed.0 c.if-not-branch-4.false) in
    subst (λ i. Becomes c.args.operands.now (InstrTyped K c.args.scope.now.context c.args.self.now.labels i) c.give_result-in-If.new.self) (sym c.in-If.is)
    (if_typed K c.args.scope.now.context c.args.self.now.labels c.in-If.ty c.in-If.then c.in-If.other c.if-not-take.ensures (c.in_ok-sequence-in-If.ensures.typed.0 c.if-not-branch-3.false) arm c.in_ok-give_result-in-If.ensures)
