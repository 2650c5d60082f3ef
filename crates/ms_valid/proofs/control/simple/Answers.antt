use Rattle.std.proofs.Common.{sym}
use Rattle.ms_module.specs.declared.instr.Instr.TheVariants.{BrIf, GlobalGet, GlobalSet, Linear, LocalGet, LocalSet}
use Rattle.ms_rules.specs.Typing.{LinearTyped, LocalGetTyped, GlobalGetTyped, InstrTyped, BrIfTyped, LocalSetTyped, GlobalSetTyped, Typed}
use Rattle.ms_valid.proofs.Parts.{arm}
use Rattle.ms_valid.proofs.control.simple.Goals as goal

pub returns-in_ok-branch_if-in-BrIf : goal.returns-in_ok-branch_if-in-BrIf
returns-in_ok-branch_if-in-BrIf c = arm (InstrTyped (Typed c.args.scope.now.context c.args.scope.now.code) c.args.scope.now.context c.args.labels.now) (BrIf c.in-BrIf.label) c.args.instr.now _ _ _ (sym c.in-BrIf.is) (arm BrIfTyped _ _ _ _ _ c.label_at-in-BrIf.ensures c.in_ok-branch_if-in-BrIf.ensures)

pub returns-in_ok-get-in-LocalGet : goal.returns-in_ok-get-in-LocalGet
returns-in_ok-get-in-LocalGet c = arm (InstrTyped (Typed c.args.scope.now.context c.args.scope.now.code) c.args.scope.now.context c.args.labels.now) (LocalGet c.in-LocalGet.local) c.args.instr.now _ _ _ (sym c.in-LocalGet.is) (arm LocalGetTyped _ _ _ _ _ c.local.ensures c.in_ok-get-in-LocalGet.ensures)

pub returns-in-LocalSet : goal.returns-in-LocalSet
returns-in-LocalSet c = arm (InstrTyped (Typed c.args.scope.now.context c.args.scope.now.code) c.args.scope.now.context c.args.labels.now) (LocalSet c.in-LocalSet.local) c.args.instr.now _ _ _ (sym c.in-LocalSet.is) (arm LocalSetTyped _ _ _ _ _ c.local-in-LocalSet.ensures c.set.ensures)

pub returns-in_ok-get_global-in-GlobalGet : goal.returns-in_ok-get_global-in-GlobalGet
returns-in_ok-get_global-in-GlobalGet c = arm (InstrTyped (Typed c.args.scope.now.context c.args.scope.now.code) c.args.scope.now.context c.args.labels.now) (GlobalGet c.in-GlobalGet.global) c.args.instr.now _ _ _ (sym c.in-GlobalGet.is) (arm GlobalGetTyped _ _ _ _ _ c.global.ensures c.in_ok-get_global-in-GlobalGet.ensures)

pub returns-in-GlobalSet : goal.returns-in-GlobalSet
returns-in-GlobalSet c = arm (InstrTyped (Typed c.args.scope.now.context c.args.scope.now.code) c.args.scope.now.context c.args.labels.now) (GlobalSet c.in-GlobalSet.global) c.args.instr.now _ _ _ (sym c.in-GlobalSet.is) (arm GlobalSetTyped _ _ _ _ _ c.global-in-GlobalSet.ensures c.set_global.ensures)

pub returns-in_ok-linear-in-Linear : goal.returns-in_ok-linear-in-Linear
returns-in_ok-linear-in-Linear c = arm (InstrTyped (Typed c.args.scope.now.context c.args.scope.now.code) c.args.scope.now.context c.args.labels.now) (Linear c.in-Linear.instr) c.args.instr.now _ _ _ (sym c.in-Linear.is) (arm (λ n. LinearTyped n c.in-Linear.instr) _ _ _ _ _ c.memories.ensures c.in_ok-linear-in-Linear.ensures)
