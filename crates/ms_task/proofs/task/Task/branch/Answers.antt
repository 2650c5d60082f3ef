use Rattle.std.proofs.Common.{length, arith, length-drop, ap}
use Rattle.ms_task.specs.refinement.View.{frame_of}
use Rattle.ms_task.proofs.Branches.{branch_within, branch_to_label, label_keeps, branch_to_call, call_keeps}
use Rattle.ms_task.proofs.task.Task.branch.Goals as goal

pub cut-requires : goal.cut-requires
cut-requires c = (branch_within c.args.label (frame_of c.args.self.now) c.args.self.now.operands c.args.funcs.now c.args.self.now.function c.args.self.now.frames.0 c.args.self.now.marks c.requires).0

pub pop-mark-requires : goal.pop-mark-requires
pop-mark-requires c =
    let w = branch_within c.args.label (frame_of c.args.self.now) c.args.self.now.operands c.args.funcs.now c.args.self.now.function c.args.self.now.frames.0 c.args.self.now.marks c.requires in
    omega (arith, w.1, ap length c.cut.ensures, length-drop c.args.label c.args.self.now.marks)

pub keep_operands-requires : goal.keep_operands-requires
keep_operands-requires c = label_keeps c.args.label (frame_of c.args.self.now) c.args.self.now.operands c.args.funcs.now c.args.self.now.function c.args.self.now.frames.0 c.args.self.now.marks c.cut.new.self c.pop-mark.new.self c.in-Label.keeps c.in-Label.height c.in-Label.sequence c.in-Label.next c.in-Label.again c.requires c.cut.ensures c.in-Label.ensures

pub keep_operands-requires-in-Activation : goal.keep_operands-requires-in-Activation
keep_operands-requires-in-Activation c = call_keeps c.args.label (frame_of c.args.self.now) c.args.self.now.operands c.args.funcs.now c.args.self.now.function c.args.self.now.frames.0 c.args.self.now.marks c.cut.new.self c.pop-mark.new.self c.in-Activation.keeps c.in-Activation.height c.in-Activation.function c.in-Activation.sequence c.in-Activation.next c.in-Activation.base c.in-Activation.floor c.requires c.cut.ensures c.in-Activation.ensures

pub returns-in-Label : goal.returns-in-Label
returns-in-Label c = branch_to_label c.args.label (frame_of c.args.self.now) c.args.self.now.operands c.args.funcs.now c.args.self.now.function c.args.self.now.frames.0 c.args.self.now.marks c.cut.new.self c.pop-mark.new.self c.in-Label.keeps c.in-Label.height c.in-Label.sequence c.in-Label.next c.in-Label.again c.keep_operands.new.operands c.resume_at-self.result c.requires c.cut.ensures c.in-Label.ensures c.keep_operands.ensures c.resume_at-self.ensures

pub returns-in-Activation : goal.returns-in-Activation
returns-in-Activation c = branch_to_call c.args.label (frame_of c.args.self.now) c.args.self.now.operands c.args.funcs.now c.args.self.now.function c.args.self.now.frames.0 c.args.self.now.marks c.cut.new.self c.pop-mark.new.self c.in-Activation.keeps c.in-Activation.height c.in-Activation.function c.in-Activation.sequence c.in-Activation.next c.in-Activation.base c.in-Activation.floor c.keep_operands-in-Activation.new.operands c.leave.new.self c.requires c.cut.ensures c.in-Activation.ensures c.keep_operands-in-Activation.ensures c.leave.ensures
