use Rattle.std.proofs.Common.{get_or, sym, ◌∙◌}
use Rattle.std.proofs.lemmas.Option.{slice_get-get_or}
use Rattle.ms_task.proofs.Places.{no_function, no_sequence, sequence_is}
use Rattle.ms_task.proofs.task.Task.sequence_at.Goals as goal

pub returns-then-self-funcs : goal.returns-then-self-funcs
returns-then-self-funcs c =
    let t = c.args.self.now in
    sym (no_function c.args.funcs.now t.function c.args.number c.if-self-funcs.true)

pub returns-then-number-len : goal.returns-then-number-len
returns-then-number-len c =
    let t = c.args.self.now in
    let funcs = c.args.funcs.now in
    let g = get_or funcs t.function c.index-funcs-self.result in
    let found = slice_get-get_or funcs t.function c.index-funcs-self.result c.if-self-funcs.false in
    sym (sequence_is funcs t.function c.args.number g found ∙ no_sequence g.body c.args.number (rw (← c.len.ensures.len) c.if-number-len.true))

pub returns : goal.returns
returns c =
    let t = c.args.self.now in
    let funcs = c.args.funcs.now in
    let g = get_or funcs t.function c.index-funcs-self.result in
    let found = slice_get-get_or funcs t.function c.index-funcs-self.result c.if-self-funcs.false in
    c.sequence.ensures.instrs ∙ sym (sequence_is funcs t.function c.args.number g found)
