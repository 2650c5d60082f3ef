use Rattle.std.proofs.Common.{drop, get_or, sym, ◌∙◌, arith}
use Rattle.std.proofs.lemmas.Option.{slice_get-get_or}
use Rattle.ms_task.specs.Thread.{sequence}
use Rattle.ms_task.proofs.Places.{begins_here, function_there, place_there, sequence_is, sequence_there}
use Rattle.ms_task.proofs.task.Task.code.Goals as goal

pub bounds-funcs-self : goal.bounds-funcs-self
bounds-funcs-self c =
    let t = c.args.self.now in
    let funcs = c.args.funcs.now in
    function_there funcs t.function t.sequence t.place (begins_here (drop t.place (sequence funcs t.function t.sequence)) funcs t.function t.frames.0 t.marks c.requires)

pub offset_bounds-funcs-self : goal.offset_bounds-funcs-self
offset_bounds-funcs-self c =
    let t = c.args.self.now in
    let funcs = c.args.funcs.now in
    omega (arith, function_there funcs t.function t.sequence t.place (begins_here (drop t.place (sequence funcs t.function t.sequence)) funcs t.function t.frames.0 t.marks c.requires))

pub sequence-requires : goal.sequence-requires
sequence-requires c =
    let t = c.args.self.now in
    let funcs = c.args.funcs.now in
    let g = get_or funcs t.function c.index-funcs-self.result in
    let here = begins_here (drop t.place (sequence funcs t.function t.sequence)) funcs t.function t.frames.0 t.marks c.requires in
    let found = slice_get-get_or funcs t.function c.index-funcs-self.result (function_there funcs t.function t.sequence t.place here) in
    sequence_there funcs t.function t.sequence t.place g found here

pub returns-clause-code : goal.returns-clause-code
returns-clause-code c =
    let t = c.args.self.now in
    let funcs = c.args.funcs.now in
    let g = get_or funcs t.function c.index-funcs-self.result in
    let here = begins_here (drop t.place (sequence funcs t.function t.sequence)) funcs t.function t.frames.0 t.marks c.requires in
    let found = slice_get-get_or funcs t.function c.index-funcs-self.result (function_there funcs t.function t.sequence t.place here) in
    c.sequence.ensures.instrs ∙ sym (sequence_is funcs t.function t.sequence g found)

pub returns-clause-within : goal.returns-clause-within
returns-clause-within c =
    let t = c.args.self.now in
    let funcs = c.args.funcs.now in
    let g = get_or funcs t.function c.index-funcs-self.result in
    let here = begins_here (drop t.place (sequence funcs t.function t.sequence)) funcs t.function t.frames.0 t.marks c.requires in
    let found = slice_get-get_or funcs t.function c.index-funcs-self.result (function_there funcs t.function t.sequence t.place here) in
    place_there funcs t.function t.sequence t.place g c.sequence.result.now found c.sequence.ensures.instrs here
