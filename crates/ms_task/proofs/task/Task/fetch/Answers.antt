use Rattle.std.proofs.Common.{◌<◌, ◌+◌, ◌-◌, drop, length, get_or, arith}
use Rattle.std.proofs.lemmas.Option.{slice_get-get_or}
use Rattle.std.proofs.lemmas.Bool.{ltb-true}
use Rattle.ms_task.specs.Thread.{sequence}
use Rattle.ms_task.specs.refinement.View.{frame_of, outer_of}
use Rattle.ms_task.proofs.Places.{begins_behind, begins_here, fetched, fetched_before, function_there, place_there, sequence_there}
use Rattle.ms_task.proofs.task.Task.fetch.Goals as goal

pub bounds-funcs-self : goal.bounds-funcs-self
bounds-funcs-self c =
    let t = c.args.self.now in
    let funcs = c.args.funcs.now in
    function_there funcs t.function t.sequence t.place (begins_here (drop t.place (sequence funcs t.function t.sequence)) funcs t.function t.frames.0 t.marks c.requires)

pub sequence-sequence-requires : goal.sequence-sequence-requires
sequence-sequence-requires c =
    let t = c.args.self.now in
    let funcs = c.args.funcs.now in
    let g = get_or funcs t.function c.index-funcs-self.result in
    let here = begins_here (drop t.place (sequence funcs t.function t.sequence)) funcs t.function t.frames.0 t.marks c.requires in
    let found = slice_get-get_or funcs t.function c.index-funcs-self.result (function_there funcs t.function t.sequence t.place here) in
    sequence_there funcs t.function t.sequence t.place g found here

pub bounds-sequence-self : goal.bounds-sequence-self
bounds-sequence-self c =
    let t = c.args.self.now in
    let funcs = c.args.funcs.now in
    let g = get_or funcs t.function c.index-funcs-self.result in
    let here = begins_here (drop t.place (sequence funcs t.function t.sequence)) funcs t.function t.frames.0 t.marks c.requires in
    let found = slice_get-get_or funcs t.function c.index-funcs-self.result (function_there funcs t.function t.sequence t.place here) in
    place_there funcs t.function t.sequence t.place g c.sequence-sequence.result.now found c.sequence-sequence.ensures.instrs here

pub offset_bounds-funcs-self : goal.offset_bounds-funcs-self
offset_bounds-funcs-self c =
    let t = c.args.self.now in
    let funcs = c.args.funcs.now in
    omega (arith, function_there funcs t.function t.sequence t.place (begins_here (drop t.place (sequence funcs t.function t.sequence)) funcs t.function t.frames.0 t.marks c.requires))

pub offset_bounds-sequence-self : goal.offset_bounds-sequence-self
offset_bounds-sequence-self c =
    let t = c.args.self.now in
    let funcs = c.args.funcs.now in
    let g = get_or funcs t.function c.index-funcs-self.result in
    let here = begins_here (drop t.place (sequence funcs t.function t.sequence)) funcs t.function t.frames.0 t.marks c.requires in
    let found = slice_get-get_or funcs t.function c.index-funcs-self.result (function_there funcs t.function t.sequence t.place here) in
    omega (arith, place_there funcs t.function t.sequence t.place g c.sequence-sequence.result.now found c.sequence-sequence.ensures.instrs here)

pub overflow_add-result : goal.overflow_add-result
overflow_add-result c =
    let t = c.args.self.now in
    let funcs = c.args.funcs.now in
    let g = get_or funcs t.function c.index-funcs-self.result in
    let here = begins_here (drop t.place (sequence funcs t.function t.sequence)) funcs t.function t.frames.0 t.marks c.requires in
    let found = slice_get-get_or funcs t.function c.index-funcs-self.result (function_there funcs t.function t.sequence t.place here) in
    omega (arith, place_there funcs t.function t.sequence t.place g c.sequence-sequence.result.now found c.sequence-sequence.ensures.instrs here)

pub overflow_sub-result : goal.overflow_sub-result
overflow_sub-result c =
    let t = c.args.self.now in
    let funcs = c.args.funcs.now in
    let g = get_or funcs t.function c.index-funcs-self.result in
    let here = begins_here (drop t.place (sequence funcs t.function t.sequence)) funcs t.function t.frames.0 t.marks c.requires in
    let found = slice_get-get_or funcs t.function c.index-funcs-self.result (function_there funcs t.function t.sequence t.place here) in
    omega (arith, place_there funcs t.function t.sequence t.place g c.sequence-sequence.result.now found c.sequence-sequence.ensures.instrs here)

pub returns-clause-instr : goal.returns-clause-instr
returns-clause-instr c =
    let t = c.args.self.now in
    let funcs = c.args.funcs.now in
    let g = get_or funcs t.function c.index-funcs-self.result in
    let here = begins_here (drop t.place (sequence funcs t.function t.sequence)) funcs t.function t.frames.0 t.marks c.requires in
    let found = slice_get-get_or funcs t.function c.index-funcs-self.result (function_there funcs t.function t.sequence t.place here) in
    let within = place_there funcs t.function t.sequence t.place g c.sequence-sequence.result.now found c.sequence-sequence.ensures.instrs here in
    fetched funcs (frame_of t) t.operands (outer_of funcs t) t.function t.sequence t.place g c.sequence-sequence.result.now c.index-sequence-self.result found c.sequence-sequence.ensures.instrs within c.index-sequence-self.is

pub returns-clause-before : goal.returns-clause-before
returns-clause-before c =
    let t = c.args.self.now in
    let funcs = c.args.funcs.now in
    let g = get_or funcs t.function c.index-funcs-self.result in
    let here = begins_here (drop t.place (sequence funcs t.function t.sequence)) funcs t.function t.frames.0 t.marks c.requires in
    let found = slice_get-get_or funcs t.function c.index-funcs-self.result (function_there funcs t.function t.sequence t.place here) in
    let within = place_there funcs t.function t.sequence t.place g c.sequence-sequence.result.now found c.sequence-sequence.ensures.instrs here in
    fetched_before funcs t.function t.sequence t.place g c.sequence-sequence.result.now c.index-sequence-self.result found c.sequence-sequence.ensures.instrs within c.index-sequence-self.is

pub returns-clause-more : goal.returns-clause-more
returns-clause-more c = λ h.
    let t = c.args.self.now in
    let funcs = c.args.funcs.now in
    let g = get_or funcs t.function c.index-funcs-self.result in
    let is = c.sequence-sequence.result.now in
    let here = begins_here (drop t.place (sequence funcs t.function t.sequence)) funcs t.function t.frames.0 t.marks c.requires in
    let found = slice_get-get_or funcs t.function c.index-funcs-self.result (function_there funcs t.function t.sequence t.place here) in
    let more : 1 < length is - t.place = ltb-true _ _ h in
    let within : t.place + 1 < length is = omega arith in
    begins_behind funcs (outer_of funcs t) t.function t.sequence t.place g is found c.sequence-sequence.ensures.instrs within
