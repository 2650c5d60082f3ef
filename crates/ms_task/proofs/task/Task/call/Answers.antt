use Rattle.std.proofs.Common.{◌≡◌, ◌<◌, ◌≤◌, ap, sym, refl, length}
use Rattle.std.proofs.lemmas.Option.{slice_get_read}
use Rattle.ms_task.specs.Control.{deepest}
use Rattle.ms_task.specs.refinement.Marks.{calls_in}
use Rattle.ms_task.specs.Thread.{depth_of}
use Rattle.ms_task.specs.refinement.View.{at_next}
use Rattle.ms_task.proofs.Calls.{call_deep, call_enters, call_found, call_room, depth_of_rest}
use Rattle.ms_task.proofs.task.Task.call.Goals as goal

pub returns-then-depth-ge-DEEPEST-clause-too_deep : goal.returns-then-depth-ge-DEEPEST-clause-too_deep
returns-then-depth-ge-DEEPEST-clause-too_deep c = λ _.
    let t = c.args.self.now in
    let funcs = c.args.funcs.now in
    let d = depth_of_rest funcs t.function t.sequence c.args.next t.frames.0 t.marks in
    let deep : deepest ≤ depth_of (at_next funcs t c.args.next).work = rw (d, ← c.depth.ensures) c.if-depth-ge-DEEPEST.true in
    (sym (call_deep funcs c.args.address (at_next funcs t c.args.next) deep), refl)

pub bounds-funcs-address : goal.bounds-funcs-address
bounds-funcs-address c =
    let t = c.args.self.now in
    let funcs = c.args.funcs.now in
    let d = depth_of_rest funcs t.function t.sequence c.args.next t.frames.0 t.marks in
    let shallow : depth_of (at_next funcs t c.args.next).work < deepest = rw (d, ← c.depth.ensures) c.if-depth-ge-DEEPEST.false in
    call_found funcs c.args.address (at_next funcs t c.args.next) c.requires shallow

pub open-requires : goal.open-requires
open-requires c =
    let t = c.args.self.now in
    let funcs = c.args.funcs.now in
    let d = depth_of_rest funcs t.function t.sequence c.args.next t.frames.0 t.marks in
    let shallow : depth_of (at_next funcs t c.args.next).work < deepest = rw (d, ← c.depth.ensures) c.if-depth-ge-DEEPEST.false in
    let within = call_found funcs c.args.address (at_next funcs t c.args.next) c.requires shallow in
    let found = slice_get_read funcs (length funcs) c.args.address c.index-funcs-address.result refl within c.index-funcs-address.is in
    rw (ap length c.params-n.ensures) (call_room funcs c.args.address c.index-funcs-address.result (at_next funcs t c.args.next) c.requires shallow found)

pub cut-requires : goal.cut-requires
cut-requires c =
    let t = c.args.self.now in
    let funcs = c.args.funcs.now in
    let d = depth_of_rest funcs t.function t.sequence c.args.next t.frames.0 t.marks in
    let shallow : depth_of (at_next funcs t c.args.next).work < deepest = rw (d, ← c.depth.ensures) c.if-depth-ge-DEEPEST.false in
    let within = call_found funcs c.args.address (at_next funcs t c.args.next) c.requires shallow in
    let found = slice_get_read funcs (length funcs) c.args.address c.index-funcs-address.result refl within c.index-funcs-address.is in
    rw (ap length c.params-n.ensures) (call_room funcs c.args.address c.index-funcs-address.result (at_next funcs t c.args.next) c.requires shallow found)

pub returns-clause-ok : goal.returns-clause-ok
returns-clause-ok c =
    let t = c.args.self.now in
    let funcs = c.args.funcs.now in
    let d = depth_of_rest funcs t.function t.sequence c.args.next t.frames.0 t.marks in
    let calls : calls_in t.marks < deepest = rw (← c.depth.ensures) c.if-depth-ge-DEEPEST.false in
    let shallow : depth_of (at_next funcs t c.args.next).work < deepest = rw d calls in
    let within = call_found funcs c.args.address (at_next funcs t c.args.next) c.requires shallow in
    let g = c.index-funcs-address.result in
    let found = slice_get_read funcs (length funcs) c.args.address c.index-funcs-address.result refl within c.index-funcs-address.is in
    let room = call_room funcs c.args.address g (at_next funcs t c.args.next) c.requires shallow found in
    let pushed = c.in_ok-push_call.ensures.ok in
    let n_is : length c.params-n.result.now ≡ length g.ty.params = ap length c.params-n.ensures in
    call_enters funcs c.args.address t.function t.sequence c.args.next g t.frames.0 t.frames.1 t.operands t.marks c.push_call.new.self (length c.params-n.result.now) c.in_ok-base.base c.len.result pushed.0 c.result.result c.open.new.self c.cut.new.self found n_is (rw n_is room) calls c.in_ok-base.ensures.base c.result.ensures c.in_ok-base.ensures.locals c.cut.ensures c.len.ensures pushed.1
