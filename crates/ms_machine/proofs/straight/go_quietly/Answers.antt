use Rattle.std.proofs.Common.{◌≡◌, ◌≢◌, ◌-◌, ◌∙◌, List, [], refl, sym, subst, arith}
use Rattle.ms_task.specs.Thread.{Item}
use Rattle.ms_task.specs.refinement.View.{thread_of}
use Rattle.ms_event.specs.refinement.Tally.{LeavesRoom}
use Rattle.ms_event.proofs.Tallies.{room_less}
use Rattle.ms_machine.specs.refinement.StraightLine.{DoesMeet, DoesTell, DoesWork}
use Rattle.ms_machine.specs.Typing.{StoreTyped}
use Rattle.ms_machine.specs.declared.straight.Met.{Met}
use Rattle.ms_machine.specs.declared.straight.Worked.{Worked}
use Rattle.ms_machine.proofs.StraightLine.{counted_none, counted_quietly, quietly_fits, room_told, telling_grows, telling_typed, told_not, told_on, unkept, worked_on}
use Rattle.ms_machine.proofs.straight.go_quietly.Goals as goal
use Rattle.ms_machine.proofs.straight.go_quietly.Goals.{in-Linear, in-Global, in-Segment+else-keep}

pub loop-left-init : goal.loop-left-init
loop-left-init g c =
    let s = c.args.store.now in
    record {
      steps = counted_none c.args.keep s (thread_of s.funcs c.args.task.now) c.args.tally.now (c.args.most - c.args.most) (omega arith);
      left = omega arith;
      going = c.requires.going;
      room = c.requires.room;
    }

pub go-met-requires-clause-store : goal.go-met-requires-clause-store
go-met-requires-clause-store g c =
    let s0 = c.args.store.now in
    let l = c.loop-left in
    let n = c.args.most - l.left in
    let t0 = thread_of s0.funcs c.args.task.now in
    let t = thread_of l.store.funcs l.task in
    let steps = l.invariant.steps in
    subst StoreTyped (sym (telling_typed s0 l.store t0 t n steps.0 steps.1 c.requires.store c.requires.task).0) c.requires.store

pub go-met-requires-clause-task : goal.go-met-requires-clause-task
go-met-requires-clause-task g c =
    let s0 = c.args.store.now in
    let l = c.loop-left in
    let n = c.args.most - l.left in
    let t0 = thread_of s0.funcs c.args.task.now in
    let t = thread_of l.store.funcs l.task in
    let steps = l.invariant.steps in
    (telling_typed s0 l.store t0 t n steps.0 steps.1 c.requires.store c.requires.task).1

pub go-met-requires-clause-store_fits : goal.go-met-requires-clause-store_fits
go-met-requires-clause-store_fits g c =
    let s0 = c.args.store.now in
    let l = c.loop-left in
    let n = c.args.most - l.left in
    let t0 = thread_of s0.funcs c.args.task.now in
    let t = thread_of l.store.funcs l.task in
    let steps = l.invariant.steps in
    (telling_grows s0 l.store t0 t n steps.0 steps.1 c.requires.store_fits c.requires.task_fits).0

pub go-met-requires-clause-task_fits : goal.go-met-requires-clause-task_fits
go-met-requires-clause-task_fits g c =
    let s0 = c.args.store.now in
    let l = c.loop-left in
    let n = c.args.most - l.left in
    let t0 = thread_of s0.funcs c.args.task.now in
    let t = thread_of l.store.funcs l.task in
    let steps = l.invariant.steps in
    (telling_grows s0 l.store t0 t n steps.0 steps.1 c.requires.store_fits c.requires.task_fits).1

pub returns-in-Paused-clause-steps : goal.returns-in-Paused-clause-steps
returns-in-Paused-clause-steps g c =
    let s0 = c.args.store.now in
    let t0 = thread_of s0.funcs c.args.task.now in
    let c0 = c.args.tally.now in
    let l = c.loop-left in
    let s = l.store in
    let t = thread_of s.funcs l.task in
    let u = thread_of s.funcs c.go-met.new.task in
    let rest = c.go-met.result.1 in
    let room = l.invariant.left in
    let less = c.go-met.ensures.left in
    let met = subst (λ (m : Met). DoesMeet m rest l.left s t c.go-met.new.task) c.in-Paused.is c.go-met.ensures.met in
    (counted_quietly c.args.keep s0 s s t0 t u c0 l.tally (c.args.most - l.left) (l.left - rest) (c.args.most - rest) l.invariant.steps met.0 (omega (arith, room, less)), met.1)

pub returns-in-Ended-clause-steps : goal.returns-in-Ended-clause-steps
returns-in-Ended-clause-steps g c =
    let s0 = c.args.store.now in
    let t0 = thread_of s0.funcs c.args.task.now in
    let c0 = c.args.tally.now in
    let l = c.loop-left in
    let s = l.store in
    let t = thread_of s.funcs l.task in
    let u = thread_of s.funcs c.go-met.new.task in
    let rest = c.go-met.result.1 in
    let room = l.invariant.left in
    let less = c.go-met.ensures.left in
    let met = subst (λ (m : Met). DoesMeet m rest l.left s t c.go-met.new.task) c.in-Ended.is c.go-met.ensures.met in
    (counted_quietly c.args.keep s0 s s t0 t u c0 l.tally (c.args.most - l.left) (l.left - rest) (c.args.most - rest) l.invariant.steps met.0 (omega (arith, room, less)), met.1)

pub returns-then-keep-clause-steps : goal.returns-then-keep-clause-steps
returns-then-keep-clause-steps g c =
    let s0 = c.args.store.now in
    let t0 = thread_of s0.funcs c.args.task.now in
    let c0 = c.args.tally.now in
    let l = c.loop-left in
    let s = l.store in
    let t = thread_of s.funcs l.task in
    let u = thread_of s.funcs c.go-met.new.task in
    let rest = c.go-met.result.1 in
    let room = l.invariant.left in
    let less = c.go-met.ensures.left in
    let met = subst (λ (m : Met). DoesMeet m rest l.left s t c.go-met.new.task) c.in-Segment.is c.go-met.ensures.met in
    (counted_quietly c.args.keep s0 s s t0 t u c0 l.tally (c.args.most - l.left) (l.left - rest) (c.args.most - rest) l.invariant.steps met.0 (omega (arith, room, less)), met.2.0)

pub on_segments-worked-requires-clause-few : goal.on_segments-worked-requires-clause-few
on_segments-worked-requires-clause-few g c =
    let s0 = c.args.store.now in
    let l = c.loop-left in
    let n = c.args.most - l.left in
    let t0 = thread_of s0.funcs c.args.task.now in
    let t = thread_of l.store.funcs l.task in
    let steps = l.invariant.steps in
    let few = c.requires.few in
    let made = (telling_grows s0 l.store t0 t n steps.0 steps.1 c.requires.store_fits c.requires.task_fits).2 in
    omega (arith, few, made)

pub on_segments-worked-requires-clause-fit : goal.on_segments-worked-requires-clause-fit
on_segments-worked-requires-clause-fit g c =
    let s0 = c.args.store.now in
    let t0 = thread_of s0.funcs c.args.task.now in
    let c0 = c.args.tally.now in
    let l = c.loop-left in
    let s = l.store in
    let t = thread_of s.funcs l.task in
    let u = thread_of s.funcs c.go-met.new.task in
    let rest = c.go-met.result.1 in
    let room = l.invariant.left in
    let less = c.go-met.ensures.left in
    let met = subst (λ (m : Met). DoesMeet m rest l.left s t c.go-met.new.task) c.in-Segment.is c.go-met.ensures.met in
    let grown = telling_grows s0 s t0 t (c.args.most - l.left) l.invariant.steps.0 l.invariant.steps.1 c.requires.store_fits c.requires.task_fits in
    (quietly_fits s s t u (l.left - rest) met.0 grown.0 grown.1).1.operands

pub on_segments-worked-requires-clause-room : goal.on_segments-worked-requires-clause-room
on_segments-worked-requires-clause-room g c =
    let s0 = c.args.store.now in
    let t0 = thread_of s0.funcs c.args.task.now in
    let c0 = c.args.tally.now in
    let l = c.loop-left in
    let s = l.store in
    let t = thread_of s.funcs l.task in
    let u = thread_of s.funcs c.go-met.new.task in
    let rest = c.go-met.result.1 in
    let room = l.invariant.left in
    let less = c.go-met.ensures.left in
    let met = subst (λ (m : Met). DoesMeet m rest l.left s t c.go-met.new.task) c.in-Segment.is c.go-met.ensures.met in
    let some = met.1 in
    room_less l.left 1 l.tally (omega (arith, some, less)) l.invariant.room

pub returns-in-Ended-worked-clause-steps : goal.returns-in-Ended-worked-clause-steps
returns-in-Ended-worked-clause-steps g c =
    let s0 = c.args.store.now in
    let t0 = thread_of s0.funcs c.args.task.now in
    let c0 = c.args.tally.now in
    let l = c.loop-left in
    let s = l.store in
    let t = thread_of s.funcs l.task in
    let u = thread_of s.funcs c.go-met.new.task in
    let rest = c.go-met.result.1 in
    let room = l.invariant.left in
    let less = c.go-met.ensures.left in
    elim c.match-met.branch [
      | in-Linear w ↦
          let met = subst (λ (m : Met). DoesMeet m rest l.left s t c.go-met.new.task) w.in-Linear.is c.go-met.ensures.met in
          let some = met.1 in
          let work = subst (λ (q : Worked). DoesWork q s u w.linear-worked.new.store (thread_of w.linear-worked.new.store.funcs w.linear-worked.new.task)) (sym w.worked-is ∙ c.in-Ended-worked.is) w.linear-worked.ensures in
          worked_on c.args.keep s0 s w.linear-worked.new.store c.match-met.store t0 t u w.linear-worked.new.task c.match-met.task c0 l.tally l.tally c.match-met.tally (c.args.most - l.left) (l.left - rest) (c.args.most - (rest - 1)) l.invariant.steps met.0 met.2.0 w.store-is w.task-is w.tally-is (λ (w : List Item). w ≡ []) refl work (omega (arith, room, less, some))
      | in-Global w ↦
          let met = subst (λ (m : Met). DoesMeet m rest l.left s t c.go-met.new.task) w.in-Global.is c.go-met.ensures.met in
          let some = met.1 in
          let work = subst (λ (q : Worked). DoesWork q s u w.global-worked.new.store (thread_of w.global-worked.new.store.funcs w.global-worked.new.task)) (sym w.worked-is ∙ c.in-Ended-worked.is) w.global-worked.ensures in
          worked_on c.args.keep s0 s w.global-worked.new.store c.match-met.store t0 t u w.global-worked.new.task c.match-met.task c0 l.tally l.tally c.match-met.tally (c.args.most - l.left) (l.left - rest) (c.args.most - (rest - 1)) l.invariant.steps met.0 met.2.0 w.store-is w.task-is w.tally-is (λ (w : List Item). w ≡ []) refl work (omega (arith, room, less, some))
      | in-Segment+else-keep w ↦
          let met = subst (λ (m : Met). DoesMeet m rest l.left s t c.go-met.new.task) w.in-Segment.is c.go-met.ensures.met in
          let some = met.1 in
          let work = subst (λ (q : Worked). DoesTell q s u l.tally w.on_segments-worked.new.store (thread_of w.on_segments-worked.new.store.funcs w.on_segments-worked.new.task) w.on_segments-worked.new.tally) (sym w.worked-is ∙ c.in-Ended-worked.is) w.on_segments-worked.ensures in
          told_on c.args.keep s0 s w.on_segments-worked.new.store c.match-met.store t0 t u w.on_segments-worked.new.task c.match-met.task c0 l.tally w.on_segments-worked.new.tally c.match-met.tally (c.args.most - l.left) (l.left - rest) (c.args.most - (rest - 1)) l.invariant.steps met.0 met.2.0 w.store-is w.task-is w.tally-is (λ (w : List Item). w ≡ []) (unkept c.args.keep w.if-keep.false) work (omega (arith, room, less, some))
    ]

pub returns-in-Not-clause-steps : goal.returns-in-Not-clause-steps
returns-in-Not-clause-steps g c =
    let s0 = c.args.store.now in
    let t0 = thread_of s0.funcs c.args.task.now in
    let c0 = c.args.tally.now in
    let l = c.loop-left in
    let s = l.store in
    let t = thread_of s.funcs l.task in
    let u = thread_of s.funcs c.go-met.new.task in
    let rest = c.go-met.result.1 in
    let room = l.invariant.left in
    let less = c.go-met.ensures.left in
    elim c.match-met.branch [
      | in-Linear w ↦
          let met = subst (λ (m : Met). DoesMeet m rest l.left s t c.go-met.new.task) w.in-Linear.is c.go-met.ensures.met in
          let some = met.1 in
          let work = subst (λ (q : Worked). DoesWork q s u w.linear-worked.new.store (thread_of w.linear-worked.new.store.funcs w.linear-worked.new.task)) (sym w.worked-is ∙ c.in-Not.is) w.linear-worked.ensures in
          told_not c.args.keep s0 s w.linear-worked.new.store c.match-met.store t0 t u w.linear-worked.new.task c.match-met.task c0 l.tally l.tally c.match-met.tally (c.args.most - l.left) (l.left - rest) (c.args.most - rest) l.invariant.steps met.0 met.2.0 w.store-is w.task-is w.tally-is (work.0, work.1, refl) (omega (arith, room, less, some))
      | in-Global w ↦
          let met = subst (λ (m : Met). DoesMeet m rest l.left s t c.go-met.new.task) w.in-Global.is c.go-met.ensures.met in
          let some = met.1 in
          let work = subst (λ (q : Worked). DoesWork q s u w.global-worked.new.store (thread_of w.global-worked.new.store.funcs w.global-worked.new.task)) (sym w.worked-is ∙ c.in-Not.is) w.global-worked.ensures in
          told_not c.args.keep s0 s w.global-worked.new.store c.match-met.store t0 t u w.global-worked.new.task c.match-met.task c0 l.tally l.tally c.match-met.tally (c.args.most - l.left) (l.left - rest) (c.args.most - rest) l.invariant.steps met.0 met.2.0 w.store-is w.task-is w.tally-is (work.0, work.1, refl) (omega (arith, room, less, some))
      | in-Segment+else-keep w ↦
          let met = subst (λ (m : Met). DoesMeet m rest l.left s t c.go-met.new.task) w.in-Segment.is c.go-met.ensures.met in
          let some = met.1 in
          let work = subst (λ (q : Worked). DoesTell q s u l.tally w.on_segments-worked.new.store (thread_of w.on_segments-worked.new.store.funcs w.on_segments-worked.new.task) w.on_segments-worked.new.tally) (sym w.worked-is ∙ c.in-Not.is) w.on_segments-worked.ensures in
          told_not c.args.keep s0 s w.on_segments-worked.new.store c.match-met.store t0 t u w.on_segments-worked.new.task c.match-met.task c0 l.tally w.on_segments-worked.new.tally c.match-met.tally (c.args.most - l.left) (l.left - rest) (c.args.most - rest) l.invariant.steps met.0 met.2.0 w.store-is w.task-is w.tally-is work (omega (arith, room, less, some))
    ]

pub loop-left-preserved : goal.loop-left-preserved
loop-left-preserved g c =
    let s0 = c.args.store.now in
    let t0 = thread_of s0.funcs c.args.task.now in
    let c0 = c.args.tally.now in
    let l = c.loop-left in
    let s = l.store in
    let t = thread_of s.funcs l.task in
    let u = thread_of s.funcs c.go-met.new.task in
    let rest = c.go-met.result.1 in
    let room = l.invariant.left in
    let less = c.go-met.ensures.left in
    elim c.match-met.branch [
      | in-Linear w ↦
          let met = subst (λ (m : Met). DoesMeet m rest l.left s t c.go-met.new.task) w.in-Linear.is c.go-met.ensures.met in
          let some = met.1 in
          let work = subst (λ (q : Worked). DoesWork q s u w.linear-worked.new.store (thread_of w.linear-worked.new.store.funcs w.linear-worked.new.task)) (sym w.worked-is ∙ c.in-On.is) w.linear-worked.ensures in
          let all = worked_on c.args.keep s0 s w.linear-worked.new.store c.match-met.store t0 t u w.linear-worked.new.task c.match-met.task c0 l.tally l.tally c.match-met.tally (c.args.most - l.left) (l.left - rest) (c.args.most - (rest - 1)) l.invariant.steps met.0 met.2.0 w.store-is w.task-is w.tally-is (λ (w : List Item). w ≢ []) refl work (omega (arith, room, less, some)) in
          record { steps = all.0; left = omega (arith, room, less); going = all.1; room = subst (LeavesRoom (rest - 1)) (sym w.tally-is) (room_less l.left (rest - 1) l.tally (omega (arith, less)) l.invariant.room) }
      | in-Global w ↦
          let met = subst (λ (m : Met). DoesMeet m rest l.left s t c.go-met.new.task) w.in-Global.is c.go-met.ensures.met in
          let some = met.1 in
          let work = subst (λ (q : Worked). DoesWork q s u w.global-worked.new.store (thread_of w.global-worked.new.store.funcs w.global-worked.new.task)) (sym w.worked-is ∙ c.in-On.is) w.global-worked.ensures in
          let all = worked_on c.args.keep s0 s w.global-worked.new.store c.match-met.store t0 t u w.global-worked.new.task c.match-met.task c0 l.tally l.tally c.match-met.tally (c.args.most - l.left) (l.left - rest) (c.args.most - (rest - 1)) l.invariant.steps met.0 met.2.0 w.store-is w.task-is w.tally-is (λ (w : List Item). w ≢ []) refl work (omega (arith, room, less, some)) in
          record { steps = all.0; left = omega (arith, room, less); going = all.1; room = subst (LeavesRoom (rest - 1)) (sym w.tally-is) (room_less l.left (rest - 1) l.tally (omega (arith, less)) l.invariant.room) }
      | in-Segment+else-keep w ↦
          let met = subst (λ (m : Met). DoesMeet m rest l.left s t c.go-met.new.task) w.in-Segment.is c.go-met.ensures.met in
          let some = met.1 in
          let work = subst (λ (q : Worked). DoesTell q s u l.tally w.on_segments-worked.new.store (thread_of w.on_segments-worked.new.store.funcs w.on_segments-worked.new.task) w.on_segments-worked.new.tally) (sym w.worked-is ∙ c.in-On.is) w.on_segments-worked.ensures in
          let all = told_on c.args.keep s0 s w.on_segments-worked.new.store c.match-met.store t0 t u w.on_segments-worked.new.task c.match-met.task c0 l.tally w.on_segments-worked.new.tally c.match-met.tally (c.args.most - l.left) (l.left - rest) (c.args.most - (rest - 1)) l.invariant.steps met.0 met.2.0 w.store-is w.task-is w.tally-is (λ (w : List Item). w ≢ []) (unkept c.args.keep w.if-keep.false) work (omega (arith, room, less, some)) in
          record { steps = all.0; left = omega (arith, room, less); going = all.1; room = subst (LeavesRoom (rest - 1)) (sym w.tally-is) (room_told l.left (rest - 1) l.tally w.on_segments-worked.new.tally work.0.0 (omega (arith, some, less)) work.0.2 l.invariant.room) }
    ]
