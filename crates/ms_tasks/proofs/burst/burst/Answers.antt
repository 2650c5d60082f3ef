use Rattle.std.proofs.Common.{◌+◌, ◌-◌, refl, ap, subst, sym, ◌∙◌, arith}
use Rattle.ms_task.specs.refinement.View.{thread_of}
use Rattle.ms_machine.specs.Crews.{run_entries}
use Rattle.ms_machine.specs.Typing.{StoreTyped}
use Rattle.ms_machine.specs.refinement.StraightLine.{IsCalm}
use Rattle.ms_machine.specs.declared.straight.Stretch.{Stretch}
use Rattle.ms_tasks.specs.refinement.Logs.{CountsUpTo, HaltsSeen}
use Rattle.ms_tasks.specs.refinement.Steppers.{whose_of}
use Rattle.ms_tasks.proofs.Deeds.{room_for, within_seen}
use Rattle.ms_tasks.proofs.Stepping.{begins_way, quiet_comes, quiet_first, stops_before, way_pauses}
use Rattle.ms_tasks.proofs.burst.burst.Goals as goal

pub returns-in-Ended-clause-run : goal.returns-in-Ended-clause-run
returns-in-Ended-clause-run g c = λ next entries row.
    let whose = whose_of c.args.whose in
    let s0 = c.args.store.now in
    let t0 = thread_of s0.funcs c.args.task.now in
    let log0 = c.args.log.now in
    let r = c.run_quietly-stretch in
    let q = r.ensures in
    let s = r.new.store in
    let t = thread_of s.funcs r.new.task in
    let rest = r.result.1 in
    let left = g.I.Source.left c.args.input.now in
    let held = g.O.Sink.held c.args.out.now in
    let halted = subst (λ (k : Stretch). HaltsSeen k s0 t0 log0.trace (c.args.most - rest) s t r.new.self.trace) c.in-Ended.is q.steps in
    quiet_comes whose next entries c.args.most rest s0 s t0 t left held log0 c.count.new.self r.new.self q.left row halted.0 q.entries c.count.ensures

pub returns-in-Memory-clause-run : goal.returns-in-Memory-clause-run
returns-in-Memory-clause-run g c = λ next entries row.
    let whose = whose_of c.args.whose in
    let s0 = c.args.store.now in
    let t0 = thread_of s0.funcs c.args.task.now in
    let log0 = c.args.log.now in
    let left = g.I.Source.left c.args.input.now in
    let held = g.O.Sink.held c.args.out.now in
    let r = c.run_quietly-stretch in
    let lost = subst (λ (k : Stretch). HaltsSeen k s0 t0 log0.trace (c.args.most - r.result.1) r.new.store (thread_of r.new.store.funcs r.new.task) r.new.self.trace) c.in-Memory.is r.ensures.steps in
    stops_before whose next entries c.args.most s0 t0 log0.trace c.args.most s0 t0 log0.trace left left left held held held (begins_way whose next entries c.args.most s0 t0 log0.trace left held row) log0 r.new.self refl lost refl refl

pub returns-then-rest-eq0-clause-run : goal.returns-then-rest-eq0-clause-run
returns-then-rest-eq0-clause-run g c = λ next entries row.
    let whose = whose_of c.args.whose in
    let s0 = c.args.store.now in
    let t0 = thread_of s0.funcs c.args.task.now in
    let log0 = c.args.log.now in
    let r = c.run_quietly-stretch in
    let q = r.ensures in
    let s = r.new.store in
    let t = thread_of s.funcs r.new.task in
    let rest = r.result.1 in
    let left = g.I.Source.left c.args.input.now in
    let held = g.O.Sink.held c.args.out.now in
    let halted = subst (λ (k : Stretch). HaltsSeen k s0 t0 log0.trace (c.args.most - rest) s t r.new.self.trace) c.in-Paused.is q.steps in
    way_pauses whose next entries c.args.most rest c.if-rest-eq0.true s t left left held held log0 c.count-2.new.self (run_entries entries (next s0 t0))
    (quiet_comes whose next entries c.args.most rest s0 s t0 t left held log0 c.count-2.new.self r.new.self q.left row halted.0 q.entries c.count-2.ensures)

pub go_loudly-requires-clause-store : goal.go_loudly-requires-clause-store
go_loudly-requires-clause-store g c =
    let s0 = c.args.store.now in
    let t0 = thread_of s0.funcs c.args.task.now in
    let log0 = c.args.log.now in
    let r = c.run_quietly-stretch in
    let q = r.ensures in
    let s = r.new.store in
    let t = thread_of s.funcs r.new.task in
    let rest = r.result.1 in
    let calm = subst IsCalm (sym c.in-Paused.is) tt in
    subst StoreTyped (sym (q.outline calm)) c.requires.store

pub go_loudly-requires-clause-task : goal.go_loudly-requires-clause-task
go_loudly-requires-clause-task g c =
    let s0 = c.args.store.now in
    let t0 = thread_of s0.funcs c.args.task.now in
    let log0 = c.args.log.now in
    let r = c.run_quietly-stretch in
    let q = r.ensures in
    let s = r.new.store in
    let t = thread_of s.funcs r.new.task in
    let rest = r.result.1 in
    let calm = subst IsCalm (sym c.in-Paused.is) tt in
    q.task calm

pub go_loudly-requires-clause-going : goal.go_loudly-requires-clause-going
go_loudly-requires-clause-going g c =
    let s0 = c.args.store.now in
    let t0 = thread_of s0.funcs c.args.task.now in
    let log0 = c.args.log.now in
    let r = c.run_quietly-stretch in
    let q = r.ensures in
    let s = r.new.store in
    let t = thread_of s.funcs r.new.task in
    let rest = r.result.1 in
    let halted = subst (λ (k : Stretch). HaltsSeen k s0 t0 log0.trace (c.args.most - rest) s t r.new.self.trace) c.in-Paused.is q.steps in
    halted.1

pub go_loudly-requires-clause-few : goal.go_loudly-requires-clause-few
go_loudly-requires-clause-few g c =
    let s0 = c.args.store.now in
    let t0 = thread_of s0.funcs c.args.task.now in
    let log0 = c.args.log.now in
    let r = c.run_quietly-stretch in
    let q = r.ensures in
    let s = r.new.store in
    let t = thread_of s.funcs r.new.task in
    let rest = r.result.1 in
    let calm = subst IsCalm (sym c.in-Paused.is) tt in
    let k = q.made calm in let few = c.requires.few in let less = q.left in omega (arith, k, few, less)

pub go_loudly-requires-clause-store_fits : goal.go_loudly-requires-clause-store_fits
go_loudly-requires-clause-store_fits g c =
    let s0 = c.args.store.now in
    let t0 = thread_of s0.funcs c.args.task.now in
    let log0 = c.args.log.now in
    let r = c.run_quietly-stretch in
    let q = r.ensures in
    let s = r.new.store in
    let t = thread_of s.funcs r.new.task in
    let rest = r.result.1 in
    let calm = subst IsCalm (sym c.in-Paused.is) tt in
    q.store_fits calm

pub go_loudly-requires-clause-task_fits : goal.go_loudly-requires-clause-task_fits
go_loudly-requires-clause-task_fits g c =
    let s0 = c.args.store.now in
    let t0 = thread_of s0.funcs c.args.task.now in
    let log0 = c.args.log.now in
    let r = c.run_quietly-stretch in
    let q = r.ensures in
    let s = r.new.store in
    let t = thread_of s.funcs r.new.task in
    let rest = r.result.1 in
    let calm = subst IsCalm (sym c.in-Paused.is) tt in
    q.task_fits calm

pub go_loudly-requires-clause-within : goal.go_loudly-requires-clause-within
go_loudly-requires-clause-within g c =
    let s0 = c.args.store.now in
    let t0 = thread_of s0.funcs c.args.task.now in
    let log0 = c.args.log.now in
    let r = c.run_quietly-stretch in
    let q = r.ensures in
    let s = r.new.store in
    let t = thread_of s.funcs r.new.task in
    let rest = r.result.1 in
    let count = c.count-2.ensures in
    let halted = subst (λ (k : Stretch). HaltsSeen k s0 t0 log0.trace (c.args.most - rest) s t r.new.self.trace) c.in-Paused.is q.steps in
    let e = q.entries in
    subst (λ k. CountsUpTo k.entries k.trace) (sym count) (within_seen s0 s t0 t (c.args.most - rest) log0.entries (r.new.self.entries + (c.args.most - rest)) log0.trace r.new.self.trace halted.0 (omega (arith, e)) c.requires.within)

pub returns : goal.returns
returns g c =
    let s0 = c.args.store.now in
    let t0 = thread_of s0.funcs c.args.task.now in
    let log0 = c.args.log.now in
    let r = c.run_quietly-stretch in
    let q = r.ensures in
    let s = r.new.store in
    let t = thread_of s.funcs r.new.task in
    let rest = r.result.1 in
    let left = g.I.Source.left c.args.input.now in
    let held = g.O.Sink.held c.args.out.now in
    let halted = subst (λ (k : Stretch). HaltsSeen k s0 t0 log0.trace (c.args.most - rest) s t r.new.self.trace) c.in-Paused.is q.steps in
    let calm = subst IsCalm (sym c.in-Paused.is) tt in
    let e = c.go_loudly.ensures in
    let o = c.go_loudly.result in
    let s' = c.go_loudly.new.store in
    let t' = thread_of s'.funcs c.go_loudly.new.task in
    let less = q.left in
    let count = c.count-2.ensures in
    record {
      run = λ next entries row.
          let whose = whose_of c.args.whose in
          quiet_first whose next entries c.args.most rest s0 s t0 t left held log0 c.count-2.new.self r.new.self q.left row halted.0 q.entries c.count-2.ensures o.0 o.1 s' t' (g.I.Source.left c.go_loudly.new.input) (g.O.Sink.held c.go_loudly.new.out) c.go_loudly.new.log e.left e.run;
      outline = λ well. e.outline well ∙ q.outline calm;
      task = e.task;
      store_fits = e.store_fits;
      task_fits = e.task_fits;
      others = λ well h fit. e.others well h (q.others calm h fit);
      made = λ well. let m = e.made well in let k = q.made calm in omega (arith, m, k, less);
      entries = λ well. let m = e.entries well in let k = ap (λ x. x.entries) count in let j = q.entries in omega (arith, m, k, j, less);
      within = e.within;
      left = let x = e.left in omega (arith, x, less);
      ended = e.ended;
      paused = e.paused;
      input_faults = e.input_faults;
      out_faults = e.out_faults;
    }

pub run_quietly-stretch-requires-clause-room : goal.run_quietly-stretch-requires-clause-room
run_quietly-stretch-requires-clause-room g c =
    let room = c.requires.room in
    room_for c.args.log.now.entries c.args.most c.args.log.now.trace (omega (arith, room)) c.requires.within

pub returns-in-Ended-clause-within : goal.returns-in-Ended-clause-within
returns-in-Ended-clause-within g c = λ _.
    let s0 = c.args.store.now in
    let t0 = thread_of s0.funcs c.args.task.now in
    let log0 = c.args.log.now in
    let r = c.run_quietly-stretch in
    let s = r.new.store in
    let t = thread_of s.funcs r.new.task in
    let rest = r.result.1 in
    let halted = subst (λ (k : Stretch). HaltsSeen k s0 t0 log0.trace (c.args.most - rest) s t r.new.self.trace) c.in-Ended.is r.ensures.steps in
    let e = r.ensures.entries in
    subst (λ k. CountsUpTo k.entries k.trace) (sym c.count.ensures) (within_seen s0 s t0 t (c.args.most - rest) log0.entries (r.new.self.entries + (c.args.most - rest)) log0.trace r.new.self.trace halted.0 (omega (arith, e)) c.requires.within)

pub returns-then-rest-eq0-clause-within : goal.returns-then-rest-eq0-clause-within
returns-then-rest-eq0-clause-within g c = λ _.
    let s0 = c.args.store.now in
    let t0 = thread_of s0.funcs c.args.task.now in
    let log0 = c.args.log.now in
    let r = c.run_quietly-stretch in
    let s = r.new.store in
    let t = thread_of s.funcs r.new.task in
    let rest = r.result.1 in
    let halted = subst (λ (k : Stretch). HaltsSeen k s0 t0 log0.trace (c.args.most - rest) s t r.new.self.trace) c.in-Paused.is r.ensures.steps in
    let e = r.ensures.entries in
    subst (λ k. CountsUpTo k.entries k.trace) (sym c.count-2.ensures) (within_seen s0 s t0 t (c.args.most - rest) log0.entries (r.new.self.entries + (c.args.most - rest)) log0.trace r.new.self.trace halted.0 (omega (arith, e)) c.requires.within)
