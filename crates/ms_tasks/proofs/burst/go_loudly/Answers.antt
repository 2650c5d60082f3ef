use Rattle.std.proofs.Common.{rules, ◌≡◌, ◌+◌, ◌-◌, ◌≤◌, refl, subst, sym, ◌∙◌, arith}
use Rattle.ms_task.specs.refinement.View.{thread_of}
use Rattle.ms_machine.specs.Crews.{run_entries}
use Rattle.ms_machine.specs.refinement.StraightLine.{IsCalm}
use Rattle.ms_machine.specs.declared.straight.Stretch.{Stretch}
use Rattle.ms_machine.proofs.Outsides.{none_taken}
use Rattle.ms_tasks.specs.refinement.Logs.{CountsUpTo, HaltsSeen}
use Rattle.ms_tasks.specs.refinement.Steppers.{whose_of}
use Rattle.ms_tasks.proofs.Deeds.{room_for, within_after, within_seen}
use Rattle.ms_tasks.proofs.Stepping.{begins_way, goes_way, quiet_way, stops_before, stops_behind, stops_in, way_here, way_pauses, way_traps}
use Rattle.ms_tasks.proofs.burst.go_loudly.Goals as goal

pub loop-left-init : goal.loop-left-init
loop-left-init g c =
    let s = c.args.store.now in
    let t = thread_of s.funcs c.args.task.now in
    let within = c.requires.within in
    record {
      runs = λ whose next entries row. begins_way whose next entries c.args.most s t c.args.log.now.trace (g.I.Source.left c.args.input.now) (g.O.Sink.held c.args.out.now) row;
      outline = refl;
      task = c.requires.task;
      going = c.requires.going;
      store_fits = c.requires.store_fits;
      task_fits = c.requires.task_fits;
      others = λ h fit. fit;
      made = omega arith;
      left = omega arith;
      entries = refl;
      within = search rules;
      input = refl;
      out = refl;
    }

pub loop-left-preserved : goal.loop-left-preserved
loop-left-preserved g c =
    let l = c.loop-left in
    let v = l.invariant in
    let s0 = c.args.store.now in
    let t0 = thread_of s0.funcs c.args.task.now in
    let log0 = c.args.log.now in
    let s = l.store in
    let t = thread_of s.funcs l.task in
    let s1 = c.step.new.store in
    let t1 = thread_of s1.funcs c.step.new.task in
    let some = c.loop-left-test.true in
    let left = g.I.Source.left in
    let held = g.O.Sink.held in
    let s2 = c.run_quietly.new.store in
    let t2 = thread_of s2.funcs c.run_quietly.new.task in
    let q = c.run_quietly.ensures in
    let rest = c.run_quietly.result.1 in
    let less = q.left in
    let halted = subst (λ (k : Stretch). HaltsSeen k s1 t1 c.see.new.self.trace ((l.left - 1) - rest) s2 t2 c.run_quietly.new.self.trace) c.in-Paused-default.is-0 q.steps in
    let calm = subst IsCalm (sym c.in-Paused-default.is-0) tt in
    let among = v.left in
    let within : l.left - 1 ≤ c.args.most = omega (arith, among) in
    let e = c.in-On.ensures in
    record {
      runs = λ whose next entries row.
          let way = goes_way whose next entries c.args.most s0 t0 log0.trace l.left s t l.log.trace (left c.args.input.now) (left l.input) (left c.step.new.input) (held c.args.out.now) (held l.out) (held c.step.new.out) some v.left v.going (v.runs whose next entries row) s1 t1 c.in-On.event c.see.new.self.trace c.in-On.ensures.step.0 c.in-Ok.ensures.trace in
          quiet_way whose next entries c.args.most s0 t0 log0.trace (l.left - 1) rest s1 s2 t1 t2 c.see.new.self.trace c.run_quietly.new.self.trace (left c.args.input.now) (left c.step.new.input) (held c.args.out.now) (held c.step.new.out) less within way halted.0;
      outline = q.outline calm ∙ (e.outline tt ∙ v.outline);
      task = q.task calm;
      going = halted.1;
      store_fits = q.store_fits calm;
      task_fits = q.task_fits calm;
      others = λ h fit. q.others calm h (e.others tt h (v.others h fit));
      made = let m = e.made tt in let k = q.made calm in omega (arith, m, k, v.made, less, some);
      left = omega (arith, among, less);
      entries = q.entries ∙ (c.in-Ok.ensures.entries ∙ v.entries);
      within = within_seen s1 s2 t1 t2 ((l.left - 1) - rest) (log0.entries + (c.args.most - (l.left - 1))) (log0.entries + (c.args.most - rest)) c.see.new.self.trace c.run_quietly.new.self.trace halted.0 (omega (arith, among, less, some))
          (within_after (log0.entries + (c.args.most - l.left)) (log0.entries + (c.args.most - (l.left - 1))) c.in-On.event l.log.trace c.see.new.self.trace (omega (arith, among, some)) c.in-Ok.ensures.trace v.within);
      input = e.input_faults ∙ v.input;
      out = e.out_faults ∙ v.out;
    }

pub returns-in-Ended-default-clause-run : goal.returns-in-Ended-default-clause-run
returns-in-Ended-default-clause-run g c = λ next entries row.
    let whose = whose_of c.args.whose in
    let l = c.loop-left in
    let v = l.invariant in
    let s0 = c.args.store.now in
    let t0 = thread_of s0.funcs c.args.task.now in
    let log0 = c.args.log.now in
    let s = l.store in
    let t = thread_of s.funcs l.task in
    let s1 = c.step.new.store in
    let t1 = thread_of s1.funcs c.step.new.task in
    let some = c.loop-left-test.true in
    let left = g.I.Source.left in
    let held = g.O.Sink.held in
    let s2 = c.run_quietly.new.store in
    let t2 = thread_of s2.funcs c.run_quietly.new.task in
    let q = c.run_quietly.ensures in
    let rest = c.run_quietly.result.1 in
    let less = q.left in
    let halted = subst (λ (k : Stretch). HaltsSeen k s1 t1 c.see.new.self.trace ((l.left - 1) - rest) s2 t2 c.run_quietly.new.self.trace) c.in-Ended-default.is-0 q.steps in
    let among = v.left in
    let within : l.left - 1 ≤ c.args.most = omega (arith, among) in
    let way = goes_way whose next entries c.args.most s0 t0 log0.trace l.left s t l.log.trace (left c.args.input.now) (left l.input) (left c.step.new.input) (held c.args.out.now) (held l.out) (held c.step.new.out) some v.left v.going (v.runs whose next entries row) s1 t1 c.in-On.event c.see.new.self.trace c.in-On.ensures.step.0 c.in-Ok.ensures.trace in
    way_here whose next entries c.args.most s0 t0 log0 c.run_quietly.new.self c.count-in-Ended-default.new.self rest (c.args.most - rest) s2 t2 (left c.args.input.now) (left c.step.new.input) (held c.args.out.now) (held c.step.new.out)
    (quiet_way whose next entries c.args.most s0 t0 log0.trace (l.left - 1) rest s1 s2 t1 t2 c.see.new.self.trace c.run_quietly.new.self.trace (left c.args.input.now) (left c.step.new.input) (held c.args.out.now) (held c.step.new.out) less within way halted.0)
    (q.entries ∙ (c.in-Ok.ensures.entries ∙ v.entries)) (omega (arith, less, within)) c.count-in-Ended-default.ensures

pub returns-in-Memory-default-clause-run : goal.returns-in-Memory-default-clause-run
returns-in-Memory-default-clause-run g c = λ next entries row.
    let whose = whose_of c.args.whose in
    let l = c.loop-left in
    let v = l.invariant in
    let s0 = c.args.store.now in
    let t0 = thread_of s0.funcs c.args.task.now in
    let log0 = c.args.log.now in
    let s = l.store in
    let t = thread_of s.funcs l.task in
    let s1 = c.step.new.store in
    let t1 = thread_of s1.funcs c.step.new.task in
    let some = c.loop-left-test.true in
    let left = g.I.Source.left in
    let held = g.O.Sink.held in
    let way = goes_way whose next entries c.args.most s0 t0 log0.trace l.left s t l.log.trace (left c.args.input.now) (left l.input) (left c.step.new.input) (held c.args.out.now) (held l.out) (held c.step.new.out) some v.left v.going (v.runs whose next entries row) s1 t1 c.in-On.event c.see.new.self.trace c.in-On.ensures.step.0 c.in-Ok.ensures.trace in
    let q = c.run_quietly.ensures in
    let lost = subst (λ (k : Stretch). HaltsSeen k s1 t1 c.see.new.self.trace ((l.left - 1) - c.run_quietly.result.1) c.run_quietly.new.store (thread_of c.run_quietly.new.store.funcs c.run_quietly.new.task) c.run_quietly.new.self.trace) c.in-Memory-default.is-0 q.steps in
    stops_before whose next entries c.args.most s0 t0 log0.trace (l.left - 1) s1 t1 c.see.new.self.trace (left c.args.input.now) (left c.step.new.input) (left c.step.new.input) (held c.args.out.now) (held c.step.new.out) (held c.step.new.out) way log0 c.run_quietly.new.self refl lost refl refl

pub returns-in_default-clause-run : goal.returns-in_default-clause-run
returns-in_default-clause-run g c = λ next entries row.
    let whose = whose_of c.args.whose in
    let l = c.loop-left in
    let v = l.invariant in
    let s0 = c.args.store.now in
    let t0 = thread_of s0.funcs c.args.task.now in
    let log0 = c.args.log.now in
    let s = l.store in
    let t = thread_of s.funcs l.task in
    let s1 = c.step.new.store in
    let t1 = thread_of s1.funcs c.step.new.task in
    let some = c.loop-left-test.true in
    let left = g.I.Source.left in
    let held = g.O.Sink.held in
    stops_behind whose next entries c.args.most s0 t0 log0.trace l.left s t l.log.trace (left c.args.input.now) (left l.input) (left c.step.new.input) (held c.args.out.now) (held l.out) (held c.step.new.out) some v.left v.going (v.runs whose next entries row) s1 t1 c.in-On.event log0 c.see.new.self refl c.in_default.ensures.lost c.in-On.ensures.step.0

pub returns-in_default-see-clause-run : goal.returns-in_default-see-clause-run
returns-in_default-see-clause-run g c = λ next entries row.
    let whose = whose_of c.args.whose in
    let l = c.loop-left in
    let v = l.invariant in
    let s0 = c.args.store.now in
    let t0 = thread_of s0.funcs c.args.task.now in
    let log0 = c.args.log.now in
    let s = l.store in
    let t = thread_of s.funcs l.task in
    let s1 = c.step.new.store in
    let t1 = thread_of s1.funcs c.step.new.task in
    let some = c.loop-left-test.true in
    let left = g.I.Source.left in
    let held = g.O.Sink.held in
    stops_behind whose next entries c.args.most s0 t0 log0.trace l.left s t l.log.trace (left c.args.input.now) (left l.input) (left c.step.new.input) (held c.args.out.now) (held l.out) (held c.step.new.out) some v.left v.going (v.runs whose next entries row) s1 t1 c.in-Ended.event log0 c.see-in-Ended.new.self refl c.in_default-see.ensures.lost c.in-Ended.ensures.step.0

pub returns-in-Ended-clause-run : goal.returns-in-Ended-clause-run
returns-in-Ended-clause-run g c = λ next entries row.
    let whose = whose_of c.args.whose in
    let l = c.loop-left in
    let v = l.invariant in
    let s0 = c.args.store.now in
    let t0 = thread_of s0.funcs c.args.task.now in
    let log0 = c.args.log.now in
    let s = l.store in
    let t = thread_of s.funcs l.task in
    let s1 = c.step.new.store in
    let t1 = thread_of s1.funcs c.step.new.task in
    let some = c.loop-left-test.true in
    let left = g.I.Source.left in
    let held = g.O.Sink.held in
    let see = c.see-in-Ended.new.self in
    let among = v.left in
    let way = goes_way whose next entries c.args.most s0 t0 log0.trace l.left s t l.log.trace (left c.args.input.now) (left l.input) (left c.step.new.input) (held c.args.out.now) (held l.out) (held c.step.new.out) some v.left v.going (v.runs whose next entries row) s1 t1 c.in-Ended.event see.trace c.in-Ended.ensures.step.0 c.in-Ok-see.ensures.trace in
    way_here whose next entries c.args.most s0 t0 log0 see c.count.new.self (l.left - 1) (c.args.most - (l.left - 1)) s1 t1 (left c.args.input.now) (left c.step.new.input) (held c.args.out.now) (held c.step.new.out) way
    (c.in-Ok-see.ensures.entries ∙ v.entries) (omega (arith, among)) c.count.ensures

pub returns-in-Trap-clause-run : goal.returns-in-Trap-clause-run
returns-in-Trap-clause-run g c = λ next entries row.
    let whose = whose_of c.args.whose in
    let l = c.loop-left in
    let v = l.invariant in
    let s0 = c.args.store.now in
    let t0 = thread_of s0.funcs c.args.task.now in
    let log0 = c.args.log.now in
    let s = l.store in
    let t = thread_of s.funcs l.task in
    let s1 = c.step.new.store in
    let t1 = thread_of s1.funcs c.step.new.task in
    let some = c.loop-left-test.true in
    let left = g.I.Source.left in
    let held = g.O.Sink.held in
    let e = c.in-Trap.ensures.step in
    let among = v.left in
    way_traps whose next entries c.args.most s0 t0 log0.trace l.left s t l.log.trace (left c.args.input.now) (left l.input) (left c.step.new.input) (held c.args.out.now) (held l.out) (held c.step.new.out) some v.left v.going (v.runs whose next entries row) c.in-Trap.kind s1 t1 log0 c.count-in-Trap.new.self (c.args.most - (l.left - 1)) l.log.entries refl v.entries e.0 e.1 e.2 e.3 e.4 (omega (arith, among)) c.count-in-Trap.ensures

pub returns-in-ReadFault-clause-run : goal.returns-in-ReadFault-clause-run
returns-in-ReadFault-clause-run g c = λ next entries row.
    let whose = whose_of c.args.whose in
    let l = c.loop-left in
    let v = l.invariant in
    let s0 = c.args.store.now in
    let t0 = thread_of s0.funcs c.args.task.now in
    let log0 = c.args.log.now in
    let s = l.store in
    let t = thread_of s.funcs l.task in
    let s1 = c.step.new.store in
    let t1 = thread_of s1.funcs c.step.new.task in
    let some = c.loop-left-test.true in
    let left = g.I.Source.left in
    let held = g.O.Sink.held in
    let e = c.in-ReadFault.ensures.step in
    stops_before whose next entries c.args.most s0 t0 log0.trace l.left s t l.log.trace (left c.args.input.now) (left l.input) (left c.step.new.input) (held c.args.out.now) (held l.out) (held c.step.new.out) (v.runs whose next entries row) log0 l.log refl refl (none_taken (left l.input) (left c.step.new.input) e.2) e.3

pub returns-in-WriteFault-clause-run : goal.returns-in-WriteFault-clause-run
returns-in-WriteFault-clause-run g c = λ next entries row.
    let whose = whose_of c.args.whose in
    let l = c.loop-left in
    let v = l.invariant in
    let s0 = c.args.store.now in
    let t0 = thread_of s0.funcs c.args.task.now in
    let log0 = c.args.log.now in
    let s = l.store in
    let t = thread_of s.funcs l.task in
    let s1 = c.step.new.store in
    let t1 = thread_of s1.funcs c.step.new.task in
    let some = c.loop-left-test.true in
    let left = g.I.Source.left in
    let held = g.O.Sink.held in
    let e = c.in-WriteFault.ensures.step in
    stops_in whose next entries c.args.most s0 t0 log0.trace l.left s t l.log.trace (left c.args.input.now) (left l.input) (left c.step.new.input) (held c.args.out.now) (held l.out) (held c.step.new.out) some v.left v.going (v.runs whose next entries row) log0 l.log e.0 refl refl e.1 e.3 e.4

pub returns-in-Memory-clause-run : goal.returns-in-Memory-clause-run
returns-in-Memory-clause-run g c = λ next entries row.
    let whose = whose_of c.args.whose in
    let l = c.loop-left in
    let v = l.invariant in
    let s0 = c.args.store.now in
    let t0 = thread_of s0.funcs c.args.task.now in
    let log0 = c.args.log.now in
    let s = l.store in
    let t = thread_of s.funcs l.task in
    let s1 = c.step.new.store in
    let t1 = thread_of s1.funcs c.step.new.task in
    let some = c.loop-left-test.true in
    let left = g.I.Source.left in
    let held = g.O.Sink.held in
    let e = c.in-Memory.ensures.step in
    stops_before whose next entries c.args.most s0 t0 log0.trace l.left s t l.log.trace (left c.args.input.now) (left l.input) (left c.step.new.input) (held c.args.out.now) (held l.out) (held c.step.new.out) (v.runs whose next entries row) log0 l.log refl refl e.1 e.2

pub returns-clause-run : goal.returns-clause-run
returns-clause-run g c = λ next entries row.
    let whose = whose_of c.args.whose in
    let l = c.loop-left in
    let v = l.invariant in
    let s0 = c.args.store.now in
    let t0 = thread_of s0.funcs c.args.task.now in
    let log0 = c.args.log.now in
    let s = l.store in
    let t = thread_of s.funcs l.task in
    let left = g.I.Source.left in
    let held = g.O.Sink.held in
    let none : l.left ≡ 0 = omega (arith, c.loop-left-test.false) in
    way_pauses whose next entries c.args.most l.left none s t (left c.args.input.now) (left l.input) (held c.args.out.now) (held l.out) log0 c.count-2.new.self (run_entries entries (next s0 t0))
    (way_here whose next entries c.args.most s0 t0 log0 l.log c.count-2.new.self l.left c.args.most s t (left c.args.input.now) (left l.input) (held c.args.out.now) (held l.out) (v.runs whose next entries row) v.entries (omega (arith, none)) c.count-2.ensures)

pub run_quietly-requires-clause-room : goal.run_quietly-requires-clause-room
run_quietly-requires-clause-room g c =
    let l = c.loop-left in
    let v = l.invariant in
    let log0 = c.args.log.now in
    let among = v.left in
    let some = c.loop-left-test.true in
    let room = c.requires.room in
    room_for (log0.entries + (c.args.most - (l.left - 1))) (l.left - 1) c.see.new.self.trace (omega (arith, among, some, room))
    (within_after (log0.entries + (c.args.most - l.left)) (log0.entries + (c.args.most - (l.left - 1))) c.in-On.event l.log.trace c.see.new.self.trace (omega (arith, among, some)) c.in-Ok.ensures.trace v.within)

pub returns-in-Ended-default-clause-within : goal.returns-in-Ended-default-clause-within
returns-in-Ended-default-clause-within g c = λ _.
    let l = c.loop-left in
    let v = l.invariant in
    let log0 = c.args.log.now in
    let s1 = c.step.new.store in
    let t1 = thread_of s1.funcs c.step.new.task in
    let s2 = c.run_quietly.new.store in
    let t2 = thread_of s2.funcs c.run_quietly.new.task in
    let log2 = c.run_quietly.new.self in
    let q = c.run_quietly.ensures in
    let rest = c.run_quietly.result.1 in
    let less = q.left in
    let some = c.loop-left-test.true in
    let among = v.left in
    let same = q.entries in
    let before = c.in-Ok.ensures.entries in
    let first = v.entries in
    let halted = subst (λ (k : Stretch). HaltsSeen k s1 t1 c.see.new.self.trace ((l.left - 1) - rest) s2 t2 log2.trace) c.in-Ended-default.is-0 q.steps in
    subst (λ k. CountsUpTo k.entries k.trace) (sym c.count-in-Ended-default.ensures)
    (within_seen s1 s2 t1 t2 ((l.left - 1) - rest) (log0.entries + (c.args.most - (l.left - 1))) (log2.entries + (c.args.most - rest)) c.see.new.self.trace log2.trace halted.0 (omega (arith, same, before, first, less, some, among))
    (within_after (log0.entries + (c.args.most - l.left)) (log0.entries + (c.args.most - (l.left - 1))) c.in-On.event l.log.trace c.see.new.self.trace (omega (arith, among, some)) c.in-Ok.ensures.trace v.within))
