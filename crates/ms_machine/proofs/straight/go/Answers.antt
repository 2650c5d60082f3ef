use Rattle.std.proofs.Common.{◌≡◌, ◌≢◌, ◌-◌, ◌+◌, ◌<◌, ◌∙◌, Bor, List, [], None, drop, drop-drop, length, length-drop, nat_lt, refl, sym, ap, subst, arith}
use Rattle.std.proofs.lemmas.Bool.{ltb-true}
use Rattle.ms_module.specs.declared.instr.Instr.{Instr}
use Rattle.ms_task.specs.Control.{exited}
use Rattle.ms_task.specs.Thread.{Thread, sequence}
use Rattle.ms_task.specs.refinement.View.{at_next, thread_of}
use Rattle.ms_task.specs.declared.task.Task.{Task}
use Rattle.ms_machine.specs.Step.{Next}
use Rattle.ms_machine.specs.refinement.Doing.{Carries}
use Rattle.ms_machine.specs.refinement.StraightLine.{DoesAgain, GoesQuietly, IsIn, StepsQuietly}
use Rattle.ms_machine.proofs.StraightLine.{before_next, can_next, carried_on, going_at, leaves, met_here, quietly_fits, quietly_on, quietly_trans, quietly_typed, rest_behind, rest_from, rest_more, rest_read, rest_within, some_left, stands}
use Rattle.ms_machine.proofs.straight.go.Goals as goal
use Rattle.ms_machine.proofs.straight.go.Goals.{in-On+then-is_empty+in-Some, in-On+else-is_empty, in-Behind+in-Some-leave, in-Again}

pub quietly-requires-clause-before : goal.quietly-requires-clause-before
quietly-requires-clause-before g c =
    let l = c.loop-left in
    let v = l.invariant in
    let s = c.args.store.now in
    let is = sequence s.funcs l.task.function l.task.sequence in
    before_next s is l.task l.place c.index-rest-0.result refl (rest_within is l.rest.now l.place v.rest v.some) (rest_read is l.rest.now l.place v.rest v.some c.index-rest-0.result c.index-rest-0.is)

pub quietly-requires-clause-can : goal.quietly-requires-clause-can
quietly-requires-clause-can g c =
    let s = c.args.store.now in
    let l = c.loop-left in
    let v = l.invariant in
    let is = sequence s.funcs l.task.function l.task.sequence in
    let typed = quietly_typed s s (thread_of s.funcs c.args.task.now) (at_next s.funcs l.task l.place) (c.args.most - l.left) v.steps c.requires.store c.requires.task in
    can_next s is l.task l.place c.index-rest-0.result refl (rest_within is l.rest.now l.place v.rest v.some) (rest_read is l.rest.now l.place v.rest v.some c.index-rest-0.result c.index-rest-0.is) c.requires.store typed.1 v.going

pub quietly-requires-clause-fit : goal.quietly-requires-clause-fit
quietly-requires-clause-fit g c =
    let s = c.args.store.now in
    let l = c.loop-left in
    (quietly_fits s s (thread_of s.funcs c.args.task.now) (at_next s.funcs l.task l.place) (c.args.most - l.left) l.invariant.steps c.requires.store_fits c.requires.task_fits).1.operands

pub returns-in-Linear-clause-met : goal.returns-in-Linear-clause-met
returns-in-Linear-clause-met g c =
    let s = c.args.store.now in
    let l = c.loop-left in
    let v = l.invariant in
    let is = sequence s.funcs l.task.function l.task.sequence in
    let typed = quietly_typed s s (thread_of s.funcs c.args.task.now) (at_next s.funcs l.task l.place) (c.args.most - l.left) v.steps c.requires.store c.requires.task in
    let here = can_next s is l.task l.place c.index-rest-0.result refl (rest_within is l.rest.now l.place v.rest v.some) (rest_read is l.rest.now l.place v.rest v.some c.index-rest-0.result c.index-rest-0.is) c.requires.store typed.1 v.going in
    let behind = rest_behind is l.rest.now l.place v.rest v.some in
    met_here s (thread_of s.funcs c.args.task.now) (c.args.most - l.left) l.place l.task c.quietly.new.task c.go_to-in-Linear.new.self c.in-Linear.ensures.done.1 v.steps v.going (c.go_to-in-Linear.ensures.thread s.funcs) (c.go_to-in-Linear.ensures.others s.funcs) c.go_to-in-Linear.ensures.place l.left (l.place + 1) (nat_lt 1 (length l.rest.now)) c.index-rest-0.result _ c.loop-left-test.true (stands s is l.task l.place c.index-rest-0.result refl (rest_within is l.rest.now l.place v.rest v.some) (rest_read is l.rest.now l.place v.rest v.some c.index-rest-0.result c.index-rest-0.is)) here behind c.in-Linear.ensures.done.0

pub returns-in-Global-clause-met : goal.returns-in-Global-clause-met
returns-in-Global-clause-met g c =
    let s = c.args.store.now in
    let l = c.loop-left in
    let v = l.invariant in
    let is = sequence s.funcs l.task.function l.task.sequence in
    let typed = quietly_typed s s (thread_of s.funcs c.args.task.now) (at_next s.funcs l.task l.place) (c.args.most - l.left) v.steps c.requires.store c.requires.task in
    let here = can_next s is l.task l.place c.index-rest-0.result refl (rest_within is l.rest.now l.place v.rest v.some) (rest_read is l.rest.now l.place v.rest v.some c.index-rest-0.result c.index-rest-0.is) c.requires.store typed.1 v.going in
    let behind = rest_behind is l.rest.now l.place v.rest v.some in
    met_here s (thread_of s.funcs c.args.task.now) (c.args.most - l.left) l.place l.task c.quietly.new.task c.go_to-in-Global.new.self c.in-Global.ensures.done.1 v.steps v.going (c.go_to-in-Global.ensures.thread s.funcs) (c.go_to-in-Global.ensures.others s.funcs) c.go_to-in-Global.ensures.place l.left (l.place + 1) (nat_lt 1 (length l.rest.now)) c.index-rest-0.result _ c.loop-left-test.true (stands s is l.task l.place c.index-rest-0.result refl (rest_within is l.rest.now l.place v.rest v.some) (rest_read is l.rest.now l.place v.rest v.some c.index-rest-0.result c.index-rest-0.is)) here behind c.in-Global.ensures.done.0

pub returns-in-Segment-clause-met : goal.returns-in-Segment-clause-met
returns-in-Segment-clause-met g c =
    let s = c.args.store.now in
    let l = c.loop-left in
    let v = l.invariant in
    let is = sequence s.funcs l.task.function l.task.sequence in
    let typed = quietly_typed s s (thread_of s.funcs c.args.task.now) (at_next s.funcs l.task l.place) (c.args.most - l.left) v.steps c.requires.store c.requires.task in
    let here = can_next s is l.task l.place c.index-rest-0.result refl (rest_within is l.rest.now l.place v.rest v.some) (rest_read is l.rest.now l.place v.rest v.some c.index-rest-0.result c.index-rest-0.is) c.requires.store typed.1 v.going in
    let behind = rest_behind is l.rest.now l.place v.rest v.some in
    met_here s (thread_of s.funcs c.args.task.now) (c.args.most - l.left) l.place l.task c.quietly.new.task c.go_to-in-Segment.new.self c.in-Segment.ensures.done.1 v.steps v.going (c.go_to-in-Segment.ensures.thread s.funcs) (c.go_to-in-Segment.ensures.others s.funcs) c.go_to-in-Segment.ensures.place l.left (l.place + 1) (nat_lt 1 (length l.rest.now)) c.index-rest-0.result _ c.loop-left-test.true (stands s is l.task l.place c.index-rest-0.result refl (rest_within is l.rest.now l.place v.rest v.some) (rest_read is l.rest.now l.place v.rest v.some c.index-rest-0.result c.index-rest-0.is)) here behind c.in-Segment.ensures.done.0

pub loop-left-preserved : goal.loop-left-preserved
loop-left-preserved g c =
    let s = c.args.store.now in
    let l = c.loop-left in
    let v = l.invariant in
    let is = sequence s.funcs l.task.function l.task.sequence in
    let t' = c.match-quietly.task in
    let n = c.args.most - l.left in
    let t0 = thread_of s.funcs c.args.task.now in
    let t1 = at_next s.funcs l.task l.place in
    let some = c.loop-left-test.true in
    let room = v.left in
    elim c.match-quietly.branch [
      | in-On+then-is_empty+in-Some w ↦
          let code = w.in-Some.code.now in
          let left = subst (λ (x : Task). thread_of s.funcs x ≡ exited (thread_of s.funcs w.go_to.new.self)) (sym w.task-is) w.in-Some.ensures.exited in
          let there = subst (λ (x : Task). IsIn code s.funcs x) (sym w.task-is) w.in-Some.ensures.code in
          let step = leaves s s t1 (at_next s.funcs l.task (l.place + 1)) (thread_of s.funcs w.go_to.new.self) (thread_of s.funcs t') c.index-rest-0.result (stands s is l.task l.place c.index-rest-0.result refl (rest_within is l.rest.now l.place v.rest v.some) (rest_read is l.rest.now l.place v.rest v.some c.index-rest-0.result c.index-rest-0.is)) (w.in-On.ensures.done.0 ∙ ap (λ (x : Thread). Next s x None) (sym (w.go_to.ensures.thread s.funcs))) left in
          let rests : c.match-quietly.rest.now ≡ drop w.place-place-in-Some.result code = ap (λ (b : Bor (List Instr)). b.now) w.rest-is ∙ rest_from code w.place-place-in-Some.result in
          let places = w.place-is ∙ w.place-place-in-Some.ensures ∙ ap (λ (x : Task). x.place) (sym w.task-is) in
          let at_place : thread_of s.funcs t' ≡ at_next s.funcs t' c.match-quietly.place = ap (λ p. at_next s.funcs t' p) (sym places) in
          let within = there.1 in
          let far = there.3 in
          record {
            steps = subst (λ (x : Thread). GoesQuietly s t0 (c.args.most - (c.match-quietly.left - 1)) s x) at_place (quietly_on s s s n (c.args.most - (c.match-quietly.left - 1)) t0 t1 (thread_of s.funcs t') v.steps v.going step (omega (arith, some, room, w.left-is)));
            left = omega (arith, some, room, w.left-is);
            going = subst (λ (x : Thread). x.work ≢ []) at_place there.2;
            rest = rests ∙ ap (λ p. drop p code) (sym w.place-is) ∙ ap (drop c.match-quietly.place) there.0;
            some = omega (arith, ap length rests, length-drop w.place-place-in-Some.result code, w.place-is, places, within);
            far = omega (arith, ap length rests, length-drop w.place-place-in-Some.result code, w.place-is, places, within, far);
          }
      | in-On+else-is_empty w ↦
          let done = subst (λ (x : Task). Carries c.index-rest-0.result (l.place + 1) s l.task x) (sym w.task-is) w.in-On.ensures.done in
          let at = done.1 in
          let stand = stands s is l.task l.place c.index-rest-0.result refl (rest_within is l.rest.now l.place v.rest v.some) (rest_read is l.rest.now l.place v.rest v.some c.index-rest-0.result c.index-rest-0.is) in
          let rests : c.match-quietly.rest.now ≡ drop 1 l.rest.now = ap (λ (b : Bor (List Instr)). b.now) w.rest-is ∙ rest_from l.rest.now 1 in
          let full = some_left _ (sym w.is_empty.ensures ∙ w.if-is_empty.false) in
          let more : 0 < length (drop 1 l.rest.now) = subst (λ (xs : List Instr). 0 < length xs) (rest_from l.rest.now 1) full in
          let same : is ≡ sequence s.funcs t'.function t'.sequence = rw (at.0, at.1) refl in
          let within = rest_more is l.rest.now l.place v.rest v.some more in
          let carried = carried_on s l.task t' c.index-rest-0.result (l.place + 1) done within in
          let step : StepsQuietly s t1 s (at_next s.funcs t' c.match-quietly.place) = subst (λ p. StepsQuietly s t1 s (at_next s.funcs t' p)) (sym w.place-is) (subst (λ (x : Thread). StepsQuietly s x s (at_next s.funcs t' (l.place + 1))) (sym stand) carried) in
          let inside : c.match-quietly.place < length is = subst (λ p. p < length is) (sym w.place-is) within in
          let far = v.far in
          record {
            steps = quietly_on s s s n (c.args.most - (c.match-quietly.left - 1)) t0 t1 (at_next s.funcs t' c.match-quietly.place) v.steps v.going step (omega (arith, some, room, w.left-is));
            left = omega (arith, some, room, w.left-is);
            going = going_at s t' c.match-quietly.place (subst (λ (xs : List Instr). c.match-quietly.place < length xs) same inside);
            rest = rests ∙ ap (drop 1) v.rest ∙ drop-drop 1 l.place is ∙ ap (λ p. drop p is) (sym w.place-is) ∙ ap (drop c.match-quietly.place) same;
            some = subst (λ (xs : List Instr). 0 < length xs) (sym rests) more;
            far = omega (arith, ap length rests, length-drop 1 l.rest.now, more, w.place-is, far);
          }
      | in-Behind+in-Some-leave w ↦
          let code = w.in-Some-leave.code.now in
          let left = subst (λ (x : Task). thread_of s.funcs x ≡ exited (thread_of s.funcs c.quietly.new.task)) (sym w.task-is) w.in-Some-leave.ensures.exited in
          let there = subst (λ (x : Task). IsIn code s.funcs x) (sym w.task-is) w.in-Some-leave.ensures.code in
          let step = leaves s s t1 (at_next s.funcs l.task (l.place + 1)) (thread_of s.funcs c.quietly.new.task) (thread_of s.funcs t') c.index-rest-0.result (stands s is l.task l.place c.index-rest-0.result refl (rest_within is l.rest.now l.place v.rest v.some) (rest_read is l.rest.now l.place v.rest v.some c.index-rest-0.result c.index-rest-0.is)) w.in-Behind.ensures.done left in
          let rests : c.match-quietly.rest.now ≡ drop w.place-place-in-Some-leave.result code = ap (λ (b : Bor (List Instr)). b.now) w.rest-is ∙ rest_from code w.place-place-in-Some-leave.result in
          let places = w.place-is ∙ w.place-place-in-Some-leave.ensures ∙ ap (λ (x : Task). x.place) (sym w.task-is) in
          let at_place : thread_of s.funcs t' ≡ at_next s.funcs t' c.match-quietly.place = ap (λ p. at_next s.funcs t' p) (sym places) in
          let within = there.1 in
          let far = there.3 in
          record {
            steps = subst (λ (x : Thread). GoesQuietly s t0 (c.args.most - (c.match-quietly.left - 1)) s x) at_place (quietly_on s s s n (c.args.most - (c.match-quietly.left - 1)) t0 t1 (thread_of s.funcs t') v.steps v.going step (omega (arith, some, room, w.left-is)));
            left = omega (arith, some, room, w.left-is);
            going = subst (λ (x : Thread). x.work ≢ []) at_place there.2;
            rest = rests ∙ ap (λ p. drop p code) (sym w.place-is) ∙ ap (drop c.match-quietly.place) there.0;
            some = omega (arith, ap length rests, length-drop w.place-place-in-Some-leave.result code, w.place-is, places, within);
            far = omega (arith, ap length rests, length-drop w.place-place-in-Some-leave.result code, w.place-is, places, within, far);
          }
      | in-Again w ↦
          let code = w.in-Again.code.now in
          let done = subst (λ (x : Task). DoesAgain code s t1 x) (sym w.task-is) (subst (λ (x : Thread). DoesAgain code s x c.quietly.new.task) (sym (stands s is l.task l.place c.index-rest-0.result refl (rest_within is l.rest.now l.place v.rest v.some) (rest_read is l.rest.now l.place v.rest v.some c.index-rest-0.result c.index-rest-0.is))) w.in-Again.ensures.done) in
          let there = done.1 in
          let rests : c.match-quietly.rest.now ≡ drop w.place-place-in-Again.result code = ap (λ (b : Bor (List Instr)). b.now) w.rest-is ∙ rest_from code w.place-place-in-Again.result in
          let places = w.place-is ∙ w.place-place-in-Again.ensures ∙ ap (λ (x : Task). x.place) (sym w.task-is) in
          let two = ltb-true 1 l.left (w.in-Again.ensures.again (tt {0})) in
          let at_place : thread_of s.funcs t' ≡ at_next s.funcs t' c.match-quietly.place = ap (λ p. at_next s.funcs t' p) (sym places) in
          let within = there.1 in
          let far = there.3 in
          record {
            steps = subst (λ (x : Thread). GoesQuietly s t0 (c.args.most - (c.match-quietly.left - 1)) s x) at_place (quietly_trans s s s n 2 (c.args.most - (c.match-quietly.left - 1)) t0 t1 (thread_of s.funcs t') v.steps done.0 (omega (arith, room, two, w.left-is)));
            left = omega (arith, room, two, w.left-is);
            going = subst (λ (x : Thread). x.work ≢ []) at_place there.2;
            rest = rests ∙ ap (λ p. drop p code) (sym w.place-is) ∙ ap (drop c.match-quietly.place) there.0;
            some = omega (arith, ap length rests, length-drop w.place-place-in-Again.result code, w.place-is, places, within);
            far = omega (arith, ap length rests, length-drop w.place-place-in-Again.result code, w.place-is, places, within, far);
          }
    ]

pub returns-in-None-clause-met : goal.returns-in-None-clause-met
returns-in-None-clause-met g c =
    let s = c.args.store.now in
    let l = c.loop-left in
    let v = l.invariant in
    let is = sequence s.funcs l.task.function l.task.sequence in
    let some = c.loop-left-test.true in
    let room = v.left in
    let t0 = thread_of s.funcs c.args.task.now in
    let t1 = at_next s.funcs l.task l.place in
    let t' = thread_of s.funcs c.leave.new.task in
    let step = leaves s s t1 (at_next s.funcs l.task (l.place + 1)) (thread_of s.funcs c.go_to.new.self) t' c.index-rest-0.result (stands s is l.task l.place c.index-rest-0.result refl (rest_within is l.rest.now l.place v.rest v.some) (rest_read is l.rest.now l.place v.rest v.some c.index-rest-0.result c.index-rest-0.is)) (c.in-On.ensures.done.0 ∙ ap (λ (x : Thread). Next s x None) (sym (c.go_to.ensures.thread s.funcs))) c.leave.ensures.exited in
    (quietly_on s s s (c.args.most - l.left) (c.args.most - (l.left - 1)) t0 t1 t' v.steps v.going step (omega (arith, some, room)), c.in-None.ensures.code)

pub returns-in-None-leave-clause-met : goal.returns-in-None-leave-clause-met
returns-in-None-leave-clause-met g c =
    let s = c.args.store.now in
    let l = c.loop-left in
    let v = l.invariant in
    let is = sequence s.funcs l.task.function l.task.sequence in
    let some = c.loop-left-test.true in
    let room = v.left in
    let t0 = thread_of s.funcs c.args.task.now in
    let t1 = at_next s.funcs l.task l.place in
    let t' = thread_of s.funcs c.leave-in-Behind.new.task in
    let step = leaves s s t1 (at_next s.funcs l.task (l.place + 1)) (thread_of s.funcs c.quietly.new.task) t' c.index-rest-0.result (stands s is l.task l.place c.index-rest-0.result refl (rest_within is l.rest.now l.place v.rest v.some) (rest_read is l.rest.now l.place v.rest v.some c.index-rest-0.result c.index-rest-0.is)) c.in-Behind.ensures.done c.leave-in-Behind.ensures.exited in
    (quietly_on s s s (c.args.most - l.left) (c.args.most - (l.left - 1)) t0 t1 t' v.steps v.going step (omega (arith, some, room)), c.in-None-leave.ensures.code)
