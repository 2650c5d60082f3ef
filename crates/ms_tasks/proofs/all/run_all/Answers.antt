use Rattle.std.proofs.Common.{◌≡◌, ◌+◌, ◌-◌, List, [], drop, length, refl, sym, ap, subst, ◌∙◌, arith}
use Rattle.ms_machine.specs.Crews.{Crew, OutOfBudget, Results, ahead, begun, ends, results, run_entries}
use Rattle.ms_task.specs.Thread.{Thread}
use Rattle.ms_tasks.specs.refinement.Parts.{HaltsBy, ComesTo, CountsInput, CountsOut, IsWell}
use Rattle.ms_tasks.specs.refinement.Ready.{IsReady}
use Rattle.ms_tasks.specs.refinement.Rows.{all_in, begun_with, crew_in, threads_in}
use Rattle.ms_tasks.specs.refinement.Schedules.{entries_of, part_of}
use Rattle.ms_tasks.specs.declared.burst.Halt.{Halt}
use Rattle.ms_tasks.proofs.Coming.{answers_as, answers_on, not_ended}
use Rattle.ms_tasks.proofs.Outs.{chain_stays_ready, has_entries, only_tasks, part_is, tasks_stay_ready, threads_stay}
use Rattle.ms_tasks.proofs.Rowing.{over_comes}
use Rattle.ms_tasks.proofs.all.run_all.Goals as goal

pub returns-in_default : goal.returns-in_default
returns-in_default g c =
    let r = c.run_chain-halt in
    let e = r.ensures in
    let s = c.args.store.now in
    let s' = r.new.store in
    let tasks = c.args.tasks.now in
    let ts = threads_in s tasks in
    let ks = entries_of c.args.schedule.now (length tasks) c.args.budget in
    let left = g.I.Source.left in
    let held = g.O.Sink.held in
    let run = run_entries ks (begun_with s (threads_in s c.args.chain.now) ts) in
    let chain' = threads_in s' r.new.chain in
    let c1 = begun_with s' chain' ts in
    let c2 = begun (all_in s' r.new.chain tasks) in
    let ended = ends (Results (results (threads_in s' tasks))) c2 in
    record {
      run = answers_as r.result.0 (left c.args.input.now) (left r.new.input) (held c.args.out.now) (held r.new.out) c.args.log.now r.new.log run run ended ended (ends OutOfBudget c1) (ends OutOfBudget c2) c1 c2 refl
          (λ well.
          let same : c1 ≡ c2 = ap (λ (l : List Thread). begun_with s' chain' l) (threads_stay s s' tasks (e.outline well)) in
          (refl, ap (ends OutOfBudget) same, same))
          (not_ended r.result.0 (left c.args.input.now) (left r.new.input) (held c.args.out.now) (held r.new.out) c.args.log.now r.new.log run (run_entries (drop (c.most-most.result - r.result.1) ks) (begun_with s' [] ts)) ended (ends OutOfBudget c1) c1 c.in_default.not-Ended
          (e.run ks ts (c.most-most.ensures.entries (length tasks))));
      ready = λ well.
          subst (λ (l : List Thread). IsReady (record { store = s'; chain = chain'; tasks = l })) (threads_stay s s' tasks (e.outline well))
          (tasks_stay_ready s s' (threads_in s c.args.chain.now) chain' ts c.requires.ready (e.ready well) (e.outline well) (e.others well));
      outline = e.outline;
      made = λ well. let m = e.made well in let w = c.most-most.ensures.within in omega (arith, m, w);
      entries = λ well. let m = e.entries well in let w = c.most-most.ensures.within in omega (arith, m, w);
      within = e.within;
      input_faults = e.input_faults;
      out_faults = e.out_faults;
    }

pub returns-then-all_ended-clause-run : goal.returns-then-all_ended-clause-run
returns-then-all_ended-clause-run g c =
    let r = c.run_chain-halt in
    let e = r.ensures in
    let s = c.args.store.now in
    let s' = r.new.store in
    let tasks = c.args.tasks.now in
    let ts = threads_in s tasks in
    let ks = entries_of c.args.schedule.now (length tasks) c.args.budget in
    let rest = drop (c.most-most.result - r.result.1) ks in
    let left = g.I.Source.left in
    let held = g.O.Sink.held in
    let run = run_entries ks (begun_with s (threads_in s c.args.chain.now) ts) in
    let chain' = threads_in s' r.new.chain in
    let c1 = begun_with s' chain' ts in
    let well = subst IsWell (sym c.in-Ended.is) tt in
    let first = subst (λ (h : Halt). HaltsBy h run (run_entries rest (begun_with s' [] ts)) (ends OutOfBudget c1) c1 (left c.args.input.now) (left r.new.input) (held c.args.out.now) (held r.new.out) c.args.log.now r.new.log) c.in-Ended.is
    (e.run ks ts (c.most-most.ensures.entries (length tasks))) in
    let here = subst (λ (l : List Thread). ComesTo (left c.args.input.now) (left r.new.input) (held c.args.out.now) (held r.new.out) c.args.log.now r.new.log run (run_entries rest (begun_with s' [] l))) (threads_stay s s' tasks (e.outline well)) first in
    subst (λ (l : List Thread). ComesTo (left c.args.input.now) (left r.new.input) (held c.args.out.now) (held r.new.out) c.args.log.now r.new.log run (ends (Results (results (threads_in s' tasks))) (record { store = s'; chain = l; tasks = threads_in s' tasks }))) (sym (e.ended c.in-Ended.is))
    (over_comes s' tasks rest (left c.args.input.now) (left r.new.input) (held c.args.out.now) (held r.new.out) c.args.log.now r.new.log run (sym c.all_ended.ensures ∙ c.if-all_ended.true) here)

pub returns-then-all_ended-clause-ready : goal.returns-then-all_ended-clause-ready
returns-then-all_ended-clause-ready g c = λ is.
    let r = c.run_chain-halt in
    let e = r.ensures in
    let s = c.args.store.now in
    let s' = r.new.store in
    let tasks = c.args.tasks.now in
    let well = subst IsWell (sym c.in-Ended.is) tt in
    subst (λ (l : List Thread). IsReady (record { store = s'; chain = threads_in s' r.new.chain; tasks = l })) (threads_stay s s' tasks (e.outline well))
    (tasks_stay_ready s s' (threads_in s c.args.chain.now) (threads_in s' r.new.chain) (threads_in s tasks) c.requires.ready (e.ready well) (e.outline well) (e.others well))

pub run_tasks-requires-clause-entries : goal.run_tasks-requires-clause-entries
run_tasks-requires-clause-entries g c =
    let n = length c.args.tasks.now in
    let within = c.run_chain-halt.ensures.left in
    let many = c.most-most.ensures.entries n in
    has_entries c.args.schedule.now n c.args.budget (c.most-most.result - c.run_chain-halt.result.1 + c.run_chain-halt.result.1) (omega (arith, within, many))

pub run_tasks-requires-clause-ready : goal.run_tasks-requires-clause-ready
run_tasks-requires-clause-ready g c =
    let r = c.run_chain-halt in
    let e = r.ensures in
    let s = c.args.store.now in
    let s' = r.new.store in
    let tasks = c.args.tasks.now in
    let chain' = threads_in s' r.new.chain in
    let well = subst IsWell (sym c.in-Ended.is) tt in
    subst (λ (l : List Thread). IsReady (record { store = s'; chain = []; tasks = l })) (threads_stay s s' tasks (e.outline well))
    (only_tasks s' chain' (threads_in s tasks) (tasks_stay_ready s s' (threads_in s c.args.chain.now) chain' (threads_in s tasks) c.requires.ready (e.ready well) (e.outline well) (e.others well)))

pub returns : goal.returns
returns g c =
    let r = c.run_chain-halt in
    let e = r.ensures in
    let t = c.run_tasks in
    let s = c.args.store.now in
    let s' = r.new.store in
    let s'' = t.new.store in
    let tasks = c.args.tasks.now in
    let n = length tasks in
    let ts = threads_in s tasks in
    let schedule = c.args.schedule.now in
    let ks = entries_of schedule n c.args.budget in
    let from = c.most-most.result - r.result.1 in
    let rest = drop from ks in
    let left = g.I.Source.left in
    let held = g.O.Sink.held in
    let run = run_entries ks (begun_with s (threads_in s c.args.chain.now) ts) in
    let chain' = threads_in s' r.new.chain in
    let c1 = begun_with s' chain' ts in
    let well = subst IsWell (sym c.in-Ended.is) tt in
    let within = e.left in
    let many = c.most-most.ensures.entries n in
    let first = subst (λ (h : Halt). HaltsBy h run (run_entries rest (begun_with s' [] ts)) (ends OutOfBudget c1) c1 (left c.args.input.now) (left r.new.input) (held c.args.out.now) (held r.new.out) c.args.log.now r.new.log) c.in-Ended.is
    (e.run ks ts many) in
    let here = subst (λ (l : List Thread). ComesTo (left c.args.input.now) (left r.new.input) (held c.args.out.now) (held r.new.out) c.args.log.now r.new.log run (run_entries rest (begun_with s' [] l))) (threads_stay s s' tasks (e.outline well)) first in
    let part = part_is schedule n c.args.budget from r.result.1 (omega (arith, within, many)) in
    let mid = crew_in s' tasks in
    let last = crew_in s'' t.new.tasks in
    let all = begun (all_in s'' r.new.chain t.new.tasks) in
    let ended = Results (results (threads_in s'' t.new.tasks)) in
    let inside = tasks_stay_ready s s' (threads_in s c.args.chain.now) chain' ts c.requires.ready (e.ready well) (e.outline well) (e.others well) in
    record {
      run = answers_on t.result (left c.args.input.now) (left r.new.input) (left t.new.input) (held c.args.out.now) (held r.new.out) (held t.new.out) c.args.log.now r.new.log t.new.log run (run_entries rest mid) (ends ended all) (ends OutOfBudget all) all here
          (answers_as t.result (left r.new.input) (left t.new.input) (held r.new.out) (held t.new.out) r.new.log t.new.log (run_entries (part_of schedule n from r.result.1) mid) (run_entries rest mid) (ends ended last) (ends ended all) (ends OutOfBudget last) (ends OutOfBudget all) last all
          (ap (λ xs. run_entries xs mid) (sym part))
          (λ fine.
          let none : [] ≡ ahead (threads_in s'' r.new.chain) = sym (e.ended c.in-Ended.is) ∙ ap ahead (threads_stay s' s'' r.new.chain (t.ensures.outline fine)) in
          let same : last ≡ all = ap (λ (l : List Thread). let x : Crew = record { store = s''; chain = l; tasks = threads_in s'' t.new.tasks } in x) none in
          (ap (ends ended) same, ap (ends OutOfBudget) same, same))
          t.ensures.run);
      ready = λ fine.
          subst (λ (l : List Thread). IsReady (record { store = s''; chain = l; tasks = threads_in s'' t.new.tasks })) (threads_stay s' s'' r.new.chain (t.ensures.outline fine))
          (chain_stays_ready s' s'' chain' ts (threads_in s'' t.new.tasks) inside (t.ensures.ready fine) (t.ensures.outline fine) (t.ensures.others fine));
      outline = λ fine. t.ensures.outline fine ∙ e.outline well;
      made = λ fine. let m = e.made well in let y = t.ensures.made fine in let w = c.most-most.ensures.within in omega (arith, m, y, w);
      entries = λ fine. let m = e.entries well in let y = t.ensures.entries fine in let w = c.most-most.ensures.within in omega (arith, m, y, w);
      within = t.ensures.within;
      input_faults = subst (λ x. CountsInput t.result x (g.I.Source.faults t.new.input)) (subst (λ (h : Halt). CountsInput h (g.I.Source.faults c.args.input.now) (g.I.Source.faults r.new.input)) c.in-Ended.is e.input_faults) t.ensures.input_faults;
      out_faults = subst (λ x. CountsOut t.result x (g.O.Sink.faults t.new.out)) (subst (λ (h : Halt). CountsOut h (g.O.Sink.faults c.args.out.now) (g.O.Sink.faults r.new.out)) c.in-Ended.is e.out_faults) t.ensures.out_faults;
    }
