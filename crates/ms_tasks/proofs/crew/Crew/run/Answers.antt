use Rattle.std.proofs.Common.{◌≡◌, ◌≤◌, ◌+◌, ℕ, List, length, sym, ap, subst, ◌∙◌}
use Rattle.std.proofs.lemmas.List.{length-map, with_items_is}
use Rattle.std.specs.Vec.{with_items}
use Rattle.ms_machine.specs.Crews.{Crew, Input, run_of}
use Rattle.ms_machine.specs.Typing.{outline_of}
use Rattle.ms_task.specs.refinement.View.{thread_of}
use Rattle.ms_task.specs.declared.task.Task.{Task as CodeTask}
use Rattle.ms_tasks.specs.refinement.Making.{Addressed}
use Rattle.ms_tasks.specs.refinement.Ready.{IsReady}
use Rattle.ms_tasks.specs.refinement.Rows.{all_in}
use Rattle.ms_tasks.specs.refinement.Runs.{CountsInput, CountsOut, DoesRun, IsOver}
use Rattle.ms_tasks.specs.refinement.Schedules.{entries_of}
use Rattle.ms_tasks.specs.declared.ran.Ran.{Ran}
use Rattle.ms_tasks.proofs.Counting.{run_counts}
use Rattle.ms_tasks.proofs.Safe.{run_accepted, run_ready}
use Rattle.ms_tasks.proofs.Telling.{counts_input, counts_out, kept_accepted, kept_sound, run_answers, well_over}
use Rattle.ms_tasks.proofs.crew.Crew.run.Goals as goal

pub returns : goal.returns
returns g c =
    let r = c.run_all in
    let e = r.ensures in
    let s = c.self.inside.store in
    let chain = c.as_mut_slice.result.now in
    let tasks = c.as_mut_slice-2.result.now in
    let schedule = c.args.schedule.now in
    let budget = c.args.budget in
    let now = c.args.self.now.crew in
    let ks = entries_of schedule (length now.tasks) budget in
    let inside = all_in s chain tasks in
    let after = all_in r.new.store r.new.chain r.new.tasks in
    let chain' = with_items c.self.inside.chain r.new.chain in
    let tasks' = with_items c.self.inside.tasks r.new.tasks in
    let seen = all_in r.new.store chain'.items tasks'.items in
    let viewed : after ≡ seen = ap (λ (xs : List CodeTask). all_in r.new.store xs r.new.tasks) (sym (with_items_is c.self.inside.chain r.new.chain (r.auto.chain ∙ c.as_mut_slice.ensures.len)))
    ∙ ap (λ (xs : List CodeTask). all_in r.new.store chain'.items xs) (sym (with_items_is c.self.inside.tasks r.new.tasks (r.auto.tasks ∙ c.as_mut_slice-2.ensures.len))) in
    let left = g.I.Source.left c.args.input.now in
    let left' = g.I.Source.left r.new.input in
    let held = g.O.Sink.held c.args.out.now in
    let held' = g.O.Sink.held r.new.out in
    let old = c.args.log.now in
    let new = r.new.log in
    let same : inside ≡ now = ap (λ (xs : List CodeTask). all_in s xs tasks) c.as_mut_slice.ensures.value ∙ (ap (λ (xs : List CodeTask). all_in s c.self.inside.chain.items xs) c.as_mut_slice-2.ensures.value ∙ ap (λ (p : Addressed). p.crew) c.self.view_is) in
    let many : length tasks ≡ length now.tasks = sym (length-map tasks (thread_of s.funcs)) ∙ ap (λ (x : Crew). length x.tasks) same in
    let does0 = run_answers r.result left left' held held' old new (run_of (entries_of schedule (length tasks) budget) inside) after e.run in
    let does1 = subst (λ (x : Ran). (given : Input) × DoesRun x after left left' held held' old new given (run_of (entries_of schedule (length tasks) budget) inside given)) (sym c.ran_of-ran.ensures) does0 in
    let does2 = subst (λ (n : ℕ). (given : Input) × DoesRun c.ran_of-ran.result after left left' held held' old new given (run_of (entries_of schedule n budget) inside given)) many does1 in
    let does3 = subst (λ (x : Crew). (given : Input) × DoesRun c.ran_of-ran.result after left left' held held' old new given (run_of ks x given)) same does2 in
    let does = subst (λ (x : Crew). (given : Input) × DoesRun c.ran_of-ran.result x left left' held held' old new given (run_of ks now given)) viewed does3 in
    record {
      run = does;
      input_faults = subst (λ (x : Ran). CountsInput x (g.I.Source.faults c.args.input.now) (g.I.Source.faults r.new.input)) (sym c.ran_of-ran.ensures) (counts_input r.result (g.I.Source.faults c.args.input.now) (g.I.Source.faults r.new.input) e.input_faults);
      out_faults = subst (λ (x : Ran). CountsOut x (g.O.Sink.faults c.args.out.now) (g.O.Sink.faults r.new.out)) (sym c.ran_of-ran.ensures) (counts_out r.result (g.O.Sink.faults c.args.out.now) (g.O.Sink.faults r.new.out) e.out_faults);
      outline = λ over. subst (λ (x : Crew). outline_of r.new.store ≡ outline_of x.store) same (e.outline (well_over r.result (subst IsOver c.ran_of-ran.ensures over)));
      addresses = ap (λ (p : Addressed). p.addresses) c.self.view_is;
      trapped = c.stop_of-self-inside.ensures;
      ready = λ over. subst IsReady viewed (e.ready (well_over r.result (subst IsOver c.ran_of-ran.ensures over)));
      made = λ over. subst (λ (x : Crew). r.new.store.segments.made ≤ x.store.segments.made + budget) same (e.made (well_over r.result (subst IsOver c.ran_of-ran.ensures over)));
      entries = λ over. e.entries (well_over r.result (subst IsOver c.ran_of-ran.ensures over));
      within = λ over. e.within (well_over r.result (subst IsOver c.ran_of-ran.ensures over));
      never_stuck = λ given. (run_ready ks now given c.requires.ready).1;
      accepted = λ sound given. run_accepted ks now given c.requires.ready sound;
      accesses = λ given. run_counts ks now given;
      kept = λ keep sound. kept_accepted c.ran_of-ran.result left left' held held' old new ks now seen does.0 does.1 c.requires.ready keep sound;
      sound = λ over keep sound. kept_sound c.ran_of-ran.result left left' held held' old new ks now seen does.0 does.1 over c.requires.ready keep sound;
    }
