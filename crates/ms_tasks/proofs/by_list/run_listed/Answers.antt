use Rattle.std.proofs.Common.{◌≡◌, ◌≤◌, ◌+◌, ◌++◌, ℕ, ap, drop, length, replicate, get_or, refl, sym, subst, ◌∙◌, arith}
use Rattle.std.proofs.lemmas.List.{length-drop}
use Rattle.std.proofs.lemmas.Option.{slice_get-get_or}
use Rattle.ms_machine.specs.Crews.{OutOfBudget, Results, ends, results, run_entries}
use Rattle.ms_tasks.specs.refinement.Parts.{HaltsBy, ComesTo, CountsInput, CountsOut, IsWell}
use Rattle.ms_tasks.specs.refinement.Rows.{crew_in, threads_in}
use Rattle.ms_tasks.specs.declared.burst.Halt.{Halt}
use Rattle.ms_tasks.proofs.Chaining.{drop_end}
use Rattle.ms_tasks.proofs.Coming.{answers_on, not_paused, to_same, to_trans}
use Rattle.ms_tasks.proofs.Listing.{behind_at, row_at}
use Rattle.ms_tasks.specs.Alone.{by_only}
use Rattle.ms_tasks.proofs.Only.{by_only_row, none_by_only}
use Rattle.ms_tasks.proofs.Rowing.{none_comes}
use Rattle.ms_tasks.proofs.by_list.run_listed.Goals as goal

pub loop-at-init : goal.loop-at-init
loop-at-init g c = record {
  runs = to_same (g.I.Source.left c.args.input.now) (g.O.Sink.held c.args.out.now) c.args.log.now (run_entries (by_only c.args.only (length c.args.tasks.now) c.args.entries.now) (crew_in c.args.store.now c.args.tasks.now));
  at = omega arith;
  tasks = refl;
  ready = c.requires.ready;
  outline = refl;
  others = λ h fit. fit;
  going = c.requires.going;
  made = omega arith;
  log = omega arith;
  within = c.requires.within;
  input = refl;
  out = refl;
}

pub returns-in_default : goal.returns-in_default
returns-in_default g c =
    let l = c.loop-at in
    let v = l.invariant in
    let r = c.turn-halt in
    let e = r.ensures in
    let xs = c.args.entries.now in
    let k = get_or xs l.at 0 in
    let n = c.row_of-row.result in
    let row = 1 + n in
    let task = c.named-task.result in
    let tasks = length c.args.tasks.now in
    let rest = by_only c.args.only tasks (drop (l.at + row) xs) in
    let left = g.I.Source.left in
    let held = g.O.Sink.held in
    let before = crew_in l.store l.tasks in
    let after = crew_in r.new.store r.new.tasks in
    let all = run_entries (by_only c.args.only (length c.args.tasks.now) xs) (crew_in c.args.store.now c.args.tasks.now) in
    let ended = ends (Results (results (threads_in r.new.store r.new.tasks))) after in
    let mid = run_entries (replicate row task ++ rest) before in
    let first = subst (λ ks. ComesTo (left c.args.input.now) (left l.input) (held c.args.out.now) (held l.out) c.args.log.now l.log all (run_entries ks before)) (ap (by_only c.args.only tasks) (row_at xs l.at n k (slice_get-get_or xs l.at 0 c.loop-at-test.true) (subst (λ ys. ys ≡ replicate n k ++ drop n ys) (behind_at (l.at + 1) xs) c.row_of-row.ensures.row)) ∙ (by_only_row c.args.only tasks row k (drop (l.at + row) xs) ∙ ap (λ (t : ℕ). replicate row t ++ rest) (sym c.named-task.ensures))) v.runs in
    let within = subst (λ ys. n ≤ length ys) (behind_at (l.at + 1) xs) c.row_of-row.ensures.within in
    let some = c.loop-at-test.true in
    let d = length-drop (l.at + 1) xs in
    record {
      run = answers_on r.result.0 (left c.args.input.now) (left l.input) (left r.new.input) (held c.args.out.now) (held l.out) (held r.new.out) c.args.log.now l.log r.new.log all mid ended (ends OutOfBudget after) after first
          (not_paused r.result.0 (left l.input) (left r.new.input) (held l.out) (held r.new.out) l.log r.new.log mid ended (run_entries rest after) (ends OutOfBudget after) after c.in_default.not-Paused (e.run rest));
      ready = e.ready;
      outline = λ well. e.outline well ∙ v.outline;
      others = λ well h fit. e.others well h (v.others h fit);
      made = λ well. let m = e.made well in let y = v.made in omega (arith, m, y, within, d, some);
      entries = λ well. let m = e.entries well in let y = v.log in omega (arith, m, y, within, d, some);
      within = e.within;
      input_faults = subst (λ x. CountsInput r.result.0 x (g.I.Source.faults r.new.input)) v.input e.input_faults;
      out_faults = subst (λ x. CountsOut r.result.0 x (g.O.Sink.faults r.new.out)) v.out e.out_faults;
    }

pub loop-at-preserved : goal.loop-at-preserved
loop-at-preserved g c =
    let l = c.loop-at in
    let v = l.invariant in
    let r = c.turn-halt in
    let e = r.ensures in
    let xs = c.args.entries.now in
    let k = get_or xs l.at 0 in
    let n = c.row_of-row.result in
    let row = 1 + n in
    let task = c.named-task.result in
    let tasks = length c.args.tasks.now in
    let rest = by_only c.args.only tasks (drop (l.at + row) xs) in
    let left = g.I.Source.left in
    let held = g.O.Sink.held in
    let before = crew_in l.store l.tasks in
    let after = crew_in r.new.store r.new.tasks in
    let all = run_entries (by_only c.args.only (length c.args.tasks.now) xs) (crew_in c.args.store.now c.args.tasks.now) in
    let ended = ends (Results (results (threads_in r.new.store r.new.tasks))) after in
    let mid = run_entries (replicate row task ++ rest) before in
    let first = subst (λ ks. ComesTo (left c.args.input.now) (left l.input) (held c.args.out.now) (held l.out) c.args.log.now l.log all (run_entries ks before)) (ap (by_only c.args.only tasks) (row_at xs l.at n k (slice_get-get_or xs l.at 0 c.loop-at-test.true) (subst (λ ys. ys ≡ replicate n k ++ drop n ys) (behind_at (l.at + 1) xs) c.row_of-row.ensures.row)) ∙ (by_only_row c.args.only tasks row k (drop (l.at + row) xs) ∙ ap (λ (t : ℕ). replicate row t ++ rest) (sym c.named-task.ensures))) v.runs in
    let well = subst IsWell (sym c.in-Paused.is) tt in
    let paused = e.paused c.in-Paused.is in
    let within = subst (λ ys. n ≤ length ys) (behind_at (l.at + 1) xs) c.row_of-row.ensures.within in
    let some = c.loop-at-test.true in
    let d = length-drop (l.at + 1) xs in
    record {
      runs = to_trans (left c.args.input.now) (left l.input) (left r.new.input) (held c.args.out.now) (held l.out) (held r.new.out) c.args.log.now l.log r.new.log all mid (run_entries rest after) first
          (subst (λ (h : Halt). HaltsBy h mid ended (run_entries rest after) after (left l.input) (left r.new.input) (held l.out) (held r.new.out) l.log r.new.log) c.in-Paused.is (e.run rest));
      at = omega (arith, within, d, some);
      tasks = r.auto.tasks ∙ v.tasks;
      ready = e.ready well;
      outline = e.outline well ∙ v.outline;
      others = λ h fit. e.others well h (v.others h fit);
      going = paused.1;
      made = let m = e.made well in let x = paused.0 in let y = v.made in omega (arith, m, x, y, within, d, some);
      log = let m = e.entries well in let x = paused.0 in let y = v.log in omega (arith, m, x, y, within, d, some);
      within = e.within well;
      input = subst (λ (h : Halt). CountsInput h (g.I.Source.faults l.input) (g.I.Source.faults r.new.input)) c.in-Paused.is e.input_faults ∙ v.input;
      out = subst (λ (h : Halt). CountsOut h (g.O.Sink.faults l.out) (g.O.Sink.faults r.new.out)) c.in-Paused.is e.out_faults ∙ v.out;
    }

pub returns-clause-run : goal.returns-clause-run
returns-clause-run g c =
    let l = c.loop-at in
    let v = l.invariant in
    let xs = c.args.entries.now in
    none_comes l.store l.tasks (by_only c.args.only (length c.args.tasks.now) (drop l.at xs)) (g.I.Source.left c.args.input.now) (g.I.Source.left l.input) (g.O.Sink.held c.args.out.now) (g.O.Sink.held l.out) c.args.log.now l.log (run_entries (by_only c.args.only (length c.args.tasks.now) xs) (crew_in c.args.store.now c.args.tasks.now))
    (none_by_only c.args.only (length c.args.tasks.now) (drop l.at xs) (drop_end l.at xs (omega (arith, c.loop-at-test.false)))) v.going v.runs
