use Rattle.std.proofs.Common.{◌++◌, replicate, subst, sym, ◌∙◌}
use Rattle.ms_machine.specs.Crews.{Results, ends, results, run_entries}
use Rattle.ms_tasks.specs.refinement.Parts.{HaltsBy}
use Rattle.ms_tasks.specs.refinement.Rows.{crew_in, threads_in}
use Rattle.ms_tasks.specs.declared.burst.Halt.{Halt}
use Rattle.ms_tasks.proofs.Coming.{not_ended, to_trans}
use Rattle.ms_tasks.proofs.Rowing.{idle_comes, over_comes}
use Rattle.ms_tasks.proofs.rows.turn.Goals as goal

pub returns-then-is_idle-clause-run : goal.returns-then-is_idle-clause-run
returns-then-is_idle-clause-run g c = λ rest.
    idle_comes c.args.store.now c.args.tasks.now c.args.k c.args.most rest (g.I.Source.left c.args.input.now) (g.O.Sink.held c.args.out.now) c.args.log.now c.count.new.self (c.is_idle.ensures.idle c.if-is_idle.true) c.requires.going c.count.ensures

pub returns-in_default : goal.returns-in_default
returns-in_default g c =
    let r = c.row-halt in
    let e = r.ensures in
    let after = crew_in r.new.store r.new.tasks in
    record {
      run = λ rest.
          not_ended r.result.0 (g.I.Source.left c.args.input.now) (g.I.Source.left r.new.input) (g.O.Sink.held c.args.out.now) (g.O.Sink.held r.new.out) c.args.log.now r.new.log
          (run_entries (replicate c.args.most c.args.k ++ rest) (crew_in c.args.store.now c.args.tasks.now)) (run_entries (replicate r.result.1 c.args.k ++ rest) after) (ends (Results (results (threads_in r.new.store r.new.tasks))) after) (run_entries rest after) after
          c.in_default.not-Ended (e.run rest);
      ready = e.ready;
      paused = e.paused;
      outline = e.outline;
      others = e.others;
      made = e.made;
      entries = e.entries;
      within = e.within;
      input_faults = e.input_faults;
      out_faults = e.out_faults;
    }

pub returns-then-all_ended-clause-run : goal.returns-then-all_ended-clause-run
returns-then-all_ended-clause-run g c = λ rest.
    let r = c.row-halt in
    let left = g.I.Source.left in
    let held = g.O.Sink.held in
    let run = run_entries (replicate c.args.most c.args.k ++ rest) (crew_in c.args.store.now c.args.tasks.now) in
    let after = crew_in r.new.store r.new.tasks in
    over_comes r.new.store r.new.tasks (replicate r.result.1 c.args.k ++ rest) (left c.args.input.now) (left r.new.input) (held c.args.out.now) (held r.new.out) c.args.log.now r.new.log run (sym c.all_ended.ensures ∙ c.if-all_ended.true)
    (subst (λ (h : Halt). HaltsBy h run (run_entries (replicate r.result.1 c.args.k ++ rest) after) (run_entries rest after) after (left c.args.input.now) (left r.new.input) (held c.args.out.now) (held r.new.out) c.args.log.now r.new.log) c.in-Ended.is (r.ensures.run rest))

pub returns-clause-run : goal.returns-clause-run
returns-clause-run g c = λ rest.
    let r = c.row-halt in
    let left = g.I.Source.left in
    let held = g.O.Sink.held in
    let run = run_entries (replicate c.args.most c.args.k ++ rest) (crew_in c.args.store.now c.args.tasks.now) in
    let after = crew_in r.new.store r.new.tasks in
    let mid = run_entries (replicate r.result.1 c.args.k ++ rest) after in
    let first = subst (λ (h : Halt). HaltsBy h run mid (run_entries rest after) after (left c.args.input.now) (left r.new.input) (held c.args.out.now) (held r.new.out) c.args.log.now r.new.log) c.in-Ended.is (r.ensures.run rest) in
    to_trans (left c.args.input.now) (left r.new.input) (left r.new.input) (held c.args.out.now) (held r.new.out) (held r.new.out) c.args.log.now r.new.log c.count-2.new.self run mid (run_entries rest after) first
    (idle_comes r.new.store r.new.tasks c.args.k r.result.1 rest (left r.new.input) (held r.new.out) r.new.log c.count-2.new.self (r.ensures.ended c.in-Ended.is) (sym c.all_ended.ensures ∙ c.if-all_ended.false) c.count-2.ensures)
