use Rattle.std.proofs.Common.{ℕ, List, [], ◌++◌, replicate, append-nil, subst}
use Rattle.ms_machine.specs.Crews.{OutOfBudget, Results, ends, results, run_entries}
use Rattle.ms_tasks.specs.refinement.Parts.{HaltsBy}
use Rattle.ms_tasks.specs.refinement.Rows.{crew_in, threads_in}
use Rattle.ms_tasks.proofs.Rowing.{none_answers}
use Rattle.ms_tasks.proofs.by_turns.run_alone.Goals as goal

pub returns-clause-run : goal.returns-clause-run
returns-clause-run g c =
    let r = c.turn-halt in
    let s = r.new.store in
    let tasks = r.new.tasks in
    let l = g.I.Source.left c.args.input.now in
    let l' = g.I.Source.left r.new.input in
    let h = g.O.Sink.held c.args.out.now in
    let h' = g.O.Sink.held r.new.out in
    let before = crew_in c.args.store.now c.args.tasks.now in
    let after = crew_in s tasks in
    let ended = ends (Results (results (threads_in s tasks))) after in
    subst (λ (ks : List ℕ). HaltsBy r.result.0 (run_entries ks before) ended (ends OutOfBudget after) after l l' h h' c.args.log.now r.new.log) (append-nil (replicate c.args.most 0))
    (none_answers r.result.0 s tasks l l' h h' c.args.log.now r.new.log (run_entries (replicate c.args.most 0 ++ []) before) ended (λ paused. (r.ensures.paused paused).1) (r.ensures.run []))
