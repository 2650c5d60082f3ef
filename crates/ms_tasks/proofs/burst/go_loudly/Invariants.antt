use Rattle.std.proofs.Common.{◌≡◌, ◌≢◌, ◌+◌, ◌-◌, ◌≤◌, ℕ, List, []}
use Rattle.ms_handle.specs.declared.handle.Handle.{Handle}
use Rattle.ms_segment.specs.Memory.{IsFit}
use Rattle.ms_machine.specs.Crews.{Crew, Whose}
use Rattle.ms_machine.specs.refinement.Holding.{StoreFits, ThreadFits}
use Rattle.ms_machine.specs.Store.{Store}
use Rattle.ms_machine.specs.Typing.{TaskTyped, outline_of}
use Rattle.ms_task.specs.Thread.{Thread}
use Rattle.ms_task.specs.refinement.View.{thread_of}
use Rattle.ms_tasks.specs.refinement.Logs.{CountsUpTo}
use Rattle.ms_tasks.specs.refinement.Parts.{IsRow}
use Rattle.ms_tasks.proofs.Stepping.{IsUnderWay}
use Rattle.ms_tasks.proofs.burst.go_loudly.Given as goal

abbrev pub invariant-loop-left : goal.invariant-loop-left
invariant-loop-left g l = record {
  runs : (whose : Whose) (next : Store → Thread → Crew) (entries : List ℕ) → IsRow whose next l.most entries → IsUnderWay whose next entries l.most l.fn.store (thread_of l.fn.store.funcs l.fn.task) l.fn.log.trace l.left l.store (thread_of l.store.funcs l.task) l.log.trace (g.I.Source.left l.fn.input) (g.I.Source.left l.input) (g.O.Sink.held l.fn.out) (g.O.Sink.held l.out);
  outline : outline_of l.store ≡ outline_of l.fn.store;
  task : TaskTyped (outline_of l.store) (thread_of l.store.funcs l.task);
  going : (thread_of l.store.funcs l.task).work ≢ [];
  store_fits : StoreFits l.store;
  task_fits : ThreadFits l.store (thread_of l.store.funcs l.task);
  others : (h : Handle) → IsFit l.fn.store.segments h → IsFit l.store.segments h;
  made : l.store.segments.made + l.left ≤ l.fn.store.segments.made + l.most;
  left : l.left ≤ l.most;
  entries : l.log.entries ≡ l.fn.log.entries;
  within : CountsUpTo (l.fn.log.entries + (l.most - l.left)) l.log.trace;
  input : g.I.Source.faults l.input ≡ g.I.Source.faults l.fn.input;
  out : g.O.Sink.faults l.out ≡ g.O.Sink.faults l.fn.out;
}

abbrev pub decreases-loop-left : goal.decreases-loop-left
decreases-loop-left g l = l.left
