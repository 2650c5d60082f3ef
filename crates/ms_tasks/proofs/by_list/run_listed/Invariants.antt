use Rattle.std.proofs.Common.{◌≡◌, ◌≤◌, ◌+◌, ◌-◌, false, drop, length}
use Rattle.ms_handle.specs.declared.handle.Handle.{Handle}
use Rattle.ms_segment.specs.Memory.{IsFit}
use Rattle.ms_machine.specs.Crews.{are_ended, run_entries}
use Rattle.ms_machine.specs.Typing.{outline_of}
use Rattle.ms_tasks.specs.refinement.Logs.{CountsUpTo}
use Rattle.ms_tasks.specs.refinement.Parts.{ComesTo}
use Rattle.ms_tasks.specs.refinement.Ready.{IsReady}
use Rattle.ms_tasks.specs.refinement.Rows.{crew_in, threads_in}
use Rattle.ms_tasks.specs.Alone.{by_only}
use Rattle.ms_tasks.proofs.by_list.run_listed.Given as goal

abbrev pub invariant-loop-at : goal.invariant-loop-at
invariant-loop-at g l = record {
  runs : ComesTo (g.I.Source.left l.fn.input) (g.I.Source.left l.input) (g.O.Sink.held l.fn.out) (g.O.Sink.held l.out) l.fn.log l.log (run_entries (by_only l.only (length l.fn.tasks) l.entries) (crew_in l.fn.store l.fn.tasks)) (run_entries (by_only l.only (length l.fn.tasks) (drop l.at l.entries)) (crew_in l.store l.tasks));
  at : l.at ≤ length l.entries;
  tasks : length l.tasks ≡ length l.fn.tasks;
  ready : IsReady (crew_in l.store l.tasks);
  outline : outline_of l.store ≡ outline_of l.fn.store;
  others : (h : Handle) → IsFit l.fn.store.segments h → IsFit l.store.segments h;
  going : are_ended (threads_in l.store l.tasks) ≡ false;
  made : l.store.segments.made + (length l.entries - l.at) ≤ l.fn.store.segments.made + length l.entries;
  log : l.log.entries + (length l.entries - l.at) ≡ l.fn.log.entries + length l.entries;
  within : CountsUpTo l.log.entries l.log.trace;
  input : g.I.Source.faults l.input ≡ g.I.Source.faults l.fn.input;
  out : g.O.Sink.faults l.out ≡ g.O.Sink.faults l.fn.out;
}

abbrev pub decreases-loop-at : goal.decreases-loop-at
decreases-loop-at g l = length l.entries - l.at
