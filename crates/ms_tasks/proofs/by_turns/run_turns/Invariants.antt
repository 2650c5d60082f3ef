use Rattle.std.proofs.Common.{◌≡◌, ◌<◌, ◌≤◌, ◌+◌, ◌-◌, false, length}
use Rattle.ms_handle.specs.declared.handle.Handle.{Handle}
use Rattle.ms_segment.specs.Memory.{IsFit}
use Rattle.ms_machine.specs.Crews.{are_ended, run_entries, turns_from}
use Rattle.ms_machine.specs.Typing.{outline_of}
use Rattle.ms_tasks.specs.refinement.Logs.{CountsUpTo}
use Rattle.ms_tasks.specs.refinement.Parts.{ComesTo}
use Rattle.ms_tasks.specs.refinement.Ready.{IsReady}
use Rattle.ms_tasks.specs.refinement.Rows.{IsInTurn, crew_in, threads_in}
use Rattle.ms_tasks.specs.Alone.{by_only}
use Rattle.ms_tasks.proofs.by_turns.run_turns.Given as goal

abbrev pub invariant-loop-left : goal.invariant-loop-left
invariant-loop-left g l = record {
  runs : ComesTo (g.I.Source.left l.fn.input) (g.I.Source.left l.input) (g.O.Sink.held l.fn.out) (g.O.Sink.held l.out) l.fn.log l.log (run_entries (by_only l.only (length l.fn.tasks) (turns_from l.q (length l.fn.tasks) l.from l.most)) (crew_in l.fn.store l.fn.tasks)) (run_entries (by_only l.only (length l.fn.tasks) (turns_from l.q (length l.fn.tasks) (l.from + (l.most - l.left)) l.left)) (crew_in l.store l.tasks));
  place : 0 < l.left → IsInTurn l.q l.count (l.from + (l.most - l.left)) l.k l.room;
  tasks : length l.tasks ≡ length l.fn.tasks;
  left : l.left ≤ l.most;
  ready : IsReady (crew_in l.store l.tasks);
  outline : outline_of l.store ≡ outline_of l.fn.store;
  others : (h : Handle) → IsFit l.fn.store.segments h → IsFit l.store.segments h;
  going : are_ended (threads_in l.store l.tasks) ≡ false;
  made : l.store.segments.made + l.left ≤ l.fn.store.segments.made + l.most;
  entries : l.log.entries + l.left ≡ l.fn.log.entries + l.most;
  within : CountsUpTo l.log.entries l.log.trace;
  input : g.I.Source.faults l.input ≡ g.I.Source.faults l.fn.input;
  out : g.O.Sink.faults l.out ≡ g.O.Sink.faults l.fn.out;
}

abbrev pub decreases-loop-left : goal.decreases-loop-left
decreases-loop-left g l = l.left
