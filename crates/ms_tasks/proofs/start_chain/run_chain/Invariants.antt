use Rattle.std.proofs.Common.{◌≡◌, ◌≤◌, ◌+◌, ◌-◌, ℕ, List, [], drop, length}
use Rattle.ms_handle.specs.declared.handle.Handle.{Handle}
use Rattle.ms_segment.specs.Memory.{IsFit}
use Rattle.ms_machine.specs.Crews.{run_entries}
use Rattle.ms_machine.specs.Typing.{outline_of}
use Rattle.ms_task.specs.Thread.{Thread}
use Rattle.ms_tasks.specs.refinement.Logs.{CountsUpTo}
use Rattle.ms_tasks.specs.refinement.Parts.{ComesTo}
use Rattle.ms_tasks.specs.refinement.Ready.{IsReady}
use Rattle.ms_tasks.specs.refinement.Rows.{begun_with, chain_in, threads_in}
use Rattle.ms_tasks.proofs.Chaining.{IsOver}
use Rattle.ms_tasks.proofs.start_chain.run_chain.Given as goal

abbrev pub invariant-loop-i : goal.invariant-loop-i
invariant-loop-i g l = record {
  runs : (entries : List ℕ) (tasks : List Thread) → length entries ≡ l.most → ComesTo (g.I.Source.left l.fn.input) (g.I.Source.left l.input) (g.O.Sink.held l.fn.out) (g.O.Sink.held l.out) l.fn.log l.log (run_entries entries (begun_with l.fn.store (threads_in l.fn.store l.fn.chain) tasks)) (run_entries (drop (l.most - l.left) entries) (begun_with l.store (drop l.i (threads_in l.store l.chain)) tasks));
  ended : IsOver l.i (threads_in l.store l.chain);
  many : length l.chain ≡ length l.fn.chain;
  left : l.left ≤ l.most;
  ready : IsReady (chain_in l.store l.chain []);
  outline : outline_of l.store ≡ outline_of l.fn.store;
  others : (h : Handle) → IsFit l.fn.store.segments h → IsFit l.store.segments h;
  made : l.store.segments.made + l.left ≤ l.fn.store.segments.made + l.most;
  entries : l.log.entries + l.left ≡ l.fn.log.entries + l.most;
  within : CountsUpTo l.log.entries l.log.trace;
  input : g.I.Source.faults l.input ≡ g.I.Source.faults l.fn.input;
  out : g.O.Sink.faults l.out ≡ g.O.Sink.faults l.fn.out;
}
