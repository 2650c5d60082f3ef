use Rattle.std.proofs.Common.{◌≡◌, ◌<◌, ℕ, length}
use Rattle.ms_tasks.specs.refinement.Parting.{AreNoted, NotesAll, count_of}
use Rattle.ms_tasks.proofs.parts.note_all.Given as goal

abbrev pub invariant-loop-n : goal.invariant-loop-n
invariant-loop-n g l = record {
  all : NotesAll l.store l.kind l.fn.firsts l.firsts l.fn.parts l.parts;
  noted : (m : ℕ) → m < l.n → AreNoted l.store l.kind l.firsts l.parts m;
  each : length l.firsts ≡ count_of l.kind l.store;
}
