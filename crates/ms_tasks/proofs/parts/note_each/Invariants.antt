use Rattle.std.proofs.Common.{◌≡◌, length, take}
use Rattle.ms_tasks.specs.refinement.Parting.{Notes}
use Rattle.ms_tasks.proofs.parts.note_each.Given as goal

abbrev pub invariant-loop-i : goal.invariant-loop-i
invariant-loop-i l = record {
  notes : Notes l.n (take l.i l.addresses) l.fn.firsts l.firsts l.fn.parts l.parts;
  same_firsts : length l.firsts ≡ length l.fn.firsts;
  same_parts : length l.parts ≡ length l.fn.parts;
}
