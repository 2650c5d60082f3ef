use Rattle.std.proofs.Common.{◌≡◌, drop}
use Rattle.ms_reach.specs.Count.{is_among}
use Rattle.ms_reach.specs.refinement.OwnValues.{floor_in, lowest}
use Rattle.ms_reach.proofs.own.cut_of.Given as goal

abbrev pub invariant-loop-n : goal.invariant-loop-n
invariant-loop-n l = record {
  operands : floor_in (is_among l.set) l.funcs (drop l.n l.marks) ≡ floor_in (is_among l.set) l.funcs l.marks;
  locals : lowest (is_among l.set) l.funcs l.low (drop l.n l.marks) ≡ lowest (is_among l.set) l.funcs l.fn.base l.marks;
}
