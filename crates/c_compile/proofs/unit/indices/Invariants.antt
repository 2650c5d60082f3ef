use Rattle.std.proofs.Common.{◌≡◌, ◌++◌, drop, map}
use Rattle.c_typed.specs.refinement.Views.{typed_of}
use Rattle.c_code.specs.Modules.{index_of}
use Rattle.c_compile.proofs.unit.indices.Given as goal

abbrev pub invariant-loop-n : goal.invariant-loop-n
invariant-loop-n l =
    l.all ++ map (index_of (typed_of l.unit)) (drop l.n-index l.numbers) ≡ map (index_of (typed_of l.unit)) l.numbers
