use Rattle.std.proofs.Common.{◌≡◌, ◌++◌, drop, map}
use Rattle.c_typed.specs.refinement.Views.{typed_of}
use Rattle.c_code.specs.Modules.{import_from_c}
use Rattle.c_compile.proofs.unit.add_imports.Given as goal

abbrev pub invariant-loop-n : goal.invariant-loop-n
invariant-loop-n l =
    l.imports ++ map (import_from_c (typed_of l.unit)) (drop l.n-index l.numbers) ≡ l.fn.imports ++ map (import_from_c (typed_of l.unit)) l.numbers
