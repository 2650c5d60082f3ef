use Rattle.std.proofs.Common.{◌≡◌, ◌++◌, drop}
use Rattle.c_typed.specs.refinement.Views.{typed_of}
use Rattle.c_code.specs.Modules.{globals_from}
use Rattle.c_compile.proofs.unit.add_variables.Given as goal

abbrev pub invariant-loop-n : goal.invariant-loop-n
invariant-loop-n l =
    l.all ++ globals_from (typed_of l.unit) l.n (drop l.n (typed_of l.unit).globals) ≡ l.fn.all ++ globals_from (typed_of l.unit) 0 (typed_of l.unit).globals
