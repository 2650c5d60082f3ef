use Rattle.std.proofs.Common.{◌≡◌, ◌+◌, ◌++◌, drop}
use Rattle.c_typed.specs.refinement.Views.{typed_of}
use Rattle.c_code.specs.Limits.{instructions_of}
use Rattle.c_code.specs.Modules.{funcs_from}
use Rattle.c_compile.proofs.unit.add_funcs.Given as goal

abbrev pub invariant-loop-n : goal.invariant-loop-n
invariant-loop-n l =
    (l.funcs ++ funcs_from (typed_of l.typed) l.n (drop l.n (typed_of l.typed).functions) ≡ l.fn.funcs ++ funcs_from (typed_of l.typed) 0 (typed_of l.typed).functions) ×
    (instructions_of l.funcs + l.room ≡ instructions_of l.fn.funcs + l.fn.room)
