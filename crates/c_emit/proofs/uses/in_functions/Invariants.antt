use Rattle.std.proofs.Common.{◌≡◌, drop, map}
use Rattle.c_typed.specs.refinement.Views.{function_of}
use Rattle.c_code.specs.Uses.{in_functions}
use Rattle.c_emit.specs.refinement.Found.{found, with_uses}
use Rattle.c_emit.proofs.uses.in_functions.Given as goal

abbrev pub invariant-loop-f : goal.invariant-loop-f
invariant-loop-f l =
    with_uses l.structs (in_functions (map function_of (drop l.f-index l.fs))) (found l.uses)
    ≡ with_uses l.structs (in_functions (map function_of l.fs)) (found l.fn.uses)
