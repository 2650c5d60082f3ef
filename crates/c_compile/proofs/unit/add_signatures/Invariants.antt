use Rattle.std.proofs.Common.{◌≡◌, ◌++◌, drop, map}
use Rattle.c_typed.specs.refinement.Views.{function_of}
use Rattle.c_code.specs.Functions.{signature}
use Rattle.c_compile.proofs.unit.add_signatures.Given as goal

abbrev pub invariant-loop-f : goal.invariant-loop-f
invariant-loop-f l =
    l.sigs ++ map (λ f. signature f.ty) (map function_of (drop l.f-index l.functions)) ≡ l.fn.sigs ++ map (λ f. signature f.ty) (map function_of l.functions)
