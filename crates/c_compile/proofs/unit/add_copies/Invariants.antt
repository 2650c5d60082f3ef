use Rattle.std.proofs.Common.{◌≡◌, ◌++◌, drop}
use Rattle.c_compile.proofs.unit.add_copies.Given as goal

abbrev pub invariant-loop-ty : goal.invariant-loop-ty
invariant-loop-ty l =
    l.sigs ++ drop l.ty-index l.types ≡ l.fn.sigs ++ l.types
