use Rattle.std.proofs.Common.{◌≡◌, ◌++◌, drop, map}
use Rattle.c_types.specs.Types.{type_of}
use Rattle.c_code.specs.Functions.{slots_from}
use Rattle.c_compile.proofs.functions.add_slots.Given as goal

abbrev pub invariant-loop-ty : goal.invariant-loop-ty
invariant-loop-ty l =
    l.locals ++ slots_from l.t.target l.number (map type_of (drop l.ty-index l.slots)) ≡ l.fn.locals ++ slots_from l.t.target l.from (map type_of l.slots)
