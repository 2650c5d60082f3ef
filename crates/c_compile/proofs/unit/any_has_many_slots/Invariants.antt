use Rattle.std.proofs.Common.{◌≡◌, drop, map}
use Rattle.std.specs.List.{list_any}
use Rattle.c_typed.specs.refinement.Views.{function_of}
use Rattle.c_code.specs.Limits.{has_many_slots}
use Rattle.c_compile.proofs.unit.any_has_many_slots.Given as goal

abbrev pub invariant-loop-f : goal.invariant-loop-f
invariant-loop-f l =
    list_any has_many_slots (map function_of (drop l.f-index l.functions)) ≡ list_any has_many_slots (map function_of l.functions)
