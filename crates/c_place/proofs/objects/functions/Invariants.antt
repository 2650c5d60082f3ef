use Rattle.std.proofs.Common.{◌≡◌, ◌++◌, drop, map}
use Rattle.c_meaning.specs.Units.{in_functions}
use Rattle.c_typed.specs.refinement.Views.{function_of}
use Rattle.c_place.specs.refinement.Flags.{of_function}
use Rattle.c_place.specs.refinement.Marks.{marked_from}
use Rattle.c_place.proofs.objects.functions.Given as goal

abbrev pub invariant-loop-f : goal.invariant-loop-f
invariant-loop-f l =
    (l.all.items ++ map of_function (map function_of (drop l.f-index l.fs)) ≡ map of_function (map function_of l.fs))
    × (marked_from 0 (λ n. in_functions n (map function_of (drop l.f-index l.fs))) l.marks.globals ≡ marked_from 0 (λ n. in_functions n (map function_of l.fs)) l.fn.marks.globals)
