use Rattle.std.proofs.Common.{◌≡◌, [], drop}
use Rattle.c_meaning.specs.Units.{in_values}
use Rattle.c_typed.specs.refinement.Views.{list_of}
use Rattle.c_place.specs.refinement.Marks.{marked_from}
use Rattle.c_place.proofs.objects.values.Given as goal

abbrev pub invariant-loop-s : goal.invariant-loop-s
invariant-loop-s l =
    (l.marks.locals ≡ []) × (marked_from 0 (λ n. in_values n (list_of (drop l.s-index l.ss))) l.marks.globals ≡ marked_from 0 (λ n. in_values n (list_of l.ss)) l.fn.marks.globals)
