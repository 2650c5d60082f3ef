use Rattle.std.proofs.Common.{◌≡◌, [], drop, map}
use Rattle.c_meaning.specs.Units.{in_made}
use Rattle.c_typed.specs.refinement.Views.{made_of}
use Rattle.c_place.specs.refinement.Marks.{marked_from}
use Rattle.c_place.proofs.objects.made.Given as goal

abbrev pub invariant-loop-m : goal.invariant-loop-m
invariant-loop-m l =
    (l.marks.locals ≡ []) × (marked_from 0 (λ n. in_made n (map made_of (drop l.m-index l.made))) l.marks.globals ≡ marked_from 0 (λ n. in_made n (map made_of l.made)) l.fn.marks.globals)
