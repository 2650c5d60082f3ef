use Rattle.std.proofs.Common.{◌≡◌, drop, map}
use Rattle.c_typed.specs.refinement.Views.{made_of}
use Rattle.c_code.specs.Uses.{in_made}
use Rattle.c_emit.specs.refinement.Found.{found, with_uses}
use Rattle.c_emit.proofs.uses.in_made.Given as goal

abbrev pub invariant-loop-m : goal.invariant-loop-m
invariant-loop-m l =
    with_uses l.structs (in_made (map made_of (drop l.m-index l.made))) (found l.uses) ≡ with_uses l.structs (in_made (map made_of l.made)) (found l.fn.uses)
