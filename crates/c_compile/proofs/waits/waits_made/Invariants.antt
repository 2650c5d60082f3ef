use Rattle.std.proofs.Common.{◌≡◌, drop, map, max}
use Rattle.c_typed.specs.refinement.Views.{made_of}
use Rattle.c_typed.specs.Tree.{Typed}
use Rattle.c_code.specs.Modules.{waits_made}
use Rattle.c_compile.proofs.waits.waits_made.Given as goal

abbrev pub invariant-loop-m : goal.invariant-loop-m
invariant-loop-m l = (u : Typed) → max l.most (waits_made u (map made_of (drop l.m-index l.made))) ≡ waits_made u (map made_of l.made)
