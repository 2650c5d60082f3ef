use Rattle.std.proofs.Common.{◌≡◌, ◌++◌, drop, map}
use Rattle.c_typed.specs.Tree.{Typed}
use Rattle.c_typed.specs.refinement.Views.{made_of}
use Rattle.c_typed.specs.Units.{literals_in}
use Rattle.c_code.specs.Modules.{literal_globals}
use Rattle.c_compile.proofs.unit.add_literals.Given as goal

abbrev pub invariant-loop-m : goal.invariant-loop-m
invariant-loop-m l =
    (u : Typed) → l.all ++ literal_globals u (literals_in (map made_of (drop l.m-index l.made))) ≡ l.fn.all ++ literal_globals u (literals_in (map made_of l.made))
