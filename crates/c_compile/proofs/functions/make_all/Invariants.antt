use Rattle.std.proofs.Common.{drop, map}
use Rattle.ms_emit.specs.refinement.Parts.{Adds}
use Rattle.ms_module.specs.Building.{State}
use Rattle.c_typed.specs.refinement.Views.{made_of}
use Rattle.c_code.specs.Functions.{makes}
use Rattle.c_compile.proofs.functions.make_all.Given as goal

abbrev pub invariant-loop-m : goal.invariant-loop-m
invariant-loop-m l =
    (final : State) → Adds l.body final (makes l.t.target l.t.globals l.literals (map made_of (drop l.m-index l.made))) → Adds l.fn.body final (makes l.t.target l.t.globals 0 (map made_of l.made))
