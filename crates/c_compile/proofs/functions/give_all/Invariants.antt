use Rattle.std.proofs.Common.{drop, map}
use Rattle.ms_emit.specs.refinement.Parts.{Adds}
use Rattle.ms_module.specs.Building.{State}
use Rattle.c_typed.specs.refinement.Views.{made_of}
use Rattle.c_code.specs.Functions.{gives}
use Rattle.c_compile.proofs.functions.give_all.Given as goal

abbrev pub invariant-loop-m : goal.invariant-loop-m
invariant-loop-m l =
    (final : State) → Adds l.body final (gives l.t.target l.literals (map made_of (drop l.m-index l.made))) → Adds l.fn.body final (gives l.t.target 0 (map made_of l.made))
