use Rattle.std.proofs.Common.{drop}
use Rattle.ms_emit.specs.refinement.Parts.{Adds}
use Rattle.ms_module.specs.Building.{State}
use Rattle.c_typed.specs.refinement.Views.{list_of}
use Rattle.c_code.specs.Functions.{values}
use Rattle.c_compile.proofs.functions.give_values.Given as goal

abbrev pub invariant-loop-s : goal.invariant-loop-s
invariant-loop-s l =
    (final : State) → Adds l.body final (values l.t.target (list_of (drop l.s-index l.ss))) → Adds l.fn.body final (values l.t.target (list_of l.ss))
