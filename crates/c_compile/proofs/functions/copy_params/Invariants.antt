use Rattle.std.proofs.Common.{drop, map}
use Rattle.ms_emit.specs.refinement.Parts.{Adds}
use Rattle.ms_module.specs.Building.{State}
use Rattle.c_types.specs.Types.{type_of}
use Rattle.c_code.specs.Functions.{params_from}
use Rattle.c_compile.proofs.functions.copy_params.Given as goal

abbrev pub invariant-loop-ty : goal.invariant-loop-ty
invariant-loop-ty l =
    (final : State) → Adds l.body final (params_from l.t.target l.number (map type_of (drop l.ty-index l.params))) → Adds l.fn.body final (params_from l.t.target 0 (map type_of l.params))
