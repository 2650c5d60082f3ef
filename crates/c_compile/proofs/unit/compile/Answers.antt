use Rattle.std.proofs.Common.{None, Some, subst}
use Rattle.c_typed.specs.refinement.Views.{typed_of}
use Rattle.c_typed.specs.declared.unit.TypedUnit.{TypedUnit}
use Rattle.c_compile.specs.Refusals.{limit}
use Rattle.c_emit.specs.refinement.Used.{AreUses}
use Rattle.c_compile.proofs.Modules.{refused_by}
use Rattle.c_compile.proofs.unit.compile.Goals as goal

pub returns-in-Some-clause-refused : goal.returns-in-Some-clause-refused
returns-in-Some-clause-refused c =
    refused_by c.unit-unit.result.now c.args.typed.now (Some (limit c.in-Some.limit)) c.unit-unit.ensures.same
    c.in-Some.ensures

pub module-requires-clause-uses : goal.module-requires-clause-uses
module-requires-clause-uses c = subst (λ (x : TypedUnit). AreUses (typed_of x) c.in_ok-uses.uses) c.unit-unit.ensures.same c.in_ok-uses.ensures

pub returns-clause-within : goal.returns-clause-within
returns-clause-within c =
    refused_by c.unit-unit.result.now c.args.typed.now None c.unit-unit.ensures.same
    c.in_default.ensures
