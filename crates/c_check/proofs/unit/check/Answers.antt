use Rattle.std.proofs.Common.{◌≤◌, ◌*◌, sym, subst, List}
use Rattle.c_tree.specs.declared.external.External.{External}
use Rattle.c_tree.specs.ExternalHeights.{unit_height}
use Rattle.c_typed.specs.refinement.Nesting.{unit_nesting}
use Rattle.c_typed.specs.refinement.Views.{typed_of}
use Rattle.c_typed.specs.declared.unit.TypedUnit.{TypedUnit}
use Rattle.c_check.proofs.WellTyped.{typing_well}
use Rattle.c_check.proofs.Nesting.{typing_nests}
use Rattle.c_check.proofs.unit.check.Goals as goal

pub new-requires : goal.new-requires
new-requires c = typing_well c.externals.result.now (typed_of c.in_ok-typed.typed) c.in_ok-typed.ensures

pub returns-clause-nests : goal.returns-clause-nests
returns-clause-nests c =
    let h = typing_nests c.externals.result.now (typed_of c.in_ok-typed.typed) c.in_ok-typed.ensures in
    let k = subst (λ (xs : List External). unit_nesting (typed_of c.in_ok-typed.typed) ≤ 2 * unit_height xs) c.externals.ensures h in
    subst (λ (u : TypedUnit). unit_nesting (typed_of u) ≤ 2 * unit_height c.args.unit) (sym c.new.ensures) k
