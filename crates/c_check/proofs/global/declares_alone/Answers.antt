use Rattle.std.proofs.Common.{◌∙◌, sym}
use Rattle.c_types.specs.Types.{type_of}
use Rattle.c_check_types.specs.refinement.Views.{state_of}
use Rattle.c_check_types.proofs.Rules.{answered}
use Rattle.c_check.specs.Declarations.{declares_alone, names_function}
use Rattle.c_check.proofs.Alone.{alone}
use Rattle.c_check.proofs.global.declares_alone.Goals as goal

pub returns-then-is_missing : goal.returns-then-is_missing
returns-then-is_missing c =
    let name = c.args.name.now in
    let t = type_of c.args.t in
    let v = c.args.v.now in
    let old = state_of c.args.checker.now in
    let new = state_of c.names_function.new.checker in
    let there = sym c.if-is_missing.true ∙ c.is_missing.ensures in
    answered (λ (u : Unit {0}). tt {0}) (declares_alone name t v) (names_function name t) old new c.names_function.result (alone name t v there old) c.names_function.ensures
