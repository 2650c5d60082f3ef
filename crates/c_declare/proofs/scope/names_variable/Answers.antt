use Rattle.std.proofs.Common.{◌∙◌, ◌<◌, length, ap, sym, arith, rules}
use Rattle.c_check_types.specs.Scopes.{entity_in, is_global}
use Rattle.c_check_types.specs.State.{and_then}
use Rattle.c_declare.proofs.Scopes.{outermost}
use Rattle.c_declare.proofs.scope.names_variable.Goals as goal

pub returns-in-Some : goal.returns-in-Some
returns-in-Some c =
    let scopes = c.args.scopes.now in
    let some : 0 < length scopes = c.in-Some.ensures.variant.0 (search rules) in
    let last = outermost scopes c.in-Some.scope.now _ (omega (arith, some)) c.in-Some.ensures.lookup in
    c.is_global.ensures ∙ ap (λ e. is_global e) c.entity_in.ensures
    ∙ sym (ap (λ o. is_global (and_then o (λ scope. entity_in scope c.args.name.now))) last)
