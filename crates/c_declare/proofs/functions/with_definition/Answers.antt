use Rattle.std.proofs.Common.{◌∙◌, ◌<◌, length, ap, arith}
use Rattle.c_types.specs.refinement.Views.{types_in}
use Rattle.c_typed.specs.refinement.Views.{function_of, stmt_of}
use Rattle.c_typed.specs.declared.unit.Function.{Function}
use Rattle.c_declare.specs.Functions.{defined}
use Rattle.c_declare.proofs.Defined.{defined_at}
use Rattle.c_declare.proofs.functions.with_definition.Goals as goal

pub returns : goal.returns
returns c =
    let fs = c.args.functions.now.items in
    let f = c.index_mut-f.result.now in
    let slots = types_in c.args.slots.items in
    let body = stmt_of c.args.body.value in
    let within : c.args.n < length fs = omega (arith, c.if-len-n.false, c.len.ensures, c.args.functions.now.ok.0) in
    defined_at fs c.args.n f c.define.new.f slots body within
    (c.define.ensures ∙ ap (λ (g : Function). defined (function_of g) slots body) c.index_mut-f.ensures.value)
