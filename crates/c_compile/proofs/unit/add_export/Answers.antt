use Rattle.std.proofs.Common.{◌∙◌, sym}
use Rattle.c_typed.specs.refinement.Views.{function_of, typed_of}
use Rattle.c_compile.proofs.Modules.{not_exported, one_exported}
use Rattle.c_compile.proofs.unit.add_export.Goals as goal

pub returns-then-not-is_exported : goal.returns-then-not-is_exported
returns-then-not-is_exported c =
    let u = typed_of c.args.unit.now in
    not_exported u c.args.number (function_of c.in_ok-f.f.now) c.args.exports.now c.in_ok-f.ensures (sym (c.is_exported.ensures u) ∙ c.if-not-is_exported.true)

pub returns : goal.returns
returns c =
    let u = typed_of c.args.unit.now in
    one_exported u c.args.number (function_of c.in_ok-f.f.now) c.args.exports.now c.push.new.self c.in_ok-name.name c.in_ok-index.field-0 c.in_ok-f.ensures (sym (c.is_exported.ensures u) ∙ c.if-not-is_exported.false)
    (c.in_ok-name.ensures ∙ c.in_ok-text_of.ensures) c.in_ok-index.ensures c.in_ok-push.ensures.items
