use Rattle.std.proofs.Common.{◌∙◌, ◌++◌, [], ◌∷◌, ap}
use Rattle.ms_types.specs.declared.types.ValType.{ValType}
use Rattle.ms_module.specs.declared.module.Global.{Global as GlobalEntry}
use Rattle.c_types.specs.Types.{type_of}
use Rattle.c_typed.specs.refinement.Views.{typed_of}
use Rattle.c_code.specs.Modules.{global_of}
use Rattle.c_compile.proofs.Modules.{held_is}
use Rattle.c_compile.proofs.unit.add_variable.Goals as goal

pub returns : goal.returns
returns c = λ t e.
    let u = typed_of c.args.unit.now in
    let old = c.args.all.now in
    c.in_ok-push.ensures.items
    ∙ ap (λ (g : GlobalEntry). old ++ g ∷ []) (c.in_ok-global.ensures u)
    ∙ ap (λ (v : ValType). old ++ global_of u v ∷ [])
    (c.held_as-ty.ensures
    ∙ held_is u c.args.number c.args.objects.now.globals.items c.in_ok-is_object.field-0 t (type_of c.in_ok-variable_at.field-0.now) c.requires c.in_ok-is_object.ensures
    c.in_ok-variable_at.ensures e)
