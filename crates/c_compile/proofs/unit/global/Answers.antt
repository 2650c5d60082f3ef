use Rattle.std.proofs.Common.{◌∙◌, true, List, [], ◌∷◌, ap}
use Rattle.ms_module.specs.declared.instr.Instr.{Instr}
use Rattle.ms_module.specs.declared.module.Global.{Global as GlobalEntry}
use Rattle.c_compile.proofs.unit.global.Goals as goal

pub returns : goal.returns
returns c = λ u.
    let of_code : List (List Instr) → GlobalEntry = λ code. record { ty = record { ty = c.args.ty; mutable = true }; init = code } in
    ap of_code (c.in_ok-constant.ensures ∙ ap (λ (i : Instr). (i ∷ []) ∷ []) (c.first_of_type.ensures.is u))
