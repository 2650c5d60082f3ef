use Rattle.std.proofs.Common.{◌∙◌, List, map, sym, ap}
use Rattle.c_types.specs.Types.{type_of}
use Rattle.c_types.specs.declared.types.CType.{CType}
use Rattle.c_types.specs.declared.types.Signature.{Signature}
use Rattle.c_code.specs.Functions.{params_in}
use Rattle.c_code.proofs.ParameterTypes.{params_are}
use Rattle.c_compile.proofs.functions.params_in.Goals as goal

pub returns-in-Function : goal.returns-in-Function
returns-in-Function c =
    ap (λ (ts : List CType). map type_of ts) (c.deref-in-Function.ensures.value ∙ ap (λ (s : Signature). s.params.items) c.deref.ensures)
    ∙ sym (params_are c.in-Function.f) ∙ ap (λ (t : CType). params_in (type_of t)) (sym c.in-Function.is)
