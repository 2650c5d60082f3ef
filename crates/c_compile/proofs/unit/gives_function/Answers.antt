use Rattle.std.proofs.Common.{◌∙◌, ap, sym}
use Rattle.c_types.specs.Types.{Ty, Tys, function, no_types, type_of}
use Rattle.c_types.specs.declared.types.CType.{CType}
use Rattle.c_types.specs.declared.types.CType.TheVariants.{Function}
use Rattle.c_types.specs.declared.types.Signature.{Signature}
use Rattle.c_code.specs.Modules.{gives_function}
use Rattle.c_compile.proofs.unit.gives_function.Goals as goal

abbrev params_of : Ty → Tys
params_of (function r ps) = ps
params_of _ = no_types

pub returns-in-Function : goal.returns-in-Function
returns-in-Function c = λ u.
    let ps = params_of (type_of (Function c.in-Function.f)) in
    c.is_function_pointer.ensures u ps ∙ ap (λ (s : Signature). gives_function u (function (type_of s.result) ps)) c.deref.ensures
    ∙ ap (λ (t : CType). gives_function u (type_of t)) (sym c.in-Function.is)
