use Rattle.std.proofs.Common.{◌∙◌, ap}
use Rattle.c_types.specs.Types.{function, type_of}
use Rattle.c_types.specs.refinement.Views.{types_in}
use Rattle.c_types.specs.declared.types.Signature.{Signature}
use Rattle.c_check_types.specs.TypeEquality.{tys_of}
use Rattle.c_check_types.proofs.TypeLists.{function_is}
use Rattle.c_check_types.proofs.types.function_type.Goals as goal

pub returns : goal.returns
returns c =
    function_is c.in_ok-signature.signature
    ∙ ap (λ (s : Signature). function (type_of s.result) (tys_of (types_in s.params.items))) c.in_ok-signature.ensures.ok
