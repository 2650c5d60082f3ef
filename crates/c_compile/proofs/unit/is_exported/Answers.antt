use Rattle.std.proofs.Common.{◌∙◌, ◌&&◌, Bool, not, ap, sym}
use Rattle.c_types.specs.Types.{type_of}
use Rattle.c_code.specs.Modules.{gives_function}
use Rattle.c_compile.proofs.unit.is_exported.Goals as goal

pub returns : goal.returns
returns c = λ u.
    ap not (c.gives_function.ensures u)
    ∙ ap (λ (b : Bool). not (b && gives_function u (type_of c.args.f.now.ty))) (sym (sym c.is_main.ensures ∙ c.if-not-is_main.false))
