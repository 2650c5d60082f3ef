use Rattle.std.proofs.Common.{◌∙◌, List, ap, arith}
use Rattle.ms_module.specs.declared.module.Func.{Func}
use Rattle.c_code.specs.Limits.{instructions_of}
use Rattle.c_compile.proofs.Modules.{instructions-push}
use Rattle.c_compile.proofs.unit.funcs.Goals as goal

pub returns-clause-small : goal.returns-clause-small
returns-clause-small c =
    let more = ap (λ (fs : List Func). instructions_of fs) c.in_ok-push.ensures.items ∙ instructions-push c.add_funcs.new.funcs c.in_ok-start.start in
    let none = ap (λ (fs : List Func). instructions_of fs) c.new-funcs.ensures in
    omega (arith, more, none, c.in_ok-_left.ensures, c.in_ok-add_funcs.ensures.room)
