use Rattle.std.proofs.Common.{◌∙◌, ℕ, [], ◌∷◌, subst, sym}
use Rattle.ms_emit.specs.Codes.{plain}
use Rattle.ms_emit.specs.refinement.Parts.{Adds}
use Rattle.ms_module.specs.declared.instr.Instr.{Instr}
use Rattle.ms_module.specs.declared.instr.Instr.TheVariants.{LocalGet}
use Rattle.c_types.specs.Types.{type_of}
use Rattle.c_typed.specs.declared.ops.Variable.TheVariants.{Local}
use Rattle.c_code.specs.Statements.{made}
use Rattle.c_compile.proofs.Bodies.{param_bare}
use Rattle.c_compile.proofs.functions.add_param.Goals as goal

pub returns-in-None : goal.returns-in-None
returns-in-None c =
    let t = c.args.t.now.target in
    let n = c.args.n in
    let s0 = c.args.body.now in
    let s1 = c.make.new.body in
    let s2 = c.add_two-2.new.body in
    param_bare t n (type_of c.args.ty.now) s0 s1 s2 (sym c.in_ok-is_object.ensures ∙ c.if-not-branch.false) (sym c.scalar.ensures ∙ c.in-None.is)
    (subst (λ (k : ℕ). Adds s0 s1 (made t (Local n) k)) c.in_ok-size.ensures c.in_ok-make.ensures)
    (subst (λ (i : Instr). Adds s1 s2 (plain (i ∷ LocalGet n ∷ []))) c.in_ok-get.ensures.is c.in_ok-add_two.ensures)
