use Rattle.std.proofs.Common.{◌∙◌, get_or, sym}
use Rattle.c_types.specs.Layout.{size}
use Rattle.c_types.specs.Types.{void}
use Rattle.c_typed.specs.declared.ops.Variable.TheVariants.{Global}
use Rattle.c_code.specs.Statements.{made}
use Rattle.c_compile.proofs.Bodies.{not_chosen}
use Rattle.c_compile.proofs.functions.make_global.Goals as goal

pub returns-then-not-branch : goal.returns-then-not-branch
returns-then-not-branch c =
    let t = c.args.t.now in
    let v = Global c.args.n in
    not_chosen c.args.body.now (t.target.is_object v) (made t.target v (size t.target.structs (get_or t.globals c.args.n void))) (sym c.in_ok-is_object.ensures ∙ c.if-not-branch.true)
