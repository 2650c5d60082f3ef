use Rattle.std.proofs.Common.{◌++◌, arith}
use Rattle.std.proofs.lemmas.List.{length-map}
use Rattle.c_types.specs.Types.{type_of}
use Rattle.c_typed.specs.refinement.Views.{typed_of}
use Rattle.c_code.specs.Modules.{globals_from}
use Rattle.c_compile.proofs.Modules.{globals_step}
use Rattle.c_compile.proofs.unit.add_variables.Goals as goal

pub loop-n-preserved : goal.loop-n-preserved
loop-n-preserved c =
    let u = typed_of c.args.unit.now in
    globals_step u c.loop-n.n u.globals c.loop-n.all c.add_variable.new.all (c.args.all.now ++ globals_from u 0 u.globals)
    (omega (arith, c.loop-n-test.true, c.in_ok-n-end.ensures, c.len.ensures, length-map c.args.unit.now.globals.items type_of)) c.in_ok-add_variable.ensures c.loop-n.invariant
