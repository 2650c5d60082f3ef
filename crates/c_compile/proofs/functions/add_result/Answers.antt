use Rattle.std.proofs.Common.{◌∙◌, sym}
use Rattle.c_types.specs.Types.{type_of}
use Rattle.c_compile.proofs.Bodies.{result_none}
use Rattle.c_compile.proofs.functions.add_result.Goals as goal

pub returns-in-None : goal.returns-in-None
returns-in-None c = result_none c.args._t.now.target (type_of c.args.result_type.now) c.args.body.now (sym c.scalar.ensures ∙ c.in-None.is)
