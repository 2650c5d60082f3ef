use Rattle.std.proofs.Common.{◌∙◌, map, sym}
use Rattle.c_types.specs.Types.{type_of}
use Rattle.c_compile.proofs.Bodies.{params_stay}
use Rattle.c_compile.proofs.functions.add_params.Goals as goal

pub returns-then-first-eq0 : goal.returns-then-first-eq0
returns-then-first-eq0 c = params_stay c.args.t.now.target (map type_of c.args.params.now) c.args.body.now (sym c.requires ∙ c.if-first-eq0.true)
