use Rattle.std.proofs.Common.{◌≡◌, ◌++◌, drop}
use Rattle.ms_text_grammar.specs.Shapes.{param_types}
use Rattle.ms_text_names.proofs.sigs.param_types.Given as goal

abbrev pub invariant-loop-param : goal.invariant-loop-param
invariant-loop-param l = l.types ++ param_types (drop l.param-index l.params) ≡ param_types l.params
