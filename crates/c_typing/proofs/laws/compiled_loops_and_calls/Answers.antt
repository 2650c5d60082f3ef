use Rattle.c_typing.proofs.BoundedModules.{function_bounded, function_quiet, start_bounded}
use Rattle.c_typing.proofs.laws.compiled_loops_and_calls.Goals as goal

pub returns-clause-functions : goal.returns-clause-functions
returns-clause-functions c = function_bounded

pub returns-clause-start : goal.returns-clause-start
returns-clause-start c = start_bounded

pub returns-clause-quiet : goal.returns-clause-quiet
returns-clause-quiet c = function_quiet
