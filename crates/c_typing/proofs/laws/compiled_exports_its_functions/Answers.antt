use Rattle.c_typing.proofs.Interface.{main_known, makes_known, takes}
use Rattle.c_typing.proofs.Modules.{exports_differ}
use Rattle.c_typing.proofs.laws.compiled_exports_its_functions.Goals as goal

pub returns-clause-exports : goal.returns-clause-exports
returns-clause-exports c = makes_known

pub returns-clause-distinct : goal.returns-clause-distinct
returns-clause-distinct c = exports_differ

pub returns-clause-main : goal.returns-clause-main
returns-clause-main c = main_known

pub returns-clause-imports : goal.returns-clause-imports
returns-clause-imports c = takes
