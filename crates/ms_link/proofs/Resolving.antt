-- What the imports of a module are given, behind those that were looked for.
use Rattle.std.proofs.Common.{List, ◌++◌, Result, Ok, Err}
use Rattle.ms_machine.specs.declared.externs.Extern.{Extern}
use Rattle.ms_machine.specs.Externs.{Fault}

abbrev pub with_front : List Extern → Result (List Extern) Fault → Result (List Extern) Fault
with_front front (Ok es) = Ok (front ++ es)
with_front front (Err fault) = Err fault
