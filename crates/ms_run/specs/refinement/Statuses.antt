-- The numbers of the statuses, which are the program's exit statuses.
use Rattle.std.specs.Prelude.{ℕ}
use Rattle.ms_run.specs.declared.status.Status.{Status}
use Rattle.ms_run.specs.declared.status.Status.TheVariants.{Done, OutOfBudget, OutOfMemory, ReadFault, Refused, TooLong, Trapped, Usage, WriteFault}

abbrev pub code_of : Status → ℕ
code_of Done = 0
code_of Trapped = 1
code_of Usage = 2
code_of Refused = 3
code_of OutOfBudget = 4
code_of ReadFault = 5
code_of WriteFault = 6
code_of OutOfMemory = 7
code_of TooLong = 8
