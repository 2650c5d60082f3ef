-- The exit status with which the program ends.
use Rattle.std.specs.Prelude.{ℕ, Result, Ok, Err}
use Rattle.std.specs.declared.alloc.AllocError.{AllocError}
use Rattle.ms_run.specs.refinement.Statuses.{code_of}
use Rattle.ms_run.specs.declared.status.Status.{Status}
use Rattle.ms_run.specs.declared.status.Status.TheVariants.{OutOfMemory}

-- that of the status, or of want of memory
abbrev pub code_at_end : Result Status AllocError → ℕ
code_at_end (Ok status) = code_of status
code_at_end (Err e) = code_of OutOfMemory
