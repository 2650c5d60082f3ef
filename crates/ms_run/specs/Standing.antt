-- What is told of each task: whether it is apart from all others, and how it stands, a line each.
use Rattle.std.specs.Prelude.{ℕ, suc, Bool, true, false, List, [], ◌∷◌, ◌++◌, codes}
use Rattle.std.specs.Fmt.{decimal}
use Rattle.ms_machine.specs.Store.{Store}
use Rattle.ms_tasks.specs.Joined.{AreApart}
use Rattle.ms_tasks.specs.declared.state.TaskState.{TaskState}
use Rattle.ms_tasks.specs.declared.state.TaskState.TheVariants.{Ended, Trapped, Unended}
use Rattle.ms_run.specs.Lines.{line, result_line, trap_line}

abbrev pub apart_word : Bool → List ℕ
apart_word true = codes "apart"
apart_word false = codes "joined"

-- what stands behind that, up to the end of the line: what it gave, why it was stopped, or that it has more to do
abbrev pub state_line : TaskState → List ℕ
state_line Unended = line (codes "open")
state_line (Ended value) = result_line value
state_line (Trapped trap) = trap_line trap

-- the line of the task of this number
abbrev pub standing_line : (number : ℕ) → (apart : Bool) → TaskState → List ℕ
standing_line number apart state = codes "task " ++ decimal number ++ codes " " ++ apart_word apart ++ codes " " ++ state_line state

-- the lines of the tasks from this number on, a flag for each
abbrev pub standing_lines : (state : ℕ → TaskState) → (number : ℕ) → (flags : List Bool) → List ℕ
standing_lines state number [] = []
standing_lines state number (apart ∷ flags) = standing_line number apart (state number) ++ standing_lines state (suc number) flags

-- those of all tasks, whose functions have these addresses, if they are asked for
pub data AreStanding (s : Store) (addresses : List ℕ) (state : ℕ → TaskState) : (asked : Bool) → (lines : List ℕ) → Type 0 where
  unasked : AreStanding s addresses state false []
  asked : (flags : List Bool) → AreApart s addresses flags → AreStanding s addresses state true (standing_lines state 0 flags)
