-- Jobs: what each line says, by the job so far; a text that is a job, and the first fault of another one.
use Rattle.std.specs.Prelude.{◌==◌, ℕ, ◌+◌, ◌-◌, Bool, true, false, not, ◌&&◌, ◌||◌, List, [], ◌∷◌, ◌++◌, length, nat_lt, nat_le, slice_index, position, codes, unwrap_or, Option, Some, None, is_some, is_none, option_and_then, option_map, Result, Ok, Err, if◌then◌else◌}
use Rattle.std.specs.Char.{is_ascii_alphanumeric}
use Rattle.std.specs.List.{list_all, list_any}
use Rattle.std.specs.Option.{option_map_or}
use Rattle.std.specs.Str.{bytes_eq, is_utf8}
use Rattle.std.specs.Str.Lines.{lines}
use Rattle.ms_command_line.specs.Commands as options
use Rattle.ms_command_line.specs.Commands.{default_budget, default_memory}
use Rattle.ms_job.specs.Words.{number_within, words}
use Rattle.ms_job.specs.declared.draft.Draft.{Draft}
use Rattle.ms_job.specs.declared.job.Job.{Job}
use Rattle.ms_job.specs.declared.fault.JobFault.{JobFault}
use Rattle.ms_job.specs.declared.fault.JobFault.TheVariants.{Budget, Line, NoTask}

-- ---- limits; those of the budget and of the memory are those of the command line

-- how many lines may name a module, how many a task, and how many ask what modules reach
abbrev pub most_lines : ℕ
most_lines = 64

-- the greatest number of a task
abbrev pub last_task : ℕ
last_task = 63

-- how many entries in a row may name one task
abbrev pub most_turns : ℕ
most_turns = 1000000

-- the greatest budget of a run with a trace
abbrev pub most_traced : ℕ
most_traced = 1000000

-- ---- what a line says: the job behind it, by the job so far

-- a letter, a digit, `_`, `-` or `.`
abbrev pub is_name_byte : ℕ → Bool
is_name_byte b = is_ascii_alphanumeric b || b == 95 || b == 45 || b == 46

-- the name of a module: not those by which modules import from the host and from C
abbrev pub is_name : List ℕ → Bool
is_name word =
    not (length word == 0) && nat_le (length word) 64 && not (bytes_eq word (codes "env")) && not (bytes_eq word (codes "c"))
    && list_all is_name_byte word

-- the number of the module of this name, from 0
abbrev pub number_of : Draft → List ℕ → Option ℕ
number_of d name = position (λ entry. bytes_eq entry.0 name) d.modules

-- `module NAME FILE`: a new name, at most so many such lines
abbrev pub with_module : Draft → List ℕ → List ℕ → Option Draft
with_module d name file =
    if is_name name && is_none (number_of d name) && nat_lt (length d.modules) most_lines
    then Some (record d { modules = d.modules ++ (name, file) ∷ [] })
    else None

-- `task MODULE EXPORT`: of a module named above, at most so many such lines
abbrev pub with_task : Draft → List ℕ → List ℕ → Option Draft
with_task d name export =
    if nat_lt (length d.tasks) most_lines
    then option_map (λ number. record d { tasks = d.tasks ++ (number, export) ∷ [] }) (number_of d name)
    else None

-- `turns Q`: once, and not beside a schedule
abbrev pub with_turns : Draft → List ℕ → Option Draft
with_turns d word =
    if is_some d.turns || is_some d.schedule then None
    else option_map (λ n. record d { turns = Some n }) (number_within 1 most_turns word)

-- `schedule FILE`: once, and not beside turns
abbrev pub with_schedule : Draft → List ℕ → Option Draft
with_schedule d file = if is_some d.turns || is_some d.schedule then None else Some (record d { schedule = Some file })

-- `budget N`: once
abbrev pub with_budget : Draft → List ℕ → Option Draft
with_budget d word =
    if is_some d.budget then None else option_map (λ n. record d { budget = Some n }) (number_within options.budget.least options.budget.most word)

-- `memory N`: once
abbrev pub with_memory : Draft → List ℕ → Option Draft
with_memory d word =
    if is_some d.memory then None else option_map (λ n. record d { memory = Some n }) (number_within options.memory.least options.memory.most word)

-- `trace FILE`, to which the events are written: once
abbrev pub with_trace : Draft → List ℕ → Option Draft
with_trace d file = if is_some d.trace then None else Some (record d { trace = Some file })

-- `dump`, which asks for the live segments: once
abbrev pub with_dump : Draft → Option Draft
with_dump d = if d.dump then None else Some (record d { dump = true })

-- `each`, which asks how each task stands: once
abbrev pub with_each : Draft → Option Draft
with_each d = if d.each then None else Some (record d { each = true })

-- the number of a task that stands above
abbrev pub task_of : Draft → List ℕ → Option ℕ
task_of d word = option_and_then (λ task. if nat_lt task (length d.tasks) then Some task else None) (number_within 0 last_task word)

-- `only N`, by which the entries of all other tasks name none: once, of a task above, by its number
abbrev pub with_only : Draft → List ℕ → Option Draft
with_only d word = if is_some d.only then None else option_map (λ task. record d { only = Some task }) (task_of d word)

-- the number of the module of this name, which stands above and isn't among these
abbrev pub new_in : Draft → (so_far : List ℕ) → List ℕ → Option ℕ
new_in d so_far name = option_and_then (λ number. if list_any (λ n. n == number) so_far then None else Some number) (number_of d name)

-- the numbers of the modules of these names, none twice
abbrev pub set_of : Draft → (so_far : List ℕ) → List (List ℕ) → Option (List ℕ)
set_of d so_far [] = Some so_far
set_of d so_far (name ∷ names) = option_and_then (λ number. set_of d (so_far ++ number ∷ []) names) (new_in d so_far name)

-- `reach T MODULE ..`, which asks what these modules reach with a task: of a task above, by its number, and 1 to 64 different modules
-- named above; at most so many such lines
abbrev pub with_reach : Draft → List ℕ → List (List ℕ) → Option Draft
with_reach d word names =
    if nat_lt (length d.reach) most_lines && nat_le (length names) most_lines
    then option_and_then (λ task. option_map (λ modules. record d { reach = d.reach ++ (task, modules) ∷ [] }) (set_of d [] names)) (task_of d word)
    else None

-- a line of these words; any other words break a rule
abbrev pub with_words : Draft → List (List ℕ) → Option Draft
with_words d (word ∷ []) =
    if bytes_eq word (codes "dump") then with_dump d
    else if bytes_eq word (codes "each") then with_each d
    else None
with_words d (word ∷ x ∷ []) =
    if bytes_eq word (codes "turns") then with_turns d x
    else if bytes_eq word (codes "schedule") then with_schedule d x
    else if bytes_eq word (codes "budget") then with_budget d x
    else if bytes_eq word (codes "memory") then with_memory d x
    else if bytes_eq word (codes "trace") then with_trace d x
    else if bytes_eq word (codes "only") then with_only d x
    else None
with_words d (word ∷ x ∷ y ∷ []) =
    if bytes_eq word (codes "module") then with_module d x y
    else if bytes_eq word (codes "task") then with_task d x y
    else if bytes_eq word (codes "reach") then with_reach d x (y ∷ [])
    else None
with_words d (word ∷ x ∷ y ∷ z ∷ more) = if bytes_eq word (codes "reach") then with_reach d x (y ∷ z ∷ more) else None
with_words d _ = None

-- an empty line, or one that begins with `#`
abbrev pub is_passed_over : List ℕ → Bool
is_passed_over line = length line == 0 || slice_index line 0 == 35

-- whether a space stands at the beginning or the end
abbrev pub has_outer_space : List ℕ → Bool
has_outer_space line = slice_index line 0 == 32 || slice_index line (length line - 1) == 32

-- a line; `None` where it isn't UTF-8 or breaks a rule
abbrev pub with_line : Draft → List ℕ → Option Draft
with_line d line =
    if not (is_utf8 line) then None
    else if is_passed_over line then Some d
    else if has_outer_space line then None
    else with_words d (words line)

-- ---- a text

abbrev pub no_lines : Draft
no_lines = record {
  modules = [];
  tasks = [];
  turns = None;
  schedule = None;
  budget = None;
  memory = None;
  trace = None;
  dump = false;
  reach = [];
  each = false;
  only = None;
}

-- the job behind all lines, or the number of the first that breaks a rule, where n is that of the first one
abbrev pub with_lines : ℕ → Draft → List (List ℕ) → Result Draft ℕ
with_lines n d [] = Ok d
with_lines n d (line ∷ more) = option_map_or (λ e. with_lines (n + 1) e more) (with_line d line) (Err n)

-- what the lines said, with what holds where none says it
abbrev pub job_of : Draft → Job
job_of d = record {
  modules = d.modules;
  tasks = d.tasks;
  turns = unwrap_or d.turns 1;
  schedule = d.schedule;
  budget = unwrap_or d.budget default_budget;
  memory = unwrap_or d.memory default_memory;
  trace = d.trace;
  dump = d.dump;
  reach = d.reach;
  each = d.each;
  only = d.only;
  counts = false;
}

-- the job of what all lines said, or the first fault: of a line, then that there is no task, then the budget
abbrev pub checked : Result Draft ℕ → Result Job JobFault
checked (Err n) = Err (Line n)
checked (Ok d) =
    if length d.tasks == 0 then Err NoTask
    else if is_some d.trace && nat_lt most_traced (unwrap_or d.budget default_budget) then Err Budget
    else Ok (job_of d)

-- the job of a text, or its first fault. Lines are ended by LF or by CR LF, the last one perhaps by nothing
abbrev pub job_in : List ℕ → Result Job JobFault
job_in text = checked (with_lines 1 no_lines (lines text))
