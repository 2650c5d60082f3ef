-- Schedules, as lists of entries.
use Rattle.std.specs.Prelude.{◌==◌, ℕ, ◌<◌, ◌≤◌, List, drop, length, take, if◌then◌else◌, Option, Some, None}
use Rattle.ms_machine.specs.Crews.{turns_from}
use Rattle.ms_tasks.specs.Alone.{by_only}
use Rattle.ms_tasks.specs.declared.schedule.Entries.{Entries}
use Rattle.ms_tasks.specs.declared.schedule.Entries.TheVariants.{Listed, Turns}
use Rattle.ms_tasks.specs.declared.schedule.Schedule.{Schedule}

-- one entry, where one of so many tasks is named alone
abbrev pub named : Option ℕ → (tasks : ℕ) → ℕ → ℕ
named None tasks k = k
named (Some n) tasks k = if k == n then k else tasks

-- the first entries, so many at most, for so many tasks
abbrev pub first_of : Entries → (tasks budget : ℕ) → List ℕ
first_of (Turns q) n budget = turns_from q n 0 budget
first_of (Listed entries) n budget = take budget entries.items

abbrev pub entries_of : Schedule → (tasks budget : ℕ) → List ℕ
entries_of s n budget = by_only s.only n (first_of s.entries n budget)

-- a turn has at least one entry
abbrev pub TurnsSome : Entries → Type 0
TurnsSome (Turns q) = 0 < q
TurnsSome (Listed entries) = Unit {0}

abbrev pub HasTurns : Schedule → Type 0
HasTurns s = TurnsSome s.entries

-- so many entries from one on, where there are so many
abbrev pub some_of : Entries → (tasks from most : ℕ) → List ℕ
some_of (Turns q) n from most = turns_from q n from most
some_of (Listed entries) n from most = take most (drop from entries.items)

abbrev pub part_of : Schedule → (tasks from most : ℕ) → List ℕ
part_of s n from most = by_only s.only n (some_of s.entries n from most)

abbrev pub AreThere : Entries → ℕ → Type 0
AreThere (Turns q) n = Unit {0}
AreThere (Listed entries) n = n ≤ length entries.items

abbrev pub HasEntries : Schedule → ℕ → Type 0
HasEntries s n = AreThere s.entries n
