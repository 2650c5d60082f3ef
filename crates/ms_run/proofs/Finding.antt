-- What was found of files is found, too, where more is known or more has happened: the tables go along.
use Rattle.std.proofs.Common.{ℕ, suc, List, [], ◌∷◌, ◌++◌, ◌+◌, subst, arith}
use Rattle.std.specs.Prelude.{Option, length}
use Rattle.ms_module.specs.declared.module.Module.{Module}
use Rattle.ms_machine.specs.Crews.{Input, Run}
use Rattle.ms_job.specs.declared.job.Job.{Job}
use Rattle.ms_run.specs.Answers.{Answer, Contents, Fault, Found, HasBytes, HasModule, Unfound, Unloaded, invalid, overlong, unfound, unread, unreadable}
use Rattle.ms_run.specs.Jobs.{AllLoaded, FirstUnloaded, HasEntries, HasNumbers, RunOfJob, RunsJob, Unnumbered, Unscheduled, executed, here, in_turns, later, listed, no_more, no_number, one_more, unlisted, unloaded, unscheduled}
use Rattle.ms_run.specs.Jobs as jobs
use Rattle.ms_run.specs.Observed.{Shelved}
use Rattle.ms_run.specs.Reporting.{Holds, IsFound}
use Rattle.ms_run.specs.declared.gathering.Naming.{Naming}

-- ---- two ways to know of files, of which the second knows what the first does

module _ (Has Has' : List ℕ → Found → Type 0) (more : (name : List ℕ) (found : Found) → Has name found → Has' name found) where
  pub bytes_more : (name bytes : List ℕ) → HasBytes Has name bytes → HasBytes Has' name bytes
  bytes_more name bytes h = (more name (Contents bytes) h.0, h.1)

  pub unfound_more : (name : List ℕ) (a : Answer) → Unfound Has name a → Unfound Has' name a
  unfound_more name a (unreadable h) = unreadable (more name Fault h)
  unfound_more name a (overlong bytes h long) = overlong bytes (more name (Contents bytes) h) long

  pub module_more : (name : List ℕ) (m : Module) → HasModule Has name m → HasModule Has' name m
  module_more name m h = record { bytes = h.bytes; found = bytes_more name h.bytes h.found; spelled = h.spelled; typed = h.typed }

  pub unloaded_more : (what name : List ℕ) (a : Answer) → Unloaded Has what name a → Unloaded Has' what name a
  unloaded_more what name a (unfound h) = unfound (unfound_more name a h)
  unloaded_more what name a (unread bytes h not) = unread bytes (bytes_more name bytes h) not
  unloaded_more what name a (invalid bytes m part h spelled wrong) = invalid bytes m part (bytes_more name bytes h) spelled wrong

  pub all_more : (files : List (List ℕ × List ℕ)) (modules : List (List ℕ × Module)) → AllLoaded Has files modules → AllLoaded Has' files modules
  all_more files modules no_more = no_more
  all_more files modules (one_more name file m {files = fs} {modules = ms} h all) = one_more name file m (module_more file m h) (all_more fs ms all)

  pub first_more : (naming : Naming) (number : ℕ) (files : List (List ℕ × List ℕ)) (a : Answer) → FirstUnloaded Has naming number files a → FirstUnloaded Has' naming number files a
  first_more naming number files a (here n name file fs h) = here n name file fs (unloaded_more _ file a h)
  first_more naming number files a (later n name file m fs h first) = later n name file m fs (module_more file m h) (first_more naming (suc n) fs a first)

  pub numbers_more : (name numbers : List ℕ) → HasNumbers Has name numbers → HasNumbers Has' name numbers
  numbers_more name numbers h = record { bytes = h.bytes; found = bytes_more name h.bytes h.found; read = h.read }

  pub unnumbered_more : (name : List ℕ) (a : Answer) → Unnumbered Has name a → Unnumbered Has' name a
  unnumbered_more name a (jobs.no_file h) = jobs.no_file (unfound_more name a h)
  unnumbered_more name a (no_number bytes at h not) = no_number bytes at (bytes_more name bytes h) not

  pub entries_more : (job : Job) (entries : List ℕ) → HasEntries Has job entries → HasEntries Has' job entries
  entries_more job entries (in_turns e) = in_turns e
  entries_more job entries (listed name numbers e h) = listed name numbers e (numbers_more name numbers h)

  pub unscheduled_more : (job : Job) (a : Answer) → Unscheduled Has job a → Unscheduled Has' job a
  unscheduled_more job a (unlisted name e h) = unlisted name e (unnumbered_more name a h)

  pub runs_job_more : (naming : Naming) (given : Input) (job : Job) (ran : Option Run) (a : Answer) → RunsJob Has naming given job ran a → RunsJob Has' naming given job ran a
  runs_job_more naming given job ran a (unloaded h) = unloaded (first_more naming 0 job.modules a h)
  runs_job_more naming given job ran a (unscheduled ms all h) = unscheduled ms (all_more job.modules ms all) (unscheduled_more job a h)
  runs_job_more naming given job ran a (executed ms entries all h answers) = executed ms entries (all_more job.modules ms all) (entries_more job entries h) answers

  pub run_of_job_more : (given : Input) (job : Job) (run : Run) → RunOfJob Has given job run → RunOfJob Has' given job run
  run_of_job_more given job run h =
      record { modules = h.modules; entries = h.entries; loaded = all_more job.modules h.modules h.loaded; scheduled = entries_more job h.entries h.scheduled; ran = h.ran }

-- ---- modules behind others

module _ (Has : List ℕ → Found → Type 0) where
  pub all_then : (front : List (List ℕ × List ℕ)) (loaded : List (List ℕ × Module)) (name file : List ℕ) (m : Module) → AllLoaded Has front loaded → HasModule Has file m → AllLoaded Has (front ++ (name, file) ∷ []) (loaded ++ (name, m) ∷ [])
  all_then front loaded name file m no_more h = one_more name file m h no_more
  all_then front loaded name file m (one_more n f k {files = fs} {modules = ms} is all) h = one_more n f k is (all_then fs ms name file m all h)

  -- the first without a module stands behind those that have one
  pub first_after : (naming : Naming) (number : ℕ) (front rest : List (List ℕ × List ℕ)) (loaded : List (List ℕ × Module)) (a : Answer)
      → AllLoaded Has front loaded → FirstUnloaded Has naming (number + length loaded) rest a → FirstUnloaded Has naming number (front ++ rest) a
  first_after naming number front rest loaded a no_more h = subst (λ n. FirstUnloaded Has naming n rest a) (omega arith) h
  first_after naming number front rest loaded a (one_more name file m {files = fs} {modules = ms} is all) h =
      later number name file m (fs ++ rest) is (first_after naming (suc number) fs rest ms a all (subst (λ n. FirstUnloaded Has naming n rest a) (omega arith) h))

-- ---- what is known of files at first

-- is found
pub held_found : (s : Shelved) (name : List ℕ) (found : Found) → Holds s.old name found → IsFound s name found
held_found s name (Contents bytes) h = h
held_found s name Fault h = absurd h
