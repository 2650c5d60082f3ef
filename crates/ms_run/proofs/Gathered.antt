-- What was gathered for a job: its modules, and its schedule.
use Rattle.std.proofs.Common.{◌≡◌, ◌∙◌, ℕ, ◌+◌, inr, List, [], ◌∷◌, ◌++◌, drop, length, append-nil, append_assoc, slice_get, refl, sym, ap, subst, suc, Option, Some, Err, arith}
use Rattle.ms_job.specs.Schedules.{schedule_in}
use Rattle.ms_job.specs.declared.fault.SchedFault.TheVariants.{At}
use Rattle.ms_module.specs.declared.module.Module.{Module}
use Rattle.ms_outside.specs.Files.{Files}
use Rattle.ms_outside.specs.Shelf.{SameCounts}
use Rattle.ms_tasks.proofs.Chaining.{drop_at}
use Rattle.ms_run.specs.Answers.{Answer, HasBytes, HasModule, Unloaded}
use Rattle.ms_run.specs.Jobs.{AllLoaded, FirstUnloaded, Unnumbered, here, no_more, no_number, what_of}
use Rattle.ms_run.specs.Lines.{schedule_line}
use Rattle.ms_run.specs.Observed.{Report, Shelved}
use Rattle.ms_run.specs.Reporting.{Holds, IsFound, IsUntouched, KeepsFiles, Reports, Tells, printed, unprinted}
use Rattle.ms_run.specs.declared.gathering.Naming.{Naming}
use Rattle.ms_run.specs.declared.status.Status.{Status}
use Rattle.ms_run.specs.declared.status.Status.TheVariants.{OutOfMemory, Refused}
use Rattle.ms_run.proofs.Finding.{all_more, all_then, first_after, held_found}

-- ---- modules: those of a front of the files are loaded

pub record IsLoading (files : Option Files) (whole left : List (List ℕ × List ℕ)) (modules : List (List ℕ × Module)) (number : ℕ) : Type 0 where
  pub front : List (List ℕ × List ℕ)
  pub is_front : front ++ left ≡ whole
  pub loaded : AllLoaded (Holds files) front modules
  pub number_is : number ≡ length modules

pub none_loaded : (files : Option Files) (whole : List (List ℕ × List ℕ)) → IsLoading files whole whole [] 0
none_loaded files whole = record { front = []; is_front = refl; loaded = no_more; number_is = refl }

module _ (files : Option Files) (whole : List (List ℕ × List ℕ)) (modules : List (List ℕ × Module)) (number : ℕ) where
  pub one_loaded : (k : ℕ) (item : List ℕ × List ℕ) (m : Module) → slice_get whole k ≡ Some item → IsLoading files whole (drop k whole) modules number → HasModule (Holds files) item.1 m
      → IsLoading files whole (drop (k + 1) whole) (modules ++ (item.0, m) ∷ []) (number + 1)
  one_loaded k item m found so_far has =
      let next : suc k ≡ k + 1 = omega arith in
      let left : drop k whole ≡ item ∷ drop (k + 1) whole = drop_at whole k item found ∙ ap (λ j. item ∷ drop j whole) next in
      let count = so_far.number_is in
      record {
        front = so_far.front ++ item ∷ [];
        is_front = append_assoc so_far.front (item ∷ []) (drop (k + 1) whole) ∙ (ap (λ x. so_far.front ++ x) (sym left) ∙ so_far.is_front);
        loaded = all_then (Holds files) so_far.front modules item.0 item.1 m so_far.loaded has;
        number_is = ap (λ n. n + 1) count ∙ sym (length_push modules (item.0, m));
      }
    where
      length_push : {A : Type 0} (xs : List A) (x : A) → length (xs ++ x ∷ []) ≡ length xs + 1
      length_push [] x = refl
      length_push (y ∷ ys) x = let rest = length_push ys x in omega (arith, rest)

  pub all_loaded : IsLoading files whole [] modules number → AllLoaded (Holds files) whole modules
  all_loaded so_far = subst (λ (x : List (List ℕ × List ℕ)). AllLoaded (Holds files) x modules) (sym (append-nil so_far.front) ∙ so_far.is_front) so_far.loaded

-- the next one has no module
pub first_printed : (s : Shelved) (naming : Naming) (whole : List (List ℕ × List ℕ)) (modules : List (List ℕ × Module)) (number k : ℕ) (item : List ℕ × List ℕ) → slice_get whole k ≡ Some item → IsLoading s.old whole (drop k whole) modules number
    → (a : Answer) → Unloaded (IsFound s) (what_of naming number) item.1 a → FirstUnloaded (IsFound s) naming 0 whole a
first_printed s naming whole modules number k item found so_far a h =
    let rest = drop (suc k) whole in
    let there : FirstUnloaded (IsFound s) naming (0 + length modules) (item ∷ rest) a =
    let is = so_far.number_is in
    let same : number ≡ 0 + length modules = omega (arith, is) in
    subst (λ n. FirstUnloaded (IsFound s) naming n (item ∷ rest) a) same (here number item.0 item.1 rest h) in
    subst (λ (x : List (List ℕ × List ℕ)). FirstUnloaded (IsFound s) naming 0 x a) (ap (λ x. so_far.front ++ x) (sym (drop_at whole k item found)) ∙ so_far.is_front)
    (first_after (IsFound s) naming 0 so_far.front (item ∷ rest) modules a (all_more (Holds s.old) (IsFound s) (held_found s) so_far.front modules so_far.loaded) there)

-- ---- a schedule

pub no_number_printed : (s : Shelved) (r : Report) (name bytes : List ℕ) (at : ℕ) (result : Status) → HasBytes (Holds s.old) name bytes → schedule_in bytes ≡ Err (At at) → SameCounts s.reads_old s.reads_new → KeepsFiles s → Reports Refused (schedule_line at) r result → Tells (Unnumbered (IsFound s) name) s r result
no_number_printed s r name bytes at result has is counts files reports = printed Refused (schedule_line at) (no_number bytes at has is) (inr counts) files reports

-- ---- memory ran out

pub starved_printed : (Gives : Answer → Type 0) (s : Shelved) (r : Report) → IsUntouched s r → Tells Gives s r OutOfMemory
starved_printed Gives s r h = unprinted h.counts h.files h.report
