-- Each line keeps the bounds of a draft, and so each job that a text says is within them.
use Rattle.std.proofs.Common.{◌≡◌, ◌≢◌, ◌∙◌, ℕ, zero, suc, ◌+◌, ◌<◌, ◌≤◌, ◌&&◌, ◌||◌, ◌==◌, Bool, true, false, cond, not, List, [], ◌∷◌, ◌++◌, Option, Some, None, Result, Ok, Err, IfOk, IfSome, is_none, is_some, length, map, nat_le, nat_lt, option_map, option_and_then, unwrap_or, codes, refl, sym, subst, ltb-true, leb-true, length-append, true≢false, arith}
use Rattle.std.specs.List.{All, list_any, position_from, position_or_len}
use Rattle.std.specs.Option.{option_map_or}
use Rattle.std.specs.Str.{bytes_eq, is_utf8}
use Rattle.std.specs.Str.Lines.{lines}
use Rattle.std.proofs.lemmas.Iterator.Adapters.{position_from-zero}
use Rattle.std.proofs.lemmas.List.Elements.{All-nil, All-push, All-weaker}
use Rattle.std.proofs.lemmas.Option.{none-some}
use Rattle.std.proofs.lemmas.Slice.Eq.{bytes_eq-Decides}
use Rattle.ms_rules.specs.Modules.{AreDistinct, IsNotAmong}
use Rattle.ms_command_line.specs.Commands as options
use Rattle.ms_command_line.specs.Commands.{default_budget, default_memory}
use Rattle.ms_job.specs.refinement.Bounds.{AreThere, IsBounded}
use Rattle.ms_job.specs.Jobs.{checked, has_outer_space, is_name, is_passed_over, job_in, job_of, new_in, no_lines, number_of, set_of, task_of, with_budget, with_dump, with_each, with_line, with_lines, with_memory, with_module, with_only, with_reach, with_schedule, with_task, with_trace, with_turns, with_words, last_task, most_lines, most_turns}
use Rattle.ms_job.specs.Words.{number_behind, number_within, within, words}
use Rattle.ms_job.specs.declared.draft.Draft.{Draft}
use Rattle.ms_job.specs.declared.job.Job.{Job}
use Rattle.ms_job.specs.declared.fault.JobFault.{JobFault}

-- what holds of what the lines say so far
record AreBounded (d : Draft) : Type 0 where
  names : AreDistinct (map (λ m. m.0) d.modules)
  few : length d.tasks ≤ most_lines
  turns : IfSome d.turns (λ n. 0 < n)
  budget : IfSome d.budget (λ n. n ≤ options.budget.most)
  memory : IfSome d.memory (λ n. n ≤ options.memory.most)
  reach : All (AreThere (length d.tasks) (length d.modules)) d.reach
  only : IfSome d.only (λ task. task < length d.tasks)

-- a line that is taken leaves a draft within the bounds
abbrev Keeps : Option Draft → Type 0
Keeps answer = IfSome answer AreBounded

-- ---- choices

both : (a b : Bool) → (a && b) ≡ true → (a ≡ true) × (b ≡ true)
both true true e = (refl, refl)
both true false e = absurd (true≢false (sym e))
both false b e = absurd (true≢false (sym e))

either : (b : Bool) (x y : Option Draft) → Keeps x → Keeps y → Keeps (cond b x y)
either true x y h k = h
either false x y h k = k

-- a line that breaks a rule, or else is this one
unless : (b : Bool) (x : Option Draft) → Keeps x → Keeps (cond b None x)
unless b x h = either b None x tt h

-- a line that is this one only where a rule holds
where_true : (b : Bool) (x : Option Draft) → (b ≡ true → Keeps x) → Keeps (cond b x None)
where_true true x h = h refl
where_true false x h = tt

-- what is put into a draft
put : {A : Type 0} (o : Option A) (f : A → Draft) → ((n : A) → o ≡ Some n → AreBounded (f n)) → Keeps (option_map f o)
put None f h = tt
put (Some n) f h = h n refl

next : {A B : Type 0} (o : Option A) (f : A → Option B) (P : A → Type 0) (Q : B → Type 0) → IfSome o P → ((x : A) → P x → IfSome (f x) Q)
    → IfSome (option_and_then f o) Q
next None f P Q h k = tt
next (Some x) f P Q h k = k x h

-- ---- numbers

abbrev IsFrom : ℕ → ℕ → ℕ → Type 0
IsFrom low high n = (low ≤ n) × (n ≤ high)

tested : (low high n : ℕ) (b : Bool) → (nat_le low n && nat_le n high) ≡ b → IfSome (cond b (Some n) None) (IsFrom low high)
tested low high n true e = let passed = both (nat_le low n) (nat_le n high) e in (leb-true low n passed.0, leb-true n high passed.1)
tested low high n false e = tt

read : (low high : ℕ) (empty : Bool) (o : Option ℕ) → IfSome (cond empty None (option_and_then (within low high) o)) (IsFrom low high)
read low high true o = tt
read low high false None = tt
read low high false (Some n) = tested low high n (nat_le low n && nat_le n high) refl

-- a number of a word is in its range
in_range : (low high : ℕ) (word : List ℕ) (n : ℕ) → number_within low high word ≡ Some n → IsFrom low high n
in_range low high word n e =
    let P : Option ℕ → Type 0 = λ o. IfSome o (IsFrom low high) in
    subst P e (read low high (length word == 0) (number_behind 0 word))

-- ---- names

abbrev Entry : Type 0
Entry = List ℕ × List ℕ

abbrev names_of : List Entry → List (List ℕ)
names_of entries = map (λ m. m.0) entries

nowhere : (b : Bool) (i : ℕ) (o : Option ℕ) → cond b (Some i) o ≡ None → (b ≡ false) × (o ≡ None)
nowhere true i o e = absurd (none-some i (sym e))
nowhere false i o e = (refl, e)

empty : (o : Option ℕ) → is_none o ≡ true → o ≡ None
empty None e = refl
empty (Some n) e = absurd (true≢false (sym e))

differs : (x y : List ℕ) → bytes_eq x y ≡ false → x ≢ y
differs x y e same = true≢false (sym ((bytes_eq-Decides x y).1 same) ∙ e)

not_among_more : (x name file : List ℕ) (entries : List Entry) → IsNotAmong x (names_of entries) → x ≢ name
    → IsNotAmong x (names_of (entries ++ (name, file) ∷ []))
not_among_more x name file [] h ne = (ne, tt)
not_among_more x name file (m ∷ ms) h ne = (h.0, not_among_more x name file ms h.1 ne)

-- a name that is nowhere among distinct ones is distinct from them
distinct_more : (name file : List ℕ) (i : ℕ) (entries : List Entry) → position_from (λ m. bytes_eq m.0 name) i entries ≡ None
    → AreDistinct (names_of entries) → AreDistinct (names_of (entries ++ (name, file) ∷ []))
distinct_more name file i [] e h = (tt, tt)
distinct_more name file i (m ∷ ms) e h =
    let here = nowhere (bytes_eq m.0 name) i (position_from (λ x. bytes_eq x.0 name) (i + 1) ms) e in
    (not_among_more m.0 name file ms h.0 (differs m.0 name here.0), distinct_more name file (i + 1) ms here.1 h.1)

any : {A : Type 0} (o : Option A) → IfSome o (λ x. Unit {0})
any None = tt
any (Some x) = tt

-- ---- what is asked of reach

abbrev AreBelow : ℕ → List ℕ → Type 0
AreBelow k ns = All (λ number. number < k) ns

below : (n k : ℕ) → IfSome (cond (nat_lt n k) (Some n) None) (λ m. m < k)
below n k = by (nat_lt n k) refl
  where
    by : (b : Bool) → nat_lt n k ≡ b → IfSome (cond b (Some n) None) (λ m. m < k)
    by true e = ltb-true n k e
    by false e = tt

kept : (P : ℕ → Type 0) (n : ℕ) (b : Bool) → P n → IfSome (cond b None (Some n)) P
kept P n true h = tt
kept P n false h = h

new_below : (d : Draft) (so_far : List ℕ) (name : List ℕ) → IfSome (new_in d so_far name) (λ n. n < length d.modules)
new_below d so_far name =
    let P : ℕ → Type 0 = λ n. n < length d.modules in
    let stands = below (position_or_len (λ (m : Entry). bytes_eq m.0 name) d.modules) (length d.modules) in
    next (number_of d name) (λ number. cond (list_any (λ n. n == number) so_far) None (Some number)) P P stands
    (λ n h. kept P n (list_any (λ m. m == n) so_far) h)

set_below : (d : Draft) (so_far : List ℕ) (names : List (List ℕ)) → AreBelow (length d.modules) so_far
    → IfSome (set_of d so_far names) (AreBelow (length d.modules))
set_below d so_far [] h = h
set_below d so_far (name ∷ names) h =
    next (new_in d so_far name) (λ number. set_of d (so_far ++ number ∷ []) names) (λ n. n < length d.modules) (AreBelow (length d.modules))
    (new_below d so_far name)
    (λ n k. set_below d (so_far ++ n ∷ []) names (All-push (λ number. number < length d.modules) so_far n h k))

-- where there are more tasks and modules
there_still : (tasks modules t m : ℕ) (asked : List (ℕ × List ℕ)) → tasks ≤ t → modules ≤ m → All (AreThere tasks modules) asked
    → All (AreThere t m) asked
there_still tasks modules t m asked le lo h =
    All-weaker (AreThere tasks modules) (AreThere t m)
    (λ x k. (omega (arith, k.0, le), All-weaker (λ n. n < modules) (λ n. n < m) (λ n e. omega (arith, e, lo)) x.1 k.1))
    asked h

-- where there are more tasks
with_more : (o : Option ℕ) (tasks t : ℕ) → tasks ≤ t → IfSome o (λ task. task < tasks) → IfSome o (λ task. task < t)
with_more None tasks t le h = tt
with_more (Some n) tasks t le h = omega (arith, h, le)

-- ---- the lines

module _ (d : Draft) (h : AreBounded d) where
  module_keeps : (name file : List ℕ) → Keeps (with_module d name file)
  module_keeps name file =
      where_true (is_name name && is_none (number_of d name) && nat_lt (length d.modules) most_lines) _ (λ e.
      let named = both (is_name name && is_none (number_of d name)) (nat_lt (length d.modules) most_lines) e in
      let new = both (is_name name) (is_none (number_of d name)) named.0 in
      let unused = sym (position_from-zero (λ (m : Entry). bytes_eq m.0 name) d.modules) ∙ empty (number_of d name) new.1 in
      record {
        names = distinct_more name file 0 d.modules unused h.names;
        few = h.few;
        turns = h.turns;
        budget = h.budget;
        memory = h.memory;
        reach = there_still _ (length d.modules) _ _ d.reach (omega arith) (omega (arith, length-append d.modules ((name, file) ∷ []))) h.reach;
        only = h.only;
      })

  task_keeps : (name export : List ℕ) → Keeps (with_task d name export)
  task_keeps name export =
      where_true (nat_lt (length d.tasks) most_lines) _ (λ e.
      put (number_of d name) _ (λ n is.
      record {
        names = h.names;
        few = omega (arith, ltb-true _ _ e, length-append d.tasks ((n, export) ∷ []));
        turns = h.turns;
        budget = h.budget;
        memory = h.memory;
        reach = there_still (length d.tasks) _ _ _ d.reach (omega (arith, length-append d.tasks ((n, export) ∷ []))) (omega arith) h.reach;
        only = with_more d.only _ _ (omega (arith, length-append d.tasks ((n, export) ∷ []))) h.only;
      }))

  turns_keep : (word : List ℕ) → Keeps (with_turns d word)
  turns_keep word =
      unless (is_some d.turns || is_some d.schedule) _ (put (number_within 1 most_turns word) _ (λ n is.
      record {
        names = h.names;
        few = h.few;
        turns = omega (arith, (in_range 1 most_turns word n is).0);
        budget = h.budget;
        memory = h.memory;
        reach = h.reach;
        only = h.only;
      }))

  schedule_keeps : (file : List ℕ) → Keeps (with_schedule d file)
  schedule_keeps file =
      unless (is_some d.turns || is_some d.schedule) _
      (record { names = h.names; few = h.few; turns = h.turns; budget = h.budget; memory = h.memory; reach = h.reach; only = h.only })

  budget_keeps : (word : List ℕ) → Keeps (with_budget d word)
  budget_keeps word =
      unless (is_some d.budget) _ (put (number_within options.budget.least options.budget.most word) _ (λ n is.
      record {
        names = h.names;
        few = h.few;
        turns = h.turns;
        budget = (in_range options.budget.least options.budget.most word n is).1;
        memory = h.memory;
        reach = h.reach;
        only = h.only;
      }))

  memory_keeps : (word : List ℕ) → Keeps (with_memory d word)
  memory_keeps word =
      unless (is_some d.memory) _ (put (number_within options.memory.least options.memory.most word) _ (λ n is.
      record {
        names = h.names;
        few = h.few;
        turns = h.turns;
        budget = h.budget;
        memory = (in_range options.memory.least options.memory.most word n is).1;
        reach = h.reach;
        only = h.only;
      }))

  trace_keeps : (file : List ℕ) → Keeps (with_trace d file)
  trace_keeps file =
      unless (is_some d.trace) _
      (record { names = h.names; few = h.few; turns = h.turns; budget = h.budget; memory = h.memory; reach = h.reach; only = h.only })

  dump_keeps : Keeps (with_dump d)
  dump_keeps =
      unless d.dump _ (record { names = h.names; few = h.few; turns = h.turns; budget = h.budget; memory = h.memory; reach = h.reach; only = h.only })

  each_keeps : Keeps (with_each d)
  each_keeps =
      unless d.each _ (record { names = h.names; few = h.few; turns = h.turns; budget = h.budget; memory = h.memory; reach = h.reach; only = h.only })

  task_below : (word : List ℕ) → IfSome (task_of d word) (λ task. task < length d.tasks)
  task_below word =
      next (number_within 0 last_task word) (λ task. cond (nat_lt task (length d.tasks)) (Some task) None) (λ task. Unit {0}) (λ task. task < length d.tasks)
      (any (number_within 0 last_task word)) (λ task _. below task (length d.tasks))

  only_keeps : (word : List ℕ) → Keeps (with_only d word)
  only_keeps word =
      unless (is_some d.only) _ (put (task_of d word) _ (λ task is.
      record {
        names = h.names;
        few = h.few;
        turns = h.turns;
        budget = h.budget;
        memory = h.memory;
        reach = h.reach;
        only = subst (λ (o : Option ℕ). IfSome o (λ task. task < length d.tasks)) is (task_below word);
      }))

  reach_keeps : (word : List ℕ) (names : List (List ℕ)) → Keeps (with_reach d word names)
  reach_keeps word names =
      where_true (nat_lt (length d.reach) most_lines && nat_le (length names) most_lines) _ (λ e.
      next (task_of d word) _ (λ task. task < length d.tasks) AreBounded (task_below word) (λ task lower.
      put (set_of d [] names) _ (λ set is.
      let P : Option (List ℕ) → Type 0 = λ o. IfSome o (AreBelow (length d.modules)) in
      let inside : AreBelow (length d.modules) set = subst P is (set_below d [] names (All-nil _)) in
      record {
        names = h.names;
        few = h.few;
        turns = h.turns;
        budget = h.budget;
        memory = h.memory;
        reach = All-push (AreThere (length d.tasks) (length d.modules)) d.reach (task, set) h.reach (lower, inside);
        only = h.only;
      })))

  words_keep : (words : List (List ℕ)) → Keeps (with_words d words)
  words_keep [] = tt
  words_keep (word ∷ []) =
      either (bytes_eq word (codes "dump")) _ _ dump_keeps
      (either (bytes_eq word (codes "each")) _ _ each_keeps tt)
  words_keep (word ∷ x ∷ []) =
      either (bytes_eq word (codes "turns")) _ _ (turns_keep x)
      (either (bytes_eq word (codes "schedule")) _ _ (schedule_keeps x)
      (either (bytes_eq word (codes "budget")) _ _ (budget_keeps x)
      (either (bytes_eq word (codes "memory")) _ _ (memory_keeps x)
      (either (bytes_eq word (codes "trace")) _ _ (trace_keeps x)
      (either (bytes_eq word (codes "only")) _ _ (only_keeps x) tt)))))
  words_keep (word ∷ x ∷ y ∷ []) =
      either (bytes_eq word (codes "module")) _ _ (module_keeps x y)
      (either (bytes_eq word (codes "task")) _ _ (task_keeps x y)
      (either (bytes_eq word (codes "reach")) _ _ (reach_keeps x (y ∷ [])) tt))
  words_keep (word ∷ x ∷ y ∷ z ∷ more) = either (bytes_eq word (codes "reach")) _ _ (reach_keeps x (y ∷ z ∷ more)) tt

  line_keeps : (line : List ℕ) → Keeps (with_line d line)
  line_keeps line =
      unless (not (is_utf8 line)) _
      (either (is_passed_over line) (Some d) _ h (unless (has_outer_space line) _ (words_keep (words line))))

-- ---- a text

goes_on : (o : Option Draft) (f : Draft → Result Draft ℕ) (n : ℕ) → Keeps o → ((d : Draft) → AreBounded d → IfOk (f d) AreBounded)
    → IfOk (option_map_or f o (Err n)) AreBounded
goes_on None f n h k = tt
goes_on (Some d) f n h k = k d h

lines_keep : (n : ℕ) (d : Draft) (ls : List (List ℕ)) → AreBounded d → IfOk (with_lines n d ls) AreBounded
lines_keep n d [] h = h
lines_keep n d (line ∷ more) h =
    goes_on (with_line d line) (λ e. with_lines (n + 1) e more) n (line_keeps d h line) (λ e k. lines_keep (n + 1) e more k)

or_else : (o : Option ℕ) (n : ℕ) (P : ℕ → Type 0) → IfSome o P → P n → P (unwrap_or o n)
or_else None n P h k = k
or_else (Some m) n P h k = h

job_bounded : (d : Draft) → AreBounded d → 0 < length d.tasks → IsBounded (job_of d)
job_bounded d h some = record {
  names = h.names;
  some = some;
  few = h.few;
  turns = or_else d.turns 1 (λ n. 0 < n) h.turns (omega arith);
  budget = or_else d.budget default_budget (λ n. n ≤ options.budget.most) h.budget (omega arith);
  memory = or_else d.memory default_memory (λ n. n ≤ options.memory.most) h.memory (omega arith);
  reach = h.reach;
  only = h.only;
}

nonzero : (n : ℕ) → (n == 0) ≡ false → 0 < n
nonzero zero e = absurd (true≢false e)
nonzero (suc n) e = omega arith

finished : (a b : Bool) (x y : JobFault) (j : Job) → (a ≡ false → IsBounded j) → IfOk (cond a (Err x) (cond b (Err y) (Ok j))) IsBounded
finished true b x y j h = tt
finished false true x y j h = tt
finished false false x y j h = h refl

checked_bounded : (r : Result Draft ℕ) → IfOk r AreBounded → IfOk (checked r) IsBounded
checked_bounded (Err n) h = tt
checked_bounded (Ok d) h = finished (length d.tasks == 0) _ _ _ (job_of d) (λ e. job_bounded d h (nonzero (length d.tasks) e))

-- what is answered to a text
pub answer_is_bounded : (text : List ℕ) (r : Result Job JobFault) → job_in text ≡ r → IfOk r IsBounded
answer_is_bounded text r e =
    let P : Result Job JobFault → Type 0 = λ answer. IfOk answer IsBounded in
    let none : AreBounded no_lines = record { names = tt; few = omega arith; turns = tt; budget = tt; memory = tt; reach = All-nil _; only = tt } in
    subst P e (checked_bounded (with_lines 1 no_lines (lines text)) (lines_keep 1 no_lines (lines text) none))

-- a job that a text says is within the bounds
pub job_is_bounded : (text : List ℕ) (j : Job) → job_in text ≡ Ok j → IsBounded j
job_is_bounded text j e = answer_is_bounded text (Ok j) e
