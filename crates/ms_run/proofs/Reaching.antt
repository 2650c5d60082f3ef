-- What is told of reach is told in one way, and set by set.
use Rattle.std.proofs.Common.{◌≡◌, ◌∙◌, ℕ, zero, suc, ◌+◌, ◌<◌, ◌≤◌, inl, inr, List, [], ◌∷◌, ◌++◌, length, drop, slice_get, Option, Some, append_assoc, append-nil, refl, sym, ap, subst, arith}
use Rattle.std.specs.Prelude.{IfOk, Result, Ok, Err}
use Rattle.std.specs.List.{All, AllPairs, Contains}
use Rattle.std.proofs.lemmas.List.Elements.{All-contains, All-get_or}
use Rattle.std.proofs.lemmas.Option.{slice_get_cases}
use Rattle.ms_machine.proofs.SafePaints.{Contains-cases, Contains-first, Contains-later, Contains-none}
use Rattle.ms_machine.specs.Crews.{Crew, begun}
use Rattle.ms_machine.specs.Store.{Store}
use Rattle.ms_machine.specs.refinement.Holding.{ThreadFits}
use Rattle.ms_reach.specs.Count.{HasByte, IsCount, is_among, lent}
use Rattle.ms_reach.specs.Reach.{IsReached}
use Rattle.ms_task.specs.Thread.{Thread}
use Rattle.ms_task.specs.declared.task.Task.{Task}
use Rattle.ms_task.specs.refinement.View.{thread_of}
use Rattle.ms_tasks.proofs.Chaining.{drop_at}
use Rattle.ms_tasks.specs.refinement.Ready.{IsReady}
use Rattle.ms_run.specs.Lines.{reach_line}
use Rattle.ms_run.specs.Reached.{AreReached, TellsReach, none_asked, one_asked}

-- ---- a set has one count

abbrev Rises : List ℕ → Type 0
Rises ks = AllPairs (λ (j k : ℕ). j < k) ks

above : (k : ℕ) (ks : List ℕ) → Rises (k ∷ ks) → All (λ j. k < j) ks
above k ks rises = λ i d within. rises 0 (suc i) d (omega arith) (omega arith)

behind : (k : ℕ) (ks : List ℕ) → Rises (k ∷ ks) → Rises ks
behind k ks rises = λ i j d low within. rises (suc i) (suc j) d (omega arith) (omega arith)

later_above : (k : ℕ) (ks : List ℕ) → Rises (k ∷ ks) → (j : ℕ) → Contains ks j → k < j
later_above k ks rises j has = All-contains (λ n. k < n) ks j (above k ks rises) has

-- rising lists of the same numbers have the same first one
first_same : (k : ℕ) (ks : List ℕ) (l : ℕ) (ls : List ℕ) → Rises (k ∷ ks) → Rises (l ∷ ls) → Contains (l ∷ ls) k → Contains (k ∷ ks) l → k ≡ l
first_same k ks l ls rises rise there back =
    elim (Contains-cases l ls k there) [
      | inl same ↦ sym same
      | inr more ↦ elim (Contains-cases k ks l back) [
        | inl same ↦ same
        | inr other ↦ let low = later_above l ls rise k more in let high = later_above k ks rises l other in absurd (omega arith)
      ]
    ]

-- and what stands behind it is of the same numbers, too
rest_has : (k : ℕ) (ks : List ℕ) (l : ℕ) (ls : List ℕ) → k ≡ l → Rises (k ∷ ks) → ((j : ℕ) → Contains (k ∷ ks) j → Contains (l ∷ ls) j) → (j : ℕ) → Contains ks j → Contains ls j
rest_has k ks l ls first rises there j has =
    elim (Contains-cases l ls j (there j (Contains-later k ks j has))) [
      | inl same ↦ let low = later_above k ks rises j has in absurd (omega (arith, first, same))
      | inr more ↦ more
    ]

same_length : (ks ls : List ℕ) → Rises ks → Rises ls → ((j : ℕ) → Contains ks j → Contains ls j) → ((j : ℕ) → Contains ls j → Contains ks j) → length ks ≡ length ls
same_length [] [] rises rise there back = refl
same_length [] (l ∷ ls) rises rise there back = absurd (Contains-none l (back l (Contains-first l ls)))
same_length (k ∷ ks) [] rises rise there back = absurd (Contains-none k (there k (Contains-first k ks)))
same_length (k ∷ ks) (l ∷ ls) rises rise there back =
    let first = first_same k ks l ls rises rise (there k (Contains-first k ks)) (back l (Contains-first l ls)) in
    ap suc (same_length ks ls (behind k ks rises) (behind l ls rise) (rest_has k ks l ls first rises there) (rest_has l ls k ks (sym first) rise back))

one_count : (P : ℕ → Type 0) (m n : ℕ) → IsCount P m → IsCount P n → m ≡ n
one_count P m n a b =
    sym a.4 ∙ (same_length a.0 b.0 a.1 b.1 (λ j has. b.3 j (a.2 j has)) (λ j has. a.3 j (b.2 j has)) ∙ b.4)

-- ---- one text

same_thread : (x y : Thread) → ◌≡◌ {A = Option Thread} (Some x) (Some y) → x ≡ y
same_thread x y e = cc

one_line : (c : Crew) (number task : ℕ) (set line line' : List ℕ) → TellsReach c number task set line → TellsReach c number task set line' → line ≡ line'
one_line c number task set line line' h k =
    let same = same_thread h.thread k.thread (sym h.is_task ∙ k.is_task) in
    let reached : Thread → ℕ → Type 0 = λ t. IsReached (is_among set) c.store (lent t) in
    let segments = one_count (HasByte (reached k.thread) c.store.segments) h.segments k.segments (subst (λ (t : Thread). IsCount (HasByte (reached t) c.store.segments) h.segments) same h.count_segments) k.count_segments in
    let bytes = one_count (reached k.thread) h.bytes k.bytes (subst (λ (t : Thread). IsCount (reached t) h.bytes) same h.count_bytes) k.count_bytes in
    h.is_line ∙ (ap (λ (n : ℕ). reach_line number n h.bytes) segments ∙ (ap (reach_line number k.segments) bytes ∙ sym k.is_line))

pub one_reached : (c : Crew) (number : ℕ) (asked : List (ℕ × List ℕ)) (lines lines' : List ℕ) → AreReached c number asked lines → AreReached c number asked lines' → lines ≡ lines'
one_reached c number [] lines lines' none_asked none_asked = refl
one_reached c number ((task, set) ∷ asked) lines lines' (one_asked {line = a} {lines = more} h hs) (one_asked {line = b} {lines = bs} k ks) =
    ap (λ (x : List ℕ). x ++ more) (one_line c number task set a b h k) ∙ ap (λ (x : List ℕ). b ++ x) (one_reached c (suc number) asked more bs hs ks)

-- ---- set by set

-- what the lines so far and those of the sets from a number on are
abbrev pub Goes : Crew → (asked : List (ℕ × List ℕ)) → (told : List ℕ) → (number : ℕ) → Type 0
Goes c asked told number = (lines : List ℕ) → AreReached c number (drop number asked) lines → AreReached c 0 asked (told ++ lines)

pub reached_grows : (c : Crew) (asked : List (ℕ × List ℕ)) (told : List ℕ) (number task : ℕ) (set line : List ℕ) → slice_get asked number ≡ Some (task, set) → TellsReach c number task set line → Goes c asked told number
    → Goes c asked (told ++ line) (number + 1)
reached_grows c asked told number task set line is tells goes = λ lines are.
    let next : number + 1 ≡ suc number = omega arith in
    let rest : AreReached c (suc number) (drop (suc number) asked) lines = subst (λ (n : ℕ). AreReached c n (drop n asked) lines) next are in
    let all : AreReached c number (drop number asked) (line ++ lines) =
    subst (λ (xs : List (ℕ × List ℕ)). AreReached c number xs (line ++ lines)) (sym (drop_at asked number (task, set) is)) (one_asked tells rest) in
    subst (AreReached c 0 asked) (sym (append_assoc told line lines)) (goes (line ++ lines) all)

-- there are no more
pub all_told : (c : Crew) (asked : List (ℕ × List ℕ)) (told : List ℕ) (number : ℕ) → length asked ≤ number → Goes c asked told number → AreReached c 0 asked told
all_told c asked told number past goes =
    let rest : AreReached c number (drop number asked) [] = subst (λ (xs : List (ℕ × List ℕ)). AreReached c number xs []) (sym (nothing_left number asked past)) none_asked in
    subst (AreReached c 0 asked) (append-nil told) (goes [] rest)
  where
    nothing_left : (n : ℕ) (xs : List (ℕ × List ℕ)) → length xs ≤ n → drop n xs ≡ []
    nothing_left zero [] h = refl
    nothing_left zero (x ∷ xs) h = absurd (omega arith)
    nothing_left (suc n) [] h = refl
    nothing_left (suc n) (x ∷ xs) h = nothing_left n xs (omega arith)

-- ---- a set

pub if_ok : {A B : Type 0} (P Q : A → Type 0) (o : Result A B) → ((x : A) → P x → Q x) → IfOk o P → IfOk o Q
if_ok P Q (Ok x) then_too h = then_too x h
if_ok P Q (Err e) then_too h = tt

the_same : {A : Type 0} (x y : A) → ◌≡◌ {A = Option A} (Some x) (Some y) → x ≡ y
the_same x y e = cc

pub got : {A : Type 0} (P : A → Type 0) (xs : List A) (i : ℕ) (x : A) → slice_get xs i ≡ Some x → All P xs → P x
got P xs i x e all =
    elim (slice_get_cases xs i).1 [
      | inl h ↦ let same : h.0 ≡ x = the_same h.0 x (sym h.2 ∙ e) in subst P (h.3 ∙ same) (All-get_or P xs i h.0 h.1 all)
      | inr h ↦ absurd (let n = h.1 in cc)
    ]

-- the task of a crew that is ready fits the store
pub task_fits : (c : Crew) (s : Store) (task : ℕ) (t : Task) → s ≡ c.store → IsReady c → slice_get c.tasks task ≡ Some (thread_of c.store.funcs t) → ThreadFits s (thread_of s.funcs t)
task_fits c s task t same ready found = subst (λ (x : Store). ThreadFits x (thread_of x.funcs t)) (sym same) (got (ThreadFits c.store) c.tasks task (thread_of c.store.funcs t) found ready.tasks_fit)

pub line_tells : (c : Crew) (s : Store) (number task : ℕ) (t : Task) (set : List ℕ) (segments bytes : ℕ) (line : List ℕ) → s ≡ c.store → slice_get c.tasks task ≡ Some (thread_of c.store.funcs t)
    → IsCount (HasByte (IsReached (is_among set) s (lent (thread_of s.funcs t))) s.segments) segments → IsCount (IsReached (is_among set) s (lent (thread_of s.funcs t))) bytes
    → line ≡ reach_line number segments bytes → TellsReach c number task set line
line_tells c s number task t set segments bytes line same found some_segments some_bytes is =
    let thread : Store → Thread = λ x. lent (thread_of x.funcs t) in
    record {
      thread = thread_of c.store.funcs t;
      segments = segments;
      bytes = bytes;
      is_task = found;
      count_segments = subst (λ (x : Store). IsCount (HasByte (IsReached (is_among set) x (thread x)) x.segments) segments) same some_segments;
      count_bytes = subst (λ (x : Store). IsCount (IsReached (is_among set) x (thread x)) bytes) same some_bytes;
      is_line = is;
    }

-- ---- the crew at the start of a run has the store and the tasks of the crew

pub begun_reached : (c : Crew) (number : ℕ) (asked : List (ℕ × List ℕ)) (lines : List ℕ) → AreReached c number asked lines → AreReached (begun c) number asked lines
begun_reached c number [] lines none_asked = none_asked
begun_reached c number ((task, set) ∷ asked) lines (one_asked {line = line} {lines = behind} h hs) =
    let same : TellsReach (begun c) number task set line = record {
      thread = h.thread;
      segments = h.segments;
      bytes = h.bytes;
      is_task = h.is_task;
      count_segments = h.count_segments;
      count_bytes = h.count_bytes;
      is_line = h.is_line;
    } in
    one_asked same (begun_reached c (suc number) asked behind hs)
