-- Entries for one thread in a row, a step at a time.
use Rattle.std.proofs.Common.{◌≡◌, ◌≢◌, ◌<◌, ◌≤◌, ◌+◌, ◌-◌, ℕ, zero, suc, false, List, [], ◌∷◌, ◌++◌, drop, Option, None, refl, sym, ap, subst, ◌∙◌, append-nil, append_assoc, arith}
use Rattle.ms_event.specs.declared.event.Event.{Event}
use Rattle.ms_host.specs.declared.trap.TrapKind.{TrapKind}
use Rattle.ms_machine.specs.Crews.{Crew, Deeds, Input, Run, Trap, Whose, behind, both, bytes_of, deed, ends, events_of, moved, nothing, passed, run_entries}
use Rattle.ms_machine.specs.Moves as moves
use Rattle.ms_machine.specs.Moves.{Goes, IsPutting, Move, first_of, move_for, move_of, move_on, rest_of}
use Rattle.ms_machine.specs.Running.{with_event}
use Rattle.ms_machine.specs.Step.{Next, step_of}
use Rattle.ms_machine.specs.refinement.Stepped.{Went}
use Rattle.ms_machine.specs.Store.{Store}
use Rattle.ms_machine.specs.refinement.StraightLine.{GoesTelling}
use Rattle.ms_machine.proofs.Outsides.{Content, before, front_put, left_all, puts_after, puts_none, tells_after, tells_same}
use Rattle.ms_machine.proofs.Quiet.{moves_so}
use Rattle.ms_outside.specs.Sink.{IsFront, Puts}
use Rattle.ms_outside.specs.declared.sink.Put.TheVariants as puts
use Rattle.ms_task.specs.Thread.{Thread}
use Rattle.ms_tasks.specs.refinement.Logs.{GoesSeen, Log, Trace, all_seen}
use Rattle.ms_tasks.specs.refinement.Parts.{HaltsBy, Comes, ComesTo, IsRow}
use Rattle.ms_tasks.specs.declared.burst.Halt.{Halt}
use Rattle.ms_tasks.proofs.Coming.{Begun, answers_as, answers_on, begun_here, comes_same, comes_trans, to_same}
use Rattle.ms_tasks.proofs.Deeds.{all_seen_both, both_bytes, both_events, deed_bytes, deed_events}
use Rattle.ms_tasks.proofs.Leaving.{run_leaves}

-- ---- lists

pub drop_none : {A : Type 0} (n : ℕ) → drop {A = A} n [] ≡ []
drop_none zero = refl
drop_none (suc n) = refl

pub drop_twice : {A : Type 0} (n m : ℕ) (xs : List A) → drop m (drop n xs) ≡ drop (n + m) xs
drop_twice zero m xs = let e : m ≡ 0 + m = omega arith in ap (λ k. drop k xs) e
drop_twice (suc n) m [] = drop_none m ∙ sym (drop_none (suc n + m))
drop_twice (suc n) m (x ∷ xs) = let e : suc (n + m) ≡ suc n + m = omega arith in drop_twice n m xs ∙ ap (λ k. drop k (x ∷ xs)) e

pub entries_on : (ks : List ℕ) (most left rest : ℕ) → left ≤ most → rest ≤ left → drop (left - rest) (drop (most - left) ks) ≡ drop (most - rest) ks
entries_on ks most left rest within less =
    let e : (most - left) + (left - rest) ≡ most - rest = omega (arith, within, less) in
    drop_twice (most - left) (left - rest) ks ∙ ap (λ n. drop n ks) e

-- ---- the first entry of a row

row_next : (whose : Whose) (next : Store → Thread → Crew) (n : ℕ) (ks : List ℕ) → 0 < n → IsRow whose next n ks → IsRow whose next (n - 1) (drop 1 ks)
row_next whose next zero ks some row = absurd (omega (arith, some))
row_next whose next (suc n) [] some row = absurd row
row_next whose next (suc n) (k ∷ ks) some row = let e : n ≡ suc n - 1 = omega arith in subst (λ m. IsRow whose next m ks) e row.1

row_step : (whose : Whose) (next : Store → Thread → Crew) (n : ℕ) (ks : List ℕ) (s : Store) (t : Thread) (input : Input) → 0 < n → t.work ≢ [] → IsRow whose next n ks → run_entries ks (next s t) input ≡ moved whose (move_of s t input) (next s t) input next (run_entries (drop 1 ks))
row_step whose next zero ks s t input some going row = absurd (omega (arith, some))
row_step whose next (suc n) [] s t input some going row = absurd row
row_step whose next (suc n) (k ∷ ks) s t input some going row = row.0 s t input going

step_comes : (whose : Whose) (next : Store → Thread → Crew) (n : ℕ) (ks : List ℕ) (s s' : Store) (t t' : Thread) (event : Option Event) (l l' h h' : Content) → 0 < n → t.work ≢ [] → IsRow whose next n ks → (w : Went (move_for s t) event s' t' l l' h h') → Comes l l' h h' (deed whose w.took w.put event) (run_entries ks (next s t)) (run_entries (drop 1 ks) (next s' t'))
step_comes whose next n ks s s' t t' event l l' h h' some going row w = record {
  alike = tells_after w.took w.got l l' w.input;
  out = subst (λ bs. Puts puts.Done bs h h') (sym (deed_bytes whose w.took w.put event)) (puts_after w.put h h' w.out);
  from = λ rest may.
      let b = before w.took w.got l l' w.input rest may in
      let is = moves_so s s' t t' w.took w.got w.put event b.input w.is b.first in (
        b.input,
        b.may,
        b.left_is,
        row_step whose next n ks s t b.input some going row
            ∙ (ap (λ m. moved whose m (next s t) b.input next (run_entries (drop 1 ks))) is ∙ ap (λ i. behind (deed whose w.took w.put event) (run_entries (drop 1 ks) (next s' t') i)) b.rest_is),
      );
}

trap_comes : (whose : Whose) (next : Store → Thread → Crew) (n : ℕ) (ks : List ℕ) (s : Store) (t : Thread) (why : TrapKind) (l h : Content) → 0 < n → t.work ≢ [] → IsRow whose next n ks → ((got : Option ℕ) → move_for s t got ≡ moves.Trap why) → Comes l l h h passed (run_entries ks (next s t)) (ends (Trap whose why) (next s t))
trap_comes whose next n ks s t why l h some going row is = record {
  alike = tells_same l;
  out = puts_none h h refl;
  from = λ rest may. (rest, may, left_all rest, row_step whose next n ks s t rest some going row ∙ ap (λ m. moved whose m (next s t) rest next (run_entries (drop 1 ks))) (is (first_of rest)));
}

puts_first : (whose : Whose) (next : Store → Thread → Crew) (n : ℕ) (ks : List ℕ) (s : Store) (t : Thread) (byte : ℕ) (input : Input) → 0 < n → t.work ≢ [] → IsRow whose next n ks → IsPutting byte (move_of s t input) → (later : List ℕ) × (bytes_of (run_entries ks (next s t) input).deeds ≡ byte ∷ later)
puts_first whose next n ks s t byte input some going row putting = by (move_of s t input) refl putting where
  by : (m : Move) → move_of s t input ≡ m → IsPutting byte m → (later : List ℕ) × (bytes_of (run_entries ks (next s t) input).deeds ≡ byte ∷ later)
  by (Goes s' t' took put event) is put-is =
      let r = run_entries (drop 1 ks) (next s' t') (rest_of took input) in
      let one : run_entries ks (next s t) input ≡ behind (deed whose took put event) r =
      row_step whose next n ks s t input some going row ∙ ap (λ m. moved whose m (next s t) input next (run_entries (drop 1 ks))) is in
      (bytes_of r.deeds, ap (λ (x : Run). bytes_of x.deeds) one ∙ (both_bytes (deed whose took put event) r.deeds ∙ ap (λ p. bytes_of (deed whose took p event) ++ bytes_of r.deeds) put-is))
  by (moves.Trap trap) is none = absurd none
  by moves.Stuck is none = absurd none

-- ---- what the code keeps to

-- The run of these entries is, behind what has happened, that of those that are left.
pub record IsUnderWay (whose : Whose) (next : Store → Thread → Crew) (entries : List ℕ) (most : ℕ) (s0 : Store) (t0 : Thread) (trace0 : Trace) (left : ℕ) (s : Store) (t : Thread) (trace : Trace) (l l' h h' : Content) : Type 0 where
  pub deeds : Deeds
  pub comes : Comes l l' h h' deeds (run_entries entries (next s0 t0)) (run_entries (drop (most - left) entries) (next s t))
  pub used : deeds.used + left ≡ most
  pub row : IsRow whose next left (drop (most - left) entries)
  pub seen : trace ≡ all_seen (events_of deeds) trace0

all_left : (most : ℕ) (entries : List ℕ) → entries ≡ drop (most - most) entries
all_left most entries = let e : 0 ≡ most - most = omega arith in ap (λ n. drop n entries) e

one_more : (most left : ℕ) (entries : List ℕ) → 0 < left → left ≤ most → drop 1 (drop (most - left) entries) ≡ drop (most - (left - 1)) entries
one_more most left entries some within =
    let e : (most - left) + 1 ≡ most - (left - 1) = omega (arith, some, within) in
    drop_twice (most - left) 1 entries ∙ ap (λ n. drop n entries) e

pub begins_way : (whose : Whose) (next : Store → Thread → Crew) (entries : List ℕ) (most : ℕ) (s : Store) (t : Thread) (trace : Trace) (l h : Content) → IsRow whose next most entries → IsUnderWay whose next entries most s t trace most s t trace l l h h
begins_way whose next entries most s t trace l h row = record {
  deeds = nothing;
  comes = subst (λ ks. Comes l l h h nothing (run_entries entries (next s t)) (run_entries ks (next s t))) (all_left most entries) (comes_same l h (run_entries entries (next s t)));
  used = omega arith;
  row = subst (IsRow whose next most) (all_left most entries) row;
  seen = refl;
}

-- nothing of the next step was done
pub stops_before : (whose : Whose) (next : Store → Thread → Crew) (entries : List ℕ) (most : ℕ) (s0 : Store) (t0 : Thread) (trace0 : Trace) (left : ℕ) (s : Store) (t : Thread) (trace : Trace) (l l' l'' h h' h'' : Content) → IsUnderWay whose next entries most s0 t0 trace0 left s t trace l l' h h' → (log0 log' : Log) → log0.trace ≡ trace0 → log'.trace.events ≡ trace.events → l'' ≡ l' → h'' ≡ h' → Begun l l'' h h'' log0 log' (run_entries entries (next s0 t0))
stops_before whose next entries most s0 t0 trace0 left s t trace l l' l'' h h' h'' way log0 log' trace-is kept same still =
    let ks = drop (most - left) entries in
    begun_here l l' l'' h h' h'' log0 log' way.deeds (run_entries entries (next s0 t0)) (run_entries ks (next s t)) way.comes same [] (puts_none h' h'' still) (λ input. (bytes_of (run_entries ks (next s t) input).deeds, refl)) (run_leaves ks (next s t))
    (events_of way.deeds) [] (sym (append-nil (events_of way.deeds))) (kept ∙ (ap (λ (x : Trace). x.events) way.seen ∙ ap (λ x. (all_seen (events_of way.deeds) x).events) (sym trace-is)))

module _ (whose : Whose) (next : Store → Thread → Crew) (entries : List ℕ) (most : ℕ) (s0 : Store) (t0 : Thread) (trace0 : Trace) (left : ℕ) (s : Store) (t : Thread) (trace : Trace) (l l' l'' h h' h'' : Content)
    (some : 0 < left) (within : left ≤ most) (going : t.work ≢ []) (way : IsUnderWay whose next entries most s0 t0 trace0 left s t trace l l' h h') where
  -- a step further
  pub goes_way : (s' : Store) (t' : Thread) (event : Option Event) (trace' : Trace) → Went (move_for s t) event s' t' l' l'' h' h'' → trace' ≡ all_seen (with_event event []) trace → IsUnderWay whose next entries most s0 t0 trace0 (left - 1) s' t' trace' l l'' h h''
  goes_way s' t' event trace' w tells =
      let d = deed whose w.took w.put event in
      let ks = drop (most - left) entries in
      let used = way.used in
      let all = run_entries entries (next s0 t0) in
      record {
        deeds = both way.deeds d;
        comes = subst (λ x. Comes l l'' h h'' (both way.deeds d) all (run_entries x (next s' t'))) (one_more most left entries some within)
            (comes_trans l l' l'' h h' h'' way.deeds d all (run_entries ks (next s t)) (run_entries (drop 1 ks) (next s' t')) way.comes (step_comes whose next left ks s s' t t' event l' l'' h' h'' some going way.row w));
        used = omega (arith, used, some);
        row = subst (IsRow whose next (left - 1)) (one_more most left entries some within) (row_next whose next left ks some way.row);
        seen = tells ∙ (ap (all_seen (with_event event [])) way.seen ∙ (sym (all_seen_both (events_of way.deeds) (with_event event []) trace0)
            ∙ ap (λ es. all_seen es trace0) (ap (λ es. events_of way.deeds ++ es) (sym (deed_events whose w.took w.put event)) ∙ sym (both_events way.deeds d))));
      }

  -- a step that traps
  pub way_traps : (why : TrapKind) (s' : Store) (t' : Thread) (log0 log' : Log) (n entries0 : ℕ) → log0.trace ≡ trace0 → entries0 ≡ log0.entries → ((got : Option ℕ) → move_for s t got ≡ moves.Trap why) → s' ≡ s → t' ≡ t → l'' ≡ l' → h'' ≡ h' → n + (left - 1) ≡ most → log' ≡ record { entries = entries0 + n; trace = trace } → ComesTo l l'' h h'' log0 log' (run_entries entries (next s0 t0)) (ends (Trap whose why) (next s' t'))
  way_traps why s' t' log0 log' n entries0 trace-is entries-is is store thread same still all count =
      let d = both way.deeds passed in
      let ks = drop (most - left) entries in
      let run = run_entries entries (next s0 t0) in
      let used = way.used in
      let sum : n ≡ way.deeds.used + 1 = omega (arith, used, all, some) in
      let one = comes_trans l l' l' h h' h' way.deeds passed run (run_entries ks (next s t)) (ends (Trap whose why) (next s t)) way.comes (trap_comes whose next left ks s t why l' h' some going way.row is) in
      let two = subst (λ x. Comes l x h h' d run (ends (Trap whose why) (next s t))) (sym same) one in
      let three = subst (λ x. Comes l l'' h x d run (ends (Trap whose why) (next s t))) (sym still) two in
      let four = subst (λ x. Comes l l'' h h'' d run (ends (Trap whose why) (next x t))) (sym store) three in
      record {
        deeds = d;
        comes = subst (λ x. Comes l l'' h h'' d run (ends (Trap whose why) (next s' x))) (sym thread) four;
        log = count ∙ (ap (λ (x : ℕ). let y : Log = record { entries = entries0 + x; trace = trace } in y) sum
            ∙ (ap (λ (x : ℕ). let y : Log = record { entries = x + (way.deeds.used + 1); trace = trace } in y) entries-is
            ∙ ap (λ (x : Trace). let y : Log = record { entries = log0.entries + (way.deeds.used + 1); trace = x } in y)
            (way.seen ∙ (ap (λ es. all_seen es trace0) (sym (append-nil (events_of way.deeds)) ∙ sym (both_events way.deeds passed)) ∙ ap (all_seen (events_of d)) (sym trace-is)))));
      }

  -- a front of its byte was put
  pub stops_in : (log0 log' : Log) (byte : ℕ) → log0.trace ≡ trace0 → log'.trace.events ≡ trace.events → ((got : Option ℕ) → IsPutting byte (move_for s t got)) → l'' ≡ l' → Puts puts.Failed (byte ∷ []) h' h'' → Begun l l'' h h'' log0 log' (run_entries entries (next s0 t0))
  stops_in log0 log' byte trace-is kept putting same failed =
      let ks = drop (most - left) entries in
      let part = front_put (byte ∷ []) h' h'' failed in
      begun_here l l' l'' h h' h'' log0 log' way.deeds (run_entries entries (next s0 t0)) (run_entries ks (next s t)) way.comes same part.0 part.2
      (λ input.
      let first = puts_first whose next left ks s t byte input some going way.row (putting (first_of input)) in
      front_of byte first.0 part.0 (bytes_of (run_entries ks (next s t) input).deeds) first.1 part.1)
      (run_leaves ks (next s t))
      (events_of way.deeds) [] (sym (append-nil (events_of way.deeds))) (kept ∙ (ap (λ (x : Trace). x.events) way.seen ∙ ap (λ x. (all_seen (events_of way.deeds) x).events) (sym trace-is)))
    where
      front_of : (byte : ℕ) (later front whole : List ℕ) → whole ≡ byte ∷ later → IsFront front (byte ∷ []) → IsFront front whole
      front_of byte later front whole is f = (f.0 ++ later, is ∙ (ap (λ bs. bs ++ later) f.1 ∙ append_assoc front f.0 later))

  -- the step was made, and its event was lost
  pub stops_behind : (s' : Store) (t' : Thread) (event : Option Event) (log0 log' : Log) → log0.trace ≡ trace0 → log'.trace.events ≡ trace.events → Went (move_for s t) event s' t' l' l'' h' h'' → Begun l l'' h h'' log0 log' (run_entries entries (next s0 t0))
  stops_behind s' t' event log0 log' trace-is kept w =
      let d = deed whose w.took w.put event in
      let ks = drop (most - left) entries in
      let all = run_entries entries (next s0 t0) in
      let mid = run_entries (drop 1 ks) (next s' t') in
      let comes = comes_trans l l' l'' h h' h'' way.deeds d all (run_entries ks (next s t)) mid way.comes (step_comes whose next left ks s s' t t' event l' l'' h' h'' some going way.row w) in
      begun_here l l'' l'' h h'' h'' log0 log' (both way.deeds d) all mid comes refl [] (puts_none h'' h'' refl) (λ input. (bytes_of (mid input).deeds, refl)) (run_leaves (drop 1 ks) (next s' t'))
      (events_of way.deeds) (events_of d) (both_events way.deeds d) (kept ∙ (ap (λ (x : Trace). x.events) way.seen ∙ ap (λ x. (all_seen (events_of way.deeds) x).events) (sym trace-is)))

-- the steps are counted
pub way_here : (whose : Whose) (next : Store → Thread → Crew) (entries : List ℕ) (most : ℕ) (s0 : Store) (t0 : Thread) (log0 log log' : Log) (left n : ℕ) (s : Store) (t : Thread) (l l' h h' : Content) → IsUnderWay whose next entries most s0 t0 log0.trace left s t log.trace l l' h h' → log.entries ≡ log0.entries → n + left ≡ most → log' ≡ record { entries = log.entries + n; trace = log.trace } → ComesTo l l' h h' log0 log' (run_entries entries (next s0 t0)) (run_entries (drop (most - left) entries) (next s t))
way_here whose next entries most s0 t0 log0 log log' left n s t l l' h h' way same all count =
    let used = way.used in
    let sum : n ≡ way.deeds.used = omega (arith, used, all) in
    record {
      deeds = way.deeds;
      comes = way.comes;
      log = count ∙ (ap (λ (x : ℕ). let y : Log = record { entries = log.entries + x; trace = log.trace } in y) sum
          ∙ (ap (λ (x : ℕ). let y : Log = record { entries = x + way.deeds.used; trace = log.trace } in y) same
          ∙ ap (λ (x : Trace). let y : Log = record { entries = log0.entries + way.deeds.used; trace = x } in y) way.seen));
    }

-- none was made
pub way_ends : (whose : Whose) (next : Store → Thread → Crew) (entries : List ℕ) (most : ℕ) (s : Store) (t : Thread) (log : Log) (l h : Content) → ComesTo l l h h log log (run_entries entries (next s t)) (run_entries (drop (most - most) entries) (next s t))
way_ends whose next entries most s t log l h =
    subst (λ ks. ComesTo l l h h log log (run_entries entries (next s t)) (run_entries ks (next s t))) (all_left most entries) (to_same l h log (run_entries entries (next s t)))

-- all were made
pub way_pauses : (whose : Whose) (next : Store → Thread → Crew) (entries : List ℕ) (most left : ℕ) → left ≡ 0 → (s : Store) (t : Thread) (l l' h h' : Content) (old new : Log) (run : Input → Run) → ComesTo l l' h h' old new run (run_entries (drop (most - left) entries) (next s t)) → ComesTo l l' h h' old new run (run_entries (drop most entries) (next s t))
way_pauses whose next entries most left none s t l l' h h' old new run comes =
    let e : most - left ≡ most = omega (arith, none) in
    subst (λ n. ComesTo l l' h h' old new run (run_entries (drop n entries) (next s t))) e comes

-- steps of which the outside sees nothing
step_quiet : (s s' : Store) (t t' : Thread) (event : Option Event) (l h : Content) → step_of s t ≡ Next s' t' event → Went (move_for s t) event s' t' l l h h
step_quiet s s' t t' event l h is = record { got = None; took = false; put = None; is = ap (move_on s None) is; input = refl; out = refl }

way_telling : (whose : Whose) (next : Store → Thread → Crew) (entries : List ℕ) (most : ℕ) (s0 : Store) (t0 : Thread) (trace0 : Trace) (n left : ℕ) (s s' : Store) (t t' : Thread) (es : List Event) (trace trace' : Trace) (l l' h h' : Content) → n ≤ left → left ≤ most → IsUnderWay whose next entries most s0 t0 trace0 left s t trace l l' h h' → GoesTelling s t n es s' t' → trace' ≡ all_seen es trace → IsUnderWay whose next entries most s0 t0 trace0 (left - n) s' t' trace' l l' h h'
way_telling whose next entries most s0 t0 trace0 zero left s s' t t' es trace trace' l l' h h' some within way (same, still, none) told =
    let e : left ≡ left - 0 = omega arith in
    let as-before : trace' ≡ trace = told ∙ ap (λ xs. all_seen xs trace) none in
    subst (λ n. IsUnderWay whose next entries most s0 t0 trace0 n s' t' trace' l l' h h') e
    (subst (λ x. IsUnderWay whose next entries most s0 t0 trace0 left s' t' x l l' h h') (sym as-before)
    (subst (λ (x : Store). IsUnderWay whose next entries most s0 t0 trace0 left x t' trace l l' h h') (sym same) (subst (λ x. IsUnderWay whose next entries most s0 t0 trace0 left s x trace l l' h h') (sym still) way)))
way_telling whose next entries most s0 t0 trace0 (suc n) left s s' t t' es trace trace' l l' h h' some within way (s1, t1, es1, event, steps, going, step, more) told =
    let e : (left - n) - 1 ≡ left - suc n = omega arith in
    let trace1 = all_seen es1 trace in
    subst (λ n. IsUnderWay whose next entries most s0 t0 trace0 n s' t' trace' l l' h h') e
    (goes_way whose next entries most s0 t0 trace0 (left - n) s1 t1 trace1 l l' l' h h' h' (omega (arith, some)) (omega (arith, within)) going
    (way_telling whose next entries most s0 t0 trace0 n left s s1 t t1 es1 trace trace1 l l' h h' (omega (arith, some)) within way steps refl) s' t' event trace' (step_quiet s1 s' t1 t' event l' h' step)
    (told ∙ (ap (λ xs. all_seen xs trace) more ∙ all_seen_both es1 (with_event event []) trace)))

-- so that the rest is left
pub quiet_way : (whose : Whose) (next : Store → Thread → Crew) (entries : List ℕ) (most : ℕ) (s0 : Store) (t0 : Thread) (trace0 : Trace) (left rest : ℕ) (s s' : Store) (t t' : Thread) (trace trace' : Trace) (l l' h h' : Content) → rest ≤ left → left ≤ most → IsUnderWay whose next entries most s0 t0 trace0 left s t trace l l' h h' → GoesSeen s t trace (left - rest) s' t' trace' → IsUnderWay whose next entries most s0 t0 trace0 rest s' t' trace' l l' h h'
quiet_way whose next entries most s0 t0 trace0 left rest s s' t t' trace trace' l l' h h' less within way (es, steps, told) =
    let e : left - (left - rest) ≡ rest = omega (arith, less) in
    subst (λ n. IsUnderWay whose next entries most s0 t0 trace0 n s' t' trace' l l' h h') e
    (way_telling whose next entries most s0 t0 trace0 (left - rest) left s s' t t' es trace trace' l l' h h' (omega (arith, less)) within way steps told)

-- ---- quiet steps in front of others

module _ (whose : Whose) (next : Store → Thread → Crew) (entries : List ℕ) (most rest : ℕ) (s0 s : Store) (t0 t : Thread) (l h : Content) (log0 log : Log)
    (mid-log : Log) (within : rest ≤ most) (row : IsRow whose next most entries) (steps : GoesSeen s0 t0 log0.trace (most - rest) s t mid-log.trace) (used : mid-log.entries ≡ log0.entries) (count : log ≡ record { entries = mid-log.entries + (most - rest); trace = mid-log.trace }) where
  quiet_under_way : IsUnderWay whose next entries most s0 t0 log0.trace rest s t mid-log.trace l l h h
  quiet_under_way =
      let some : most ≤ most = omega arith in
      quiet_way whose next entries most s0 t0 log0.trace most rest s0 s t0 t log0.trace mid-log.trace l l h h within some (begins_way whose next entries most s0 t0 log0.trace l h row) steps

  pub quiet_comes : ComesTo l l h h log0 log (run_entries entries (next s0 t0)) (run_entries (drop (most - rest) entries) (next s t))
  quiet_comes = way_here whose next entries most s0 t0 log0 mid-log log rest (most - rest) s t l l h h quiet_under_way used (omega (arith, within)) count

  -- what came of the others came of all
  pub quiet_first : (a : Halt) (left : ℕ) (s' : Store) (t' : Thread) (l' h' : Content) (log' : Log) → left ≤ rest
      → ((next : Store → Thread → Crew) (ks : List ℕ) → IsRow whose next rest ks → HaltsBy a (run_entries ks (next s t)) (run_entries (drop (rest - left) ks) (next s' t')) (run_entries (drop rest ks) (next s' t')) (next s' t') l l' h h' log log')
      → HaltsBy a (run_entries entries (next s0 t0)) (run_entries (drop (most - left) entries) (next s' t')) (run_entries (drop most entries) (next s' t')) (next s' t') l l' h h' log0 log'
  quiet_first a left s' t' l' h' log' less loudly =
      let ks = drop (most - rest) entries in
      let c = next s' t' in
      let mid = run_entries ks (next s t) in
      let all : (most - rest) + rest ≡ most = omega (arith, within) in
      answers_on a l l l' h h h' log0 log log' (run_entries entries (next s0 t0)) mid (run_entries (drop (most - left) entries) c) (run_entries (drop most entries) c) c quiet_comes
      (answers_as a l l' h h' log log' mid mid (run_entries (drop (rest - left) ks) c) (run_entries (drop (most - left) entries) c) (run_entries (drop rest ks) c) (run_entries (drop most entries) c) c c refl
      (λ well. (ap (λ xs. run_entries xs c) (entries_on entries most rest left within less), ap (λ xs. run_entries xs c) (drop_twice (most - rest) rest entries ∙ ap (λ n. drop n entries) all), refl))
      (loudly next ks quiet_under_way.row))
