-- What has happened, one thing after another, and what the log makes of it.
use Rattle.std.proofs.Common.{◌≡◌, ◌≤◌, ◌<◌, ◌+◌, ◌^◌, ℕ, zero, suc, Bool, true, false, cond, IsTrue, List, [], ◌∷◌, ◌++◌, Option, Some, None, refl, sym, ap, subst, ◌∙◌, append-nil, append_assoc, arith}
use Rattle.std.proofs.lemmas.List.{map-append}
use Rattle.ms_event.specs.declared.event.Event.{Event}
use Rattle.ms_event.specs.declared.tally.Tally.{Tally}
use Rattle.ms_event.specs.refinement.Tally.{LeavesRoom, all_tallied, tallied}
use Rattle.ms_task.specs.Thread.{Thread}
use Rattle.ms_event.specs.declared.event.Event.TheVariants.{Alloc, Free, Read, Refused, Seal, Slice, Write}
use Rattle.ms_machine.specs.Crews.{Deeds, Run, Whose, behind, both, bytes_of, deed, events_of, nothing}
use Rattle.ms_machine.specs.Running.{with_event}
use Rattle.ms_machine.specs.Store.{Store}
use Rattle.ms_machine.specs.declared.straight.Stretch.{Stretch}
use Rattle.ms_machine.specs.declared.straight.Stretch.TheVariants as stretches
use Rattle.ms_machine.specs.refinement.StraightLine.{GoesTelling, IsHalted}
use Rattle.ms_machine.proofs.Outsides.{with_byte}
use Rattle.ms_tasks.specs.refinement.Logs.{CountsUpTo, GoesSeen, HaltsSeen, Log, Trace, all_seen, logged, seen}

deeds_is : (d e : Deeds) → d.puts ≡ e.puts → d.events ≡ e.events → d.takes ≡ e.takes → d.used ≡ e.used → d ≡ e
deeds_is d e a b t u =
    ap (λ p. record { puts = p; events = d.events; takes = d.takes; used = d.used }) a
    ∙ (ap (λ p. record { puts = e.puts; events = p; takes = d.takes; used = d.used }) b
    ∙ (ap (λ p. record { puts = e.puts; events = e.events; takes = p; used = d.used }) t ∙ ap (λ p. record { puts = e.puts; events = e.events; takes = e.takes; used = p }) u))

nothing_first : (d : Deeds) → both nothing d ≡ d
nothing_first d = deeds_is (both nothing d) d refl refl refl (omega arith)

both_assoc : (a b d : Deeds) → both a (both b d) ≡ both (both a b) d
both_assoc a b d = deeds_is (both a (both b d)) (both (both a b) d) (sym (append_assoc a.puts b.puts d.puts)) (sym (append_assoc a.events b.events d.events)) (sym (append_assoc a.takes b.takes d.takes)) (omega arith)

pub behind_nothing : (r : Run) → behind nothing r ≡ r
behind_nothing r = ap (λ d. record { deeds = d; end = r.end; input = r.input; crew = r.crew }) (nothing_first r.deeds)

pub behind_both : (d e : Deeds) (r : Run) → behind d (behind e r) ≡ behind (both d e) r
behind_both d e r = ap (λ x. record { deeds = x; end = r.end; input = r.input; crew = r.crew }) (both_assoc d e r.deeds)

pub both_nothing : (d : Deeds) → both d nothing ≡ d
both_nothing d = deeds_is (both d nothing) d (append-nil d.puts) (append-nil d.events) (append-nil d.takes) (omega arith)

-- ---- bytes and events

pub deed_events : (whose : Whose) (took : Bool) (put : Option ℕ) (event : Option Event) → events_of (deed whose took put event) ≡ with_event event []
deed_events whose took put None = refl
deed_events whose took put (Some e) = refl

pub deed_bytes : (whose : Whose) (took : Bool) (put : Option ℕ) (event : Option Event) → bytes_of (deed whose took put event) ≡ with_byte put []
deed_bytes whose took None event = refl
deed_bytes whose took (Some b) event = refl

pub both_events : (d e : Deeds) → events_of (both d e) ≡ events_of d ++ events_of e
both_events d e = map-append (λ (p : Whose × Event). p.1) d.events e.events

pub both_bytes : (d e : Deeds) → bytes_of (both d e) ≡ bytes_of d ++ bytes_of e
both_bytes d e = map-append (λ (p : Whose × ℕ). p.1) d.puts e.puts

-- ---- the log

pub all_seen_both : (es fs : List Event) (t : Trace) → all_seen (es ++ fs) t ≡ all_seen fs (all_seen es t)
all_seen_both [] fs t = refl
all_seen_both (e ∷ es) fs t = all_seen_both es fs (seen e t)

pub logged_nothing : (l : Log) → l ≡ logged nothing l
logged_nothing l =
    let e : l.entries ≡ l.entries + 0 = omega arith in
    ap (λ (m : ℕ). let x : Log = record { entries = m; trace = l.trace } in x) e

sum_again : (a b x : ℕ) → (a + b) + x ≡ a + (b + x)
sum_again a b x = omega arith

pub logged_both : (d e : Deeds) (l : Log) → logged e (logged d l) ≡ logged (both d e) l
logged_both d e l =
    ap (λ n. record { entries = n; trace = all_seen (events_of e) (all_seen (events_of d) l.trace) }) (sum_again l.entries d.used e.used)
    ∙ ap (λ x. record { entries = l.entries + (d.used + e.used); trace = x }) (sym (all_seen_both (events_of d) (events_of e) l.trace) ∙ ap (λ es. all_seen es l.trace) (sym (both_events d e)))

-- ---- its counts

seen_within : (n : ℕ) (e : Event) (t : Trace) → CountsUpTo n t → CountsUpTo (n + 1) (seen e t)
seen_within n (Alloc id addr size) t h = let a = h.allocs in let b = h.refused in let c = h.seals in let d = h.slices in let i = h.reads in let j = h.writes in let k = h.frees in record { allocs = omega (arith, a); refused = omega (arith, b); seals = omega (arith, c); slices = omega (arith, d); reads = omega (arith, i); writes = omega (arith, j); frees = omega (arith, k) }
seen_within n (Refused size) t h = let a = h.allocs in let b = h.refused in let c = h.seals in let d = h.slices in let i = h.reads in let j = h.writes in let k = h.frees in record { allocs = omega (arith, a); refused = omega (arith, b); seals = omega (arith, c); slices = omega (arith, d); reads = omega (arith, i); writes = omega (arith, j); frees = omega (arith, k) }
seen_within n (Seal id lo hi) t h = let a = h.allocs in let b = h.refused in let c = h.seals in let d = h.slices in let i = h.reads in let j = h.writes in let k = h.frees in record { allocs = omega (arith, a); refused = omega (arith, b); seals = omega (arith, c); slices = omega (arith, d); reads = omega (arith, i); writes = omega (arith, j); frees = omega (arith, k) }
seen_within n (Slice sealed id lo hi lo2 hi2) t h = let a = h.allocs in let b = h.refused in let c = h.seals in let d = h.slices in let i = h.reads in let j = h.writes in let k = h.frees in record { allocs = omega (arith, a); refused = omega (arith, b); seals = omega (arith, c); slices = omega (arith, d); reads = omega (arith, i); writes = omega (arith, j); frees = omega (arith, k) }
seen_within n (Read sealed id lo hi addr width) t h = let a = h.allocs in let b = h.refused in let c = h.seals in let d = h.slices in let i = h.reads in let j = h.writes in let k = h.frees in record { allocs = omega (arith, a); refused = omega (arith, b); seals = omega (arith, c); slices = omega (arith, d); reads = omega (arith, i); writes = omega (arith, j); frees = omega (arith, k) }
seen_within n (Write id lo hi addr width) t h = let a = h.allocs in let b = h.refused in let c = h.seals in let d = h.slices in let i = h.reads in let j = h.writes in let k = h.frees in record { allocs = omega (arith, a); refused = omega (arith, b); seals = omega (arith, c); slices = omega (arith, d); reads = omega (arith, i); writes = omega (arith, j); frees = omega (arith, k) }
seen_within n (Free id) t h = let a = h.allocs in let b = h.refused in let c = h.seals in let d = h.slices in let i = h.reads in let j = h.writes in let k = h.frees in record { allocs = omega (arith, a); refused = omega (arith, b); seals = omega (arith, c); slices = omega (arith, d); reads = omega (arith, i); writes = omega (arith, j); frees = omega (arith, k) }

pub within_more : (n m : ℕ) (t : Trace) → n ≤ m → CountsUpTo n t → CountsUpTo m t
within_more n m t le h = let a = h.allocs in let b = h.refused in let c = h.seals in let d = h.slices in let i = h.reads in let j = h.writes in let k = h.frees in record { allocs = omega (arith, a, le); refused = omega (arith, b, le); seals = omega (arith, c, le); slices = omega (arith, d, le); reads = omega (arith, i, le); writes = omega (arith, j, le); frees = omega (arith, k, le) }

pub within_after : (n m : ℕ) (event : Option Event) (t t' : Trace) → n + 1 ≤ m → t' ≡ all_seen (with_event event []) t → CountsUpTo n t → CountsUpTo m t'
within_after n m None t t' le is h = subst (CountsUpTo m) (sym is) (within_more n m t (omega (arith, le)) h)
within_after n m (Some e) t t' le is h = subst (CountsUpTo m) (sym is) (within_more (n + 1) m (seen e t) le (seen_within n e t h))

-- steps tell one event each at most
within_telling : (s s' : Store) (t t' : Thread) (n k m : ℕ) (es : List Event) (trace : Trace) → GoesTelling s t n es s' t' → k + n ≤ m → CountsUpTo k trace → CountsUpTo m (all_seen es trace)
within_telling s s' t t' zero k m es trace (same, still, none) le h = subst (λ xs. CountsUpTo m (all_seen xs trace)) (sym none) (within_more k m trace (omega (arith, le)) h)
within_telling s s' t t' (suc n) k m es trace (s1, t1, es1, event, rest, going, step, told) le h =
    within_after (k + n) m event (all_seen es1 trace) (all_seen es trace) (omega (arith, le)) (ap (λ xs. all_seen xs trace) told ∙ all_seen_both es1 (with_event event []) trace) (within_telling s s1 t t1 n k (k + n) es1 trace rest (omega arith) h)

pub within_seen : (s s' : Store) (t t' : Thread) (n k m : ℕ) (trace trace' : Trace) → GoesSeen s t trace n s' t' trace' → k + n ≤ m → CountsUpTo k trace → CountsUpTo m trace'
within_seen s s' t t' n k m trace trace' (es, steps, told) le h = subst (CountsUpTo m) (sym told) (within_telling s s' t t' n k m es trace steps le h)

-- so many more can be counted
pub room_for : (n m : ℕ) (t : Trace) → n + m < 2 ^ 64 → CountsUpTo n t → LeavesRoom m t.tally
room_for n m t less h = let a = h.allocs in let b = h.refused in let c = h.seals in let d = h.slices in let i = h.reads in let j = h.writes in let k = h.frees in record { allocs = omega (arith, a, less); refused = omega (arith, b, less); seals = omega (arith, c, less); slices = omega (arith, d, less); reads = omega (arith, i, less); writes = omega (arith, j, less); frees = omega (arith, k, less) }

-- ---- what quiet steps tell

seen_tally : (es : List Event) (keep : Bool) (c : Tally) (events : List Event) → keep ≡ false → record { keep = keep; tally = all_tallied es c; events = events } ≡ all_seen es (record { keep = keep; tally = c; events = events })
seen_tally [] keep c events none = refl
seen_tally (e ∷ es) keep c events none = seen_tally es keep (tallied e c) events none ∙ ap (λ xs. all_seen es (record { keep = keep; tally = tallied e c; events = xs })) (sym (ap (λ b. cond b (events ++ e ∷ []) events) none))

told_seen : (es : List Event) (keep : Bool) (c c' : Tally) (events : List Event) → c' ≡ all_tallied es c → (IsTrue keep → es ≡ []) → record { keep = keep; tally = c'; events = events } ≡ all_seen es (record { keep = keep; tally = c; events = events })
told_seen es true c c' events tally none =
    let e = none refl in
    ap (λ x. record { keep = true; tally = x; events = events }) (tally ∙ ap (λ xs. all_tallied xs c) e) ∙ ap (λ xs. all_seen xs (record { keep = true; tally = c; events = events })) (sym e)
told_seen es false c c' events tally none = ap (λ x. record { keep = false; tally = x; events = events }) tally ∙ seen_tally es false c events refl

pub halted_seen : (q : Stretch) (keep : Bool) (n : ℕ) (s s' : Store) (t t' : Thread) (c c' : Tally) (events : List Event) → IsHalted q keep n s t c s' t' c' → HaltsSeen q s t (record { keep = keep; tally = c; events = events }) n s' t' (record { keep = keep; tally = c'; events = events })
halted_seen stretches.Paused keep n s s' t t' c c' events ((es, steps, tally, none), going) = ((es, steps, told_seen es keep c c' events tally none), going)
halted_seen stretches.Ended keep n s s' t t' c c' events ((es, steps, tally, none), ended) = ((es, steps, told_seen es keep c c' events tally none), ended)
halted_seen stretches.Memory keep n s s' t t' c c' events memory = refl

-- ---- what it keeps

seen_keep : (e : Event) (t : Trace) → (seen e t).keep ≡ t.keep
seen_keep (Alloc id addr size) t = refl
seen_keep (Refused size) t = refl
seen_keep (Seal id lo hi) t = refl
seen_keep (Slice sealed id lo hi lo2 hi2) t = refl
seen_keep (Read sealed id lo hi addr width) t = refl
seen_keep (Write id lo hi addr width) t = refl
seen_keep (Free id) t = refl

seen_events : (e : Event) (t : Trace) → t.keep ≡ true → (seen e t).events ≡ t.events ++ e ∷ []
seen_events (Alloc id addr size) t k = ap (λ b. cond b (t.events ++ Alloc id addr size ∷ []) t.events) k
seen_events (Refused size) t k = ap (λ b. cond b (t.events ++ Refused size ∷ []) t.events) k
seen_events (Seal id lo hi) t k = ap (λ b. cond b (t.events ++ Seal id lo hi ∷ []) t.events) k
seen_events (Slice sealed id lo hi lo2 hi2) t k = ap (λ b. cond b (t.events ++ Slice sealed id lo hi lo2 hi2 ∷ []) t.events) k
seen_events (Read sealed id lo hi addr width) t k = ap (λ b. cond b (t.events ++ Read sealed id lo hi addr width ∷ []) t.events) k
seen_events (Write id lo hi addr width) t k = ap (λ b. cond b (t.events ++ Write id lo hi addr width ∷ []) t.events) k
seen_events (Free id) t k = ap (λ b. cond b (t.events ++ Free id ∷ []) t.events) k

pub events_kept : (es : List Event) (t : Trace) → t.keep ≡ true → (all_seen es t).events ≡ t.events ++ es
events_kept [] t keep = sym (append-nil t.events)
events_kept (e ∷ es) t keep =
    events_kept es (seen e t) (seen_keep e t ∙ keep) ∙ (ap (λ xs. xs ++ es) (seen_events e t keep) ∙ append_assoc t.events (e ∷ []) es)
