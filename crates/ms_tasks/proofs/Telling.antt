-- What a run of a crew answers, and what the log has kept then.
use Rattle.std.proofs.Common.{◌≡◌, ℕ, true, List, [], ◌∷◌, ◌++◌, length, refl, sym, ap, subst, ◌∙◌, append_assoc}
use Rattle.ms_event.specs.Monitor.{Accepts, nothing_yet}
use Rattle.ms_event.proofs.Traces.{front_is_accepted}
use Rattle.ms_task.specs.Thread.{Item, Thread}
use Rattle.ms_machine.specs.Crews.{Crew, Deeds, End, Input, OutOfBudget, Results, Run, Trap, ahead, begun, by_work, bytes_of, ends, events_of, results, run_of}
use Rattle.ms_machine.specs.Running.{MayGive}
use Rattle.ms_machine.specs.refinement.Safety.{Sound}
use Rattle.ms_machine.proofs.Outsides.{Content, some_input}
use Rattle.ms_outside.specs.Sink.{Puts}
use Rattle.ms_outside.specs.declared.sink.Put.TheVariants as puts
use Rattle.ms_tasks.specs.refinement.Logs.{Log, logged}
use Rattle.ms_tasks.specs.refinement.Outside.{HasBegun, HasRun}
use Rattle.ms_tasks.specs.refinement.Parts as parts
use Rattle.ms_tasks.specs.refinement.Parts.{HaltsBy, ComesTo, IsWell}
use Rattle.ms_tasks.specs.refinement.Ready.{IsReady, threads_of}
use Rattle.ms_tasks.specs.refinement.Runs.{CountsInput, CountsOut, DoesRun, IsOver, answer_of}
use Rattle.ms_tasks.specs.refinement.Steppers.{whose_of}
use Rattle.ms_tasks.specs.declared.burst.Halt.{Halt}
use Rattle.ms_tasks.specs.declared.burst.Halt.TheVariants as halts
use Rattle.ms_tasks.specs.declared.ran.Ran.{Ran}
use Rattle.ms_tasks.specs.declared.ran.Ran.TheVariants as answers
use Rattle.ms_tasks.proofs.Deeds.{both_nothing, events_kept}
use Rattle.ms_tasks.proofs.Safe.{run_safe}

-- ---- answers

-- the run was that over this input, to this end
abbrev RunEnds : (l l' h h' : Content) → (old new : Log) → (run : Input → Run) → End → Crew → Type 0
RunEnds l l' h h' old new run end c = (given : Input) × ((run given).end ≡ end) × ((run given).crew ≡ c) × HasRun l l' h h' old new given (run given)

run_ends : (l l' h h' : Content) (old new : Log) (run : Input → Run) (end : End) (c : Crew) → ComesTo l l' h h' old new run (ends end c) → RunEnds l l' h h' old new run end c
run_ends l l' h h' old new run end c a =
    let rest = some_input l' in
    let f = a.comes.from rest.0 rest.1 in
    let same : (run f.0).deeds ≡ a.deeds = ap (λ (x : Run). x.deeds) f.3 ∙ both_nothing a.deeds in (
      f.0,
      ap (λ (x : Run). x.end) f.3,
      ap (λ (x : Run). x.crew) f.3,
      record {
        alike = a.comes.alike;
        may = f.1;
        rest = subst (MayGive l') (sym (ap (λ (x : Run). x.input) f.3)) rest.1;
        out = subst (λ (d : Deeds). Puts puts.Done (bytes_of d) h h') (sym same) a.comes.out;
        log = a.log ∙ ap (λ (d : Deeds). logged d old) (sym same);
      },
    )

pub run_answers : (a : Halt) (l l' h h' : Content) (old new : Log) (run : Input → Run) (c : Crew) → HaltsBy a run (ends (Results (results c.tasks)) (begun c)) (ends OutOfBudget (begun c)) (begun c) l l' h h' old new → (given : Input) × DoesRun (answer_of a) c l l' h h' old new given (run given)
run_answers halts.Ended l l' h h' old new run c is = let x = run_ends l l' h h' old new run (Results (results c.tasks)) (begun c) is in (x.0, (x.1, x.2, x.3))
run_answers halts.Paused l l' h h' old new run c is = let x = run_ends l l' h h' old new run OutOfBudget (begun c) is in (x.0, (x.1, x.2, x.3))
run_answers (halts.Trap whose why) l l' h h' old new run c is = let x = run_ends l l' h h' old new run (Trap (whose_of whose) why) (begun c) is in (x.0, (x.1, x.2, x.3))
run_answers halts.ReadFault l l' h h' old new run c is = is
run_answers halts.WriteFault l l' h h' old new run c is = is
run_answers halts.Memory l l' h h' old new run c is = is

pub counts_input : (a : Halt) (before after : ℕ) → parts.CountsInput a before after → CountsInput (answer_of a) before after
counts_input halts.Ended before after h = h
counts_input halts.Paused before after h = h
counts_input (halts.Trap whose why) before after h = h
counts_input halts.ReadFault before after h = h
counts_input halts.WriteFault before after h = h
counts_input halts.Memory before after h = h

pub counts_out : (a : Halt) (before after : ℕ) → parts.CountsOut a before after → CountsOut (answer_of a) before after
counts_out halts.Ended before after h = h
counts_out halts.Paused before after h = h
counts_out (halts.Trap whose why) before after h = h
counts_out halts.ReadFault before after h = h
counts_out halts.WriteFault before after h = h
counts_out halts.Memory before after h = h

pub well_over : (a : Halt) → IsOver (answer_of a) → IsWell a
well_over halts.Ended h = tt
well_over halts.Paused h = tt
well_over (halts.Trap whose why) h = tt
well_over halts.ReadFault h = h
well_over halts.WriteFault h = h
well_over halts.Memory h = h

-- ---- what was kept

pub kept_accepted : (ran : Ran) (l l' h h' : Content) (old new : Log) (ks : List ℕ) (c c' : Crew) (given : Input) → DoesRun ran c' l l' h h' old new given (run_of ks c given) → IsReady c → old.trace.keep ≡ true → Sound old.trace.events c.store (threads_of c) → Accepts (length c.store.segments.bytes) new.trace.events
kept_accepted ran l l' h h' old new ks c c' given does ready keep sound = by ran does where
  n : ℕ
  n = length c.store.segments.bytes

  r : Run
  r = run_of ks c given

  whole : Accepts n (old.trace.events ++ events_of r.deeds)
  whole = let safe = run_safe ks c given old.trace.events ready sound in subst (λ m. Accepts m (old.trace.events ++ events_of r.deeds)) safe.1 safe.0.accepted

  ended : HasRun l l' h h' old new given r → Accepts n new.trace.events
  ended has = subst (Accepts n) (sym (ap (λ (x : Log). x.trace.events) has.log ∙ events_kept (events_of r.deeds) old.trace keep)) whole

  begins : HasBegun l l' h h' old new given r → Accepts n new.trace.events
  begins has =
      let all = subst (Accepts n) (ap (λ es. old.trace.events ++ es) has.is_seen.1 ∙ sym (append_assoc old.trace.events has.seen has.is_seen.0)) whole in
      subst (Accepts n) (sym (has.kept ∙ events_kept has.seen old.trace keep)) (front_is_accepted n nothing_yet (old.trace.events ++ has.seen) has.is_seen.0 all)

  by : (ran : Ran) → DoesRun ran c' l l' h h' old new given r → Accepts n new.trace.events
  by answers.Results x = ended x.2
  by (answers.Trap whose why) x = ended x.2
  by answers.Budget x = ended x.2
  by answers.ReadFault x = begins x
  by answers.WriteFault x = begins x
  by answers.Memory x = begins x

ahead_again : (ts : List Thread) → ahead (ahead ts) ≡ ahead ts
ahead_again [] = refl
ahead_again (t ∷ ts) = by t.work refl (ahead_again ts) where
  by : (w : List Item) → t.work ≡ w → ahead (ahead ts) ≡ ahead ts → ahead (by_work w (ahead ts) (t ∷ ts)) ≡ by_work w (ahead ts) (t ∷ ts)
  by [] is rest = rest
  by (i ∷ w) is rest = ap (λ x. by_work x (ahead ts) (t ∷ ts)) is

pub kept_sound : (ran : Ran) (l l' h h' : Content) (old new : Log) (ks : List ℕ) (c c' : Crew) (given : Input) → DoesRun ran c' l l' h h' old new given (run_of ks c given) → IsOver ran → IsReady c → old.trace.keep ≡ true → Sound old.trace.events c.store (threads_of c) → Sound new.trace.events c'.store (threads_of c')
kept_sound ran l l' h h' old new ks c c' given does over ready keep sound = by ran does over where
  r : Run
  r = run_of ks c given

  whole : Sound (old.trace.events ++ events_of r.deeds) r.crew.store (threads_of r.crew)
  whole = (run_safe ks c given old.trace.events ready sound).0

  threads : threads_of (begun c') ≡ threads_of c'
  threads = ap (λ ts. ts ++ c'.tasks) (ahead_again c'.chain)

  ended : r.crew ≡ begun c' → HasRun l l' h h' old new given r → Sound new.trace.events c'.store (threads_of c')
  ended crew has =
      subst (Sound new.trace.events c'.store) threads
      (subst (λ (x : Crew). Sound new.trace.events x.store (threads_of x)) crew
      (subst (λ es. Sound es r.crew.store (threads_of r.crew)) (sym (ap (λ (x : Log). x.trace.events) has.log ∙ events_kept (events_of r.deeds) old.trace keep)) whole))

  by : (ran : Ran) → DoesRun ran c' l l' h h' old new given r → IsOver ran → Sound new.trace.events c'.store (threads_of c')
  by answers.Results x over = ended x.1 x.2
  by (answers.Trap whose why) x over = ended x.1 x.2
  by answers.Budget x over = ended x.1 x.2
  by answers.ReadFault x over = absurd over
  by answers.WriteFault x over = absurd over
  by answers.Memory x over = absurd over
