-- Memory safety through a step with the outside.
use Rattle.std.proofs.Common.{◌≡◌, ℕ, Bool, List, [], ◌∷◌, ◌++◌, length, Option, None, refl, sym, ap, subst, append-nil}
use Rattle.std.proofs.lemmas.List.Elements.{All-head, All-tail}
use Rattle.ms_event.specs.declared.event.Event.{Event}
use Rattle.ms_event.specs.Monitor.{after_all, nothing_yet}
use Rattle.ms_task.specs.Thread.{Thread}
use Rattle.ms_machine.specs.refinement.Holding.{StoreFits, ThreadFits, ThreadHolds}
use Rattle.ms_machine.specs.Moves.{Goes, move_for, move_on}
use Rattle.ms_machine.specs.refinement.Safety.{Knows, Sound}
use Rattle.ms_machine.specs.Step.{Calls, Next, Outcome, Stuck, Trap, step_of}
use Rattle.ms_machine.specs.Running.{with_event}
use Rattle.ms_machine.specs.refinement.Stepped.{DoesStep, IsWell, event_of}
use Rattle.ms_machine.specs.Store.{Store}
use Rattle.ms_machine.specs.declared.stepped.Stepped.{Stepped}
use Rattle.ms_machine.specs.declared.stepped.Stepped.TheVariants as answers
use Rattle.ms_machine.proofs.HeldActs.{stepped_calls}
use Rattle.ms_machine.proofs.Moving.{hosted_holds}
use Rattle.ms_machine.proofs.SafeStarts.{with_thread}
use Rattle.ms_machine.proofs.SafeSteps.{sound_step, step_follows}

as_before : (s s' : Store) (t t' : Thread) (events : List Event) (others : List Thread) → s' ≡ s → t' ≡ t → Sound events s (t ∷ others) → Sound (events ++ with_event None []) s' (t' ∷ others)
as_before s s' t t' events others store thread sound =
    subst (λ es. Sound es s' (t' ∷ others)) (sym (append-nil events))
    (subst (λ (x : Store). Sound events x (t' ∷ others)) (sym store) (subst (λ (u : Thread). Sound events s (u ∷ others)) (sym thread) sound))

without : (events : List Event) (s : Store) (t : Thread) (others : List Thread) → Sound events s (t ∷ others) → Sound events s others
without events s t others sound = record {
  accepted = sound.accepted;
  sizes = sound.sizes;
  monitored = sound.monitored;
  globals = sound.globals;
  threads = All-tail (ThreadHolds (Knows (after_all nothing_yet events))) t others sound.threads;
}

-- the monitor's state is sound after the step's event, and there are as many bytes
abbrev StaysSound : List Event → Option Event → Store → Store → Thread → List Thread → Type 0
StaysSound events event s s' t' others = Sound (events ++ with_event event []) s' (t' ∷ others) × (length s'.segments.bytes ≡ length s.segments.bytes)

pub sound_move : (s s' : Store) (t t' : Thread) (others : List Thread) (events : List Event) (got : Option ℕ) (took : Bool) (put : Option ℕ) (event : Option Event) → StoreFits s → ThreadFits s t → Sound events s (t ∷ others) → move_for s t got ≡ Goes s' t' took put event → StaysSound events event s s' t' others
sound_move s s' t t' others events got took put event store fits sound is = by (step_of s t) refl is where
  by : (o : Outcome) → step_of s t ≡ o → move_on s got o ≡ Goes s' t' took put event → StaysSound events event s s' t' others
  by (Next s1 t1 e) next goes =
      let next' : step_of s t ≡ Next s' t' event = cc in
      let mine = All-head (ThreadHolds (Knows (after_all nothing_yet events))) t others sound.threads in
      let follows = step_follows (after_all nothing_yet events) s store.segments sound.monitored s' t t' event fits mine next' in
      (sound_step s s' t t' others events event store fits sound next', follows.capacity)
  by (Calls h u) next goes =
      let P = Knows (after_all nothing_yet events) in
      let mine = stepped_calls P (λ n. tt) (λ n. tt) tt s t u h sound.globals (All-head (ThreadHolds P) t others sound.threads) next in
      let held = hosted_holds P (λ n. tt) s s' h got u t' took put event mine goes in
      let known = with_thread events s t' others (without events s t others sound) held.2 in
      (subst (λ e. Sound (events ++ with_event e []) s' (t' ∷ others)) (sym held.1) (as_before s s' t' t' events others held.0 refl known), ap (λ (x : Store). length x.segments.bytes) held.0)
  by (Trap trap) next goes = cc
  by Stuck next goes = cc

pub does_step_sound : (s s' : Store) (t t' : Thread) (r : Stepped) (left left' held held' : Option (List ℕ)) (events : List Event) (others : List Thread) → DoesStep r (move_for s t) s t s' t' left left' held held' → IsWell r → StoreFits s → ThreadFits s t → Sound events s (t ∷ others) → StaysSound events (event_of r) s s' t' others
does_step_sound s s' t t' (answers.On event) left left' held held' events others h well store fits sound = sound_move s s' t t' others events h.0.got h.0.took h.0.put event store fits sound h.0.is
does_step_sound s s' t t' (answers.Ended value event) left left' held held' events others h well store fits sound = sound_move s s' t t' others events h.0.got h.0.took h.0.put event store fits sound h.0.is
does_step_sound s s' t t' (answers.Trap trap) left left' held held' events others h well store fits sound = (as_before s s' t t' events others h.1 h.2 sound, ap (λ (x : Store). length x.segments.bytes) h.1)
does_step_sound s s' t t' answers.ReadFault left left' held held' events others h well store fits sound = absurd well
does_step_sound s s' t t' answers.WriteFault left left' held held' events others h well store fits sound = absurd well
does_step_sound s s' t t' answers.Memory left left' held held' events others h well store fits sound = absurd well
