-- A step with the host, on two stores that are alike, and of one side.
use Rattle.std.proofs.Common.{◌≡◌, ℕ, Bool, true, List, [], ◌∷◌, Option, None, refl, sym, ap, ◌∙◌, subst}
use Rattle.ms_event.specs.declared.event.Event.{Event}
use Rattle.ms_host.specs.declared.host.Host.{Host}
use Rattle.ms_host.specs.declared.host.Host.TheVariants as hosts
use Rattle.ms_linear.specs.declared.value.Value.{Value}
use Rattle.ms_linear.specs.declared.value.Value.TheVariants as values
use Rattle.ms_segment.specs.Memory.{IsSound}
use Rattle.ms_task.specs.Control.{exited as exited_thread}
use Rattle.ms_task.specs.Thread.{Thread, thread}
use Rattle.ms_machine.specs.refinement.Holding.{Each, Fits, ThreadFits}
use Rattle.ms_machine.specs.Hosting as hosting
use Rattle.ms_machine.specs.Hosting.{host_on, takes}
use Rattle.ms_machine.specs.Moves as moves
use Rattle.ms_machine.specs.Moves.{Goes, Move, hosted, move_for, move_on}
use Rattle.ms_machine.specs.Step.{Calls, Next, Outcome, Stuck, Trap, step_of}
use Rattle.ms_machine.specs.Store.{Store}
use Rattle.ms_apart.specs.refinement.Renaming.{Renaming, rename_all, rename_thread}
use Rattle.ms_apart.specs.refinement.Apart.{Alike, EventAlike, IsSided, Owned, Separated, Sides, Stepped, ThreadOn, ValueOn, kept, owned_after, plain, renamed_after}
use Rattle.ms_apart.specs.refinement.Calm.{WasGranted}
use Rattle.ms_apart.proofs.Control.{exited_renamed}
use Rattle.ms_apart.proofs.Steps.{Granted, StepAlike, step_alike}
use Rattle.ms_apart.proofs.Stepping.{OutcomeOn, exit_on, step_on}

module _ (r : Renaming) where
  abbrev rename_effect : hosting.Effect → hosting.Effect
  rename_effect (hosting.Gives vs put) = hosting.Gives (rename_all r vs) put
  rename_effect (hosting.Trap trap) = hosting.Trap trap
  rename_effect hosting.Stuck = hosting.Stuck

  host_renamed : (h : Host) (got : Option ℕ) (vs : List Value) → host_on h got (rename_all r vs) ≡ rename_effect (host_on h got vs)
  host_renamed hosts.Putchar got [] = refl
  host_renamed hosts.Putchar got (values.I32 n ∷ vs) = refl
  host_renamed hosts.Putchar got (values.I64 n ∷ vs) = refl
  host_renamed hosts.Putchar got (values.Handle h ∷ vs) = refl
  host_renamed hosts.Getchar got vs = refl
  host_renamed hosts.Abort got vs = refl

abbrev pub GrantedMove : Move → Type 0
GrantedMove (Goes s t took put event) = WasGranted event
GrantedMove m = Unit {0}

module _ (sides : Sides) (own : Owned) (r : Renaming) (s s' : Store) (alike : Alike sides own r s s') (sided : IsSided sides s) (separated : Separated sides own s) (sound : IsSound s.segments) (sound' : IsSound s'.segments) where
  abbrev pub MoveAlike : Move → Move → Type 0
  MoveAlike (Goes s1 t took put event) m' =
      (s1' : Store) × (event' : Option Event) × (m' ≡ Goes s1' (rename_thread (renamed_after event event' r) t) took put event') × Alike sides (owned_after event own) (renamed_after event event' r) s1 s1' × EventAlike own (renamed_after event event' r) s.segments s'.segments event event'
  MoveAlike (moves.Trap trap) m' = m' ≡ moves.Trap trap
  MoveAlike moves.Stuck m' = m' ≡ moves.Stuck

  hosted_alike : (t : Thread) (took : Bool) (e e' : hosting.Effect) → e' ≡ rename_effect r e → MoveAlike (hosted s t took e) (hosted s' (rename_thread r t) took e')
  hosted_alike t took (hosting.Gives vs put) e' is = (s', None, ap (hosted s' (rename_thread r t) took) is ∙ ap (λ u. Goes s' u took put None) (exited_renamed r (thread t.frame vs t.work)), alike, (refl, tt))
  hosted_alike t took (hosting.Trap trap) e' is = ap (hosted s' (rename_thread r t) took) is
  hosted_alike t took hosting.Stuck e' is = ap (hosted s' (rename_thread r t) took) is

  on_alike : (got : Option ℕ) (o o' : Outcome) → StepAlike sides own r s s' alike sided separated sound sound' o o' → MoveAlike (move_on s got o) (move_on s' got o')
  on_alike got (Next s1 t event) o' x = (x.0, x.1, ap (move_on s' got) x.2, x.3, x.4)
  on_alike got (Calls h t) o' x =
      subst (λ z. MoveAlike (move_on s got (Calls h t)) (move_on s' got z)) (sym x) (hosted_alike t (takes h) (host_on h got t.operands) (host_on h got (rename_all r t.operands)) (host_renamed r h got t.operands))
  on_alike got (Trap trap) o' x = ap (move_on s' got) x
  on_alike got Stuck o' x = ap (move_on s' got) x

  granted_on : (s1 : Store) (got : Option ℕ) (o : Outcome) → GrantedMove (move_on s1 got o) → Granted sides own r s s' alike sided separated sound sound' o
  granted_on s1 got (Next s2 t event) g = g
  granted_on s1 got (Calls h t) g = tt
  granted_on s1 got (Trap trap) g = tt
  granted_on s1 got Stuck g = tt

  -- a step of a thread of the component is the same step on both
  pub move_alike : (t : Thread) (got : Option ℕ) → ThreadOn sides own true s t → Each (Fits s.segments) t.operands → GrantedMove (move_for s t got) → GrantedMove (move_for s' (rename_thread r t) got) → MoveAlike (move_for s t got) (move_for s' (rename_thread r t) got)
  move_alike t got on fit g g' = on_alike got (step_of s t) (step_of s' (rename_thread r t)) (step_alike sides own r s s' alike sided separated sound sound' t on fit (granted_on s got (step_of s t) g) (granted_on s' got (step_of s' (rename_thread r t)) g'))

-- ---- of one side

module _ (sides : Sides) (own : Owned) (side : Bool) (s : Store) (sided : IsSided sides s) (separated : Separated sides own s) (sound : IsSound s.segments) where
  abbrev pub MoveOn : Move → Type 0
  MoveOn (Goes s1 t took put event) = Stepped sides own side s s1 t event
  MoveOn m = Unit {0}

  hosted_on : (h : Host) (got : Option ℕ) (t : Thread) → ThreadOn sides own side s t → MoveOn (hosted s t (takes h) (host_on h got t.operands))
  hosted_on h got t on = by h t.operands on.values.operands where
    gives : (vs : List Value) → Each (ValueOn own side) vs → Stepped sides own side s s (exited_thread (thread t.frame vs t.work)) None
    gives vs x = plain s (exited_thread (thread t.frame vs t.work)) None tt kept (exit_on sides own side s (thread t.frame vs t.work) (record { function = on.function; callers = on.callers; values = record { operands = x; locals = on.values.locals; kept = on.values.kept } }))

    by : (h : Host) (vs : List Value) → Each (ValueOn own side) vs → MoveOn (hosted s t (takes h) (host_on h got vs))
    by hosts.Putchar [] x = tt
    by hosts.Putchar (values.I32 n ∷ vs) x = gives (values.I32 _ ∷ vs) (tt, x.1)
    by hosts.Putchar (values.I64 n ∷ vs) x = tt
    by hosts.Putchar (values.Handle g ∷ vs) x = tt
    by hosts.Getchar vs x = gives (values.I32 _ ∷ vs) (tt, x)
    by hosts.Abort vs x = tt

  pub move_on_side : (t : Thread) (got : Option ℕ) → ThreadOn sides own side s t → ThreadFits s t → MoveOn (move_for s t got)
  move_on_side t got on fit = by (step_of s t) (step_on sides own side s sided separated sound t on fit) where
    by : (o : Outcome) → OutcomeOn sides own side s sided separated sound o → MoveOn (move_on s got o)
    by (Next s1 u event) x = x
    by (Calls h u) x = hosted_on h got u x
    by (Trap trap) x = tt
    by Stuck x = tt
