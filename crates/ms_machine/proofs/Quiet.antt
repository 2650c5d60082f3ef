-- A step that takes nothing is the same whatever a take gives.
use Rattle.std.proofs.Common.{◌≡◌, ℕ, Bool, true, false, List, [], ◌∷◌, Option, refl, ap, ◌∙◌}
use Rattle.ms_event.specs.declared.event.Event.{Event}
use Rattle.ms_host.specs.declared.host.Host.TheVariants as hosts
use Rattle.ms_linear.specs.declared.value.Value.{Value}
use Rattle.ms_linear.specs.declared.value.Value.TheVariants as values
use Rattle.ms_task.specs.Thread.{Thread}
use Rattle.ms_machine.specs.Hosting.{host_on}
use Rattle.ms_machine.specs.Moves.{Goes, first_of, hosted, move_for, move_of, move_on}
use Rattle.ms_machine.specs.Step.{Calls, Next, Outcome, Stuck, Trap, step_of}
use Rattle.ms_machine.specs.Store.{Store}
use Rattle.ms_machine.proofs.Outsides.{Input}

put_alike : (got other : Option ℕ) (vs : List Value) → host_on hosts.Putchar got vs ≡ host_on hosts.Putchar other vs
put_alike got other [] = refl
put_alike got other (values.I32 n ∷ vs) = refl
put_alike got other (values.I64 n ∷ vs) = refl
put_alike got other (values.Handle h ∷ vs) = refl

quiet : (s s' : Store) (t' : Thread) (put : Option ℕ) (event : Option Event) (got other : Option ℕ) (o : Outcome) → move_on s got o ≡ Goes s' t' false put event → move_on s other o ≡ Goes s' t' false put event
quiet s s' t' put event got other (Next s1 t1 e) is = is
quiet s s' t' put event got other (Calls hosts.Putchar u) is = ap (hosted s u false) (put_alike other got u.operands) ∙ is
quiet s s' t' put event got other (Calls hosts.Getchar u) is = cc
quiet s s' t' put event got other (Calls hosts.Abort u) is = cc
quiet s s' t' put event got other (Trap trap) is = cc
quiet s s' t' put event got other Stuck is = cc

pub moves_so : (s s' : Store) (t t' : Thread) (took : Bool) (got put : Option ℕ) (event : Option Event) (input : Input) → move_for s t got ≡ Goes s' t' took put event → (took ≡ true → first_of input ≡ got) → move_of s t input ≡ Goes s' t' took put event
moves_so s s' t t' true got put event input is first = ap (move_for s t) (first refl) ∙ is
moves_so s s' t t' false got put event input is first = quiet s s' t' put event got (first_of input) (step_of s t) is
