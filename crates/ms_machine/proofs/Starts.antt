-- The task that was started is well typed, and its handles fit.
use Rattle.std.proofs.Common.{◌≡◌, ℕ, List, [], ◌∷◌, Some, Result, Ok, Err, IfOk, slice_get, ap, sym, subst, ◌∙◌}
use Rattle.ms_event.specs.declared.event.Event.{Event}
use Rattle.ms_task.specs.Control.{exited, started}
use Rattle.ms_task.specs.Thread.{Thread}
use Rattle.ms_task.specs.refinement.View.{thread_of}
use Rattle.ms_task.specs.declared.func.FuncInst.{FuncInst}
use Rattle.ms_task.specs.declared.task.Task.{Task}
use Rattle.ms_machine.proofs.HeldFits.{starts_fit}
use Rattle.ms_machine.proofs.SafeStarts.{sound_start}
use Rattle.ms_machine.proofs.TypedSteps.{starts_well}
use Rattle.ms_machine.specs.refinement.Holding.{ThreadFits}
use Rattle.ms_machine.specs.refinement.Safety.{Sound}
use Rattle.ms_machine.specs.Store.{Store}
use Rattle.ms_machine.specs.Typing.{StoreTyped, TaskTyped, outline_of}

pub start_typed : {E : Type 0} (s : Store) (funcs : List FuncInst) (address : ℕ) (g : FuncInst) (r : Result Task E) → funcs ≡ s.funcs → StoreTyped (outline_of s) → slice_get s.funcs address ≡ Some g → g.ty.params ≡ [] → ((g : FuncInst) → slice_get funcs address ≡ Some g → IfOk r (λ t. thread_of funcs t ≡ exited (started funcs address g))) → IfOk r (λ t. TaskTyped (outline_of s) (thread_of s.funcs t))
start_typed s funcs address g (Err e) same store found alone starts = tt
start_typed s funcs address g (Ok t) same store found alone starts =
    let is : thread_of s.funcs t ≡ exited (started s.funcs address g) = subst (λ fs. thread_of fs t ≡ exited (started fs address g)) same (starts g (ap (λ fs. slice_get fs address) same ∙ found)) in
    subst (TaskTyped (outline_of s)) (sym is) (starts_well s address g store found alone)

pub start_fits : {E : Type 0} (s : Store) (funcs : List FuncInst) (address : ℕ) (g : FuncInst) (r : Result Task E) → funcs ≡ s.funcs → slice_get s.funcs address ≡ Some g → ((g : FuncInst) → slice_get funcs address ≡ Some g → IfOk r (λ t. thread_of funcs t ≡ exited (started funcs address g))) → IfOk r (λ t. ThreadFits s (thread_of s.funcs t))
start_fits s funcs address g (Err e) same found starts = tt
start_fits s funcs address g (Ok t) same found starts =
    let is : thread_of s.funcs t ≡ exited (started s.funcs address g) = subst (λ fs. thread_of fs t ≡ exited (started fs address g)) same (starts g (ap (λ fs. slice_get fs address) same ∙ found)) in
    subst (ThreadFits s) (sym is) (starts_fit s address g)

pub start_sound : {E : Type 0} (s : Store) (funcs : List FuncInst) (address : ℕ) (g : FuncInst) (r : Result Task E) → funcs ≡ s.funcs → slice_get s.funcs address ≡ Some g → ((g : FuncInst) → slice_get funcs address ≡ Some g → IfOk r (λ t. thread_of funcs t ≡ exited (started funcs address g))) → IfOk r (λ t. (events : List Event) (threads : List Thread) → Sound events s threads → Sound events s (thread_of s.funcs t ∷ threads))
start_sound s funcs address g (Err e) same found starts = tt
start_sound s funcs address g (Ok t) same found starts =
    let is : thread_of s.funcs t ≡ exited (started s.funcs address g) = subst (λ fs. thread_of fs t ≡ exited (started fs address g)) same (starts g (ap (λ fs. slice_get fs address) same ∙ found)) in
    λ events threads sound. subst (λ x. Sound events s (x ∷ threads)) (sym is) (sound_start events s threads address g sound)
