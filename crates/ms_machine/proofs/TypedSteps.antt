-- A well-typed task is never stuck, and stays well typed.
use Rattle.std.proofs.Common.{◌≡◌, ◌≢◌, ℕ, List, [], ◌∷◌, ◌++◌, length, map, slice_get, Some, None, refl, sym, ap, ◌∙◌, arith}
use Rattle.std.proofs.lemmas.Option.{slice_get_past}
use Rattle.ms_linear.specs.Values.{default_of}
use Rattle.ms_linear.specs.declared.value.Value.{Value}
use Rattle.ms_rules.specs.Typing.{types}
use Rattle.ms_task.specs.Control.{nobody, exited as exited_thread, started}
use Rattle.ms_task.specs.declared.func.FuncInst.{FuncInst}
use Rattle.ms_task.specs.Thread.{Activation, Begins, Do, Frame, Item, Label, Thread, result_of, sequence}
use Rattle.ms_types.specs.declared.types.ValType.{ValType}
use Rattle.ms_machine.specs.Step.{Calls, Outcome, Next, Stuck, Trap, begin, first, exited, step_of}
use Rattle.ms_machine.specs.Store.{Store}
use Rattle.ms_machine.specs.Typing.{FrameTyped, IsExited, Outline, StoreTyped, TaskTyped, ThreadTyped, WorkTyped, context_at, outline_of, types_of}
use Rattle.ms_machine.proofs.TypedActs.{act_typed}
use Rattle.ms_machine.proofs.TypedBlocks.{opened}
use Rattle.ms_machine.proofs.TypedCalls.{body_typed, locals_of, no_locals, no_returns, returns_of}
use Rattle.ms_machine.proofs.TypedPlain.{CallTyped, OutcomeTyped}
use Rattle.ms_machine.proofs.TypedValues.{defaults_typed}
use Rattle.ms_machine.proofs.TypedWork.{sequence_typed, exit_typed}

-- ---- a step

pub exited_typed : (o : Outline) (t : Thread) → ThreadTyped o t → TaskTyped o (exited_thread t)
exited_typed o t h = exit_typed o t.frame t.operands t.work h.ts h.below h.operands h.frame h.work

-- the same of what a step has exited
abbrev pub ExitedTyped : Outline → Outcome → Type 0
ExitedTyped o (Next s t event) = (outline_of s ≡ o) × TaskTyped o t
ExitedTyped o (Calls h t) = CallTyped o h t
ExitedTyped o (Trap trap) = Unit {0}
ExitedTyped o Stuck = ⊥

exits : (o : Outline) (r : Outcome) → OutcomeTyped o r → ExitedTyped o (exited r)
exits o (Next s t event) h = (h.0, exited_typed o t h.1)
exits o (Calls host t) h = h
exits o (Trap trap) h = tt
exits o Stuck h = h

first_typed : (s : Store) → StoreTyped (outline_of s) → (fr : Frame) (vs : List Value) (w : List Item) (ts below : List ValType) → types_of vs ≡ ts ++ below → FrameTyped (outline_of s) fr → WorkTyped (outline_of s) fr.function w ts below → IsExited w → w ≢ [] → OutcomeTyped (outline_of s) (first s fr vs w)
first_typed s store fr vs [] ts below operands frame work exited going = absurd (going refl)
first_typed s store fr vs (Do i ∷ w) ts below operands frame work exited going = act_typed s store i fr vs w ts work.0 below frame operands work.1 work.2
first_typed s store fr vs (Label k h g ∷ w) ts below operands frame work exited going = absurd exited
first_typed s store fr vs (Activation k h caller ∷ w) ts below operands frame work exited going = absurd exited

begin_typed : (s : Store) (t : Thread) → StoreTyped (outline_of s) → TaskTyped (outline_of s) t → t.work ≢ [] → OutcomeTyped (outline_of s) (begin s t)
begin_typed s t store task going =
    let h = task.thread in
    first_typed s store t.frame t.operands t.work h.ts h.below h.operands h.frame h.work task.exited going

pub step_typed : (s : Store) (t : Thread) → StoreTyped (outline_of s) → TaskTyped (outline_of s) t → t.work ≢ [] → ExitedTyped (outline_of s) (step_of s t)
step_typed s t store task going = exits (outline_of s) (begin s t) (begin_typed s t store task going)

pub begins_well : (o : Outline) (t : Thread) → TaskTyped o t → t.work ≢ [] → Begins t.work
begins_well o t task going = at t.work task.exited going where
  at : (w : List Item) → IsExited w → w ≢ [] → Begins w
  at [] exited going = absurd (going refl)
  at (Do i ∷ w) exited going = tt
  at (Label k h g ∷ w) exited going = absurd exited
  at (Activation k h caller ∷ w) exited going = absurd exited

-- ---- the start of a task

started_typed : (o : Outline) → StoreTyped o → (address : ℕ) (g : FuncInst) → slice_get o.funcs address ≡ Some g → g.ty.params ≡ [] → ThreadTyped o (started o.funcs address g)
started_typed o store address g found alone =
    let locals : types_of (map default_of g.locals) ≡ (context_at o address).locals =
    defaults_typed g.locals ∙ ap (λ l. l ++ g.locals) (sym alone) ∙ sym (locals_of o address g found) in
    let none : slice_get o.funcs (length o.funcs) ≡ None = slice_get_past o.funcs (length o.funcs) (omega arith) in
    record {
      ts = [];
      below = [];
      operands = refl;
      frame = locals;
      work = sequence_typed o address (sequence o.funcs address 0) (Activation (result_of g) 0 (nobody o.funcs) ∷ []) (result_of g ∷ []) [] (types (result_of g)) [] refl
          (opened o address (result_of g ∷ []) 0 (result_of g) (body_typed o store address g found))
          ([], [], refl, refl, refl, returns_of o address g found, sym (no_locals o (length o.funcs) none), no_returns o (length o.funcs) none);
    }

pub starts_well : (s : Store) (address : ℕ) (g : FuncInst) → StoreTyped (outline_of s) → slice_get s.funcs address ≡ Some g → g.ty.params ≡ [] → TaskTyped (outline_of s) (exited_thread (started s.funcs address g))
starts_well s address g store found alone =
    exited_typed (outline_of s) (started s.funcs address g) (started_typed (outline_of s) store address g found alone)
