-- Memory safety at the start of a task.
use Rattle.std.proofs.Common.{ℕ, List, [], ◌∷◌}
use Rattle.std.proofs.lemmas.List.Elements.{All-cons}
use Rattle.ms_event.specs.declared.event.Event.{Event}
use Rattle.ms_event.specs.Monitor.{State, after_all, nothing_yet}
use Rattle.ms_linear.specs.Values.{default_of}
use Rattle.ms_task.specs.Control.{nobody, exited as exited_thread, started}
use Rattle.ms_task.specs.declared.func.FuncInst.{FuncInst}
use Rattle.ms_task.specs.Thread.{Activation, Thread, result_of, sequence}
use Rattle.ms_types.specs.declared.types.ValType.{ValType}
use Rattle.ms_types.specs.declared.types.ValType.TheVariants as types
use Rattle.ms_machine.specs.refinement.Holding.{ThreadHolds}
use Rattle.ms_machine.specs.refinement.Safety.{Knows, Sound}
use Rattle.ms_machine.specs.Store.{Store}
use Rattle.ms_machine.proofs.HeldControl.{exit_holds}
use Rattle.ms_machine.proofs.HeldValues.{each_default, kept_dos}

-- ---- its locals are no good handles

default_known : (state : State) (ty : ValType) → Knows state (default_of ty)
default_known state types.I32 = tt
default_known state types.I64 = tt
default_known state types.Handle = tt

starts_known : (state : State) (funcs : List FuncInst) (address : ℕ) (g : FuncInst) → ThreadHolds (Knows state) (exited_thread (started funcs address g))
starts_known state funcs address g =
    let t = started funcs address g in
    exit_holds (Knows state) t.frame t.operands t.work tt (each_default (Knows state) (default_known state) g.locals)
    (kept_dos (Knows state) (sequence funcs address 0) (Activation (result_of g) 0 (nobody funcs) ∷ []) (tt, tt))

-- one more thread, whose handles are known
pub with_thread : (events : List Event) (s : Store) (t : Thread) (others : List Thread) → Sound events s others → ThreadHolds (Knows (after_all nothing_yet events)) t → Sound events s (t ∷ others)
with_thread events s t others sound known = record {
  accepted = sound.accepted;
  sizes = sound.sizes;
  monitored = sound.monitored;
  globals = sound.globals;
  threads = All-cons (ThreadHolds (Knows (after_all nothing_yet events))) t others known sound.threads;
}

-- The task of any function may start.
pub sound_start : (events : List Event) (s : Store) (others : List Thread) (address : ℕ) (g : FuncInst) → Sound events s others → Sound events s (exited_thread (started s.funcs address g) ∷ others)
sound_start events s others address g sound =
    with_thread events s (exited_thread (started s.funcs address g)) others sound (starts_known (after_all nothing_yet events) s.funcs address g)
