-- A store of two instances: the first keeps in its global a handle to bytes 2 to 4 of a segment of eight bytes.
use Rattle.std.proofs.Common.{◌≡◌, ◌==◌, ◌<◌, ◌≤◌, ℕ, Bool, true, false, [], ◌∷◌, Option, Some, None, pos, replicate, refl, arith}
use Rattle.ms_handle.specs.declared.handle.Handle.TheVariants as handles
use Rattle.ms_handle.specs.declared.handle.Kind.TheVariants as kinds
use Rattle.ms_linear.specs.declared.value.Value.TheVariants as values
use Rattle.ms_module.specs.declared.access.LoadOp.TheVariants as loads
use Rattle.ms_module.specs.declared.access.Segment.TheVariants as segs
use Rattle.ms_module.specs.declared.instr.Instr.TheVariants as instr
use Rattle.ms_tagged.specs.Bytes.{Byte, Data}
use Rattle.ms_task.specs.declared.func.FuncInst.{FuncInst}
use Rattle.ms_task.specs.Thread.{Activation, Do, Thread, thread}
use Rattle.ms_machine.specs.Moves.{Goes, Move, move_for}
use Rattle.ms_machine.specs.Store.{Store}
use Rattle.ms_reach.specs.Reach.{IsReached, by_global, is_inside, own_values}

abbrev store : Store
store = record {
  funcs = [];
  instances = record { types = []; funcs = []; table = None; memory = None; globals = 0 ∷ []; exports = []; start = None } ∷ record { types = []; funcs = []; table = None; memory = None; globals = []; exports = []; start = None } ∷ [];
  tables = [];
  memories = [];
  globals = record { value = values.Handle (handles.Good false 1 2 3 (pos 0)); mutable = true } ∷ [];
  segments = record { bytes = replicate 8 (Data 0); live = record { id = 1; base = 0; size = 8; kind = kinds.Heap } ∷ []; made = 1; accesses = 0 };
}

abbrev ended : Thread
ended = thread (record { function = 0; locals = [] }) [] []

abbrev first_alone : ℕ → Bool
first_alone n = n == 0

reaches : (k : ℕ) → 2 ≤ k → k < 5 → IsReached first_alone store ended k
reaches k from to = by_global {a = 0} {g = record { value = values.Handle (handles.Good false 1 2 3 (pos 0)); mutable = true }} (0, 0, refl, refl) refl (record { id = 1; base = 0; size = 8; kind = kinds.Heap }, refl, omega arith, omega arith)

-- ---- Where a call that was entered from outside is left, a caller's caller may be inside: a step from inside leads inside
-- again, to values that were not reached.

abbrev other_function : FuncInst
other_function = record { instance = 1; ty = record { params = []; results = [] }; locals = []; body = [] ∷ []; host = None }

abbrev own_function : FuncInst
own_function = record { instance = 0; ty = record { params = []; results = [] }; locals = []; body = [] ∷ []; host = None }

abbrev two : Byte → Store
two byte = record {
  funcs = own_function ∷ other_function ∷ [];
  instances = record { types = []; funcs = []; table = None; memory = None; globals = []; exports = []; start = None } ∷ record { types = []; funcs = []; table = None; memory = None; globals = []; exports = []; start = None } ∷ [];
  tables = [];
  memories = [];
  globals = [];
  segments = record { bytes = byte ∷ []; live = record { id = 1; base = 0; size = 1; kind = kinds.Heap } ∷ []; made = 1; accesses = 0 };
}

-- a call of the first instance, by the second, by the first, which keeps a handle
abbrev deep : Thread
deep = thread (record { function = 0; locals = [] }) [] (
    Do instr.Nop ∷ Activation None 0 (record { function = 1; locals = [] }) ∷ Activation None 0 (record { function = 0; locals = values.Handle (handles.Good false 1 0 1 (pos 0)) ∷ [] })
    ∷ Do (instr.LocalGet 0) ∷ Do (instr.Segment (segs.Load loads.I32Load8U)) ∷ []
    )

nothing_own : own_values first_alone (two (Data 0)).funcs deep ≡ []
nothing_own = refl

abbrev back : Thread
back = thread (record { function = 0; locals = values.Handle (handles.Good false 1 0 1 (pos 0)) ∷ [] }) [] (Do (instr.LocalGet 0) ∷ Do (instr.Segment (segs.Load loads.I32Load8U)) ∷ [])

leads_inside : (byte : Byte) → move_for (two byte) deep None ≡ Goes (two byte) back false None None
leads_inside byte = refl

inside_both : (is_inside first_alone (two (Data 0)).funcs deep.frame ≡ true) × (is_inside first_alone (two (Data 0)).funcs back.frame ≡ true)
inside_both = (refl, refl)

abbrev at_load : Thread
at_load = thread (record { function = 0; locals = values.Handle (handles.Good false 1 0 1 (pos 0)) ∷ [] }) (values.Handle (handles.Good false 1 0 1 (pos 0)) ∷ []) (Do (instr.Segment (segs.Load loads.I32Load8U)) ∷ [])

goes_to_load : (byte : Byte) → move_for (two byte) back None ≡ Goes (two byte) at_load false None None
goes_to_load byte = refl

abbrev thread_after : Move → Option Thread
thread_after (Goes s t took put event) = Some t
thread_after _ = None

-- and reads what was not reached
reads : (thread_after (move_for (two (Data 0)) at_load None) ≡ Some (thread at_load.frame (values.I32 0 ∷ []) [])) × (thread_after (move_for (two (Data 1)) at_load None) ≡ Some (thread at_load.frame (values.I32 1 ∷ []) []))
reads = (refl, refl)
