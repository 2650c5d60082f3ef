-- A fact about each value of a thread and of the globals: in the operands, the locals and the kept frames.
use Rattle.std.specs.Prelude.{List, [], ◌∷◌}
use Rattle.ms_linear.specs.declared.global.GlobalInst.{GlobalInst}
use Rattle.ms_linear.specs.declared.value.Value.{Value}
use Rattle.ms_linear.specs.declared.value.Value.TheVariants as values
use Rattle.ms_segment.specs.Memory.{IsFit, IsSound, Memory}
use Rattle.ms_task.specs.Thread.{Activation, Do, Item, Label, Thread}
use Rattle.ms_machine.specs.Store.{Store}

abbrev pub Each : (Value → Type 0) → List Value → Type 0
Each P [] = Unit {0}
Each P (v ∷ vs) = P v × Each P vs

abbrev pub EachGlobal : (Value → Type 0) → List GlobalInst → Type 0
EachGlobal P [] = Unit {0}
EachGlobal P (g ∷ gs) = P g.value × EachGlobal P gs

abbrev pub EachKept : (Value → Type 0) → List Item → Type 0
EachKept P [] = Unit {0}
EachKept P (Do i ∷ w) = EachKept P w
EachKept P (Label k h g ∷ w) = EachKept P w
EachKept P (Activation k h caller ∷ w) = Each P caller.locals × EachKept P w

pub record ThreadHolds (P : Value → Type 0) (t : Thread) : Type 0 where
  pub operands : Each P t.operands
  pub locals : Each P t.frame.locals
  pub kept : EachKept P t.work

-- a handle may be given to the segment memory
abbrev pub Fits : Memory → Value → Type 0
Fits m (values.Handle h) = IsFit m h
Fits m _ = Unit {0}

-- the handles of the store fit: those in globals, and the pieces in the segment memory
pub record StoreFits (s : Store) : Type 0 where
  pub globals : EachGlobal (Fits s.segments) s.globals
  pub segments : IsSound s.segments

-- the handles of a thread fit
abbrev pub ThreadFits : Store → Thread → Type 0
ThreadFits s t = ThreadHolds (Fits s.segments) t
