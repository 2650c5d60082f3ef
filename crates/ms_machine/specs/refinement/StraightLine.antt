-- Steps in a row of which the outside sees nothing.
use Rattle.std.specs.Prelude.{◌≡◌, ◌≢◌, ◌<◌, ◌-◌, ◌*◌, ◌^◌, ℕ, zero, suc, Bool, List, [], ◌++◌, length, IsTrue, Option, None}
use Rattle.ms_event.specs.declared.event.Event.{Event}
use Rattle.ms_event.specs.declared.tally.Tally.{Tally}
use Rattle.ms_event.specs.refinement.Tally.{all_tallied}
use Rattle.ms_module.specs.declared.instr.Instr.{Instr}
use Rattle.ms_module.specs.declared.instr.Instr.TheVariants as instr
use Rattle.ms_task.specs.Thread.{Thread, sequence, with_first}
use Rattle.ms_task.specs.refinement.View.{at_next, thread_of}
use Rattle.ms_task.specs.declared.func.FuncInst.{FuncInst}
use Rattle.ms_task.specs.declared.task.Task.{Task}
use Rattle.ms_machine.specs.refinement.Doing.{Can, Carries}
use Rattle.ms_machine.specs.Running.{with_event}
use Rattle.ms_machine.specs.Step.{Next, act, step_of}
use Rattle.ms_machine.specs.Store.{Store}
use Rattle.ms_machine.specs.declared.straight.Called.{Called}
use Rattle.ms_machine.specs.declared.straight.Called.TheVariants as calls
use Rattle.ms_machine.specs.declared.straight.Met.{Met}
use Rattle.ms_machine.specs.declared.straight.Met.TheVariants as mets
use Rattle.ms_machine.specs.declared.straight.Stretch.{Stretch}
use Rattle.ms_machine.specs.declared.straight.Stretch.TheVariants as stretches
use Rattle.ms_machine.specs.declared.straight.CarriedOut.{CarriedOut}
use Rattle.ms_machine.specs.declared.straight.CarriedOut.TheVariants as carried
use Rattle.ms_machine.specs.declared.straight.Worked.{Worked}
use Rattle.ms_machine.specs.declared.straight.Worked.TheVariants as works

-- ---- those of which the segment memory sees nothing

-- one of them
abbrev pub StepsQuietly : Store → Thread → Store → Thread → Type 0
StepsQuietly s t s' t' = step_of s t ≡ Next s' t' None

-- so many
abbrev pub GoesQuietly : Store → Thread → ℕ → Store → Thread → Type 0
GoesQuietly s t zero s' t' = (s' ≡ s) × (t' ≡ t)
GoesQuietly s t (suc n) s' t' = (s1 : Store) × (t1 : Thread) × GoesQuietly s t n s1 t1 × (t1.work ≢ []) × StepsQuietly s1 t1 s' t'

-- ---- those that tell of it

-- so many, which tell these events
abbrev pub GoesTelling : Store → Thread → ℕ → List Event → Store → Thread → Type 0
GoesTelling s t zero es s' t' = (s' ≡ s) × (t' ≡ t) × (es ≡ [])
GoesTelling s t (suc n) es s' t' =
    (s1 : Store) × (t1 : Thread) × (es1 : List Event) × (event : Option Event) × GoesTelling s t n es1 s1 t1 × (t1.work ≢ []) × (step_of s1 t1 ≡ Next s' t' event) × (es ≡ es1 ++ with_event event [])

-- one whose event is counted
abbrev pub StepsCounted : Store → Thread → Tally → Store → Thread → Tally → Type 0
StepsCounted s t c s' t' c' = (event : Option Event) × (step_of s t ≡ Next s' t' event) × (c' ≡ all_tallied (with_event event []) c)

-- so many whose events are counted; where events are to be kept, they tell none
abbrev pub GoesCounted : (keep : Bool) → Store → Thread → Tally → ℕ → Store → Thread → Tally → Type 0
GoesCounted keep s t c n s' t' c' = (es : List Event) × GoesTelling s t n es s' t' × (c' ≡ all_tallied es c) × (IsTrue keep → es ≡ [])

-- so many, with what they came to
abbrev pub IsHalted : Stretch → (keep : Bool) → ℕ → Store → Thread → Tally → Store → Thread → Tally → Type 0
IsHalted stretches.Paused keep n s t c s' t' c' = GoesCounted keep s t c n s' t' c' × (t'.work ≢ [])
IsHalted stretches.Ended keep n s t c s' t' c' = GoesCounted keep s t c n s' t' c' × (t'.work ≡ [])
IsHalted stretches.Memory keep n s t c s' t' c' = Unit {0}

-- memory has not run out
abbrev pub IsCalm : Stretch → Type 0
IsCalm stretches.Memory = ⊥
IsCalm _ = Unit {0}

-- ---- an instruction on the store as it is, behind which a task goes on at a place

abbrev pub DoesCall : Called → Instr → ℕ → Store → Task → Task → Type 0
DoesCall calls.Made i next s t t' = act s i (at_next s.funcs t next) ≡ Next s (thread_of s.funcs t') None
DoesCall calls.Not i next s t t' = t' ≡ t
DoesCall calls.Memory i next s t t' = Unit {0}

-- the instruction is the task's next one, and it finds what it takes
abbrev pub IsNext : Instr → ℕ → Store → Task → Type 0
IsNext i next s t = (thread_of s.funcs t ≡ with_first i (at_next s.funcs t next)) × Can i next s t

-- a task goes on in this sequence, which is a slice of memory
abbrev pub IsIn : List Instr → List FuncInst → Task → Type 0
IsIn code funcs t = (code ≡ sequence funcs t.function t.sequence) × (t.place < length code) × ((thread_of funcs t).work ≢ []) × (length code * 16 < 2 ^ 63)

-- two steps, behind which a task goes on in this sequence
abbrev pub DoesAgain : List Instr → Store → Thread → Task → Type 0
DoesAgain code s t t' = GoesQuietly s t 2 s (thread_of s.funcs t') × IsIn code s.funcs t'

abbrev pub IsAgain : CarriedOut → Type 0
IsAgain (carried.Again code) = Unit {0}
IsAgain _ = ⊥

-- The instruction is the first thing to do, and `next` is the place behind it: a task's own place is not that of its thread while
-- instructions that stay within their sequence are carried out.
abbrev pub DoesQuietly : CarriedOut → Instr → ℕ → Store → Task → Task → Type 0
DoesQuietly carried.On i next s t t' = Carries i next s t t'
DoesQuietly carried.Behind i next s t t' = act s i (at_next s.funcs t next) ≡ Next s (thread_of s.funcs t') None
DoesQuietly (carried.Again code) i next s t t' = DoesAgain code.now s (with_first i (at_next s.funcs t next)) t'
DoesQuietly (carried.Linear j) i next s t t' = (i ≡ instr.Linear j) × (t' ≡ t)
DoesQuietly (carried.Global x) i next s t t' = (i ≡ instr.GlobalSet x) × (t' ≡ t)
DoesQuietly (carried.Segment j) i next s t t' = (i ≡ instr.Segment j) × (t' ≡ t)
DoesQuietly carried.Not i next s t t' = t' ≡ t
DoesQuietly carried.Memory i next s t t' = Unit {0}

-- the next instruction is this one, behind which another may be known to stand
abbrev pub IsMet : Instr → ℕ → Bool → Store → Task → Type 0
IsMet i next more s t = ((thread_of s.funcs t).work ≢ []) × IsNext i next s t × (IsTrue more → next < length (sequence s.funcs t.function t.sequence))

-- several of them, of which so many are left of so many
abbrev pub DoesMeet : Met → (left most : ℕ) → Store → Thread → Task → Type 0
DoesMeet mets.Paused left most s t t' = GoesQuietly s t (most - left) s (thread_of s.funcs t') × ((thread_of s.funcs t').work ≢ [])
DoesMeet mets.Ended left most s t t' = GoesQuietly s t (most - left) s (thread_of s.funcs t') × ((thread_of s.funcs t').work ≡ [])
DoesMeet (mets.Linear i next more) left most s t t' = GoesQuietly s t (most - left) s (thread_of s.funcs t') × (0 < left) × IsMet (instr.Linear i) next more s t'
DoesMeet (mets.Global x next more) left most s t t' = GoesQuietly s t (most - left) s (thread_of s.funcs t') × (0 < left) × IsMet (instr.GlobalSet x) next more s t'
DoesMeet (mets.Segment i next more) left most s t t' = GoesQuietly s t (most - left) s (thread_of s.funcs t') × (0 < left) × IsMet (instr.Segment i) next more s t'
DoesMeet mets.Memory left most s t t' = Unit {0}

-- ---- an instruction that changes the store

abbrev pub DoesWork : Worked → Store → Thread → Store → Thread → Type 0
DoesWork works.On s t s' t' = StepsQuietly s t s' t' × (t'.work ≢ [])
DoesWork works.Ended s t s' t' = StepsQuietly s t s' t' × (t'.work ≡ [])
DoesWork works.Not s t s' t' = (s' ≡ s) × (t' ≡ t)
DoesWork works.Memory s t s' t' = Unit {0}

-- the same where its event is counted
abbrev pub DoesTell : Worked → Store → Thread → Tally → Store → Thread → Tally → Type 0
DoesTell works.On s t c s' t' c' = StepsCounted s t c s' t' c' × (t'.work ≢ [])
DoesTell works.Ended s t c s' t' c' = StepsCounted s t c s' t' c' × (t'.work ≡ [])
DoesTell works.Not s t c s' t' c' = (s' ≡ s) × (t' ≡ t) × (c' ≡ c)
DoesTell works.Memory s t c s' t' c' = Unit {0}
