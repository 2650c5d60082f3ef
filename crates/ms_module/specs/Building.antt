-- A body while it is built, from left to right: what an instruction, the opening of a block, its `else` and its end make
-- of the sequences so far. Sequences are numbered from 0 in the order in which they begin (WebAssembly 1.0, 2.4.5 and
-- 5.4.1).
use Rattle.std.specs.Prelude.{◌≡◌, ◌<◌, ℕ, zero, suc, Bool, true, false, List, [], ◌∷◌, ◌++◌, length, Option, Some, None, if◌then◌else◌}
use Rattle.ms_types.specs.declared.types.ValType.{ValType}
use Rattle.ms_module.specs.declared.instr.Instr.{Instr}
use Rattle.ms_module.specs.declared.instr.Instr.TheVariants as instr
use Rattle.ms_module.specs.declared.builder.Opening.{Opening}
use Rattle.ms_module.specs.declared.builder.Opening.TheVariants.{Block, Loop, If}
use Rattle.ms_module.specs.declared.builder.Arm.{Arm}
use Rattle.ms_module.specs.declared.builder.Arm.TheVariants.{First, AfterElse, Second}
use Rattle.ms_module.specs.declared.builder.Open.{Open}
use Rattle.ms_module.specs.Numbered.{IsPlain}

-- the open blocks, the innermost first, and the sequences that have begun, by their numbers
pub record State : Type 0 where
  pub blocks : List Open
  pub seqs : List (List Instr)

-- no block, and the body's own sequence, in which nothing stands
abbrev pub first_state : State
first_state = record { blocks = []; seqs = [] ∷ [] }

-- the sequence to which instructions go
abbrev pub current : List Open → ℕ
current [] = 0
current (o ∷ os) = o.seq

-- the sequences, where that of number k has this instruction, too, at its end
abbrev pub put : List (List Instr) → ℕ → Instr → List (List Instr)
put [] k i = []
put (s ∷ ss) zero i = (s ++ i ∷ []) ∷ ss
put (s ∷ ss) (suc k) i = s ∷ put ss k i

-- ---- the second sequence of an `if`

abbrev pub is_after_else_in : Arm → Bool
is_after_else_in (First opening) = false
is_after_else_in AfterElse = true
is_after_else_in (Second before) = false

-- whether the innermost block stands behind an `else`, before the first instruction there
abbrev pub is_after_else : List Open → Bool
is_after_else [] = false
is_after_else (o ∷ os) = is_after_else_in o.arm

-- the innermost block in its second sequence, which has the number n
abbrev pub in_second : ℕ → List Open → List Open
in_second n [] = []
in_second n (o ∷ os) = record { arm = Second o.seq; ty = o.ty; seq = n } ∷ os

-- before an instruction behind an `else`: the second sequence begins
abbrev pub started : State → State
started st = if is_after_else st.blocks then record { blocks = in_second (length st.seqs) st.blocks; seqs = st.seqs ++ [] ∷ [] } else st

-- ---- what is added

-- an instruction at the end of the current sequence
abbrev pub placed_in : State → Instr → State
placed_in st i = record { blocks = st.blocks; seqs = put st.seqs (current st.blocks) i }

-- a block, whose first sequence is the current one
abbrev pub begun_in : State → Opening → Option ValType → State
begun_in st opening ty = record { blocks = record { arm = First opening; ty = ty; seq = length st.seqs } ∷ st.blocks; seqs = st.seqs ++ [] ∷ [] }

-- an instruction that is no block
abbrev pub placed : State → Instr → State
placed st i = placed_in (started st) i

-- the opening of a block
abbrev pub begun : State → Opening → Option ValType → State
begun st opening ty = begun_in (started st) opening ty

-- whether an `else` may come: in the first sequence of an `if`
abbrev pub may_else_in : Arm → Bool
may_else_in (First Block) = false
may_else_in (First Loop) = false
may_else_in (First If) = true
may_else_in AfterElse = false
may_else_in (Second before) = false

abbrev pub may_else : List Open → Bool
may_else [] = false
may_else (o ∷ os) = may_else_in o.arm

-- an `else`
abbrev pub after_else_blocks : List Open → List Open
after_else_blocks [] = []
after_else_blocks (o ∷ os) = record { arm = AfterElse; ty = o.ty; seq = o.seq } ∷ os

abbrev pub after_else : State → State
after_else st = record { blocks = after_else_blocks st.blocks; seqs = st.seqs }

-- The block of an arm, once it has ended: n is the number of its latest sequence. An `else` with no instruction behind it
-- is none.
abbrev pub whole : Arm → Option ValType → ℕ → Instr
whole (First Block) ty n = instr.Block ty n
whole (First Loop) ty n = instr.Loop ty n
whole (First If) ty n = instr.If ty n None
whole AfterElse ty n = instr.If ty n None
whole (Second before) ty n = instr.If ty before (Some n)

abbrev pub closed_in : List Open → List (List Instr) → State
closed_in [] ss = record { blocks = []; seqs = ss }
closed_in (o ∷ os) ss = placed_in (record { blocks = os; seqs = ss }) (whole o.arm o.ty o.seq)

-- the end of the innermost block, which stands where it was opened
abbrev pub closed : State → State
closed st = closed_in st.blocks st.seqs

-- ---- bodies

-- what is built from left to right
pub data Builds : State → Type 0 where
  begins : Builds first_state
  places : {st : State} (i : Instr) → IsPlain i → Builds st → Builds (placed st i)
  opens : {st : State} (opening : Opening) (ty : Option ValType) → Builds st → Builds (begun st opening ty)
  elses : {st : State} → may_else st.blocks ≡ true → Builds st → Builds (after_else st)
  closes : {st : State} → 0 < length st.blocks → Builds st → Builds (closed st)

-- these are the sequences of a body, its own one first
abbrev pub IsNumbered : List (List Instr) → Type 0
IsNumbered ss = Builds (record { blocks = []; seqs = ss })
