-- Code that is put together: instructions, and the sequences of the blocks in them, which are numbered in the order in which
-- they begin (WebAssembly 1.0, 2.4.5).
use Rattle.std.specs.Prelude.{ℕ, zero, suc, ◌+◌, Bool, true, false, List, [], ◌∷◌, ◌++◌, length, Option, Some, None}
use Rattle.ms_module.specs.Building.{State, current, is_after_else, started}
use Rattle.ms_types.specs.declared.types.ValType.{ValType}
use Rattle.ms_module.specs.declared.instr.Instr.{Instr}
use Rattle.ms_module.specs.declared.instr.Instr.TheVariants.{Block, Loop, If}

pub record Coded : Type 0 where
  pub instrs : List Instr
  pub seqs : List (List Instr)

-- by the number of the first sequence that begins in it
abbrev pub Code : Type 0
Code = ℕ → Coded

abbrev pub coded : List Instr → List (List Instr) → Coded
coded is ss = record { instrs = is; seqs = ss }

-- instructions without a block
abbrev pub plain : List Instr → Code
plain is n = coded is []

abbrev pub one : Instr → Code
one i = plain (i ∷ [])

abbrev pub no_code : Code
no_code = plain []

infixr 30 ◌⨾◌
abbrev pub joined : Coded → Coded → Coded
joined x y = coded (x.instrs ++ y.instrs) (x.seqs ++ y.seqs)

-- the second behind the first
abbrev pub ◌⨾◌ : Code → Code → Code
◌⨾◌ a b n = let x = a n in joined x (b (n + length x.seqs))

-- the sequences of a block
abbrev pub inner : Coded → List (List Instr)
inner x = x.instrs ∷ x.seqs

abbrev pub block : Option ValType → Code → Code
block ty a n = coded (Block ty n ∷ []) (inner (a (suc n)))

abbrev pub repeat : Option ValType → Code → Code
repeat ty a n = coded (Loop ty n ∷ []) (inner (a (suc n)))

-- the second sequence begins with its first instruction: with none there is none
abbrev pub second : (n : ℕ) → Coded → Option ℕ
second n x = some x.instrs where
  some : List Instr → Option ℕ
  some [] = None
  some (i ∷ is) = Some n

abbrev pub second_seqs : Coded → List (List Instr)
second_seqs x = some x.instrs where
  some : List Instr → List (List Instr)
  some [] = []
  some (i ∷ is) = (i ∷ is) ∷ x.seqs

abbrev pub choice : Option ValType → Code → Code → Code
choice ty a b n =
    let x = a (suc n) in
    let m = suc n + length x.seqs in
    let y = b (suc m) in
    coded (If ty n (second m y) ∷ []) (inner x ++ second_seqs y)

-- ---- how many instructions

abbrev pub total : List (List Instr) → ℕ
total [] = 0
total (is ∷ ss) = length is + total ss

abbrev pub size_of : Coded → ℕ
size_of x = length x.instrs + total x.seqs

-- ---- code that is added to a body while it is built

abbrev pub puts : List (List Instr) → ℕ → List Instr → List (List Instr)
puts [] k is = []
puts (s ∷ ss) zero is = (s ++ is) ∷ ss
puts (s ∷ ss) (suc k) is = s ∷ puts ss k is

-- the instructions go to the end of the current sequence, and the sequences that begin in them behind all others
abbrev pub added : State → Coded → State
added st x = record { blocks = st.blocks; seqs = puts st.seqs (current st.blocks) x.instrs ++ x.seqs }

-- behind an `else` the second sequence begins with its first instruction
abbrev pub second_added : List Instr → State → Coded → State
second_added [] st x = st
second_added (i ∷ is) st x = added (started st) x

abbrev pub added_in : Bool → State → Code → State
added_in false st c = added st (c (length st.seqs))
added_in true st c = let x = c (suc (length st.seqs)) in second_added x.instrs st x

abbrev pub emitted : State → Code → State
emitted st c = added_in (is_after_else st.blocks) st c
