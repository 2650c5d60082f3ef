-- Instructions that are no blocks, and a body's sequences by their numbers.
use Rattle.std.specs.Prelude.{◌≤◌, ◌<◌, ℕ, zero, suc, List, [], ◌∷◌, Option, Some, None}
use Rattle.ms_module.specs.declared.instr.Instr.{Instr}
use Rattle.ms_module.specs.declared.instr.Instr.TheVariants.{Block, Loop, If, Linear}
use Rattle.ms_module.specs.declared.access.Linear.{Linear as LinearInstr}
use Rattle.ms_module.specs.declared.access.Linear.TheVariants.{Load, Store}

-- An alignment is a power of two of at most 31.
abbrev pub HasAlign : LinearInstr → Type 0
HasAlign (Load op arg) = arg.align ≤ 31
HasAlign (Store op arg) = arg.align ≤ 31
HasAlign _ = Unit {0}

-- It is no block, and each of its operands is in its range.
abbrev pub IsPlain : Instr → Type 0
IsPlain (Block ty body) = ⊥
IsPlain (Loop ty body) = ⊥
IsPlain (If ty then other) = ⊥
IsPlain (Linear i) = HasAlign i
IsPlain _ = Unit {0}

-- ---- sequences by their numbers

abbrev pub sequence_at : List (List Instr) → ℕ → List Instr
sequence_at [] s = []
sequence_at (is ∷ ss) zero = is
sequence_at (is ∷ ss) (suc s) = sequence_at ss s

-- An else arm begins after the other arm, within n sequences.
abbrev pub ElseWithin : ℕ → ℕ → Option ℕ → Type 0
ElseWithin n s None = Unit {0}
ElseWithin n s (Some e) = (s < e) × (e < n)

-- The sequences that the instruction names begin after the sequence s, within n sequences.
abbrev pub NamesWithin : ℕ → ℕ → Instr → Type 0
NamesWithin n s (Block ty body) = (s < body) × (body < n)
NamesWithin n s (Loop ty body) = (s < body) × (body < n)
NamesWithin n s (If ty then other) = (s < then) × (then < n) × ElseWithin n then other
NamesWithin n s _ = Unit {0}

abbrev pub AllNameWithin : ℕ → ℕ → List Instr → Type 0
AllNameWithin n s [] = Unit {0}
AllNameWithin n s (i ∷ is) = NamesWithin n s i × AllNameWithin n s is
