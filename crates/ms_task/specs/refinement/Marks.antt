-- The ends of open blocks and calls as the code keeps them, the innermost first.
use Rattle.std.specs.Prelude.{◌≡◌, ℕ, suc, ◌+◌, List, [], ◌∷◌, length}
use Rattle.ms_task.specs.declared.marks.Mark.{Mark}
use Rattle.ms_task.specs.declared.marks.Mark.TheVariants.{Label, Activation}

-- how many blocks are open in the current call
abbrev pub labels_in : List Mark → ℕ
labels_in [] = 0
labels_in (Label keeps height sequence next again ∷ ms) = suc (labels_in ms)
labels_in (Activation keeps height function sequence next base floor ∷ ms) = 0

abbrev pub calls_in : List Mark → ℕ
calls_in [] = 0
calls_in (Label keeps height sequence next again ∷ ms) = calls_in ms
calls_in (Activation keeps height function sequence next base floor ∷ ms) = suc (calls_in ms)

-- the floor counts the marks up to that of the current call, and so does each that was saved
abbrev pub IsFloored : List Mark → ℕ → Type 0
IsFloored [] floor = floor ≡ 0
IsFloored (Label keeps height sequence next again ∷ ms) floor = IsFloored ms floor
IsFloored (Activation keeps height function sequence next base saved ∷ ms) floor = (floor ≡ length ms + 1) × IsFloored ms saved

pub record IsCounted (ms : List Mark) (floor depth : ℕ) : Type 0 where
  pub floors : IsFloored ms floor
  pub calls : depth ≡ calls_in ms
