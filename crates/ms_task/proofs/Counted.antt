-- How many marks lie where.
use Rattle.std.proofs.Common.{◌≡◌, ℕ, zero, suc, ◌+◌, ◌≤◌, List, [], ◌∷◌, length, drop, refl, arith}
use Rattle.ms_task.specs.declared.marks.Mark.{Mark}
use Rattle.ms_task.specs.declared.marks.Mark.TheVariants.{Label, Activation}
use Rattle.ms_task.specs.refinement.Marks.{labels_in, calls_in, IsFloored}

pub labels_and_floor : (ms : List Mark) (floor : ℕ) → IsFloored ms floor → labels_in ms + floor ≡ length ms
labels_and_floor [] floor h = omega (arith, h)
labels_and_floor (Label keeps height sequence next again ∷ ms) floor h = omega (arith, labels_and_floor ms floor h)
labels_and_floor (Activation keeps height function sequence next base saved ∷ ms) floor h = omega (arith, h.0)

pub IsFloored-drop : (n : ℕ) (ms : List Mark) (floor : ℕ) → n ≤ labels_in ms → IsFloored ms floor → IsFloored (drop n ms) floor
IsFloored-drop zero ms floor le h = h
IsFloored-drop (suc n) [] floor le h = h
IsFloored-drop (suc n) (Label keeps height sequence next again ∷ ms) floor le h = IsFloored-drop n ms floor (omega (arith, le)) h
IsFloored-drop (suc n) (Activation keeps height function sequence next base saved ∷ ms) floor le h = absurd (omega (arith, le))

pub calls_in-drop : (n : ℕ) (ms : List Mark) → n ≤ labels_in ms → calls_in (drop n ms) ≡ calls_in ms
calls_in-drop zero ms le = refl
calls_in-drop (suc n) [] le = refl
calls_in-drop (suc n) (Label keeps height sequence next again ∷ ms) le = calls_in-drop n ms (omega (arith, le))
calls_in-drop (suc n) (Activation keeps height function sequence next base saved ∷ ms) le = absurd (omega (arith, le))

pub calls_in-le : (ms : List Mark) → calls_in ms ≤ length ms
calls_in-le [] = omega arith
calls_in-le (Label keeps height sequence next again ∷ ms) = omega (arith, calls_in-le ms)
calls_in-le (Activation keeps height function sequence next base saved ∷ ms) = omega (arith, calls_in-le ms)
