-- Integers of C as operands of the machine (C11, 6.2.5; WebAssembly 1.0, 4.4.1), and what numeric instructions make of them.
use Rattle.std.specs.Prelude.{◌≡◌, ℤ, List, [], ◌∷◌}
use Rattle.ms_linear.specs.declared.value.Value.{Value}
use Rattle.ms_linear.specs.declared.value.Value.TheVariants.{I32, I64}
use Rattle.ms_module.specs.Accesses.{bits}
use Rattle.ms_module.specs.declared.instr.Instr.{Instr}
use Rattle.ms_module.specs.declared.instr.Instr.TheVariants.{I32Const, I64Const, Numeric}
use Rattle.ms_module.specs.declared.numeric.Width.{Width}
use Rattle.ms_num.specs.Integers.{wrapped}
use Rattle.ms_operate.specs.Accesses.{integer}
use Rattle.ms_operate.specs.Numbers.{numeric_on}
use Rattle.ms_operate.specs.Outcomes.{Outcome, Gives, Stuck, Trap}
use Rattle.ms_operate.specs.declared.trap.Trap.TheVariants as traps
use Rattle.c_types.specs.declared.integers.IntType.{IntType}
use Rattle.c_meaning.specs.Integers.{wrap}
use Rattle.c_meaning.specs.World.{Does, pure, stop, zero_divide, overflow}
use Rattle.c_code.specs.Operations.{width_of}

-- a number as an operand of a width
abbrev pub operand : Width → ℤ → Value
operand w z = integer w (wrapped (bits w) z)

-- a number of a type as an operand
abbrev pub word : IntType → ℤ → Value
word t z = operand (width_of t) z

-- it is in the type's range
abbrev pub IsIn : IntType → ℤ → Type 0
IsIn t z = wrap t z ≡ z

-- ---- instructions on numbers, one behind the other

abbrev pub then_on : Outcome → (List Value → Outcome) → Outcome
then_on (Gives vs) go = go vs
then_on (Trap k) go = Trap k
then_on Stuck go = Stuck

abbrev pub carried : Instr → List Value → Outcome
carried (I32Const z) vs = Gives (I32 (wrapped 32 z) ∷ vs)
carried (I64Const z) vs = Gives (I64 (wrapped 64 z) ∷ vs)
carried (Numeric i) vs = numeric_on i vs
carried _ vs = Stuck

abbrev pub all_carried : List Instr → List Value → Outcome
all_carried [] vs = Gives vs
all_carried (i ∷ is) vs = then_on (carried i vs) (all_carried is)

-- ---- what an operation on two numbers comes to: a number, or no result (6.5.5)

pub data Answer : Type 0 where
  number : ℤ → Answer
  no_divisor no_quotient : Answer

abbrev pub meant : Answer → Does ℤ
meant (number z) = pure z
meant no_divisor = stop zero_divide
meant no_quotient = stop overflow

abbrev pub made : Width → List Value → Answer → Outcome
made w rest (number z) = Gives (operand w z ∷ rest)
made w rest no_divisor = Trap traps.Zero
made w rest no_quotient = Trap traps.Overflow

abbrev pub IsAnswer : (ℤ → Type 0) → Answer → Type 0
IsAnswer is_in (number z) = is_in z
IsAnswer is_in no_divisor = Unit {0}
IsAnswer is_in no_quotient = Unit {0}

-- what is meant is what the machine does: a number in range as an operand of this width, or the trap
pub record Agree (w : Width) (is_in : ℤ → Type 0) (rest : List Value) (meaning : Does ℤ) (outcome : Outcome) : Type 0 where
  pub answer : Answer
  pub is_meant : meaning ≡ meant answer
  pub is_made : outcome ≡ made w rest answer
  pub in_range : IsAnswer is_in answer
