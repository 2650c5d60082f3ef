-- What numeric instructions make of the operands (WebAssembly 1.0, 4.4.1). Of two operands the second is topmost.
use Rattle.std.specs.Prelude.{◌==◌, ℕ, true, List, ◌∷◌, Option, Some, None, Result, Ok, Err}
use Rattle.ms_num.specs.Integers as int
use Rattle.ms_num.specs.declared.arith.Arith.{Arith}
use Rattle.ms_num.specs.declared.arith.Arith.TheVariants.{Overflow, ZeroDivide}
use Rattle.ms_linear.specs.declared.value.Value.{Value}
use Rattle.ms_linear.specs.declared.value.Value.TheVariants.{I32, I64}
use Rattle.ms_module.specs.Accesses.{bits}
use Rattle.ms_module.specs.declared.numeric.Width.{Width}
use Rattle.ms_module.specs.declared.numeric.Width.TheVariants.{W32, W64}
use Rattle.ms_module.specs.declared.numeric.Numeric.{Numeric}
use Rattle.ms_module.specs.declared.numeric.Numeric.TheVariants.{Eqz, Compare, Unary, Binary, Wrap, ExtendS, ExtendU}
use Rattle.ms_operate.specs.Accesses.{integer, number_of}
use Rattle.ms_operate.specs.Integers.{binary, compare, unary}
use Rattle.ms_operate.specs.Outcomes.{Gives, Outcome, Stuck, Trap}
use Rattle.ms_operate.specs.declared.trap.Trap.{Trap as TrapKind}
use Rattle.ms_operate.specs.declared.trap.Trap.TheVariants as traps

abbrev pub trap_of : Arith → TrapKind
trap_of ZeroDivide = traps.Zero
trap_of Overflow = traps.Overflow

abbrev pub given : Width → List Value → Result ℕ Arith → Outcome
given w rest (Ok n) = Gives (integer w n ∷ rest)
given w rest (Err e) = Trap (trap_of e)

abbrev pub on_one : (ℕ → Value) → Option ℕ → List Value → Outcome
on_one f (Some a) rest = Gives (f a ∷ rest)
on_one f None rest = Stuck

abbrev pub on_two : (ℕ → ℕ → Outcome) → Option ℕ → Option ℕ → Outcome
on_two f (Some a) (Some b) = f a b
on_two f a b = Stuck

abbrev pub numeric_on : Numeric → List Value → Outcome
numeric_on (Eqz w) (v ∷ rest) = on_one (λ a. I32 (int.truth (a == 0))) (number_of w v) rest
numeric_on (Unary w op) (v ∷ rest) = on_one (λ a. integer w (unary op (bits w) a)) (number_of w v) rest
numeric_on Wrap (v ∷ rest) = on_one (λ a. I32 (int.narrow 32 a)) (number_of W64 v) rest
numeric_on ExtendS (v ∷ rest) = on_one (λ a. I64 (int.extend 32 64 true a)) (number_of W32 v) rest
numeric_on ExtendU (v ∷ rest) = on_one (λ a. I64 a) (number_of W32 v) rest
numeric_on (Compare w op) (v ∷ u ∷ rest) = on_two (λ a b. Gives (I32 (int.truth (compare op (bits w) a b)) ∷ rest)) (number_of w u) (number_of w v)
numeric_on (Binary w op) (v ∷ u ∷ rest) = on_two (λ a b. given w rest (binary op (bits w) a b)) (number_of w u) (number_of w v)
numeric_on i vs = Stuck
