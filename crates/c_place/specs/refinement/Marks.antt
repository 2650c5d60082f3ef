-- Flags of variables, by their numbers: those of a function's slots, and those at file scope.
use Rattle.std.specs.Prelude.{ℕ, suc, ◌||◌, Bool, false, List, [], ◌∷◌, Option, Some, None}
use Rattle.c_typed.specs.declared.ops.Variable.{Variable}
use Rattle.c_typed.specs.declared.ops.Variable.TheVariants.{Local, Global}
use Rattle.c_typed.specs.Objects.{in_expr, in_stmt}
use Rattle.c_typed.specs.Tree.{Expr, Stmt, Made, global, text}
use Rattle.c_meaning.specs.Units.{in_values}

pub record Marks : Type 0 where
  pub locals : List Bool
  pub globals : List Bool

-- those for which `f` holds are set, too, where these are the flags from the n-th on
abbrev pub marked_from : (n : ℕ) → (f : ℕ → Bool) → List Bool → List Bool
marked_from n f [] = []
marked_from n f (b ∷ bs) = (b || f n) ∷ marked_from (suc n) f bs

abbrev pub marked : (f : Variable → Bool) → Marks → Marks
marked f m = record { locals = marked_from 0 (λ n. f (Local n)) m.locals; globals = marked_from 0 (λ n. f (Global n)) m.globals }

-- whether an `&` stands before a variable in what a loop does behind its test
abbrev pub in_iteration : Variable → Option Expr → Stmt → Bool
in_iteration v None s = in_stmt v s
in_iteration v (Some e) s = in_expr v e || in_stmt v s

-- whether one stands before a variable at file scope in what is made before `main`
abbrev pub in_one : ℕ → Made → Bool
in_one n (global m ss) = in_values n ss
in_one n (text bytes) = false
