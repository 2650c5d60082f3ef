-- Declarations of functions without an initializer.
use Rattle.std.proofs.Common.{◌≡◌, ℕ, List, true, Option, sym, ap}
use Rattle.c_types.specs.Types.{Ty}
use Rattle.c_tree.specs.Tree.{Initialiser}
use Rattle.c_check_types.specs.State.{only_if, State, followed}
use Rattle.c_check.specs.Statements.{is_missing}
use Rattle.c_check.specs.Declarations.{declares_alone, names_function}

pub alone : (name : List ℕ) (t : Ty) (v : Option Initialiser) → true ≡ is_missing v → (s : State) → declares_alone name t v s ≡ names_function name t s
alone name t v e s = ap (λ b. followed (only_if b s) (λ u. names_function name t)) (sym e)
