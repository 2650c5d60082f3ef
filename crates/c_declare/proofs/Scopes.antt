-- The outermost scope.
use Rattle.std.proofs.Common.{◌≡◌, ℕ, zero, suc, arith, List, [], ◌∷◌, length, get_or, Some, sym, ap}
use Rattle.c_check_types.specs.declared.checker.Scope.{Scope}
use Rattle.c_check_types.specs.Scopes.{file_scope}
use Rattle.c_check_types.specs.refinement.Views.{scope_of, scopes_of}

pub outermost : (ss : List Scope) (x : Scope) (k : ℕ) → suc k ≡ length ss → x ≡ get_or ss k x → file_scope (scopes_of ss) ≡ Some (scope_of x)
outermost [] x k n e = absurd (omega arith)
outermost (y ∷ []) x zero n e = ap (λ (z : Scope). Some (scope_of z)) (sym e)
outermost (y ∷ []) x (suc k) n e = absurd (omega arith)
outermost (y ∷ z ∷ ss) x zero n e = absurd (omega arith)
outermost (y ∷ z ∷ ss) x (suc k) n e = outermost (z ∷ ss) x k (omega arith) e
