-- How many values wait at once in a unit, each in a local of its own (`waits` of c_code).
use Rattle.std.specs.Prelude.{ℕ, max, Option, Some, None}
use Rattle.c_typed.specs.refinement.Nesting.{deepest}
use Rattle.c_typed.specs.Tree.{Stmt, Typed}
use Rattle.c_code.specs.Modules.{waits_made}
use Rattle.c_code.specs.Uses.{waits_stmt}

abbrev pub waits_body : Option Stmt → ℕ
waits_body None = 0
waits_body (Some s) = waits_stmt s

-- in a body, or in what is done before `main`
abbrev pub unit_waits : Typed → ℕ
unit_waits u = max (waits_made u u.made) (deepest (λ f. waits_body f.body) u.functions)
