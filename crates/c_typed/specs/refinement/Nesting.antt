-- How deep blocks nest in a typed tree, as its code may have them (WebAssembly 1.0, 3.3.5): an `if` holds the parts of `&&`, `||`,
-- `?:` and `if`, and each group of a switch; a loop is an `if` or a block and a loop in it, and its body is a block in that
-- where it continues the loop. Nothing else holds a part, and the operand of a sizeof isn't evaluated.
use Rattle.std.specs.Prelude.{ℕ, ◌+◌, max, ◌||◌, Bool, true, false, if◌then◌else◌, List, [], ◌∷◌, Option, Some, None}
use Rattle.c_typed.specs.Tree.{Place, of, deref, member, Expr, number, null, no_function, function, literal, read, decay, address, convert, truth, not, unary, binary, compare, compare_pointers, same_function, difference, move, move_by, and, or, choose, comma, assign, update, advance, copy, call, call_through, putchar, getchar, abort, malloc, calloc, free, discard, visit, size_of_place, size_of_value, size_of_type, Exprs, none, more, Stmt, nothing, perform, fill, if_else, loop, do_while, switch, scope, return, return_nothing, break, continue, Stmts, done, seq, Function, Made, global, text, Typed}

abbrev mutual
  pub place_nesting : Place → ℕ
  place_nesting (of v) = 0
  place_nesting (deref e) = expr_nesting e
  place_nesting (member p n m) = place_nesting p

  pub expr_nesting : Expr → ℕ
  expr_nesting (read s p) = place_nesting p
  expr_nesting (decay t n p) = place_nesting p
  expr_nesting (address p) = place_nesting p
  expr_nesting (convert t u a) = expr_nesting a
  expr_nesting (truth s a) = expr_nesting a
  expr_nesting (not a) = expr_nesting a
  expr_nesting (unary op t a) = expr_nesting a
  expr_nesting (binary op t a b) = max (expr_nesting a) (expr_nesting b)
  expr_nesting (compare op t a b) = max (expr_nesting a) (expr_nesting b)
  expr_nesting (compare_pointers op a b) = max (expr_nesting a) (expr_nesting b)
  expr_nesting (same_function is a b) = max (expr_nesting a) (expr_nesting b)
  expr_nesting (difference t a b) = max (expr_nesting a) (expr_nesting b)
  expr_nesting (move t back a b) = max (expr_nesting a) (expr_nesting b)
  expr_nesting (move_by t a b) = max (expr_nesting a) (expr_nesting b)
  expr_nesting (and a b) = max (expr_nesting a) (expr_nesting b) + 1
  expr_nesting (or a b) = max (expr_nesting a) (expr_nesting b) + 1
  expr_nesting (choose s c a b) = max (expr_nesting c) (max (expr_nesting a) (expr_nesting b)) + 1
  expr_nesting (comma a b) = max (expr_nesting a) (expr_nesting b)
  expr_nesting (assign s p a) = max (place_nesting p) (expr_nesting a)
  expr_nesting (update old t op u p a) = max (place_nesting p) (expr_nesting a)
  expr_nesting (advance old t back p a) = max (place_nesting p) (expr_nesting a)
  expr_nesting (copy n p q) = max (place_nesting p) (place_nesting q)
  expr_nesting (call f s es) = exprs_nesting es
  expr_nesting (call_through t s a es) = max (expr_nesting a) (exprs_nesting es)
  expr_nesting (putchar a) = expr_nesting a
  expr_nesting (malloc t a) = expr_nesting a
  expr_nesting (calloc t a b) = max (expr_nesting a) (expr_nesting b)
  expr_nesting (free a) = expr_nesting a
  expr_nesting (discard a) = expr_nesting a
  expr_nesting (visit p) = place_nesting p
  expr_nesting _ = 0

  pub exprs_nesting : Exprs → ℕ
  exprs_nesting none = 0
  exprs_nesting (more e es) = max (expr_nesting e) (exprs_nesting es)

-- whether a `continue` in a statement belongs to a loop around it (6.8.6.2)
abbrev mutual
  pub continues : Stmt → Bool
  continues continue = true
  continues (if_else c a b) = continues a || continues b
  continues (switch t e slots cases ss) = any_continues ss
  continues (scope slots ss) = any_continues ss
  continues _ = false

  pub any_continues : Stmts → Bool
  any_continues done = false
  any_continues (seq s ss) = continues s || any_continues ss

-- one more where it holds
abbrev pub one_if : Bool → ℕ
one_if b = if b then 1 else 0

abbrev pub step_nesting : Option Expr → ℕ
step_nesting None = 0
step_nesting (Some e) = expr_nesting e

abbrev mutual
  pub stmt_nesting : Stmt → ℕ
  stmt_nesting (perform e) = expr_nesting e
  stmt_nesting (fill p n bytes) = place_nesting p
  stmt_nesting (if_else c a b) = max (expr_nesting c) (max (stmt_nesting a) (stmt_nesting b)) + 1
  stmt_nesting (loop c step s) = max (max (expr_nesting c) (step_nesting step)) (stmt_nesting s + one_if (continues s)) + 2
  stmt_nesting (do_while s c) = max (expr_nesting c) (stmt_nesting s + one_if (continues s)) + 2
  stmt_nesting (switch t e slots cases ss) = max (expr_nesting e) (stmts_nesting ss) + 1
  stmt_nesting (scope slots ss) = stmts_nesting ss
  stmt_nesting (return e) = expr_nesting e
  stmt_nesting _ = 0

  pub stmts_nesting : Stmts → ℕ
  stmts_nesting done = 0
  stmts_nesting (seq s ss) = max (stmt_nesting s) (stmts_nesting ss)

-- ---- units

-- the deepest of a list
abbrev pub deepest : {A : Type 0} → (A → ℕ) → List A → ℕ
deepest nesting [] = 0
deepest nesting (x ∷ xs) = max (nesting x) (deepest nesting xs)

abbrev pub body_nesting : Option Stmt → ℕ
body_nesting None = 0
body_nesting (Some s) = stmt_nesting s

abbrev pub function_nesting : Function → ℕ
function_nesting f = body_nesting f.body

abbrev pub made_nesting : Made → ℕ
made_nesting (global n ss) = deepest stmt_nesting ss
made_nesting (text bytes) = 0

-- of the bodies of functions, and of the values at file scope
abbrev pub unit_nesting : Typed → ℕ
unit_nesting u = max (deepest made_nesting u.made) (deepest function_nesting u.functions)
