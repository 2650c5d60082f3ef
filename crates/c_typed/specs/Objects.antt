-- Which variables are objects in memory: arrays, structs, and what an `&` stands before, inside sizeof too.
use Rattle.std.specs.Prelude.{ℕ, ◌==◌, ◌||◌, Bool, true, false, List, [], ◌∷◌, Some, None}
use Rattle.c_types.specs.Types.{Ty, array, struct}
use Rattle.c_typed.specs.declared.ops.Variable.{Variable}
use Rattle.c_typed.specs.declared.ops.Variable.TheVariants.{Local, Global}
use Rattle.c_typed.specs.Tree.{Place, of, deref, member, Expr, number, null, no_function, function, literal, read, decay, address, convert, truth, not, unary, binary, compare, compare_pointers, same_function, difference, move, move_by, and, or, choose, comma, assign, update, advance, copy, call, call_through, putchar, getchar, abort, malloc, calloc, free, discard, visit, size_of_place, size_of_value, size_of_type, Exprs, none, more, Stmt, nothing, perform, fill, if_else, loop, do_while, switch, scope, return, return_nothing, break, continue, Stmts, done, seq}

abbrev pub is_variable : Variable → Variable → Bool
is_variable (Local m) (Local n) = m == n
is_variable (Global m) (Global n) = m == n
is_variable _ _ = false

abbrev pub is_of : Variable → Place → Bool
is_of v (of u) = is_variable v u
is_of v _ = false

module _ (v : Variable) where
  abbrev mutual
    pub in_place : Place → Bool
    in_place (of u) = false
    in_place (deref e) = in_expr e
    in_place (member p n m) = in_place p

    pub in_expr : Expr → Bool
    in_expr (address p) = is_of v p || in_place p
    in_expr (read s p) = in_place p
    in_expr (decay t n p) = in_place p
    in_expr (convert t u a) = in_expr a
    in_expr (truth s a) = in_expr a
    in_expr (not a) = in_expr a
    in_expr (unary op t a) = in_expr a
    in_expr (binary op t a b) = in_expr a || in_expr b
    in_expr (compare op t a b) = in_expr a || in_expr b
    in_expr (compare_pointers op a b) = in_expr a || in_expr b
    in_expr (same_function is a b) = in_expr a || in_expr b
    in_expr (difference t a b) = in_expr a || in_expr b
    in_expr (move t back a b) = in_expr a || in_expr b
    in_expr (move_by t a b) = in_expr a || in_expr b
    in_expr (and a b) = in_expr a || in_expr b
    in_expr (or a b) = in_expr a || in_expr b
    in_expr (choose s c a b) = in_expr c || (in_expr a || in_expr b)
    in_expr (comma a b) = in_expr a || in_expr b
    in_expr (assign s p a) = in_place p || in_expr a
    in_expr (update old t op u p a) = in_place p || in_expr a
    in_expr (advance old t back p a) = in_place p || in_expr a
    in_expr (copy n p q) = in_place p || in_place q
    in_expr (call f s es) = in_exprs es
    in_expr (call_through t s a es) = in_expr a || in_exprs es
    in_expr (putchar a) = in_expr a
    in_expr (malloc t a) = in_expr a
    in_expr (calloc t a b) = in_expr a || in_expr b
    in_expr (free a) = in_expr a
    in_expr (discard a) = in_expr a
    in_expr (visit p) = in_place p
    in_expr (size_of_place n p) = in_place p
    in_expr (size_of_value n a) = in_expr a
    in_expr _ = false

    pub in_exprs : Exprs → Bool
    in_exprs none = false
    in_exprs (more e es) = in_expr e || in_exprs es

  abbrev mutual
    pub in_stmt : Stmt → Bool
    in_stmt (perform e) = in_expr e
    in_stmt (fill p n bytes) = in_place p
    in_stmt (if_else c a b) = in_expr c || (in_stmt a || in_stmt b)
    in_stmt (loop c None s) = in_expr c || in_stmt s
    in_stmt (loop c (Some e) s) = in_expr c || (in_expr e || in_stmt s)
    in_stmt (do_while s c) = in_stmt s || in_expr c
    in_stmt (switch t e slots cases ss) = in_expr e || in_stmts ss
    in_stmt (scope slots ss) = in_stmts ss
    in_stmt (return e) = in_expr e
    in_stmt _ = false

    pub in_stmts : Stmts → Bool
    in_stmts done = false
    in_stmts (seq s ss) = in_stmt s || in_stmts ss

abbrev pub is_whole : Ty → Bool
is_whole (array t n) = true
is_whole (struct n) = true
is_whole _ = false

-- a slot of this type, of a function with this body, is an object
abbrev pub is_object : Stmt → ℕ → Ty → Bool
is_object body slot t = is_whole t || in_stmt (Local slot) body
