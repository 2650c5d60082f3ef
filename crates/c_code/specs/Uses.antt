-- What a unit uses, outside of sizeof, in the order of its nodes: functions that are called, functions that are values, the types of
-- functions that are called through pointers, and structs that are copied.
use Rattle.std.specs.Prelude.{ℕ, ◌+◌, max, List, [], ◌∷◌, ◌++◌, Option, Some, None}
use Rattle.c_types.specs.Types.{Ty}
use Rattle.c_typed.specs.Tree.{Place, of, deref, member, Expr, number, null, no_function, function, literal, read, decay, address, convert, truth, not, unary, binary, compare, compare_pointers, same_function, difference, move, move_by, and, or, choose, comma, assign, update, advance, copy, call, call_through, putchar, getchar, abort, malloc, calloc, free, discard, visit, size_of_place, size_of_value, size_of_type, Exprs, none, more, Stmt, nothing, perform, fill, if_else, loop, do_while, switch, scope, return, return_nothing, break, continue, Stmts, done, seq, Function, Made, global, text, Typed}

pub data Use : Type 0 where
  -- by their numbers
  calls : ℕ → Use
  names : ℕ → Use
  through : Ty → Use
  copies : ℕ → Use

abbrev mutual
  pub in_place : Place → List Use
  in_place (of v) = []
  in_place (deref e) = in_expr e
  in_place (member p n m) = in_place p

  pub in_expr : Expr → List Use
  in_expr (function n) = names n ∷ []
  in_expr (read s p) = in_place p
  in_expr (decay t n p) = in_place p
  in_expr (address p) = in_place p
  in_expr (convert t u a) = in_expr a
  in_expr (truth s a) = in_expr a
  in_expr (not a) = in_expr a
  in_expr (unary op t a) = in_expr a
  in_expr (binary op t a b) = in_expr a ++ in_expr b
  in_expr (compare op t a b) = in_expr a ++ in_expr b
  in_expr (compare_pointers op a b) = in_expr a ++ in_expr b
  in_expr (same_function is a b) = in_expr a ++ in_expr b
  in_expr (difference t a b) = in_expr a ++ in_expr b
  in_expr (move t back a b) = in_expr a ++ in_expr b
  in_expr (move_by t a b) = in_expr a ++ in_expr b
  in_expr (and a b) = in_expr a ++ in_expr b
  in_expr (or a b) = in_expr a ++ in_expr b
  in_expr (choose s c a b) = in_expr c ++ (in_expr a ++ in_expr b)
  in_expr (comma a b) = in_expr a ++ in_expr b
  in_expr (assign s p a) = in_place p ++ in_expr a
  in_expr (update old t op u p a) = in_place p ++ in_expr a
  in_expr (advance old t back p a) = in_place p ++ in_expr a
  in_expr (copy n p q) = copies n ∷ (in_place p ++ in_place q)
  in_expr (call n s es) = calls n ∷ in_exprs es
  in_expr (call_through t s a es) = through t ∷ (in_expr a ++ in_exprs es)
  in_expr (putchar a) = in_expr a
  in_expr (malloc t a) = in_expr a
  in_expr (calloc t a b) = in_expr a ++ in_expr b
  in_expr (free a) = in_expr a
  in_expr (discard a) = in_expr a
  in_expr (visit p) = in_place p
  in_expr _ = []

  pub in_exprs : Exprs → List Use
  in_exprs none = []
  in_exprs (more e es) = in_expr e ++ in_exprs es

abbrev pub in_step : Option Expr → List Use
in_step None = []
in_step (Some e) = in_expr e

abbrev mutual
  pub in_stmt : Stmt → List Use
  in_stmt (perform e) = in_expr e
  in_stmt (fill p n bytes) = in_place p
  in_stmt (if_else c a b) = in_expr c ++ (in_stmt a ++ in_stmt b)
  in_stmt (loop c step s) = in_expr c ++ (in_step step ++ in_stmt s)
  in_stmt (do_while s c) = in_stmt s ++ in_expr c
  in_stmt (switch t e slots cases ss) = in_expr e ++ in_stmts ss
  in_stmt (scope slots ss) = in_stmts ss
  in_stmt (return e) = in_expr e
  in_stmt _ = []

  pub in_stmts : Stmts → List Use
  in_stmts done = []
  in_stmts (seq s ss) = in_stmt s ++ in_stmts ss

abbrev pub in_values : List Stmt → List Use
in_values [] = []
in_values (s ∷ ss) = in_stmt s ++ in_values ss

abbrev pub in_made : List Made → List Use
in_made [] = []
in_made (global n ss ∷ ms) = in_values ss ++ in_made ms
in_made (text bytes ∷ ms) = in_made ms

abbrev pub in_body : Option Stmt → List Use
in_body None = []
in_body (Some s) = in_stmt s

abbrev pub in_functions : List Function → List Use
in_functions [] = []
in_functions (f ∷ fs) = in_body f.body ++ in_functions fs

-- what is made before `main`, and then the functions
abbrev pub uses : Typed → List Use
uses u = in_made u.made ++ in_functions u.functions

-- ---- how many values wait at once in a body: functions that are called through pointers, while their arguments are evaluated, and
-- groups with which switches go on

abbrev mutual
  pub waits_place : Place → ℕ
  waits_place (of v) = 0
  waits_place (deref e) = waits e
  waits_place (member p n m) = waits_place p

  pub waits : Expr → ℕ
  waits (read s p) = waits_place p
  waits (decay t n p) = waits_place p
  waits (address p) = waits_place p
  waits (convert t u a) = waits a
  waits (truth s a) = waits a
  waits (not a) = waits a
  waits (unary op t a) = waits a
  waits (binary op t a b) = max (waits a) (waits b)
  waits (compare op t a b) = max (waits a) (waits b)
  waits (compare_pointers op a b) = max (waits a) (waits b)
  waits (same_function is a b) = max (waits a) (waits b)
  waits (difference t a b) = max (waits a) (waits b)
  waits (move t back a b) = max (waits a) (waits b)
  waits (move_by t a b) = max (waits a) (waits b)
  waits (and a b) = max (waits a) (waits b)
  waits (or a b) = max (waits a) (waits b)
  waits (choose s c a b) = max (waits c) (max (waits a) (waits b))
  waits (comma a b) = max (waits a) (waits b)
  waits (assign s p a) = max (waits_place p) (waits a)
  waits (update old t op u p a) = max (waits_place p) (waits a)
  waits (advance old t back p a) = max (waits_place p) (waits a)
  waits (copy n p q) = max (waits_place p) (waits_place q)
  waits (call n s es) = waits_all es
  waits (call_through t s a es) = max (waits a) (waits_all es + 1)
  waits (putchar a) = waits a
  waits (malloc t a) = waits a
  waits (calloc t a b) = max (waits a) (waits b)
  waits (free a) = waits a
  waits (discard a) = waits a
  waits (visit p) = waits_place p
  waits _ = 0

  pub waits_all : Exprs → ℕ
  waits_all none = 0
  waits_all (more e es) = max (waits e) (waits_all es)

abbrev pub waits_step : Option Expr → ℕ
waits_step None = 0
waits_step (Some e) = waits e

abbrev mutual
  pub waits_stmt : Stmt → ℕ
  waits_stmt (perform e) = waits e
  waits_stmt (fill p n bytes) = waits_place p
  waits_stmt (if_else c a b) = max (waits c) (max (waits_stmt a) (waits_stmt b))
  waits_stmt (loop c step s) = max (waits c) (max (waits_step step) (waits_stmt s))
  waits_stmt (do_while s c) = max (waits_stmt s) (waits c)
  waits_stmt (switch t e slots cases ss) = max (waits e) (waits_stmts ss + 1)
  waits_stmt (scope slots ss) = waits_stmts ss
  waits_stmt (return e) = waits e
  waits_stmt _ = 0

  pub waits_stmts : Stmts → ℕ
  waits_stmts done = 0
  waits_stmts (seq s ss) = max (waits_stmt s) (waits_stmts ss)
