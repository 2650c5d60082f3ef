-- Heights of statements. A declaration is none, and neither are a specifier and a label; the braces of a switch are its own.
use Rattle.std.specs.Prelude.{ℕ, ◌+◌, max, Bool, true, false, Option, Some, None}
use Rattle.c_tree.specs.Tree.{Expr}
use Rattle.c_tree.specs.Statements.{Statement, block, plain, empty, if_then, if_else, while_loop, do_while, for_loop, switch, return_none, return_value, jump, Items, no_items, statement_and, declaration_and, case_and, default_and}
use Rattle.c_tree.specs.Heights.{expr_height, tallest_of, init_height}
use Rattle.c_tree.specs.declared.first.ForFirstNode.{ForFirstNode}
use Rattle.c_tree.specs.declared.first.ForFirstNode.TheVariants as firsts

abbrev pub clause_height : Option Expr → ℕ
clause_height None = 0
clause_height (Some e) = expr_height e

abbrev pub first_height : ForFirstNode → ℕ
first_height firsts.Nothing = 0
first_height (firsts.Expr e) = expr_height e
first_height (firsts.Declaration s xs) = tallest_of init_height xs

abbrev mutual
  pub statement_height : Statement → ℕ
  statement_height (block is) = tallest_item is + 1
  statement_height (plain e) = expr_height e + 1
  statement_height empty = 1
  statement_height (if_then c a) = max (expr_height c) (statement_height a) + 1
  statement_height (if_else c a b) = max (max (expr_height c) (statement_height a)) (statement_height b) + 1
  statement_height (while_loop c s) = max (expr_height c) (statement_height s) + 1
  statement_height (do_while s c) = max (statement_height s) (expr_height c) + 1
  statement_height (for_loop a c b s) = max (max (max (first_height a) (clause_height c)) (clause_height b)) (statement_height s) + 1
  statement_height (switch e is) = max (expr_height e) (tallest_item is) + 1
  statement_height return_none = 1
  statement_height (return_value e) = expr_height e + 1
  statement_height (jump j) = 1

  pub tallest_item : Items → ℕ
  tallest_item no_items = 0
  tallest_item (statement_and s is) = max (statement_height s) (tallest_item is)
  tallest_item (declaration_and s xs is) = max (tallest_of init_height xs) (tallest_item is)
  tallest_item (case_and e is) = max (expr_height e) (tallest_item is)
  tallest_item (default_and is) = tallest_item is

-- an `if` without an `else` at its end, which would take an `else` that follows (6.8.4.1)
abbrev pub ends_open : Statement → Bool
ends_open (block is) = false
ends_open (plain e) = false
ends_open empty = false
ends_open (if_then c a) = true
ends_open (if_else c a b) = ends_open b
ends_open (while_loop c s) = ends_open s
ends_open (do_while s c) = false
ends_open (for_loop a c b s) = ends_open s
ends_open (switch e is) = false
ends_open return_none = false
ends_open (return_value e) = false
ends_open (jump j) = false
