-- How the logic stores a statement.
use Rattle.std.proofs.Common.{◌≡◌, Option, refl, ap, arith}
use Rattle.std.specs.Coded.{Coded, coded_option}
use base.Stored.{Gv, gnil, gnum, gcons}
use Rattle.c_tree.specs.Tree.{Expr}
use Rattle.c_tree.specs.refinement.Codes.{coded_expr, head, tail, form}
use Rattle.c_tree.specs.contracts.specifier.SpecifierNode as specifier_row
use Rattle.c_tree.specs.refinement.InitCodes.{coded_inits}
use Rattle.c_tree.specs.contracts.first.ForFirstNode as first_row
use Rattle.c_tree.specs.contracts.first.Jump as jump_row
use Rattle.c_tree.specs.Statements.{Statement, block, plain, empty, if_then, if_else, while_loop, do_while, for_loop, switch, return_none, return_value, jump, Items, no_items, statement_and, declaration_and, case_and, default_and}

abbrev coded_optional : Coded (Option Expr)
coded_optional = coded_option coded_expr

abbrev mutual
  pub statement_code : Statement → Gv
  statement_code (block a0) = gcons (gnum 0) (items_code a0)
  statement_code (plain a0) = gcons (gnum 1) (coded_expr.code a0)
  statement_code empty = gcons (gnum 2) gnil
  statement_code (if_then a0 a1) = gcons (gnum 3) (gcons (coded_expr.code a0) (statement_code a1))
  statement_code (if_else a0 a1 a2) = gcons (gnum 4) (gcons (coded_expr.code a0) (gcons (statement_code a1) (statement_code a2)))
  statement_code (while_loop a0 a1) = gcons (gnum 5) (gcons (coded_expr.code a0) (statement_code a1))
  statement_code (for_loop a0 a1 a2 a3) = gcons (gnum 6) (gcons (first_row.the_row.coded.code a0) (gcons (coded_optional.code a1) (gcons (coded_optional.code a2) (statement_code a3))))
  statement_code return_none = gcons (gnum 7) gnil
  statement_code (return_value a0) = gcons (gnum 8) (coded_expr.code a0)
  statement_code (jump a0) = gcons (gnum 9) (jump_row.the_row.coded.code a0)
  statement_code (do_while a0 a1) = gcons (gnum 10) (gcons (statement_code a0) (coded_expr.code a1))
  statement_code (switch a0 a1) = gcons (gnum 11) (gcons (coded_expr.code a0) (items_code a1))

  pub items_code : Items → Gv
  items_code no_items = gcons (gnum 0) gnil
  items_code (statement_and a0 a1) = gcons (gnum 1) (gcons (statement_code a0) (items_code a1))
  items_code (declaration_and a0 a1 a2) = gcons (gnum 2) (gcons (specifier_row.the_row.coded.code a0) (gcons (coded_inits.code a1) (items_code a2)))
  items_code (case_and a0 a1) = gcons (gnum 3) (gcons (coded_expr.code a0) (items_code a1))
  items_code (default_and a0) = gcons (gnum 4) (items_code a0)

mutual
  pub statement_inj : (x y : Statement) → statement_code x ≡ statement_code y → x ≡ y
  statement_inj (block a0) (block b0) p = λ i. block (items_inj a0 b0 (ap (λ g. tail g) p) i)
  statement_inj (plain a0) (plain b0) p = λ i. plain (coded_expr.inj a0 b0 (ap (λ g. tail g) p) i)
  statement_inj empty empty p = refl
  statement_inj (if_then a0 a1) (if_then b0 b1) p = λ i. if_then (coded_expr.inj a0 b0 (ap (λ g. head (tail g)) p) i) (statement_inj a1 b1 (ap (λ g. tail (tail g)) p) i)
  statement_inj (if_else a0 a1 a2) (if_else b0 b1 b2) p = λ i. if_else (coded_expr.inj a0 b0 (ap (λ g. head (tail g)) p) i) (statement_inj a1 b1 (ap (λ g. head (tail (tail g))) p) i) (statement_inj a2 b2 (ap (λ g. tail (tail (tail g))) p) i)
  statement_inj (while_loop a0 a1) (while_loop b0 b1) p = λ i. while_loop (coded_expr.inj a0 b0 (ap (λ g. head (tail g)) p) i) (statement_inj a1 b1 (ap (λ g. tail (tail g)) p) i)
  statement_inj (for_loop a0 a1 a2 a3) (for_loop b0 b1 b2 b3) p = λ i. for_loop (first_row.the_row.coded.inj a0 b0 (ap (λ g. head (tail g)) p) i) (coded_optional.inj a1 b1 (ap (λ g. head (tail (tail g))) p) i) (coded_optional.inj a2 b2 (ap (λ g. head (tail (tail (tail g)))) p) i) (statement_inj a3 b3 (ap (λ g. tail (tail (tail (tail g)))) p) i)
  statement_inj return_none return_none p = refl
  statement_inj (return_value a0) (return_value b0) p = λ i. return_value (coded_expr.inj a0 b0 (ap (λ g. tail g) p) i)
  statement_inj (jump a0) (jump b0) p = λ i. jump (jump_row.the_row.coded.inj a0 b0 (ap (λ g. tail g) p) i)
  statement_inj (do_while a0 a1) (do_while b0 b1) p = λ i. do_while (statement_inj a0 b0 (ap (λ g. head (tail g)) p) i) (coded_expr.inj a1 b1 (ap (λ g. tail (tail g)) p) i)
  statement_inj (switch a0 a1) (switch b0 b1) p = λ i. switch (coded_expr.inj a0 b0 (ap (λ g. head (tail g)) p) i) (items_inj a1 b1 (ap (λ g. tail (tail g)) p) i)
  statement_inj x y p = absurd (let e = ap (λ g. form g) p in omega (arith, e))

  pub items_inj : (x y : Items) → items_code x ≡ items_code y → x ≡ y
  items_inj no_items no_items p = refl
  items_inj (statement_and a0 a1) (statement_and b0 b1) p = λ i. statement_and (statement_inj a0 b0 (ap (λ g. head (tail g)) p) i) (items_inj a1 b1 (ap (λ g. tail (tail g)) p) i)
  items_inj (declaration_and a0 a1 a2) (declaration_and b0 b1 b2) p = λ i. declaration_and (specifier_row.the_row.coded.inj a0 b0 (ap (λ g. head (tail g)) p) i) (coded_inits.inj a1 b1 (ap (λ g. head (tail (tail g))) p) i) (items_inj a2 b2 (ap (λ g. tail (tail (tail g))) p) i)
  items_inj (case_and a0 a1) (case_and b0 b1) p = λ i. case_and (coded_expr.inj a0 b0 (ap (λ g. head (tail g)) p) i) (items_inj a1 b1 (ap (λ g. tail (tail g)) p) i)
  items_inj (default_and a0) (default_and b0) p = λ i. default_and (items_inj a0 b0 (ap (λ g. tail g) p) i)
  items_inj x y p = absurd (let e = ap (λ g. form g) p in omega (arith, e))

abbrev pub coded_statement : Coded Statement
coded_statement = record { code = statement_code; inj = statement_inj }

abbrev pub coded_items : Coded Items
coded_items = record { code = items_code; inj = items_inj }
