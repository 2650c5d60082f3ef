-- The statements of C (C11, 6.8).
use Rattle.std.specs.Prelude.{List, Option}
use Rattle.c_tree.specs.Tree.{Expr}
use Rattle.c_tree.specs.declared.specifier.SpecifierNode.{SpecifierNode}
use Rattle.c_tree.specs.declared.initialiser.Init.{Init}
use Rattle.c_tree.specs.declared.first.ForFirstNode.{ForFirstNode}
use Rattle.c_tree.specs.declared.first.Jump.{Jump}

mutual
  pub data Statement : Type 0 where
    block : Items → Statement
    -- an expression and a semicolon
    plain : Expr → Statement
    empty : Statement
    if_then : Expr → Statement → Statement
    if_else : Expr → Statement → Statement → Statement
    while_loop : Expr → Statement → Statement
    -- the body and the test
    do_while : Statement → Expr → Statement
    -- what comes first, the test, the step and the body
    for_loop : ForFirstNode → Option Expr → Option Expr → Statement → Statement
    -- the operand, and what stands in the braces, labels among it
    switch : Expr → Items → Statement
    return_none : Statement
    return_value : Expr → Statement
    jump : Jump → Statement

  -- statements and declarations in a block (6.8.2), and in a switch its labels (6.8.1)
  pub data Items : Type 0 where
    no_items : Items
    statement_and : Statement → Items → Items
    declaration_and : SpecifierNode → List Init → Items → Items
    -- `case` and `default`
    case_and : Expr → Items → Items
    default_and : Items → Items
