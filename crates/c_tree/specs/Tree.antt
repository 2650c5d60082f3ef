-- The trees of C (C11, 6.5 to 6.9), with what was written.
use Rattle.std.specs.Prelude.{ℕ, Bool, List}
use Rattle.c_token.specs.declared.word.IntegerType.{IntegerType}
use Rattle.c_tree.specs.declared.operators.UnaryOp.{UnaryOp}
use Rattle.c_tree.specs.declared.operators.Infix.{Infix}
use Rattle.c_tree.specs.declared.operators.StepOp.{StepOp}
use Rattle.c_tree.specs.declared.operators.Access.{Access}
use Rattle.c_tree.specs.declared.specifier.SpecifierNode.{SpecifierNode}

mutual
  -- expressions (6.5)
  pub data Expr : Type 0 where
    name : List ℕ → Expr
    integer : ℕ → IntegerType → Expr
    character : ℕ → Expr
    string : List ℕ → Expr
    paren : Expr → Expr
    index : Expr → Expr → Expr
    call : Expr → Exprs → Expr
    member : Access → Expr → List ℕ → Expr
    -- ++ or -- behind its operand
    after : StepOp → Expr → Expr
    unary : UnaryOp → Expr → Expr
    size_of_type : SpecifierNode → Declarator → Expr
    cast : SpecifierNode → Declarator → Expr → Expr
    between : Infix → Expr → Expr → Expr
    -- c ? a : b
    choice : Expr → Expr → Expr → Expr

  -- arguments (6.5.2)
  pub data Exprs : Type 0 where
    no_exprs : Exprs
    expr_and : Expr → Exprs → Exprs

  -- declarators and abstract declarators (6.7.6, 6.7.7), from the outside in: `*a[1]` is a pointer behind an array
  pub data Declarator : Type 0 where
    named : List ℕ → Declarator
    -- nothing in the name's place
    nothing : Declarator
    pointer : Declarator → Declarator
    array : Declarator → Declarator
    sized : Declarator → Expr → Declarator
    wrapped : Declarator → Declarator
    function : Declarator → Parameters → Declarator
    -- with `void` alone in the parentheses
    function_void : Declarator → Declarator

  -- parameters (6.7.6.3)
  pub data Parameters : Type 0 where
    no_parameters : Parameters
    parameter_and : SpecifierNode → Declarator → Parameters → Parameters

mutual
  -- initializers (6.7.9)
  pub data Initialiser : Type 0 where
    single : Expr → Initialiser
    -- and whether a comma stands before the closing brace
    braces : Initialisers → Bool → Initialiser

  pub data Initialisers : Type 0 where
    no_initialisers : Initialisers
    initialiser_and : Initialiser → Initialisers → Initialisers
