-- The typed tree as plain values. The code's tree holds the same behind boxes and in vectors.
use Rattle.std.specs.Prelude.{ℕ, Bool, List, Option}
use Rattle.c_types.specs.declared.integers.IntType.{IntType}
use Rattle.c_types.specs.declared.types.Scalar.{Scalar}
use Rattle.c_types.specs.Types.{Ty}
use Rattle.c_types.specs.Layout.{Table}
use Rattle.c_typed.specs.declared.ops.BinaryOp.{BinaryOp}
use Rattle.c_typed.specs.declared.ops.RelOp.{RelOp}
use Rattle.c_typed.specs.declared.ops.UnaryOp.{UnaryOp}
use Rattle.c_typed.specs.declared.ops.Variable.{Variable}
use Rattle.c_typed.specs.declared.tree.Case.{Case}
use Rattle.c_typed.specs.declared.unit.Addition.{Addition}
use Rattle.c_typed.specs.declared.unit.Enumerator.{Enumerator}

mutual
  -- places (6.3.2.1)
  pub data Place : Type 0 where
    of : Variable → Place
    deref : Expr → Place
    member : Place → (number index : ℕ) → Place

  -- expressions (6.5)
  pub data Expr : Type 0 where
    -- a number of a type, by its bits
    number : IntType → (bits : ℕ) → Expr
    null : Expr
    no_function : Expr
    function : (number : ℕ) → Expr
    literal : (number : ℕ) → Expr
    read : Scalar → Place → Expr
    decay : Ty → (count : ℕ) → Place → Expr
    address : Place → Expr
    convert : (from to : IntType) → Expr → Expr
    truth : Scalar → Expr → Expr
    not : Expr → Expr
    unary : UnaryOp → IntType → Expr → Expr
    binary : BinaryOp → IntType → Expr → Expr → Expr
    compare : RelOp → IntType → Expr → Expr → Expr
    compare_pointers : RelOp → Expr → Expr → Expr
    same_function : Bool → Expr → Expr → Expr
    difference : Ty → Expr → Expr → Expr
    move : Ty → (back : Bool) → Expr → Expr → Expr
    move_by : Ty → Expr → Expr → Expr
    and : Expr → Expr → Expr
    or : Expr → Expr → Expr
    choose : Option Scalar → Expr → Expr → Expr → Expr
    comma : Expr → Expr → Expr
    assign : Scalar → Place → Expr → Expr
    update : (old : Bool) → IntType → BinaryOp → IntType → Place → Expr → Expr
    advance : (old : Bool) → Ty → (back : Bool) → Place → Expr → Expr
    copy : (number : ℕ) → Place → Place → Expr
    call : (number : ℕ) → Option Scalar → Exprs → Expr
    call_through : Ty → Option Scalar → Expr → Exprs → Expr
    putchar : Expr → Expr
    getchar : Expr
    abort : Expr
    malloc : Ty → Expr → Expr
    calloc : Ty → (count size : Expr) → Expr
    free : Expr → Expr
    discard : Expr → Expr
    visit : Place → Expr
    size_of_place : ℕ → Place → Expr
    size_of_value : ℕ → Expr → Expr
    size_of_type : ℕ → Expr

  pub data Exprs : Type 0 where
    none : Exprs
    more : Expr → Exprs → Exprs

mutual
  -- statements (6.8)
  pub data Stmt : Type 0 where
    nothing : Stmt
    perform : Expr → Stmt
    fill : Place → (count : ℕ) → List ℕ → Stmt
    if_else : Expr → Stmt → Stmt → Stmt
    loop : Expr → (step : Option Expr) → Stmt → Stmt
    do_while : Stmt → Expr → Stmt
    switch : IntType → Expr → (slots : List ℕ) → (cases : List Case) → (groups : Stmts) → Stmt
    scope : List ℕ → Stmts → Stmt
    return : Expr → Stmt
    return_nothing : Stmt
    break : Stmt
    continue : Stmt

  pub data Stmts : Type 0 where
    done : Stmts
    seq : Stmt → Stmts → Stmts

-- a function that is declared: its slots are its parameters and then its variables
pub record Function : Type 0 where
  pub name : List ℕ
  pub ty : Ty
  pub slots : List Ty
  pub body : Option Stmt

-- what is made before `main`: a variable at file scope with the values that it is given, or a string literal
pub data Made : Type 0 where
  global : ℕ → List Stmt → Made
  text : List ℕ → Made

-- an enumerated type that is defined (6.7.2.2)
pub record Enumeration : Type 0 where
  pub tag : Option (List ℕ)
  pub constants : List Enumerator

-- a translation unit (6.9)
pub record Typed : Type 0 where
  -- the tags, the structs that have them, and the names of their members
  pub tags : List (List ℕ)
  pub structs : Table
  pub members : List (List (List ℕ))
  pub enumerations : List Enumeration
  -- the names and the types of the variables at file scope
  pub names : List (List ℕ)
  pub globals : List Ty
  pub made : List Made
  pub functions : List Function
  -- what the external declarations add, in order
  pub additions : List Addition
