-- Texts with their typed trees, worked out by hand: each is what the rules give.
use Rattle.std.proofs.Common.{◌≡◌, ℕ, false, true, List, [], ◌∷◌, Some, None, Ok, refl}
use Rattle.c_token.specs.declared.word.IntegerType.TheVariants as constants
use Rattle.c_types.specs.declared.integers.IntType.TheVariants.{Char, Int, UnsignedInt, LongLong}
use Rattle.c_types.specs.declared.types.Scalar.TheVariants as scalars
use Rattle.c_types.specs.Types as types
use Rattle.c_types.specs.Types.{Ty, integer}
use Rattle.c_tree.specs.declared.specifier.IntegerWord.TheVariants as words
use Rattle.c_tree.specs.declared.specifier.IntegerWords.TheVariants.{One}
use Rattle.c_tree.specs.declared.specifier.SpecifierNode.{SpecifierNode}
use Rattle.c_tree.specs.declared.specifier.SpecifierNode.TheVariants as specifiers
use Rattle.c_tree.specs.declared.external.External.{External}
use Rattle.c_tree.specs.declared.external.ExternalForm.TheVariants as forms
use Rattle.c_tree.specs.declared.external.OuterSpecifier.TheVariants as outers
use Rattle.c_tree.specs.declared.first.Jump.TheVariants as jumps
use Rattle.c_tree.specs.declared.initialiser.Init.{Init}
use Rattle.c_tree.specs.declared.operators.AssignOp.TheVariants as assigns
use Rattle.c_tree.specs.declared.operators.BinaryOp.{BinaryOp}
use Rattle.c_tree.specs.declared.operators.BinaryOp.TheVariants as written
use Rattle.c_tree.specs.declared.operators.Infix.TheVariants.{Comma, Assign, Binary}
use Rattle.c_tree.specs.declared.operators.StepOp.TheVariants as steps
use Rattle.c_tree.specs.declared.operators.UnaryOp.TheVariants as unaries
use Rattle.c_tree.specs.Tree as tree
use Rattle.c_tree.specs.Tree.{Expr, Declarator, named, function_void}
use Rattle.c_tree.specs.Statements.{Items, no_items, statement_and, declaration_and, plain, if_else, while_loop, return_value, jump}
use Rattle.c_typed.specs.declared.ops.BinaryOp.TheVariants as ops
use Rattle.c_typed.specs.declared.ops.RelOp.TheVariants as relations
use Rattle.c_typed.specs.declared.ops.UnaryOp.TheVariants as signs
use Rattle.c_typed.specs.declared.ops.Variable.TheVariants.{Local, Global}
use Rattle.c_typed.specs.declared.unit.Subject.TheVariants as subjects
use Rattle.c_typed.specs.Tree as to
use Rattle.c_typed.specs.Tree.{Stmt}
use Rattle.c_check.specs.Units.{typing_of}

-- ---- what is written

abbrev an_int : SpecifierNode
an_int = specifiers.Integer (One words.Int)

abbrev a_char : SpecifierNode
a_char = specifiers.Integer (One words.Char)

abbrev main_name : List ℕ
main_name = 109 ∷ 97 ∷ 105 ∷ 110 ∷ []

-- int main(void) { .. }
abbrev main_of : Items → External
main_of is =
    record { at = 0; specifier = outers.Plain an_int; form = forms.Function (function_void (named main_name)) is }

abbrev a : List ℕ
a = 97 ∷ []

abbrev p : List ℕ
p = 112 ∷ []

abbrev putchar : List ℕ
putchar = 112 ∷ 117 ∷ 116 ∷ 99 ∷ 104 ∷ 97 ∷ 114 ∷ []

abbrev int : ℕ → Expr
int n = tree.integer n constants.Int

abbrev op : BinaryOp → Expr → Expr → Expr
op o x y = tree.between (Binary o) x y

abbrev declared : Declarator → Init
declared d = record { declarator = d; value = None }

abbrev with_value : Declarator → Expr → Init
with_value d e = record { declarator = d; value = Some (tree.single e) }

abbrev returning : Expr → Items
returning e = statement_and (return_value e) no_items

-- ---- what comes of it

abbrev gives : Items → (slots : List Ty) → Stmt → Type 0
gives is slots body =
    typing_of (main_of is ∷ [])
    ≡ Ok (record {
      tags = [];
      structs = [];
      members = [];
      enumerations = [];
      names = [];
      globals = [];
      made = [];
      functions = record { name = main_name; ty = types.function (integer Int) types.no_types; slots = slots; body = Some body } ∷ [];
      additions = record { at = 0; subject = subjects.Function 0 } ∷ record { at = 0; subject = subjects.Body 0 } ∷ [];
    })

-- return e;
abbrev returns : Expr → to.Expr → Type 0
returns e t = gives (returning e) [] (to.scope [] (to.seq (to.return t) to.done))

abbrev number : ℕ → to.Expr
number n = to.number Int n

abbrev slot : ℕ → to.Place
slot n = to.of (Local n)

abbrev read_int : to.Place → to.Expr
read_int q = to.read (scalars.Int Int) q

-- ---- expressions

-- 'a'
pub a_character : returns (tree.character 97) (number 97)
a_character = refl

-- -1
pub a_sign : returns (tree.unary unaries.Minus (int 1)) (to.unary signs.Negate Int (number 1))
a_sign = refl

-- 1+2*3
pub a_sum : returns (op written.Add (int 1) (op written.Mul (int 2) (int 3))) (to.binary ops.Add Int (number 1) (to.binary ops.Mul Int (number 2) (number 3)))
a_sum = refl

-- 1-2-3
pub differences : returns (op written.Sub (op written.Sub (int 1) (int 2)) (int 3)) (to.binary ops.Sub Int (to.binary ops.Sub Int (number 1) (number 2)) (number 3))
differences = refl

-- 1u<2: at the unsigned type
pub a_comparison : returns (op written.Less (tree.integer 1 constants.UnsignedInt) (int 2)) (to.compare relations.Less UnsignedInt (to.number UnsignedInt 1) (to.convert Int UnsignedInt (number 2)))
a_comparison = refl

-- 1&&!2
pub two_conditions : returns (op written.And (int 1) (tree.unary unaries.Not (int 2))) (to.and (number 1) (to.not (number 2)))
two_conditions = refl

-- sizeof(int): an unsigned int
pub a_size : returns (tree.size_of_type an_int tree.nothing) (to.convert UnsignedInt Int (to.size_of_type 4))
a_size = refl

-- (char)300
pub a_cast : returns (tree.cast a_char tree.nothing (int 300)) (to.convert Char Int (to.convert Int Char (number 300)))
a_cast = refl

-- 1?2:3
pub a_choice : returns (tree.choice (int 1) (int 2) (int 3)) (to.choose (Some (scalars.Int Int)) (number 1) (number 2) (number 3))
a_choice = refl

-- (2,3)
pub a_comma : returns (tree.paren (tree.between Comma (int 2) (int 3))) (to.comma (number 2) (number 3))
a_comma = refl

-- ---- statements and declarations

-- putchar(65); return 7;
pub a_byte_is_put : gives (statement_and (plain (tree.call (tree.name putchar) (tree.expr_and (int 65) tree.no_exprs))) (returning (int 7))) [] (to.scope [] (to.seq (to.perform (to.putchar (number 65))) (to.seq (to.return (number 7)) to.done)))
a_byte_is_put = refl

-- int a; a=1; return a;
pub an_assignment : gives (declaration_and an_int (declared (named a) ∷ []) (statement_and (plain (tree.between (Assign assigns.Plain) (tree.name a) (int 1))) (returning (tree.name a)))) (integer Int ∷ []) (to.scope (0 ∷ []) (to.seq (to.perform (to.assign (scalars.Int Int) (slot 0) (number 1))) (to.seq (to.return (read_int (slot 0))) to.done)))
an_assignment = refl

-- int a=1; return a++;
pub a_step : gives (declaration_and an_int (with_value (named a) (int 1) ∷ []) (returning (tree.after steps.Increment (tree.name a)))) (integer Int ∷ []) (to.scope (0 ∷ []) (to.seq (to.perform (to.assign (scalars.Int Int) (slot 0) (number 1))) (to.seq (to.return (to.update true Int ops.Add Int (slot 0) (number 1))) to.done)))
a_step = refl

-- int a[2]; return a[1];
pub an_element : gives (declaration_and an_int (declared (tree.sized (named a) (int 2)) ∷ []) (returning (tree.index (tree.name a) (int 1)))) (types.array (integer Int) 2 ∷ []) (to.scope (0 ∷ []) (to.seq (to.return (read_int (to.deref (to.move (integer Int) false (to.decay (integer Int) 2 (slot 0)) (to.convert Int LongLong (number 1)))))) to.done))
an_element = refl

-- int a; int *p=&a; return *p;
pub a_pointer : gives (declaration_and an_int (declared (named a) ∷ []) (declaration_and an_int (with_value (tree.pointer (named p)) (tree.unary unaries.AddressOf (tree.name a)) ∷ []) (returning (tree.unary unaries.Deref (tree.name p))))) (integer Int ∷ types.pointer (integer Int) ∷ []) (to.scope (0 ∷ 1 ∷ []) (to.seq (to.perform (to.assign scalars.Pointer (slot 1) (to.address (slot 0)))) (to.seq (to.return (read_int (to.deref (to.read scalars.Pointer (slot 1))))) to.done)))
a_pointer = refl

-- while(1)break; return 0;
pub a_loop : gives (statement_and (while_loop (int 1) (jump jumps.Break)) (returning (int 0))) [] (to.scope [] (to.seq (to.loop (number 1) None to.break) (to.seq (to.return (number 0)) to.done)))
a_loop = refl

-- char a[3]="ab"; return a[0];
pub a_string : gives (declaration_and a_char (with_value (tree.sized (named a) (int 3)) (tree.string (97 ∷ 98 ∷ [])) ∷ []) (returning (tree.index (tree.name a) (int 0)))) (types.array (integer Char) 3 ∷ []) (to.scope (0 ∷ []) (to.seq (to.fill (slot 0) 3 (97 ∷ 98 ∷ [])) (to.seq (to.return (to.convert Char Int (to.read (scalars.Int Char) (to.deref (to.move (integer Char) false (to.decay (integer Char) 3 (slot 0)) (to.convert Int LongLong (number 0))))))) to.done)))
a_string = refl

-- if(1)return 2; else return 3;
pub an_else : gives (statement_and (if_else (int 1) (return_value (int 2)) (return_value (int 3))) no_items) [] (to.scope [] (to.seq (to.if_else (number 1) (to.return (number 2)) (to.return (number 3))) to.done))
an_else = refl

-- ---- at file scope

-- int a=3;
pub a_global : typing_of (record { at = 0; specifier = outers.Plain an_int; form = forms.Declaration (with_value (named a) (int 3) ∷ []) } ∷ [])
    ≡ Ok (record {
      tags = [];
      structs = [];
      members = [];
      enumerations = [];
      names = a ∷ [];
      globals = integer Int ∷ [];
      made = to.global 0 (to.perform (to.assign (scalars.Int Int) (to.of (Global 0)) (number 3)) ∷ []) ∷ [];
      functions = [];
      additions = record { at = 0; subject = subjects.Variable 0 } ∷ [];
    })
a_global = refl
