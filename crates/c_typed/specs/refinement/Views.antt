-- What the code's typed trees are, as plain values.
use Rattle.std.specs.Prelude.{ℕ, List, [], ◌∷◌, map, Option, Some, None, Box, Vec}
use Rattle.std.specs.declared.alloc.Global.{Global}
use Rattle.c_types.specs.Types.{Ty, type_of}
use Rattle.c_typed.specs.Tree as tree
use Rattle.c_typed.specs.Parts.{element_place}
use Rattle.c_typed.specs.declared.tree.Place.{Place}
use Rattle.c_typed.specs.declared.tree.Place.TheVariants.{Of, Deref', Member'}
use Rattle.c_typed.specs.declared.tree.Sized.{Sized}
use Rattle.c_typed.specs.declared.tree.Sized.TheVariants.{Place', Value', Nothing}
use Rattle.c_typed.specs.declared.tree.Expr.{Expr, Row_of-Expr, end_of-Expr, more_of-Expr}
use Rattle.c_typed.specs.declared.tree.Expr.TheVariants.{Number, Null, NoFunction, Function, Literal, Read', Decay', Address', Convert', Truth', Not', Unary', Binary', Compare', ComparePointers', SameFunction', Difference', Move', MoveBy', And', Or', Choose', Comma', Assign', Update', Advance', Copy', Call', CallThrough', Putchar', Getchar, Abort, Malloc', Calloc', Free', Discard', Visit', SizeOf}
use Rattle.c_typed.specs.declared.path.Path.{Path}
use Rattle.c_typed.specs.declared.path.Path.TheVariants as paths
use Rattle.c_typed.specs.declared.tree.Stmt.{Stmt, Row_of-Stmt, end_of-Stmt, more_of-Stmt}
use Rattle.c_typed.specs.declared.tree.Stmt.TheVariants as stmts
use Rattle.c_typed.specs.declared.unit.Function.{Function as FunctionCode}
use Rattle.c_typed.specs.declared.unit.Made.{Made}
use Rattle.c_typed.specs.declared.unit.Made.TheVariants as mades
use Rattle.c_typed.specs.declared.unit.Enumeration.{Enumeration}
use Rattle.c_typed.specs.declared.unit.TypedUnit.{TypedUnit}

abbrev mutual
  pub place_of : Place → tree.Place
  place_of (Of v) = tree.of v
  place_of (Deref' p e) = tree.deref (expr_of e)
  place_of (Member' p b n m) = tree.member (place_of b) n m

  pub sized_of : Sized → ℕ → tree.Expr
  sized_of (Place' p b) n = tree.size_of_place n (place_of b)
  sized_of (Value' p e) n = tree.size_of_value n (expr_of e)
  sized_of Nothing n = tree.size_of_type n

  pub expr_of : Expr → tree.Expr
  expr_of (Number t n) = tree.number t n
  expr_of Null = tree.null
  expr_of NoFunction = tree.no_function
  expr_of (Function f) = tree.function f
  expr_of (Literal n) = tree.literal n
  expr_of (Read' s p b) = tree.read s (place_of b)
  expr_of (Decay' t n p b) = tree.decay (type_of t) n (place_of b)
  expr_of (Address' p b) = tree.address (place_of b)
  expr_of (Convert' t u p a) = tree.convert t u (expr_of a)
  expr_of (Truth' s p a) = tree.truth s (expr_of a)
  expr_of (Not' p a) = tree.not (expr_of a)
  expr_of (Unary' op t p a) = tree.unary op t (expr_of a)
  expr_of (Binary' op t p a q b) = tree.binary op t (expr_of a) (expr_of b)
  expr_of (Compare' op t p a q b) = tree.compare op t (expr_of a) (expr_of b)
  expr_of (ComparePointers' op p a q b) = tree.compare_pointers op (expr_of a) (expr_of b)
  expr_of (SameFunction' is p a q b) = tree.same_function is (expr_of a) (expr_of b)
  expr_of (Difference' t p a q b) = tree.difference (type_of t) (expr_of a) (expr_of b)
  expr_of (Move' t back p a q b) = tree.move (type_of t) back (expr_of a) (expr_of b)
  expr_of (MoveBy' t p a q b) = tree.move_by (type_of t) (expr_of a) (expr_of b)
  expr_of (And' p a q b) = tree.and (expr_of a) (expr_of b)
  expr_of (Or' p a q b) = tree.or (expr_of a) (expr_of b)
  expr_of (Choose' s p c q a r b) = tree.choose s (expr_of c) (expr_of a) (expr_of b)
  expr_of (Comma' p a q b) = tree.comma (expr_of a) (expr_of b)
  expr_of (Assign' s p b q e) = tree.assign s (place_of b) (expr_of e)
  expr_of (Update' old t op u p b q e) = tree.update old t op u (place_of b) (expr_of e)
  expr_of (Advance' old t back p b q e) = tree.advance old (type_of t) back (place_of b) (expr_of e)
  expr_of (Copy' n p a q b) = tree.copy n (place_of a) (place_of b)
  expr_of (Call' f s shape es) = tree.call f s (exprs_of es)
  expr_of (CallThrough' t s p e shape es) = tree.call_through (type_of t) s (expr_of e) (exprs_of es)
  expr_of (Putchar' p e) = tree.putchar (expr_of e)
  expr_of Getchar = tree.getchar
  expr_of Abort = tree.abort
  expr_of (Malloc' t p e) = tree.malloc (type_of t) (expr_of e)
  expr_of (Calloc' t p n q e) = tree.calloc (type_of t) (expr_of n) (expr_of e)
  expr_of (Free' p e) = tree.free (expr_of e)
  expr_of (Discard' p e) = tree.discard (expr_of e)
  expr_of (Visit' p b) = tree.visit (place_of b)
  expr_of (SizeOf n of) = sized_of of n

  pub exprs_of : {m : _} → Row_of-Expr m → tree.Exprs
  exprs_of end_of-Expr = tree.none
  exprs_of (more_of-Expr e es) = tree.more (expr_of e) (exprs_of es)

abbrev pub step_of : Option Expr → Option tree.Expr
step_of None = None
step_of (Some e) = Some (expr_of e)

abbrev mutual
  pub stmt_of : Stmt → tree.Stmt
  stmt_of stmts.Nothing = tree.nothing
  stmt_of (stmts.Perform e) = tree.perform (expr_of e)
  stmt_of (stmts.Fill b n bytes) = tree.fill (place_of b) n bytes.items
  stmt_of (stmts.If' c p a q b) = tree.if_else (expr_of c) (stmt_of a) (stmt_of b)
  stmt_of (stmts.Loop' c step p s) = tree.loop (expr_of c) (step_of step) (stmt_of s)
  stmt_of (stmts.DoWhile' p s e) = tree.do_while (stmt_of s) (expr_of e)
  stmt_of (stmts.Switch' t e slots cases shape ss) = tree.switch t (expr_of e) slots.items cases.items (stmts_of ss)
  stmt_of (stmts.Scope' slots shape ss) = tree.scope slots.items (stmts_of ss)
  stmt_of (stmts.Return e) = tree.return (expr_of e)
  stmt_of stmts.ReturnNothing = tree.return_nothing
  stmt_of stmts.Break = tree.break
  stmt_of stmts.Continue = tree.continue

  pub stmts_of : {m : _} → Row_of-Stmt m → tree.Stmts
  stmts_of end_of-Stmt = tree.done
  stmts_of (more_of-Stmt s ss) = tree.seq (stmt_of s) (stmts_of ss)

abbrev pub list_of : List Stmt → List tree.Stmt
list_of ss = map stmt_of ss

-- ---- parts of variables, and what is put together

-- the place of a part
abbrev pub path_place : Path → tree.Place
path_place (paths.Variable v) = tree.of v
path_place (paths.Element' p path t n i) = element_place (path_place path) (type_of t.now) n i
path_place (paths.Member' p path n m) = tree.member (path_place path) n m

abbrev pub boxed_step : Option (Box Expr Global) → Option tree.Expr
boxed_step None = None
boxed_step (Some e) = Some (expr_of e.value)

-- ---- units

abbrev pub body_of : Option Stmt → Option tree.Stmt
body_of None = None
body_of (Some s) = Some (stmt_of s)

abbrev pub function_of : FunctionCode → tree.Function
function_of f = record { name = f.name; ty = type_of f.ty; slots = map type_of f.slots.items; body = body_of f.body }

abbrev pub made_of : Made → tree.Made
made_of (mades.Global n ss) = tree.global n (list_of ss.items)
made_of (mades.Literal bytes) = tree.text bytes.items

abbrev pub enumeration_of : Enumeration → tree.Enumeration
enumeration_of e = record { tag = e.tag; constants = e.constants.items }

abbrev pub names_in : List (Vec (List ℕ) Global) → List (List (List ℕ))
names_in ns = map (λ (v : Vec (List ℕ) Global). v.items) ns

abbrev pub typed_of : TypedUnit → tree.Typed
typed_of u =
    record {
      tags = u.tags.items;
      structs = u.structs;
      members = names_in u.members.items;
      enumerations = map enumeration_of u.enumerations.items;
      names = u.names.items;
      globals = map type_of u.globals.items;
      made = map made_of u.made.items;
      functions = map function_of u.functions.items;
      additions = u.additions.items;
    }
