-- What the indices in a function's code have to name.
use Rattle.std.proofs.Common.{◌≡◌, ℕ, ◌+◌, ◌<◌, ◌≤◌, List, [], ◌∷◌, ◌++◌, length, Bool, true, false, Some, refl, arith}
use Rattle.std.specs.Prelude.{max, ◌||◌, slice_get}
use Rattle.ms_types.specs.declared.types.ValType.{ValType}
use Rattle.ms_types.specs.declared.types.ValType.TheVariants as vals
use Rattle.ms_types.specs.declared.types.GlobalType.{GlobalType}
use Rattle.ms_rules.specs.Context.{Context}
use Rattle.c_types.specs.Types.{Ty, function, Tys}
use Rattle.c_typed.specs.declared.ops.Variable.{Variable}
use Rattle.c_typed.specs.declared.ops.Variable.TheVariants.{Local, Global}
use Rattle.c_typed.specs.Objects as objects
use Rattle.c_typed.specs.Tree.{Place, Expr, Exprs, Stmt, Stmts}
use Rattle.c_code.specs.Functions.{held_as, signature}
use Rattle.c_code.specs.Targets.{Target}
use Rattle.c_code.specs.Uses.{Use, calls, through, in_place, in_expr, in_exprs, in_stmt, in_stmts, waits, waits_place, waits_all, waits_stmt, waits_stmts}

abbrev pub var : ValType → GlobalType
var v = record { ty = v; mutable = true }

-- the type of a variable
abbrev pub TypeOf : (globals slots : List Ty) → Variable → Ty → Type 0
TypeOf gs ss (Local n) ty = slice_get ss n ≡ Some ty
TypeOf gs ss (Global n) ty = slice_get gs n ≡ Some ty

-- the type of the local or global that holds it
abbrev pub Holds : Context → Target → Variable → ValType → Type 0
Holds c t (Local n) w = slice_get c.locals (t.first + n) ≡ Some w
Holds c t (Global n) w = slice_get c.globals n ≡ Some (var w)

pub record Names (c : Context) (t : Target) (globals slots : List Ty) (literals waits : ℕ) : Type 0 where
  pub variable : (v : Variable) (ty : Ty) → TypeOf globals slots v ty → Holds c t v (held_as (t.is_object v) ty)
  pub literal : (n : ℕ) → n < literals → slice_get c.globals (t.globals + n) ≡ Some (var vals.Handle)
  pub i32 : slice_get c.locals t.scratch ≡ Some vals.I32
  pub i64 : slice_get c.locals (t.scratch + 1) ≡ Some vals.I64
  pub handle : slice_get c.locals (t.scratch + 2) ≡ Some vals.Handle
  pub place : slice_get c.locals (t.scratch + 3) ≡ Some vals.Handle
  pub waiting : (d : ℕ) → d < waits → slice_get c.locals (t.scratch + 4 + d) ≡ Some vals.I32
  pub putchar : slice_get c.funcs 0 ≡ Some (Some (record { params = vals.I32 ∷ []; results = vals.I32 ∷ [] }))
  pub getchar : slice_get c.funcs 1 ≡ Some (Some (record { params = []; results = vals.I32 ∷ [] }))
  pub abort : slice_get c.funcs 2 ≡ Some (Some (record { params = []; results = [] }))
  pub table : 0 < length c.tables

-- what a use has to name
abbrev pub IsNamed : Context → Target → (functions : List Ty) → Use → Type 0
IsNamed c t fs (calls n) = (r : Ty) (ps : Tys) → slice_get fs n ≡ Some (function r ps) → slice_get c.funcs (t.index n) ≡ Some
    (Some (signature (function r ps)))
IsNamed c t fs (through f) = slice_get c.sigs (t.sig f) ≡ Some (signature f)
IsNamed c t fs _ = Unit {0}

abbrev pub Each : {A : Type 0} (P : A → Type 0) → List A → Type 0
Each P [] = Unit {0}
Each P (x ∷ xs) = P x × Each P xs

pub each_front : {A : Type 0} (P : A → Type 0) (xs ys : List A) → Each P (xs ++ ys) → Each P xs
each_front P [] ys h = tt
each_front P (x ∷ xs) ys h = (h.0, each_front P xs ys h.1)

pub each_back : {A : Type 0} (P : A → Type 0) (xs ys : List A) → Each P (xs ++ ys) → Each P ys
each_back P [] ys h = h
each_back P (x ∷ xs) ys h = each_back P xs ys h.1

pub each_append : {A : Type 0} (P : A → Type 0) (xs ys : List A) → Each P xs → Each P ys → Each P (xs ++ ys)
each_append P [] ys h g = g
each_append P (x ∷ xs) ys h g = (h.0, each_append P xs ys h.1 g)

pub or_left : (a b : Bool) → a ≡ true → a || b ≡ true
or_left true b e = refl
or_left false b e = absurd cc

pub or_right : (a b : Bool) → b ≡ true → a || b ≡ true
or_right true b e = refl
or_right false b e = e

-- ---- what a part of a body needs: its uses, the variables under an `&` in it, and how many values wait in it at once

pub record Needs : Type 0 where
  pub uses : List Use
  pub under : Variable → Bool
  pub waits : ℕ

abbrev pub of_place : Place → Needs
of_place p = record { uses = in_place p; under = λ v. objects.in_place v p; waits = waits_place p }

abbrev pub of_expr : Expr → Needs
of_expr e = record { uses = in_expr e; under = λ v. objects.in_expr v e; waits = waits e }

abbrev pub of_exprs : Exprs → Needs
of_exprs es = record { uses = in_exprs es; under = λ v. objects.in_exprs v es; waits = waits_all es }

abbrev pub of_stmt : Stmt → Needs
of_stmt s = record { uses = in_stmt s; under = λ v. objects.in_stmt v s; waits = waits_stmt s }

abbrev pub of_stmts : Stmts → Needs
of_stmts ss = record { uses = in_stmts ss; under = λ v. objects.in_stmts v ss; waits = waits_stmts ss }

infixr 20 ◌⊕◌
-- of two parts
abbrev pub ◌⊕◌ : Needs → Needs → Needs
◌⊕◌ a b = record { uses = a.uses ++ b.uses; under = λ v. a.under v || b.under v; waits = max a.waits b.waits }

-- The uses are named, the variables are objects, and there is a local for each value that waits beside d others.
pub record Fits (c : Context) (t : Target) (globals slots functions : List Ty) (locals d : ℕ) (a : Needs) : Type 0 where
  pub uses : Each (IsNamed c t functions) a.uses
  pub objects : (v : Variable) (ty : Ty) → TypeOf globals slots v ty → a.under v ≡ true → t.is_object v ≡ true
  pub least : d + a.waits ≤ locals

module _ {c : Context} {t : Target} {globals slots functions : List Ty} {locals d : ℕ} where
  pub first : (a b : Needs) → Fits c t globals slots functions locals d (a ⊕ b) → Fits c t globals slots functions locals d a
  first a b h = record {
    uses = each_front (IsNamed c t functions) a.uses b.uses h.uses;
    objects = λ v ty at e. h.objects v ty at (or_left (a.under v) (b.under v) e);
    least = let l = h.least in omega (arith, l);
  }

  pub second : (a b : Needs) → Fits c t globals slots functions locals d (a ⊕ b) → Fits c t globals slots functions locals d b
  second a b h = record {
    uses = each_back (IsNamed c t functions) a.uses b.uses h.uses;
    objects = λ v ty at e. h.objects v ty at (or_right (a.under v) (b.under v) e);
    least = let l = h.least in omega (arith, l);
  }
