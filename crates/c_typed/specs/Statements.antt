-- What statements may do (C11, 6.8), in a function that gives a type, by the jumps that may stand there.
use Rattle.std.specs.Prelude.{◌≡◌, ℕ, ◌+◌, ◌≤◌, ◌<◌, ◌^◌, true, false, List, [], ◌∷◌, length, Option, Some, None}
use Rattle.std.specs.List.{All}
use Rattle.c_types.specs.declared.integers.IntType.{IntType}
use Rattle.c_types.specs.declared.integers.IntType.TheVariants.{Char}
use Rattle.c_types.specs.Integers.{bits}
use Rattle.c_types.specs.Types.{Ty, void, integer, array}
use Rattle.c_typed.specs.declared.tree.Case.{Case}
use Rattle.c_typed.specs.Tree as tree
use Rattle.c_typed.specs.Tree.{Expr, Place, Stmt, Stmts}
use Rattle.c_typed.specs.declared.jumps.Jumps.{Jumps}
use Rattle.c_typed.specs.refinement.Expressions.{Context, opened, is_visible, HasType, IsPlace, IsCondition, IsPromoted}
use Rattle.c_typed.specs.refinement.Types.{IsScalar}

-- an expression that is evaluated for what it does (6.8.3)
abbrev pub IsDone : Context → Expr → Type 0
IsDone c e = (t : Ty) × HasType c e t

abbrev pub IsStep : Context → Option Expr → Type 0
IsStep c None = Unit {0}
IsStep c (Some e) = IsDone c e

-- the bytes of a string, and the first elements of an array of so many char (6.7.9, paragraph 14)
abbrev pub IsFilled : Context → Place → (count : ℕ) → List ℕ → Type 0
IsFilled c p n bytes = (length bytes ≤ n) × IsPlace c p (array (integer Char) n)

-- the variables that a block declares have slots, each its own, and none of a block around it
abbrev pub AreNew : Context → List ℕ → Type 0
AreNew c [] = Unit {0}
AreNew c (n ∷ ns) = (n < length c.slots) × (is_visible c.visible n ≡ false) × AreNew (opened c (n ∷ [])) ns

-- ---- labels (6.8.4.2)

abbrev pub count : Stmts → ℕ
count tree.done = 0
count (tree.seq s ss) = count ss + 1

-- a number of the type
abbrev pub IsLabel : IntType → Option ℕ → Type 0
IsLabel t None = Unit {0}
IsLabel t (Some n) = n < 2 ^ bits t

abbrev pub IsCase : IntType → (groups : ℕ) → Case → Type 0
IsCase t k x = (x.group ≤ k) × IsLabel t x.label

-- no two are equal, and one at most is `default`
abbrev pub AreDistinct : List Case → Type 0
AreDistinct [] = Unit {0}
AreDistinct (x ∷ xs) = All (λ (y : Case). y.label ≡ x.label → ⊥) xs × AreDistinct xs

-- ---- jumps (6.8.6)

abbrev pub no_jumps : Jumps
no_jumps = record { breaks = false; continues = false }

-- `break` leaves a loop or a switch, `continue` belongs to a loop
abbrev pub in_loop : Jumps
in_loop = record { breaks = true; continues = true }

abbrev pub in_switch : Jumps → Jumps
in_switch j = record { breaks = true; continues = j.continues }

-- ---- statements

abbrev mutual
  pub IsStatement : Context → (result : Ty) → Jumps → Stmt → Type 0
  IsStatement c r j tree.nothing = Unit {0}
  IsStatement c r j (tree.perform e) = IsDone c e
  IsStatement c r j (tree.fill p n bytes) = IsFilled c p n bytes
  IsStatement c r j (tree.if_else e a b) =
      IsCondition c e × IsStatement c r j a × IsStatement c r j b
  IsStatement c r j (tree.loop e step s) =
      IsCondition c e × IsStep c step × IsStatement c r in_loop s
  IsStatement c r j (tree.do_while s e) = IsStatement c r in_loop s × IsCondition c e
  IsStatement c r j (tree.switch t e slots cases groups) =
      IsPromoted t × HasType c e (integer t) × AreNew c slots × All (IsCase t (count groups)) cases × AreDistinct cases × AreStatements (opened c slots) r (in_switch j) groups
  IsStatement c r j (tree.scope slots ss) =
      AreNew c slots × AreStatements (opened c slots) r j ss
  IsStatement c r j (tree.return e) = IsScalar r × HasType c e r
  IsStatement c r j tree.return_nothing = r ≡ void
  IsStatement c r j tree.break = j.breaks ≡ true
  IsStatement c r j tree.continue = j.continues ≡ true

  pub AreStatements : Context → (result : Ty) → Jumps → Stmts → Type 0
  AreStatements c r j tree.done = Unit {0}
  AreStatements c r j (tree.seq s ss) = IsStatement c r j s × AreStatements c r j ss
