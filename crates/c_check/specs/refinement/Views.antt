-- What the code's values are, and what an answer says of a unit.
use Rattle.std.specs.Prelude.{◌≡◌, List, Option, Result, Ok, Err, Box}
use Rattle.std.specs.declared.alloc.Global.{Global}
use Rattle.c_types.specs.declared.integers.IntType.{IntType}
use Rattle.c_types.specs.Types.{Ty}
use Rattle.c_tree.specs.declared.external.External.{External}
use Rattle.c_tree.specs.declared.statement.Item.{Item}
use Rattle.c_tree.specs.declared.statement.Item.TheVariants as items
use Rattle.c_typed.specs.Tree as to
use Rattle.c_typed.specs.refinement.Views.{stmt_of, list_of, typed_of}
use Rattle.c_typed.specs.declared.tree.Stmt.{Stmt}
use Rattle.c_typed.specs.declared.unit.TypedUnit.{TypedUnit}
use Rattle.c_check_types.specs.State.{State, Rule}
use Rattle.c_check.specs.declared.declaring.Declaring.{Declaring as DeclaringCode}
use Rattle.c_check.specs.declared.fault.CCheck.{CCheck}
use Rattle.c_check.specs.declared.fault.CCheck.TheVariants.{NoTyping, Memory}
use Rattle.c_check.specs.Statements.{Declaring, doing, statement, declaration_of, case_label, default_label}
use Rattle.c_typed.specs.declared.jumps.Jumps.{Jumps}
use Rattle.c_check.specs.Units.{externals, typed_state, typing_of}

-- ---- statements

abbrev pub boxed_stmt : Box Stmt Global → to.Stmt
boxed_stmt s = stmt_of s.value

abbrev pub declaring_of : DeclaringCode → Declaring
declaring_of d =
    record { slots = d.slots.items; done = list_of d.done.items; labels = d.labels; has_default = d.has_default; cases = d.cases.items; groups = list_of d.groups.items }

-- what stands in a block, behind what is done so far
abbrev pub item_rule : Item → Ty → Jumps → Option IntType → Declaring → Rule Declaring
item_rule (items.Statement s) r j l so_far = doing (statement s r j) so_far
item_rule (items.Declaration s xs) r j l so_far = declaration_of s xs so_far
item_rule (items.Case e) r j l so_far = case_label l e so_far
item_rule items.Default r j l so_far = default_label l so_far

-- ---- units

-- the answer behind external declarations
abbrev pub GoesOn : List External → State → State → Result (Unit {0}) CCheck → Type 0
GoesOn xs old new (Ok u) = externals xs old ≡ Ok (typed_state new)
GoesOn xs old new (Err (NoTyping at)) = externals xs old ≡ Err at
GoesOn xs old new (Err Memory) = Unit {0}

-- The answer is the definition's: the typed tree, or where the declaration begins up to which there is no typing. Want of
-- memory says nothing.
abbrev pub Checks : List External → Result TypedUnit CCheck → Type 0
Checks xs (Ok t) = typing_of xs ≡ Ok (typed_of t)
Checks xs (Err (NoTyping at)) = typing_of xs ≡ Err at
Checks xs (Err Memory) = Unit {0}
