-- Parts of variables as places, and statements in order.
use Rattle.std.specs.Prelude.{ℕ, false, List, [], ◌∷◌}
use Rattle.c_types.specs.declared.integers.IntType.TheVariants.{LongLong}
use Rattle.c_types.specs.Types.{Ty}
use Rattle.c_typed.specs.Tree.{Place, deref, Stmt, Stmts, move, decay, number, done, seq}

-- the element of an array at a place, by the elements' type, how many there are, and which it is
abbrev pub element_place : Place → Ty → (count index : ℕ) → Place
element_place p t n i = deref (move t false (decay t n p) (number LongLong i))

abbrev pub sequence : List Stmt → Stmts
sequence [] = done
sequence (s ∷ ss) = seq s (sequence ss)
