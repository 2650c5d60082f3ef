-- Values of C as operands of the machine.
use Rattle.std.specs.Prelude.{List, [], ◌∷◌}
use Rattle.ms_linear.specs.declared.value.Value.{Value as Word}
use Rattle.ms_linear.specs.declared.value.Value.TheVariants.{I32}
use Rattle.c_types.specs.Types.{Ty, void, integer}
use Rattle.c_meaning.specs.Values.{Value, number}
use Rattle.c_numbers.specs.Operands.{word}

-- of integers alone
abbrev pub value_word : Ty → Value → Word
value_word (integer u) (number z) = word u z
value_word _ _ = I32 0

-- what an expression of the type leaves on the operands
abbrev pub pushed : Ty → Value → List Word → List Word
pushed void v vs = vs
pushed t v vs = value_word t v ∷ vs

-- what a function leaves
abbrev pub left : Ty → Value → List Word
left t v = pushed t v []
