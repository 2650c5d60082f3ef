-- The open blocks of a body that is built, and the steps that may come next.
use Rattle.std.specs.Prelude.{◌≡◌, ◌<◌, Bool, true, List, [], ◌∷◌, length}
use Rattle.ms_module.specs.declared.builder.Open.{Open}
use Rattle.ms_module.specs.Building.{may_else, may_else_in}
use Rattle.ms_text_grammar.specs.declared.surface.Op.{Op}
use Rattle.ms_text_grammar.specs.declared.surface.Op.TheVariants as op
use Rattle.ms_text_grammar.specs.ResolvedBodies.{Built}

-- whether an `else` may come in each open block, the innermost first
abbrev pub elses_of : List Open → List Bool
elses_of [] = []
elses_of (o ∷ os) = may_else_in o.arm ∷ elses_of os

-- An `else` comes in the first arm of an `if`, an `end` where a block is open.
abbrev pub MayCome : Built → Op → Type 0
MayCome b op.Else = may_else b.st.blocks ≡ true
MayCome b op.End = (0 < length b.st.blocks) × (0 < length b.labels)
MayCome b _ = Unit {0}
