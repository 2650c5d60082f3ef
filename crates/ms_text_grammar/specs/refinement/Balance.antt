-- Bodies in which each block ends, and each `else` stands in the first arm of an `if` (WebAssembly 1.0, 6.5.1).
use Rattle.std.specs.Prelude.{◌≡◌, Bool, true, false, List, [], ◌∷◌}
use Rattle.ms_text_grammar.specs.declared.surface.Body.{Body}
use Rattle.ms_text_grammar.specs.declared.surface.Field.{Field}
use Rattle.ms_text_grammar.specs.declared.surface.Field.TheVariants as field
use Rattle.ms_text_grammar.specs.declared.surface.Item.{Item}
use Rattle.ms_text_grammar.specs.declared.surface.Item.TheVariants as item
use Rattle.ms_text_grammar.specs.declared.surface.Op.{Op}
use Rattle.ms_text_grammar.specs.declared.surface.Op.TheVariants as op
use Rattle.ms_text_grammar.specs.Advances.{may_else}

-- The instructions end these blocks and those that begin among them. Of each open block, the innermost first, it is told whether an
-- `else` may come in it.
abbrev pub Balanced : List Bool → List Op → Type 0
Balanced blocks [] = blocks ≡ []
Balanced blocks (op.Plain p ∷ os) = Balanced blocks os
Balanced blocks (op.Begin opening label ty ∷ os) = Balanced (may_else opening ∷ blocks) os
Balanced [] (op.Else ∷ os) = ⊥
Balanced (may ∷ blocks) (op.Else ∷ os) = (may ≡ true) × Balanced (false ∷ blocks) os
Balanced [] (op.End ∷ os) = ⊥
Balanced (may ∷ blocks) (op.End ∷ os) = Balanced blocks os

abbrev pub IsWhole : Body → Type 0
IsWhole b = Balanced [] b.ops

abbrev pub ItemIsWhole : Item → Type 0
ItemIsWhole (item.Func sig locals body) = IsWhole body
ItemIsWhole (item.Global ty init) = IsWhole init
ItemIsWhole _ = Unit {0}

abbrev pub FieldIsWhole : Field → Type 0
FieldIsWhole (field.Entry e) = ItemIsWhole e.item
FieldIsWhole (field.Element table offset funcs) = IsWhole offset
FieldIsWhole (field.Data memory offset strings) = IsWhole offset
FieldIsWhole _ = Unit {0}

-- each body of the fields is balanced
abbrev pub AreWhole : List Field → Type 0
AreWhole [] = Unit {0}
AreWhole (f ∷ fs) = FieldIsWhole f × AreWhole fs
