-- What the functions that build give.
use Rattle.std.specs.Prelude.{◌≡◌, List, [], ◌∷◌, ◌++◌}
use Rattle.c_tree.specs.declared.initialiser.Init.{Init}
use Rattle.c_productions.specs.declared.value.Value.{Value}
use Rattle.c_productions.specs.declared.value.Value.TheVariants as values

-- all declarators of a declaration, and what lies before them
abbrev pub AreInits : List Value → List Init → List Value → Type 0
AreInits (values.Inits xs x ∷ vs) all rest = (all ≡ xs ++ x ∷ []) × (rest ≡ vs)
AreInits _ all rest = ⊥
