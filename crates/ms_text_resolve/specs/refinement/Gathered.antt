-- Parts of a module that are gathered field by field.
use Rattle.std.specs.Prelude.{List, [], ◌∷◌, ◌++◌}
use Rattle.ms_text_grammar.specs.declared.surface.Field.{Field}
use Rattle.ms_text_grammar.specs.Identifiers.{With}

-- a fact on each field
abbrev pub Each : (Field → Type 0) → List Field → Type 0
Each P [] = Unit {0}
Each P (f ∷ fs) = P f × Each P fs

-- what was gathered so far, and behind it what the fields that follow give
abbrev pub onto : {A : Type 0} → List A → With (List A) → With (List A)
onto made rest = record { value = made ++ rest.value; wrong = rest.wrong }
