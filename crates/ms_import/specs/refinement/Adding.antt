-- One module more among those that were linked so far.
use Rattle.std.specs.Prelude.{◌≡◌, ℕ, List, [], ◌∷◌, ◌++◌}
use Rattle.ms_module.specs.declared.module.Element.{Element}
use Rattle.ms_module.specs.declared.module.Fill.{Fill}
use Rattle.ms_machine.specs.declared.store.Instance.{Instance}
use Rattle.ms_machine.specs.Externs.{Made}

-- its name, its instance, its elements and its data stand behind the others
pub record Adds (before : Made) (i : Instance) (es : List Element) (fs : List Fill) (name : List ℕ) (after : Made) : Type 0 where
  pub names : after.names ≡ before.names ++ name ∷ []
  pub funcs : after.funcs ≡ before.funcs
  pub instances : after.instances ≡ before.instances ++ i ∷ []
  pub tables : after.tables ≡ before.tables
  pub memories : after.memories ≡ before.memories
  pub globals : after.globals ≡ before.globals
  pub elements : after.elements ≡ before.elements ++ es ∷ []
  pub fills : after.fills ≡ before.fills ++ fs ∷ []
