-- One module more, before it is known to fit: what it adds to the modules before.
use Rattle.std.specs.Prelude.{◌≡◌, List, []}
use Rattle.ms_module.specs.declared.module.Module.{Module}
use Rattle.ms_machine.specs.declared.externs.Extern.{Extern}
use Rattle.ms_machine.specs.Externs.{Made}
use Rattle.ms_machine.specs.Linked.{instance_in, with_module}
use Rattle.ms_link.specs.declared.adding.Begun.{Begun}

-- its functions, tables, memories and globals are there, and its instance is made
pub record Begins (made new : Made) (m : Module) (es : List Extern) (b : Begun) : Type 0 where
  pub names : new.names ≡ made.names
  pub funcs : new.funcs ≡ (with_module made [] m es).funcs
  pub instances : new.instances ≡ made.instances
  pub tables : new.tables ≡ (with_module made [] m es).tables
  pub memories : new.memories ≡ (with_module made [] m es).memories
  pub globals : new.globals ≡ (with_module made [] m es).globals
  pub elements : new.elements ≡ made.elements
  pub fills : new.fills ≡ made.fills
  pub instance : b.instance ≡ instance_in made m es
  pub own_elements : b.own_elements ≡ m.elements
  pub own_fills : b.own_fills ≡ m.fills
