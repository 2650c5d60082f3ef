-- What a module has that can be shown: its strings are bytes. Each module of the code has it.
use Rattle.std.specs.Prelude.{◌<◌, ℕ, List, All}
use Rattle.ms_module.specs.declared.module.Import.{Import}
use Rattle.ms_module.specs.declared.module.Module.{Module}

abbrev pub AreBytes : List ℕ → Type 0
AreBytes bs = All (λ b. b < 256) bs

pub record HasNames (i : Import) : Type 0 where
  pub from : AreBytes i.«module»
  pub known_as : AreBytes i.name

pub record CanBeShown (m : Module) : Type 0 where
  pub imports : All (λ i. HasNames i) m.imports
  pub exports : All (λ e. AreBytes e.name) m.exports
  pub fills : All (λ f. AreBytes f.bytes) m.fills
