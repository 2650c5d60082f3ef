-- What the builder's calls for a block do (ms_module/specs/Building.antt).
use Rattle.std.specs.Prelude.{◌≡◌, Option}
use Rattle.ms_types.specs.declared.types.ValType.{ValType}
use Rattle.ms_module.specs.Building.{State, after_else, begun, closed}
use Rattle.ms_module.specs.declared.builder.Opening.{Opening}

-- a block begins
pub record Begins (old new : State) (o : Opening) (ty : Option ValType) : Type 0 where
  pub is : new ≡ begun old o ty

-- its else arm begins
pub record Turns (old new : State) : Type 0 where
  pub is : new ≡ after_else old

-- it ends
pub record Ends (old new : State) : Type 0 where
  pub is : new ≡ closed old
