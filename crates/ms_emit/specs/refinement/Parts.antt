-- What holds of a body while code is added to it, and of code that is put together.
use Rattle.std.specs.Prelude.{◌≡◌, ◌<◌, ℕ, [], length}
use Rattle.ms_module.specs.Building.{State, current}
use Rattle.ms_emit.specs.Codes.{Code, emitted}

-- there is a sequence to which instructions go
abbrev pub HasRoom : State → Type 0
HasRoom st = current st.blocks < length st.seqs

-- with no instruction there is no sequence
abbrev pub IsWhole : Code → Type 0
IsWhole c = (n : ℕ) → (c n).instrs ≡ [] → (c n).seqs ≡ []

-- between the two states this code was added, and there is still a sequence to which instructions go
pub record Adds (old new : State) (c : Code) : Type 0 where
  pub whole : IsWhole c
  pub is : HasRoom old → new ≡ emitted old c
  pub room : HasRoom old → HasRoom new
