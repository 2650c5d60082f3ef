-- Another thing in place of what is made there.
use Rattle.std.proofs.Common.{◌≡◌, ℕ, List, map, set}
use Rattle.std.proofs.lemmas.List.{map-set}
use Rattle.c_typed.specs.declared.unit.Made.{Made}
use Rattle.c_typed.specs.refinement.Views.{made_of}

pub put_there : (ms : List Made) (m : ℕ) (x : Made) → map made_of (set ms m x) ≡ set (map made_of ms) m (made_of x)
put_there ms m x = map-set made_of ms m x
