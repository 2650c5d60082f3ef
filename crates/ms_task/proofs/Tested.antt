-- A function without parameters, as a test finds it.
use Rattle.std.proofs.Common.{◌≡◌, List, [], ◌∷◌, Bool, length, refl, sym, ◌∙◌, arith}
use Rattle.std.specs.Prelude.{IsTrue, ◌==◌}
use Rattle.std.proofs.lemmas.Bool.{eqb-true}
use Rattle.ms_types.specs.declared.types.ValType.{ValType}

pub none_there : (xs : List ValType) (b : Bool) → b ≡ (length xs == 0) → IsTrue b → xs ≡ []
none_there [] b e h = refl
none_there (x ∷ xs) b e h = absurd (let k = eqb-true (length (x ∷ xs)) 0 (sym e ∙ h) in omega arith)
