-- Lists of parameters.
use Rattle.std.proofs.Common.{◌≡◌, ◌<◌, ◌≤◌, false, List, [], ◌∷◌, length, refl, arith}
use lib.Pointwise.{pointwise}
use Rattle.ms_text_grammar.specs.declared.surface.Param.{Param}
use Rattle.ms_text_grammar.specs.Shapes.{param_types, same_type}

pub differ : (a b : List Param) → length a < 1 → 1 ≤ length b → false ≡ pointwise same_type (param_types a) (param_types b)
differ [] [] lt le = absurd (omega arith)
differ [] (y ∷ ys) lt le = refl
differ (x ∷ xs) b lt le = absurd (omega arith)
