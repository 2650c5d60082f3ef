-- How many initializers there are.
use Rattle.std.proofs.Common.{◌≡◌, List, [], ◌∷◌, length, refl, arith}
use Rattle.c_tree.specs.Tree.{Initialiser}
use Rattle.c_tree.specs.refinement.InitialiserViews.{initialisers_of}
use Rattle.c_declare.specs.Initials.{count}

pub count_is : (vs : List Initialiser) → length vs ≡ count (initialisers_of vs)
count_is [] = refl
count_is (v ∷ vs) = let more = count_is vs in omega arith
