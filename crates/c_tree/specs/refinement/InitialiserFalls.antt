-- Each part of an initializer is smaller than the whole.
use Rattle.std.specs.Prelude.{◌+◌, ◌≤◌, max, List, [], ◌∷◌}
use Rattle.std.proofs.Common.{arith}
use Rattle.c_tree.specs.Tree.{Initialiser}
use denote.Param.Weighed.{most}
use Rattle.c_tree.specs.declared.initialiser.InitialiserNode.{InitialiserNode}
use Rattle.c_tree.specs.declared.initialiser.InitialiserNode.TheVariants as initialisers
use Rattle.c_tree.specs.refinement.InitialiserViews.{initialiser_of, initialisers_of, initialiser_nodes, initialisers_nodes}
use Rattle.c_tree.specs.declared.initialiser.Initialiser.TheDeep.{deep-InitialiserNode}

pub initialiser_falls : (n : InitialiserNode) → max (deep-InitialiserNode n) 0 ≤ initialiser_nodes (initialiser_of n)
initialiser_falls (initialisers.Single e) = omega arith
initialiser_falls (initialisers.Braces vs comma) = omega arith

pub initialisers_fall : (vs : List Initialiser) → max (most (λ v. initialiser_nodes v + 1) vs) 0 ≤ initialisers_nodes (initialisers_of vs)
initialisers_fall [] = omega arith
initialisers_fall (v ∷ vs) = omega (arith, initialisers_fall vs)
