-- What the nodes of initializers stand for, and how large that is.
use Rattle.std.specs.Prelude.{ℕ, ◌+◌, List, [], ◌∷◌}
use Rattle.c_tree.specs.Tree.{Initialiser, single, braces, Initialisers, no_initialisers, initialiser_and}
use Rattle.c_tree.specs.declared.initialiser.InitialiserNode.{InitialiserNode}
use Rattle.c_tree.specs.declared.initialiser.InitialiserNode.TheVariants as initialisers

abbrev pub initialiser_of : InitialiserNode → Initialiser
initialiser_of (initialisers.Single e) = single e
initialiser_of (initialisers.Braces vs comma) = braces vs comma

abbrev pub initialisers_of : List Initialiser → Initialisers
initialisers_of [] = no_initialisers
initialisers_of (v ∷ vs) = initialiser_and v (initialisers_of vs)

abbrev pub with_initialiser : Initialisers → Initialiser → Initialisers
with_initialiser no_initialisers v = initialiser_and v no_initialisers
with_initialiser (initialiser_and a vs) v = initialiser_and a (with_initialiser vs v)

abbrev mutual
  pub initialiser_nodes : Initialiser → ℕ
  initialiser_nodes (single e) = 1
  initialiser_nodes (braces vs comma) = initialisers_nodes vs + 1

  pub initialisers_nodes : Initialisers → ℕ
  initialisers_nodes no_initialisers = 1
  initialisers_nodes (initialiser_and v vs) = initialiser_nodes v + initialisers_nodes vs + 1
