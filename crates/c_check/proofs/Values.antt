-- The initializers in braces: each is smaller than all of them.
use Rattle.std.proofs.Common.{◌≡◌, ℕ, zero, suc, ◌<◌, arith, List, [], ◌∷◌, length, get_or, ap}
use Rattle.c_tree.specs.Tree.{Initialiser}
use Rattle.c_tree.specs.refinement.InitialiserViews.{initialisers_of, initialiser_nodes, initialisers_nodes}

pub one_falls : (vs : List Initialiser) (i : ℕ) (v : Initialiser) → i < length vs → v ≡ get_or vs i v → initialiser_nodes v < initialisers_nodes (initialisers_of vs)
one_falls [] i v lt e = absurd (omega arith)
one_falls (x ∷ vs) zero v lt e =
    let same : initialiser_nodes v ≡ initialiser_nodes x = ap (λ (y : Initialiser). initialiser_nodes y) e in omega arith
one_falls (x ∷ vs) (suc i) v lt e = let more = one_falls vs i v (omega arith) e in omega arith
