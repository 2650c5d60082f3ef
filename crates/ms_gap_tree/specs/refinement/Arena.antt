-- The tree that an arena holds from a link on.
use Rattle.std.specs.Prelude.{ℕ, zero, suc, List, Option, Some, None, get_or}
use Rattle.ms_gap_tree.specs.refinement.Tree.{Tree, Empty, Fork}
use Rattle.ms_gap_tree.specs.declared.node.Link.{Link}
use Rattle.ms_gap_tree.specs.declared.node.Node.{Node}

abbrev pub blank : Node
blank = record { left = None; right = None }

abbrev pub at : List Node → ℕ → Node
at nodes i = get_or nodes i blank

abbrev pub tree_of : List Node → ℕ → Option Link → Tree
tree_of nodes zero None = Empty
tree_of nodes zero (Some root) = Fork root.at root.item Empty Empty
tree_of nodes (suc d) None = Empty
tree_of nodes (suc d) (Some root) = Fork root.at root.item (tree_of nodes d (at nodes root.at).left) (tree_of nodes d (at nodes root.at).right)
