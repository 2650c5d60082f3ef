-- What stands in a block: each thing is smaller than all of them.
use Rattle.std.proofs.Common.{◌≡◌, ℕ, zero, suc, ◌+◌, ◌<◌, arith, List, [], ◌∷◌, length, get_or, ap}
use Rattle.c_tree.specs.declared.statement.Item.{Item}
use Rattle.c_tree.specs.declared.statement.Item.TheVariants as code
use Rattle.c_tree.specs.refinement.StatementViews.{items_of, items_nodes, statement_nodes}

abbrev pub item_nodes : Item → ℕ
item_nodes (code.Statement s) = statement_nodes s
item_nodes (code.Declaration s xs) = 0
item_nodes (code.Case e) = 0
item_nodes code.Default = 0

here : (i : Item) (is : List Item) → item_nodes i + items_nodes (items_of is) + 1 < items_nodes (items_of (i ∷ is))
here (code.Statement s) is = omega arith
here (code.Declaration s xs) is = omega arith
here (code.Case e) is = omega arith
here code.Default is = omega arith

pub one_falls : (is : List Item) (k : ℕ) (i : Item) → k < length is → i ≡ get_or is k i → item_nodes i < items_nodes (items_of is)
one_falls [] k i lt e = absurd (omega arith)
one_falls (x ∷ is) zero i lt e =
    let same : item_nodes i ≡ item_nodes x = ap (λ (y : Item). item_nodes y) e in omega (arith, same, here x is)
one_falls (x ∷ is) (suc k) i lt e =
    let more = one_falls is k i (omega arith) e in omega (arith, more, here x is)
