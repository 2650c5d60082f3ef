-- The way down to the least key with room is the one on the tree.
use Rattle.std.proofs.Common.{◌≡◌, ℕ, zero, suc, ◌+◌, ◌<◌, ◌≤◌, Bool, true, false, cond, List, Option, Some, None, nat_lt, nat_le, refl, ap, sym, ◌∙◌}
use Rattle.ms_gap_tree.specs.refinement.Arena.{at, tree_of}
use Rattle.ms_gap_tree.specs.refinement.Tree.{Fork, least, lowest, fits, link_fits, looked}
use Rattle.ms_gap_tree.specs.declared.node.Link.{Link}
use Rattle.ms_gap_tree.specs.declared.node.Node.{Node}
use Rattle.ms_gap_tree.proofs.Inserted.{linked, cond_false, cond_true, lt_false, lt_true}

chosen : (nodes : List Node) (d n : ℕ) (left right : Option Link) → lowest n (tree_of nodes d (cond (link_fits n left) left right)) ≡ cond (fits n (tree_of nodes d left)) (lowest n (tree_of nodes d left)) (lowest n (tree_of nodes d right))
chosen nodes zero n None right = refl
chosen nodes zero n (Some root) right =
    elim (nat_le n root.item.room) as (λ b. lowest n (tree_of nodes zero (cond b (Some root) right)) ≡ cond b (lowest n (tree_of nodes zero (Some root))) (lowest n (tree_of nodes zero right))) [ true ↦ refl | false ↦ refl ]
chosen nodes (suc d) n None right = refl
chosen nodes (suc d) n (Some root) right =
    elim (nat_le n root.item.room) as (λ b. lowest n (tree_of nodes (suc d) (cond b (Some root) right)) ≡ cond b (lowest n (tree_of nodes (suc d) (Some root))) (lowest n (tree_of nodes (suc d) right))) [ true ↦ refl | false ↦ refl ]

pub lowest_found : (nodes : List Node) (level d n : ℕ) (root : Link) (link half : Option Link) (below : Option ℕ) (key : ℕ) → level ≡ suc d → link ≡ Some root → n ≤ root.item.room → half ≡ cond (link_fits n (at nodes root.at).left) (at nodes root.at).left (at nodes root.at).right → below ≡ lowest n (tree_of nodes d half) → key ≡ least root.item.key below → Some key ≡ lowest n (tree_of nodes level link)
lowest_found nodes level d n root link half below key e h r w b k =
    let node = at nodes root.at in
    let left = tree_of nodes d node.left in
    let right = tree_of nodes d node.right in
    let c = b ∙ (ap (λ (x : Option Link). lowest n (tree_of nodes d x)) w ∙ chosen nodes d n node.left node.right) in
    let f = cond_false (nat_lt root.item.room n) None (Some (least root.item.key (cond (fits n left) (lowest n left) (lowest n right)))) (lt_false root.item.room n r) in
    ap (λ (x : ℕ). Some x) k ∙ (ap (λ (x : Option ℕ). Some (least root.item.key x)) c ∙ (sym f ∙ sym (ap (lowest n) (linked nodes level d root link e h))))

-- where no level is left there are no halves
pub lowest_last : (nodes : List Node) (n : ℕ) (level : ℕ) (root : Link) (link : Option Link) → level ≡ 0 → link ≡ Some root → n ≤ root.item.room → Some root.item.key ≡ lowest n (tree_of nodes level link)
lowest_last nodes n level root link e h r = rw (e, h) (sym (cond_false (nat_lt root.item.room n) None (Some root.item.key) (lt_false root.item.room n r)))

zero_both : (b : Bool) → ◌≡◌ {A = ℕ} 0 (cond b 0 0)
zero_both true = refl
zero_both false = refl

chosen_looked : (nodes : List Node) (d n : ℕ) (left right : Option Link) → looked d n (tree_of nodes d (cond (link_fits n left) left right)) ≡ cond (fits n (tree_of nodes d left)) (looked d n (tree_of nodes d left)) (looked d n (tree_of nodes d right))
chosen_looked nodes zero n None right = refl
chosen_looked nodes zero n (Some root) right = zero_both (nat_le n root.item.room)
chosen_looked nodes (suc d) n None right = refl
chosen_looked nodes (suc d) n (Some root) right =
    elim (nat_le n root.item.room) as (λ b. looked (suc d) n (tree_of nodes (suc d) (cond b (Some root) right)) ≡ cond b (looked (suc d) n (tree_of nodes (suc d) (Some root))) (looked (suc d) n (tree_of nodes (suc d) right))) [ true ↦ refl | false ↦ refl ]

pub looked_found : (nodes : List Node) (level d n : ℕ) (root : Link) (link half : Option Link) → level ≡ suc d → link ≡ Some root → n ≤ root.item.room → half ≡ cond (link_fits n (at nodes root.at).left) (at nodes root.at).left (at nodes root.at).right → 1 + looked d n (tree_of nodes d half) ≡ looked level n (tree_of nodes level link)
looked_found nodes level d n root link half e h r w =
    let node = at nodes root.at in
    let left = tree_of nodes d node.left in
    let right = tree_of nodes d node.right in
    let c = ap (λ (x : Option Link). looked d n (tree_of nodes d x)) w ∙ chosen_looked nodes d n node.left node.right in
    let f = cond_false (nat_lt root.item.room n) 0 (1 + cond (fits n left) (looked d n left) (looked d n right)) (lt_false root.item.room n r) in
    ap (λ (x : ℕ). 1 + x) c ∙ (sym f ∙ (sym (ap (λ (m : ℕ). looked m n (Fork root.at root.item left right)) e) ∙ sym (ap (looked level n) (linked nodes level d root link e h))))

pub looked_none : (nodes : List Node) (level n : ℕ) → looked level n (tree_of nodes level None) ≡ 0
looked_none nodes zero n = refl
looked_none nodes (suc d) n = refl

pub looked_small : (nodes : List Node) (level n : ℕ) (root : Link) → root.item.room < n → looked level n (tree_of nodes level (Some root)) ≡ 0
looked_small nodes zero n root h = refl
looked_small nodes (suc d) n root h = cond_true (nat_lt root.item.room n) 0 (1 + cond (fits n (tree_of nodes d (at nodes root.at).left)) (looked d n (tree_of nodes d (at nodes root.at).left)) (looked d n (tree_of nodes d (at nodes root.at).right))) (lt_true root.item.room n h)
