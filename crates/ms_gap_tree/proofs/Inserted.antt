-- What the code of `insert` leaves is the insertion on the tree.
use Rattle.std.proofs.Common.{◌≡◌, ◌≢◌, ℕ, suc, ◌+◌, ◌<◌, ◌≤◌, Bool, true, false, cond, List, Option, Some, None, set, nat_lt, refl, arith, length, ap, sym, ◌∙◌, subst, get_or-set_same, get_or-set_other}
use Rattle.std.proofs.lemmas.Bool.Decides.{nat_tests}
use Rattle.ms_gap_tree.specs.refinement.Arena.{at, tree_of, blank}
use Rattle.ms_gap_tree.specs.refinement.Tree.{Tree, Empty, Fork, half, insert, upper, lower, has, IsWithinArena, IsApart}
use Rattle.ms_gap_tree.specs.declared.node.Item.{Item}
use Rattle.ms_gap_tree.specs.declared.node.Link.{Link}
use Rattle.ms_gap_tree.specs.declared.node.Node.{Node}
use Rattle.ms_gap_tree.proofs.Levels.{tree_none, other_slot, test_differ}
use Rattle.ms_gap_tree.proofs.Frame.{has_insert, rebuilt_left, rebuilt_right}

pub cond_true : {A : Type 0} (b : Bool) (x y : A) → b ≡ true → cond b x y ≡ x
cond_true true x y h = refl
cond_true false x y h = absurd (cc)

pub cond_false : {A : Type 0} (b : Bool) (x y : A) → b ≡ false → cond b x y ≡ y
cond_false true x y h = absurd (cc)
cond_false false x y h = refl

pub lt_true : (a b : ℕ) → a < b → nat_lt a b ≡ true
lt_true a b h = grind (arith, nat_tests)

pub lt_false : (a b : ℕ) → b ≤ a → nat_lt a b ≡ false
lt_false a b h = grind (arith, nat_tests)

pub contrary : (a b : Bool) → (a ≡ true → b ≡ false) → b ≡ true → a ≡ false
contrary true b f h = let q : b ≡ false = f refl in absurd (cc)
contrary false b f h = refl

-- the tree from a link to a node on
pub linked : (nodes : List Node) (level d : ℕ) (root : Link) (link : Option Link) → level ≡ suc d → link ≡ Some root → tree_of nodes level link ≡ Fork root.at root.item (tree_of nodes d (at nodes root.at).left) (tree_of nodes d (at nodes root.at).right)
linked nodes level d root link e h = rw (e, h) refl

-- what is known of the parts of a tree that has no such slot
pub record Parts (nodes : List Node) (d i slot : ℕ) : Type 0 where
  pub here : i < length nodes
  pub within_left : IsWithinArena (length nodes) (tree_of nodes d (at nodes i).left)
  pub within_right : IsWithinArena (length nodes) (tree_of nodes d (at nodes i).right)
  pub apart_left : IsApart (tree_of nodes d (at nodes i).left)
  pub apart_right : IsApart (tree_of nodes d (at nodes i).right)
  pub root_left : has i (tree_of nodes d (at nodes i).left) ≡ false
  pub root_right : has i (tree_of nodes d (at nodes i).right) ≡ false
  pub sides : (j : ℕ) → has j (tree_of nodes d (at nodes i).left) ≡ true → has j (tree_of nodes d (at nodes i).right) ≡ false
  pub other : slot ≢ i
  pub slot_left : has slot (tree_of nodes d (at nodes i).left) ≡ false
  pub slot_right : has slot (tree_of nodes d (at nodes i).right) ≡ false

pub parts : (nodes : List Node) (level d slot : ℕ) (root : Link) (link : Option Link) → level ≡ suc d → link ≡ Some root → IsWithinArena (length nodes) (tree_of nodes level link) → IsApart (tree_of nodes level link) → has slot (tree_of nodes level link) ≡ false → Parts nodes d root.at slot
parts nodes level d slot root link e h within apart fresh =
    let i = root.at in
    let t = linked nodes level d root link e h in
    let w = subst (IsWithinArena (length nodes)) t within in
    let a = subst IsApart t apart in
    let o = other_slot slot i root.item (tree_of nodes d (at nodes i).left) (tree_of nodes d (at nodes i).right) (sym (ap (has slot) t) ∙ fresh) in
    record {
      here = w.0;
      within_left = w.1;
      within_right = w.2;
      apart_left = a.3;
      apart_right = a.4;
      root_left = a.0;
      root_right = a.1;
      sides = a.2;
      other = test_differ slot i o.0;
      slot_left = o.1;
      slot_right = o.2;
    }

insert_left : (d low slot : ℕ) (new : Item) (i : ℕ) (item : Item) (left right : Tree) → (lower item new).key < low + half d → insert (suc d) low slot new (Fork i item left right) ≡ Fork i (upper item new) (insert d low slot (lower item new) left) right
insert_left d low slot new i item left right h = cond_true _ _ _ (lt_true _ _ h)

insert_right : (d low slot : ℕ) (new : Item) (i : ℕ) (item : Item) (left right : Tree) → low + half d ≤ (lower item new).key → insert (suc d) low slot new (Fork i item left right) ≡ Fork i (upper item new) left (insert d (low + half d) slot (lower item new) right)
insert_right d low slot new i item left right h = cond_false _ _ _ (lt_false _ _ h)

-- the item goes into the lower half
pub inserted_left : (old new : List Node) (level d low slot : ℕ) (root : Link) (item top rest : Item) (link left : Option Link) → level ≡ suc d → link ≡ Some root → Parts old d root.at slot → root.at < length new → top ≡ upper root.item item → rest ≡ lower root.item item → rest.key < low + half d
    → tree_of new d left ≡ insert d low slot rest (tree_of old d (at old root.at).left) → ((j : ℕ) → has j (tree_of old d (at old root.at).left) ≡ false → j ≢ slot → at new j ≡ at old j)
    → tree_of (set new root.at (record { left = left; right = (at old root.at).right })) level (Some (record { at = root.at; item = top })) ≡ insert level low slot item (tree_of old level link)
inserted_left old new level d low slot root item top rest link left e h p l t r k tree others =
    let i = root.at in
    let y = root.item in
    let low' = tree_of old d (at old i).left in
    let up = tree_of old d (at old i).right in
    let v : Node = record { left = left; right = (at old i).right } in
    let keeps = λ (j : ℕ) (q : has j up ≡ true). others j (contrary (has j low') (has j up) (p.sides j) q) (λ s. let z = sym q ∙ (ap (λ (x : ℕ). has x up) s ∙ p.slot_right) in absurd (cc)) in
    let built = rebuilt_left old new d i top left (at old i).right (insert d low slot rest low') l tree (has_insert d low slot rest low' i p.root_left (λ s. p.other (sym s))) p.root_right keeps in
    let by_top = ap (λ (x : Item). Fork i x (insert d low slot rest low') up) t in
    let by_rest = ap (λ (x : Item). Fork i (upper y item) (insert d low slot x low') up) r in
    ap (λ (n : ℕ). tree_of (set new i v) n (Some (record { at = i; item = top }))) e
    ∙ (built ∙ (by_top ∙ (by_rest ∙ (sym (insert_left d low slot item i y low' up (subst (λ (x : Item). x.key < low + half d) r k))
    ∙ (sym (ap (λ (n : ℕ). insert n low slot item (Fork i y low' up)) e) ∙ sym (ap (insert level low slot item) (linked old level d root link e h)))))))

-- the item goes into the upper half
pub inserted_right : (old new : List Node) (level d low slot : ℕ) (root : Link) (item top rest : Item) (link right : Option Link) → level ≡ suc d → link ≡ Some root → Parts old d root.at slot → root.at < length new → top ≡ upper root.item item → rest ≡ lower root.item item → low + half d ≤ rest.key
    → tree_of new d right ≡ insert d (low + half d) slot rest (tree_of old d (at old root.at).right) → ((j : ℕ) → has j (tree_of old d (at old root.at).right) ≡ false → j ≢ slot → at new j ≡ at old j)
    → tree_of (set new root.at (record { left = (at old root.at).left; right = right })) level (Some (record { at = root.at; item = top })) ≡ insert level low slot item (tree_of old level link)
inserted_right old new level d low slot root item top rest link right e h p l t r k tree others =
    let i = root.at in
    let y = root.item in
    let low' = tree_of old d (at old i).left in
    let up = tree_of old d (at old i).right in
    let v : Node = record { left = (at old i).left; right = right } in
    let keeps = λ (j : ℕ) (q : has j low' ≡ true). others j (p.sides j q) (λ s. let z = sym q ∙ (ap (λ (x : ℕ). has x low') s ∙ p.slot_left) in absurd (cc)) in
    let built = rebuilt_right old new d i top (at old i).left right (insert d (low + half d) slot rest up) l tree (has_insert d (low + half d) slot rest up i p.root_right (λ s. p.other (sym s))) p.root_left keeps in
    let by_top = ap (λ (x : Item). Fork i x low' (insert d (low + half d) slot rest up)) t in
    let by_rest = ap (λ (x : Item). Fork i (upper y item) low' (insert d (low + half d) slot x up)) r in
    ap (λ (n : ℕ). tree_of (set new i v) n (Some (record { at = i; item = top }))) e
    ∙ (built ∙ (by_top ∙ (by_rest ∙ (sym (insert_right d low slot item i y low' up (subst (λ (x : Item). low + half d ≤ x.key) r k))
    ∙ (sym (ap (λ (n : ℕ). insert n low slot item (Fork i y low' up)) e) ∙ sym (ap (insert level low slot item) (linked old level d root link e h)))))))

-- the first item
pub inserted_first : (nodes : List Node) (level d low slot : ℕ) (item : Item) (link : Option Link) → level ≡ suc d → link ≡ None → slot < length nodes → tree_of (set nodes slot (record { left = None; right = None })) level (Some (record { at = slot; item = item })) ≡ insert level low slot item (tree_of nodes level link)
inserted_first nodes level d low slot item link e h l =
    let v : Node = record { left = None; right = None } in
    let s : at (set nodes slot v) slot ≡ v = get_or-set_same nodes slot v blank l in
    rw (e, h) (ap (λ (n : Node). Fork slot item (tree_of (set nodes slot v) d n.left) (tree_of (set nodes slot v) d n.right)) s ∙ (ap (λ (t : Tree). Fork slot item t (tree_of (set nodes slot v) d None)) (tree_none (set nodes slot v) d) ∙ ap (λ (t : Tree). Fork slot item Empty t) (tree_none (set nodes slot v) d)))

-- other slots of the arena
pub others_kept : (old new : List Node) (level d slot : ℕ) (root : Link) (link : Option Link) (part : Tree) (v : Node) → level ≡ suc d → link ≡ Some root → ((j : ℕ) → has j (tree_of old level link) ≡ false → has j part ≡ false) → ((j : ℕ) → has j part ≡ false → j ≢ slot → at new j ≡ at old j)
    → (j : ℕ) → has j (tree_of old level link) ≡ false → j ≢ slot → at (set new root.at v) j ≡ at old j
others_kept old new level d slot root link part v e h f others j q n =
    let o = other_slot j root.at root.item (tree_of old d (at old root.at).left) (tree_of old d (at old root.at).right) (sym (ap (has j) (linked old level d root link e h)) ∙ q) in
    get_or-set_other new root.at j v blank (test_differ j root.at o.0) ∙ others j (f j q) n

pub others_left : (old new : List Node) (level d slot : ℕ) (root : Link) (link : Option Link) (v : Node) → level ≡ suc d → link ≡ Some root → ((j : ℕ) → has j (tree_of old d (at old root.at).left) ≡ false → j ≢ slot → at new j ≡ at old j)
    → (j : ℕ) → has j (tree_of old level link) ≡ false → j ≢ slot → at (set new root.at v) j ≡ at old j
others_left old new level d slot root link v e h others =
    others_kept old new level d slot root link (tree_of old d (at old root.at).left) v e h (λ j q. (other_slot j root.at root.item (tree_of old d (at old root.at).left) (tree_of old d (at old root.at).right) (sym (ap (has j) (linked old level d root link e h)) ∙ q)).1) others

pub others_right : (old new : List Node) (level d slot : ℕ) (root : Link) (link : Option Link) (v : Node) → level ≡ suc d → link ≡ Some root → ((j : ℕ) → has j (tree_of old d (at old root.at).right) ≡ false → j ≢ slot → at new j ≡ at old j)
    → (j : ℕ) → has j (tree_of old level link) ≡ false → j ≢ slot → at (set new root.at v) j ≡ at old j
others_right old new level d slot root link v e h others =
    others_kept old new level d slot root link (tree_of old d (at old root.at).right) v e h (λ j q. (other_slot j root.at root.item (tree_of old d (at old root.at).left) (tree_of old d (at old root.at).right) (sym (ap (has j) (linked old level d root link e h)) ∙ q)).2) others
