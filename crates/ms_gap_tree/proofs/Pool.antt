-- The arena and its free slots after each operation.
use Rattle.std.proofs.Common.{◌≡◌, ◌≢◌, ℕ, ◌+◌, ◌<◌, ◌≤◌, Bool, true, false, cond, List, [], ◌∷◌, ◌++◌, length, Option, Some, None, get_or, nat_eq, IsSome, refl, arith, ap, sym, ◌∙◌, subst, ◌⊎◌, inl, inr}
use Rattle.std.proofs.Math.Seq.{get_or-append_seam}
use Rattle.std.proofs.lemmas.Bool.{cases_lt}
use Rattle.std.proofs.lemmas.List.{get_or_append_left, length-append}
use Rattle.std.proofs.lemmas.List.Elements.{All-nil, All-push}
use Rattle.std.proofs.lemmas.List.Quantifiers.{all_pairs_push}
use Rattle.ms_gap_tree.specs.refinement.Arena.{blank, tree_of}
use Rattle.ms_gap_tree.specs.refinement.Rooms.{Arena, IsHeld, IsPool, room_at, size_of, tree}
use Rattle.ms_gap_tree.specs.refinement.Tree.{Tree, Empty, Fork, half, has, insert, look, remove, size, IsApart, IsInOrder, IsWithinArena}
use Rattle.ms_gap_tree.specs.declared.node.Item.{Item}
use Rattle.ms_gap_tree.specs.declared.node.Link.{Link}
use Rattle.ms_gap_tree.specs.declared.node.Node.{Node}
use Rattle.ms_gap_tree.proofs.Frame.{framed}
use Rattle.ms_gap_tree.proofs.GainLaws.{insert_gains, remove_loses}
use Rattle.ms_gap_tree.proofs.Gains.{absent_gains, absent_loses, apart_gains, apart_loses, gained, size_gains, within_gains, within_loses, Gains}
use Rattle.ms_gap_tree.proofs.Laws.{look_insert}
use Rattle.ms_gap_tree.proofs.Levels.{or_joined, differ_test}
use Rattle.ms_gap_tree.proofs.RemoveLaws.{look_remove, in_order_remove}
use Rattle.ms_gap_tree.proofs.OrderLaws.{in_order_insert}

-- ---- slots

-- a slot from the bound on is none
pub beyond : (n j : ℕ) (t : Tree) → IsWithinArena n t → n ≤ j → has j t ≡ false
beyond n j Empty w h = refl
beyond n j (Fork i item left right) w h =
    let b = w.0 in or_joined _ _ (differ_test j i (omega arith)) (or_joined _ _ (beyond n j left w.1 h) (beyond n j right w.2 h))

pub has_within : (n j : ℕ) (t : Tree) → IsWithinArena n t → has j t ≡ true → j < n
has_within n j t w h = elim (cases_lt j n) [ inl l ↦ l | inr b ↦ let q = sym h ∙ beyond n j t w b in absurd (cc) ]

pub within_more : (n m : ℕ) (t : Tree) → n ≤ m → IsWithinArena n t → IsWithinArena m t
within_more n m Empty h w = tt
within_more n m (Fork i item left right) h w = let b = w.0 in (omega arith, within_more n m left h w.1, within_more n m right h w.2)

-- ---- a slot that is taken

-- what holds of a slot that is not had, and of the pool without it
pub record IsNext (n : ℕ) (is_had : ℕ → Bool) (items : ℕ) (free : List ℕ) (slot : ℕ) : Type 0 where
  pub fresh : is_had slot ≡ false
  pub there : slot < n
  pub pool : (now : ℕ → Bool) (more : ℕ) → more ≡ 1 + items → ((j : ℕ) → j ≢ slot → is_had j ≡ false → now j ≡ false) → IsPool n now more free

-- the last of the free ones
pub next_old : (n : ℕ) (is_had : ℕ → Bool) (items : ℕ) (free rest : List ℕ) (slot : ℕ) → IsPool n is_had items free → free ≡ rest ++ slot ∷ [] → IsNext n is_had items rest slot
next_old n is_had items free rest slot was e =
    let pool = subst (IsPool n is_had items) e was in
    let len : length (rest ++ slot ∷ []) ≡ length rest + 1 = length-append rest (slot ∷ []) in
    let last = λ (d : ℕ). get_or-append_seam rest slot [] d in
    let here = pool.there (length rest) 0 (omega arith) in
    let at_slot = subst (λ (j : ℕ). (j < n) × (is_had j ≡ false)) (last 0) here in
    record {
      fresh = at_slot.1;
      there = at_slot.0;
      pool = λ now more s others. record {
        there = λ k d h.
            let one = pool.there k d (omega arith) in
            let two = pool.once k (length rest) d h (omega arith) in
            let e = get_or_append_left rest (slot ∷ []) d k h in
            let p = subst (λ (j : ℕ). (j < n) × (is_had j ≡ false)) e one in
            (p.0, others (get_or rest k d) (λ q. two (e ∙ (q ∙ sym (last d)))) p.1);
        once = λ i j d less h.
            let x = get_or_append_left rest (slot ∷ []) d i (omega arith) in
            let y = get_or_append_left rest (slot ∷ []) d j h in
            λ q. pool.once i j d less (omega arith) (x ∙ (q ∙ sym y));
        count = let c = pool.count in omega arith;
      };
    }

-- a new one behind all
pub next_new : (n : ℕ) (is_had : ℕ → Bool) (items : ℕ) (free : List ℕ) → IsPool n is_had items free → free ≡ [] → is_had n ≡ false → IsNext (n + 1) is_had items [] n
next_new n is_had items free was e fresh =
    let c = (subst (IsPool n is_had items) e was).count in
    record {
      fresh = fresh;
      there = omega arith;
      pool = λ now more s others. record { there = All-nil (λ j. (j < n + 1) × (now j ≡ false)); once = λ i j d l h. absurd (omega arith); count = omega arith };
    }

-- a slot that is given back
pub given_back : (n : ℕ) (is_had now : ℕ → Bool) (items less : ℕ) (free : List ℕ) (slot : ℕ) → IsPool n is_had items free → slot < n → is_had slot ≡ true → now slot ≡ false → ((j : ℕ) → is_had j ≡ false → now j ≡ false) → 1 + less ≡ items → IsPool n now less (free ++ slot ∷ [])
given_back n is_had now items less free slot pool there had gone others s =
    let l : length (free ++ slot ∷ []) ≡ length free + 1 = length-append free (slot ∷ []) in
    record {
      there = All-push (λ j. (j < n) × (now j ≡ false)) free slot (λ k d h. let p = pool.there k d h in (p.0, others (get_or free k d) p.1)) (there, gone);
      once = all_pairs_push (λ i j. i ≢ j) free slot pool.once (λ k d h q. let p = pool.there k d h in let x = sym had ∙ (sym (ap is_had q) ∙ p.1) in absurd (cc));
      count = let c = pool.count in omega arith;
    }

-- what holds of a slot that no item has, and of the arena without it
pub record IsSpare (a : Arena) (nodes : List Node) (free : List ℕ) (slot : ℕ) : Type 0 where
  pub same : tree_of nodes a.levels a.root ≡ tree a
  pub within : IsWithinArena (length nodes) (tree a)
  pub few : length nodes ≤ a.most
  pub next : IsNext (length nodes) (λ j. has j (tree a)) (size (tree a)) free slot

spare_new : (a : Arena) (free : List ℕ) → IsHeld a free → free ≡ [] → size (tree a) < a.most → IsSpare a (a.nodes ++ blank ∷ []) [] (length a.nodes)
spare_new a free held e room =
    let c = (subst (IsPool (length a.nodes) (λ j. has j (tree a)) (size (tree a))) e held.pool).count in
    let n : length (a.nodes ++ blank ∷ []) ≡ length a.nodes + 1 = length-append a.nodes (blank ∷ []) in
    record {
      same = framed a.levels a.nodes (a.nodes ++ blank ∷ []) a.root (λ j h. get_or_append_left a.nodes (blank ∷ []) blank j (has_within (length a.nodes) j (tree a) held.within h));
      within = within_more (length a.nodes) (length (a.nodes ++ blank ∷ [])) (tree a) (omega arith) held.within;
      few = omega arith;
      next = subst (λ (m : ℕ). IsNext m (λ j. has j (tree a)) (size (tree a)) [] (length a.nodes)) (sym n) (next_new (length a.nodes) (λ j. has j (tree a)) (size (tree a)) free held.pool e (beyond (length a.nodes) (length a.nodes) (tree a) held.within (omega arith)));
    }

pub spare_is : (a : Arena) (free : List ℕ) (nodes : List Node) (rest : List ℕ) (slot : ℕ) → IsHeld a free → size (tree a) < a.most
    → ((nodes ≡ a.nodes) × (free ≡ rest ++ slot ∷ [])) ⊎ ((nodes ≡ a.nodes ++ blank ∷ []) × (free ≡ []) × (rest ≡ []) × (slot ≡ length a.nodes)) → IsSpare a nodes rest slot
spare_is a free nodes rest slot held room o =
    elim o [
      | inl p ↦ subst (λ (n : List Node). IsSpare a n rest slot) (sym p.0) (record { same = refl; within = held.within; few = held.few; next = next_old (length a.nodes) (λ j. has j (tree a)) (size (tree a)) free rest slot held.pool p.1 })
      | inr p ↦ subst (λ (n : List Node). IsSpare a n rest slot) (sym p.0) (subst (λ (r : List ℕ). IsSpare a (a.nodes ++ blank ∷ []) r slot) (sym p.2) (subst (IsSpare a (a.nodes ++ blank ∷ []) []) (sym p.3) (spare_new a free held p.1 room)))
    ]

-- ---- an item more

pub put_is : (a : Arena) (nodes new : List Node) (result : Option Link) (slot : ℕ) (item : Item) (free : List ℕ) → IsSpare a nodes free slot → tree_of new a.levels result ≡ insert a.levels 0 slot item (tree_of nodes a.levels a.root) → tree_of new a.levels result ≡ insert a.levels 0 slot item (tree a)
put_is a nodes new result slot item free spare e = e ∙ ap (insert a.levels 0 slot item) spare.same

pub held_put : (a : Arena) (old free : List ℕ) (nodes new : List Node) (result : Option Link) (slot : ℕ) (item : Item) → IsHeld a old → IsSpare a nodes free slot → item.key < half a.levels → look a.levels 0 item.key (tree a) ≡ None
    → tree_of new a.levels result ≡ insert a.levels 0 slot item (tree_of nodes a.levels a.root) → length new ≡ length nodes → IsHeld (record { nodes = new; root = result; levels = a.levels; most = a.most }) free
held_put a old free nodes new result slot item held spare key absent e l =
    let t = tree a in
    let i = insert a.levels 0 slot item t in
    let q = put_is a nodes new result slot item free spare e in
    let gains = insert_gains a.levels 0 slot t held.in_order item (omega arith) (omega arith) absent in
    let within = within_gains slot t i gains (length nodes) spare.next.there spare.within in
    let apart = apart_gains slot t i gains spare.next.fresh held.apart in
    let in_order = in_order_insert a.levels 0 slot t held.in_order item (omega arith) (omega arith) absent in
    let pool = spare.next.pool (λ j. has j i) (size i) (size_gains slot t i gains) (λ j n h. absent_gains slot t i gains j h n) in
    let few = spare.few in
    record {
      within = subst (λ (n : ℕ). IsWithinArena n (tree_of new a.levels result)) (sym l) (subst (IsWithinArena (length nodes)) (sym q) within);
      apart = subst IsApart (sym q) apart;
      in_order = subst (IsInOrder a.levels 0) (sym q) in_order;
      pool = subst (λ (n : ℕ). IsPool n (λ j. has j (tree_of new a.levels result)) (size (tree_of new a.levels result)) free) (sym l) (subst (λ (x : Tree). IsPool (length nodes) (λ j. has j x) (size x) free) (sym q) pool);
      few = omega arith;
    }

pub room_put : (a : Arena) (old free : List ℕ) (nodes new : List Node) (result : Option Link) (slot : ℕ) (item : Item) → IsHeld a old → IsSpare a nodes free slot → item.key < half a.levels → room_at a item.key ≡ None
    → tree_of new a.levels result ≡ insert a.levels 0 slot item (tree_of nodes a.levels a.root) → (key : ℕ) → room_at (record { nodes = new; root = result; levels = a.levels; most = a.most }) key ≡ cond (nat_eq key item.key) (Some item.room) (room_at a key)
unfolding room_at
room_put a old free nodes new result slot item held spare below absent e key =
    ap (look a.levels 0 key) (put_is a nodes new result slot item free spare e) ∙ look_insert a.levels 0 slot (tree a) key held.in_order item (omega arith) (omega arith) absent

pub size_put : (a : Arena) (old free : List ℕ) (nodes new : List Node) (result : Option Link) (slot : ℕ) (item : Item) → IsHeld a old → IsSpare a nodes free slot → item.key < half a.levels → room_at a item.key ≡ None
    → tree_of new a.levels result ≡ insert a.levels 0 slot item (tree_of nodes a.levels a.root) → size_of (record { nodes = new; root = result; levels = a.levels; most = a.most }) ≡ 1 + size_of a
unfolding room_at size_of
size_put a old free nodes new result slot item held spare below absent e =
    ap size (put_is a nodes new result slot item free spare e) ∙ size_gains slot (tree a) (insert a.levels 0 slot item (tree a)) (insert_gains a.levels 0 slot (tree a) held.in_order item (omega arith) (omega arith) absent)

-- ---- an item less

pub held_taken : (a : Arena) (free : List ℕ) (new : List Node) (rest : Option Link) (key slot : ℕ) → IsHeld a free → Gains slot (remove a.levels 0 key (tree a)) (tree a)
    → tree_of new a.levels rest ≡ remove a.levels 0 key (tree a) → length new ≡ length a.nodes → IsHeld (record { nodes = new; root = rest; levels = a.levels; most = a.most }) (free ++ slot ∷ [])
held_taken a free new rest key slot held gains e l =
    let t = tree a in
    let r = remove a.levels 0 key t in
    let n = length a.nodes in
    let had = gained slot r t gains in
    let apart = apart_loses slot r t gains held.apart in
    let pool = given_back n (λ j. has j t) (λ j. has j r) (size t) (size r) free slot held.pool (has_within n slot t held.within had) had apart.0 (λ j h. absent_loses slot r t gains j h) (sym (size_gains slot r t gains)) in
    let few = held.few in
    record {
      within = subst (λ (m : ℕ). IsWithinArena m (tree_of new a.levels rest)) (sym l) (subst (IsWithinArena n) (sym e) (within_loses slot r t gains n held.within));
      apart = subst IsApart (sym e) apart.1;
      in_order = subst (IsInOrder a.levels 0) (sym e) (in_order_remove a.levels 0 key t held.in_order);
      pool = subst (λ (m : ℕ). IsPool m (λ j. has j (tree_of new a.levels rest)) (size (tree_of new a.levels rest)) (free ++ slot ∷ [])) (sym l) (subst (λ (x : Tree). IsPool n (λ j. has j x) (size x) (free ++ slot ∷ [])) (sym e) pool);
      few = omega arith;
    }

pub room_taken : (a : Arena) (free : List ℕ) (new : List Node) (rest : Option Link) (key : ℕ) → IsHeld a free → tree_of new a.levels rest ≡ remove a.levels 0 key (tree a)
    → (other : ℕ) → room_at (record { nodes = new; root = rest; levels = a.levels; most = a.most }) other ≡ cond (nat_eq other key) None (room_at a other)
unfolding room_at
room_taken a free new rest key held e other = ap (look a.levels 0 other) e ∙ look_remove a.levels 0 key (tree a) other held.in_order

pub size_taken : (a : Arena) (new : List Node) (rest : Option Link) (key room : ℕ) → room_at a key ≡ Some room → tree_of new a.levels rest ≡ remove a.levels 0 key (tree a) → 1 + size_of (record { nodes = new; root = rest; levels = a.levels; most = a.most }) ≡ size_of a
unfolding room_at size_of
size_taken a new rest key room there e =
    let loses = remove_loses a.levels 0 key (tree a) room there in
    ap (λ (t : Tree). 1 + size t) e ∙ sym (size_gains loses.0 (remove a.levels 0 key (tree a)) (tree a) loses.2)

-- the items that are left are fewer than there may be
pub few_taken : (a : Arena) (free : List ℕ) (new : List Node) (rest : Option Link) (key room : ℕ) → IsHeld a free → room_at a key ≡ Some room → tree_of new a.levels rest ≡ remove a.levels 0 key (tree a) → size_of (record { nodes = new; root = rest; levels = a.levels; most = a.most }) < a.most
unfolding size_of
few_taken a free new rest key room held there e =
    let s = size_taken a new rest key room there e in
    let c = held.pool.count in
    let f = held.few in
    omega arith

-- ---- what callers give

pub some_is : (o : Option ℕ) → IsSome o → (x : ℕ) × (o ≡ Some x)
some_is (Some x) h = (x, refl)
some_is None h = let q : false ≡ true = h in absurd (cc)

pub few_before : (a b : Arena) → a ≡ b → size_of b < b.most → size (tree a) < a.most
unfolding size_of
few_before a b e h = subst (λ (x : Arena). size_of x < x.most) (sym e) h

pub absent_before : (a b : Arena) (key : ℕ) → a ≡ b → room_at b key ≡ None → look a.levels 0 key (tree a) ≡ None
unfolding room_at
absent_before a b key e h = subst (λ (x : Arena). room_at x key ≡ None) (sym e) h

pub there_before : (a b : Arena) (key : ℕ) → a ≡ b → IsSome (room_at b key) → (room : ℕ) × (room_at a key ≡ Some room)
there_before a b key e h = some_is (room_at a key) (subst (λ (x : Arena). IsSome (room_at x key)) (sym e) h)

pub looked_at : (a : Arena) (key room : ℕ) → room_at a key ≡ Some room → look a.levels 0 key (tree a) ≡ Some room
unfolding room_at
looked_at a key room h = h
