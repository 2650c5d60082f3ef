-- Structs hold only structs that are less deep.
use Rattle.std.proofs.Common.{◌≡◌, ℕ, suc, ◌+◌, ◌-◌, ◌<◌, ◌≤◌, max, List, [], ◌∷◌, Option, Some, None, refl, ap, arith}
use Rattle.std.specs.Prelude.{IsSome}
use Rattle.std.specs.List.{All}
use Rattle.std.proofs.lemmas.List.Elements.{All-cons, All-nil, All-head, All-tail, All-weaker}
use Rattle.c_types.specs.Layout.{HasSize, IsLaidOut, Layout, Table, deepest_from, depth, depth_in, layout_at}
use Rattle.c_types.specs.Types.{Ty, void, integer, struct, pointer, array, function}

-- how many structs lie below a struct of a number
abbrev pub rank_of : Table → ℕ → ℕ
rank_of table n = depth_in (layout_at table n) - 1

-- a struct in it, but for those behind pointers, has a lesser rank
abbrev pub IsBelow : (ℕ → ℕ) → ℕ → Ty → Type 0
IsBelow rank d (struct n) = rank n < d
IsBelow rank d (array t n) = IsBelow rank d t
IsBelow rank d _ = Unit {0}

pub below_more : (rank : ℕ → ℕ) (d e : ℕ) (t : Ty) → d ≤ e → IsBelow rank d t → IsBelow rank e t
below_more rank d e void less below = below
below_more rank d e (integer t) less below = below
below_more rank d e (struct n) less below = omega (arith, below)
below_more rank d e (pointer t) less below = below
below_more rank d e (array t n) less below = below_more rank d e t less below
below_more rank d e (function r ps) less below = below

pub is_some : (o : Option Layout) → IsSome o → (l : Layout) × (o ≡ Some l)
is_some None some = absurd (cc)
is_some (Some l) some = (l, refl)

pub deepest_least : (table : Table) (least : ℕ) (ts : List Ty) → least ≤ deepest_from table least ts
deepest_least table least [] = omega arith
deepest_least table least (t ∷ ts) = let h = deepest_least table (max least (depth table t)) ts in omega (arith, h)

-- each of them is at most as deep as the deepest
pub all_deep : (table : Table) (least : ℕ) (ts : List Ty) → All (λ t. depth table t ≤ deepest_from table least ts) ts
all_deep table least [] = All-nil (λ t. depth table t ≤ least)
all_deep table least (t ∷ ts) =
    let all : ℕ = deepest_from table least (t ∷ ts) in
    let h = deepest_least table (max least (depth table t)) ts in
    All-cons (λ u. depth table u ≤ all) t ts (omega (arith, h)) (all_deep table (max least (depth table t)) ts)

module _ (table : Table) (laid : IsLaidOut table) where
  layout_deep : (n : ℕ) (l : Layout) → layout_at table n ≡ Some l → l.depth ≡ deepest_from table 0 l.members + 1
  layout_deep n l is = ap (λ (x : Layout). x.depth) (laid.is n l is)

  -- a struct is deeper than each of its members
  pub members_below : (n : ℕ) (l : Layout) → layout_at table n ≡ Some l → All (λ t. depth table t < l.depth) l.members
  members_below n l is =
      let deep = layout_deep n l is in
      All-weaker (λ t. depth table t ≤ deepest_from table 0 l.members) (λ t. depth table t < l.depth) (λ t h. omega (arith, deep, h)) l.members (all_deep table 0 l.members)

  pub is_below : (d : ℕ) (t : Ty) → HasSize table t → depth table t ≤ d → IsBelow (rank_of table) d t
  is_below d void has less = absurd has
  is_below d (integer t) has less = tt
  is_below d (struct n) has less =
      let l = is_some (layout_at table n) has in
      let deep = layout_deep n l.0 l.1 in
      let same : depth_in (layout_at table n) ≡ l.0.depth = ap (λ o. depth_in o) l.1 in omega (arith, same, deep, less)
  is_below d (pointer t) has less = tt
  is_below d (array t n) has less = is_below d t has.1 less
  is_below d (function r ps) has less = absurd has

  all_below : (least d : ℕ) (ts : List Ty) → All (HasSize table) ts → deepest_from table least ts ≤ d → All (IsBelow (rank_of table) d) ts
  all_below least d [] has less = All-nil (IsBelow (rank_of table) d)
  all_below least d (t ∷ ts) has less =
      let h = deepest_least table (max least (depth table t)) ts in
      All-cons (IsBelow (rank_of table) d) t ts (is_below d t (All-head (HasSize table) t ts has) (omega (arith, h, less))) (all_below (max least (depth table t)) d ts (All-tail (HasSize table) t ts has) less)

  pub ranked_below : (n : ℕ) (l : Layout) → layout_at table n ≡ Some l → All (IsBelow (rank_of table) (rank_of table n)) l.members
  ranked_below n l is =
      let deep = layout_deep n l is in
      let same : depth_in (layout_at table n) ≡ l.depth = ap (λ o. depth_in o) is in
      all_below 0 (rank_of table n) l.members (laid.sized n l is) (omega (arith, same, deep))

  pub ranked_most : (n : ℕ) (l : Layout) → layout_at table n ≡ Some l → suc (rank_of table n) ≡ l.depth
  ranked_most n l is =
      let deep = layout_deep n l is in
      let same : depth_in (layout_at table n) ≡ l.depth = ap (λ o. depth_in o) is in omega (arith, same, deep)
