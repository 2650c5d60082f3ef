-- A table that grows keeps the layouts that it has.
use Rattle.std.proofs.Common.{◌≡◌, ℕ, zero, suc, ◌+◌, ◌*◌, ◌⊎◌, List, [], ◌∷◌, ◌++◌, max, set, Option, Some, None, refl, sym, ◌∙◌, ap, inl, inr, arith}
use Rattle.std.specs.Prelude.{slice_get, IsSome}
use Rattle.std.specs.List.{All}
use Rattle.std.proofs.lemmas.List.Elements.{All-head, All-tail, All-weaker}
use Rattle.std.proofs.lemmas.List.{map-append, map-set}
use Rattle.c_types.specs.refinement.Views.{layout_of, layout_of_option, table_of}
use Rattle.c_types.specs.declared.definition.Definition.{Definition}
use Rattle.c_types.specs.Layout.{Table, IsSmall, Layout, layout_at, HasSize, IsLaidOut, size_in, align_in, size, align, round_up, offsets_from, end_from, greatest_from, depth_in, depth, deepest_from, laid_out}
use Rattle.c_types.specs.Types.{Ty, void, integer, struct, pointer, array, function}

-- what is defined stays
abbrev pub Extends : (old new : Table) → Type 0
Extends old new = (n : ℕ) (l : Layout) → layout_at old n ≡ Some l → layout_at new n ≡ Some l

same_struct : (o : Option Layout) (old new : Table) (n : ℕ) → Extends old new → layout_at old n ≡ o → IsSome o → layout_at new n ≡ layout_at old n
same_struct None old new n x e h = absurd (cc)
same_struct (Some l) old new n x e h = x n l e ∙ sym e

pub sized_still : (old new : Table) → Extends old new → (t : Ty) → HasSize old t → HasSize new t
sized_still old new x void h = h
sized_still old new x (integer t) h = h
sized_still old new x (struct n) h = rw (same_struct (layout_at old n) old new n x refl h) h
sized_still old new x (pointer t) h = h
sized_still old new x (array t n) h = (h.0, sized_still old new x t h.1)
sized_still old new x (function r ps) h = h

same_size : (old new : Table) → Extends old new → (t : Ty) → HasSize old t → size new t ≡ size old t
same_size old new x void h = refl
same_size old new x (integer t) h = refl
same_size old new x (struct n) h = ap (λ o. size_in o) (same_struct (layout_at old n) old new n x refl h)
same_size old new x (pointer t) h = refl
same_size old new x (array t n) h = ap (λ s. n * s) (same_size old new x t h.1)
same_size old new x (function r ps) h = refl

same_align : (old new : Table) → Extends old new → (t : Ty) → HasSize old t → align new t ≡ align old t
same_align old new x void h = refl
same_align old new x (integer t) h = refl
same_align old new x (struct n) h = ap (λ o. align_in o) (same_struct (layout_at old n) old new n x refl h)
same_align old new x (pointer t) h = refl
same_align old new x (array t n) h = same_align old new x t h.1
same_align old new x (function r ps) h = refl

same_depth : (old new : Table) → Extends old new → (t : Ty) → HasSize old t → depth new t ≡ depth old t
same_depth old new x void h = refl
same_depth old new x (integer t) h = refl
same_depth old new x (struct n) h = ap (λ o. depth_in o) (same_struct (layout_at old n) old new n x refl h)
same_depth old new x (pointer t) h = refl
same_depth old new x (array t n) h = same_depth old new x t h.1
same_depth old new x (function r ps) h = refl

-- ---- of members

same_offsets : (old new : Table) → Extends old new → (end : ℕ) (ts : List Ty) → All (HasSize old) ts → offsets_from new end ts ≡ offsets_from old end ts
same_offsets old new x end [] h = refl
same_offsets old new x end (t ∷ ts) h =
    let head = All-head (HasSize old) t ts h in
    rw (same_align old new x t head, same_size old new x t head) (ap (λ os. round_up (align old t) end ∷ os) (same_offsets old new x (round_up (align old t) end + size old t) ts (All-tail (HasSize old) t ts h)))

same_end : (old new : Table) → Extends old new → (end : ℕ) (ts : List Ty) → All (HasSize old) ts → end_from new end ts ≡ end_from old end ts
same_end old new x end [] h = refl
same_end old new x end (t ∷ ts) h =
    let head = All-head (HasSize old) t ts h in
    rw (same_align old new x t head, same_size old new x t head) (same_end old new x (round_up (align old t) end + size old t) ts (All-tail (HasSize old) t ts h))

same_greatest : (old new : Table) → Extends old new → (least : ℕ) (ts : List Ty) → All (HasSize old) ts → greatest_from new least ts ≡ greatest_from old least ts
same_greatest old new x least [] h = refl
same_greatest old new x least (t ∷ ts) h =
    rw (same_align old new x t (All-head (HasSize old) t ts h)) (same_greatest old new x (max least (align old t)) ts (All-tail (HasSize old) t ts h))

same_deepest : (old new : Table) → Extends old new → (least : ℕ) (ts : List Ty) → All (HasSize old) ts → deepest_from new least ts ≡ deepest_from old least ts
same_deepest old new x least [] h = refl
same_deepest old new x least (t ∷ ts) h =
    rw (same_depth old new x t (All-head (HasSize old) t ts h)) (same_deepest old new x (max least (depth old t)) ts (All-tail (HasSize old) t ts h))

same_layout : (old new : Table) → Extends old new → (ts : List Ty) → All (HasSize old) ts → laid_out new ts ≡ laid_out old ts
same_layout old new x ts h =
    rw (same_offsets old new x 0 ts h, same_end old new x 0 ts h, same_greatest old new x 1 ts h, same_deepest old new x 0 ts h) refl

-- ---- of tables

-- each struct that is defined now was defined, or is the new one
abbrev pub IsOldOr : (old new : Table) → List Ty → Type 0
IsOldOr old new ts = (n : ℕ) (l : Layout) → layout_at new n ≡ Some l → (layout_at old n ≡ Some l) ⊎ (l ≡ laid_out old ts)

sized_after : (old new : Table) (ts : List Ty) (n : ℕ) (l : Layout) → Extends old new → All (HasSize old) ts → IsLaidOut old →
    ((layout_at old n ≡ Some l) ⊎ (l ≡ laid_out old ts)) → All (HasSize old) l.members
sized_after old new ts n l x h laid (inl e) = laid.sized n l e
sized_after old new ts n l x h laid (inr e) = rw e h

laid_after : (old new : Table) (ts : List Ty) (n : ℕ) (l : Layout) → Extends old new → All (HasSize old) ts → IsLaidOut old →
    ((layout_at old n ≡ Some l) ⊎ (l ≡ laid_out old ts)) → l ≡ laid_out old l.members
laid_after old new ts n l x h laid (inl e) = laid.is n l e
laid_after old new ts n l x h laid (inr e) = e ∙ sym (ap (λ k. laid_out old k.members) e)

pub laid_out_still : (old new : Table) (ts : List Ty) → Extends old new → IsOldOr old new ts → All (HasSize old) ts → IsLaidOut old → IsLaidOut new
laid_out_still old new ts x from h laid =
    record {
      sized = λ n l e. All-weaker (HasSize old) (HasSize new) (sized_still old new x) l.members (sized_after old new ts n l x h laid (from n l e));
      is = λ n l e. laid_after old new ts n l x h laid (from n l e) ∙ sym (same_layout old new x l.members (sized_after old new ts n l x h laid (from n l e)));
    }

-- ---- a new tag, and a new definition

tag_extends : (table : Table) → Extends table (table ++ None ∷ [])
tag_extends [] n l e = absurd (cc)
tag_extends (o ∷ os) zero l e = e
tag_extends (o ∷ os) (suc n) l e = tag_extends os n l e

tag_is_old : (table : Table) (n : ℕ) (l : Layout) → layout_at (table ++ None ∷ []) n ≡ Some l → layout_at table n ≡ Some l
tag_is_old [] zero l e = absurd (cc)
tag_is_old [] (suc n) l e = absurd (cc)
tag_is_old (o ∷ os) zero l e = e
tag_is_old (o ∷ os) (suc n) l e = tag_is_old os n l e

pub tagged : (table : Table) → IsLaidOut table → IsLaidOut (table ++ None ∷ [])
tagged table laid =
    laid_out_still table (table ++ None ∷ []) [] (tag_extends table) (λ n l e. inl (tag_is_old table n l e)) (λ k d h. absurd (omega arith)) laid

definition_extends : (table : Table) (k : ℕ) (d : Layout) → slice_get table k ≡ Some None → Extends table (set table k (Some d))
definition_extends [] k d h n l e = e
definition_extends (o ∷ os) zero d h zero l e = absurd (cc)
definition_extends (o ∷ os) zero d h (suc n) l e = e
definition_extends (o ∷ os) (suc k) d h zero l e = e
definition_extends (o ∷ os) (suc k) d h (suc n) l e = definition_extends os k d h n l e

definition_is : (table : Table) (k : ℕ) (d : Layout) (n : ℕ) (l : Layout) → layout_at (set table k (Some d)) n ≡ Some l → (layout_at table n ≡ Some l) ⊎ (l ≡ d)
definition_is [] k d n l e = inl e
definition_is (o ∷ os) zero d zero l e = inr (cc)
definition_is (o ∷ os) zero d (suc n) l e = inl e
definition_is (o ∷ os) (suc k) d zero l e = inl e
definition_is (o ∷ os) (suc k) d (suc n) l e = definition_is os k d n l e

pub defined : (table : Table) (k : ℕ) (ts : List Ty) → slice_get table k ≡ Some None → All (HasSize table) ts → IsLaidOut table → IsLaidOut (set table k (Some (laid_out table ts)))
defined table k ts e h laid =
    laid_out_still table (set table k (Some (laid_out table ts))) ts (definition_extends table k (laid_out table ts) e) (definition_is table k (laid_out table ts)) h laid

-- ---- as the code keeps them

pub kept_tag : (ds items : List (Option Definition)) → items ≡ ds ++ None ∷ [] → IsLaidOut (table_of ds) → IsLaidOut (table_of items)
kept_tag ds items e laid = rw (e, map-append layout_of_option ds (None ∷ [])) (tagged (table_of ds) laid)

pub kept_is : (ds lent : List (Option Definition)) (s : Table) (k : ℕ) (ts : List Ty) (d : Definition) →
    lent ≡ ds → table_of ds ≡ s → layout_of d ≡ laid_out (table_of lent) ts → table_of (set ds k (Some d)) ≡ set s k (Some (laid_out s ts))
kept_is ds lent s k ts d same view e =
    map-set layout_of_option ds k (Some d) ∙ rw (e, same, view) refl

pub kept : (ds lent : List (Option Definition)) (s : Table) (k : ℕ) (ts : List Ty) (d : Definition) →
    lent ≡ ds → table_of ds ≡ s → layout_of d ≡ laid_out (table_of lent) ts → slice_get s k ≡ Some None → All (IsSmall s) ts → IsLaidOut (table_of ds) → IsLaidOut (table_of (set ds k (Some d)))
kept ds lent s k ts d same view e free parts laid =
    let old : IsLaidOut s = rw (← view) laid in
    let sized : All (HasSize s) ts = All-weaker (IsSmall s) (HasSize s) (λ t p. p.0) ts parts in
    rw (kept_is ds lent s k ts d same view e) (defined s k ts free sized old)
