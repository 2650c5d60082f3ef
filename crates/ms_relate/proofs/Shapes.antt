-- The shape of a type: it fits, has the type's size, and its parts are the shapes of the members.
use Rattle.std.proofs.Common.{◌≡◌, ◌≢◌, ℕ, zero, suc, ◌+◌, ◌*◌, ◌%◌, ◌<◌, ◌≤◌, max, true, List, [], ◌∷◌, Option, Some, None, inl, inr, refl, sym, ap, ◌∙◌, subst, arith}
use Rattle.std.specs.Prelude.{slice_get, slice_index, IsSome}
use Rattle.std.specs.List.{All}
use Rattle.std.proofs.lemmas.List.Elements.{All-head, All-tail, All-weaker}
use Rattle.std.proofs.lemmas.Bool.{or_cases}
use Rattle.c_types.specs.Layout.{HasSize, IsLaidOut, Layout, Table, align, align_in, depth, depth_in, end_from, greatest, greatest_from, laid_out, layout_at, offset, offsets_from, round_up, size as type_size, size_in}
use Rattle.c_types.specs.Types.{Ty, void, integer, struct, pointer, array, function}
use Rattle.c_types.proofs.Alignment.{IsAligned, greatest_least, greatest_most, has_aligned, members_aligned, round_up_least, round_up_whole}
use Rattle.c_types.proofs.Nesting.{IsBelow, below_more, is_below, is_some, rank_of, ranked_below, ranked_most}
use Rattle.c_meaning.specs.Shapes.{Shape, scalar, elements, record', member, members_with, nth_member, part_of, shape, shape_in, shape_with, size, struct_shape}
use Rattle.ms_relate.specs.refinement.Laid.{Fits, FitMembers, have_handles, has_handles}
use Rattle.ms_relate.proofs.Laid.{fit_end, handle_width, size-positive}

-- what is known of the shape of a type
pub record IsGood (table : Table) (t : Ty) (s : Shape) : Type 0 where
  pub sized : size s ≡ type_size table t
  pub fits : Fits s
  pub handles : has_handles s ≡ true → align table t ≡ 16

good_array : (table : Table) (t : Ty) (n : ℕ) (s : Shape) → 0 < n → IsGood table t s → IsGood table (array t n) (elements s n)
good_array table t n s some g = record { sized = ap (λ x. n * x) g.sized; fits = (some, g.fits); handles = g.handles }

nth_with : (table : Table) (of : ℕ → Shape) (ts : List Ty) (end m : ℕ) (t : Ty) → slice_get ts m ≡ Some t → nth_member (members_with of ts (offsets_from table end ts)) m ≡ Some (record { offset = slice_index (offsets_from table end ts) m; shape = shape_with of t })
nth_with table of [] end m t at = absurd (cc)
nth_with table of (u ∷ us) end zero t at = let same : u ≡ t = cc in rw same refl
nth_with table of (u ∷ us) end (suc m) t at = nth_with table of us (round_up (align table u) end + type_size table u) m t at

module _ (table : Table) (laid : IsLaidOut table) (some : (n : ℕ) (l : Layout) → layout_at table n ≡ Some l → l.members ≢ []) where
  abbrev rank : ℕ → ℕ
  rank n = rank_of table n

  -- ---- shapes over those of the structs that are less deep

  abbrev AreGood : (of : ℕ → Shape) (d : ℕ) → Type 0
  AreGood of d = (n : ℕ) → IsSome (layout_at table n) → rank n < d → IsGood table (struct n) (of n)

  good_type : (of : ℕ → Shape) (d : ℕ) → AreGood of d → (t : Ty) → IsBelow rank d t → HasSize table t → IsGood table t (shape_with of t)
  good_type of d good void below has = absurd has
  good_type of d good (integer t) below has =
      record { sized = refl; fits = (has_aligned table laid some (integer t) has).filled; handles = λ e. absurd (cc) }
  good_type of d good (struct n) below has = good n has below
  good_type of d good (pointer t) below has =
      record { sized = refl; fits = (has_aligned table laid some (pointer t) has).filled; handles = λ e. handle_width (pointer t) e }
  good_type of d good (array t n) below has =
      good_array table t n (shape_with of t) has.0 (good_type of d good t below has.1)
  good_type of d good (function r ps) below has = absurd has

  fit_members : (of : ℕ → Shape) (d : ℕ) → AreGood of d → (ts : List Ty) (end n : ℕ) → All (IsBelow rank d) ts → All (HasSize table) ts → end_from table end ts ≤ n → FitMembers (members_with of ts (offsets_from table end ts)) end n
  fit_members of d good [] end n below has ends = ends
  fit_members of d good (t ∷ ts) end n below has ends =
      let size = All-head (HasSize table) t ts has in
      let g = good_type of d good t (All-head (IsBelow rank d) t ts below) size in
      let here : ℕ = round_up (align table t) end in
      let rest = fit_members of d good ts (here + type_size table t) n (All-tail (IsBelow rank d) t ts below) (All-tail (HasSize table) t ts has) ends in
      (round_up_least (align table t) end (has_aligned table laid some t size).some, λ e. ap (λ a. round_up a end % 16) (g.handles e) ∙ round_up_whole 16 end, g.fits, subst (λ x. FitMembers (members_with of ts (offsets_from table (here + type_size table t) ts)) (here + x) n) (sym g.sized) rest)

  member_handles : (of : ℕ → Shape) (d : ℕ) → AreGood of d → (ts : List Ty) (end least : ℕ) → All (IsBelow rank d) ts → All (HasSize table) ts → All (IsAligned table) ts → least ≤ 16 → have_handles (members_with of ts (offsets_from table end ts)) ≡ true → greatest_from table least ts ≡ 16
  member_handles of d good [] end least below has all small e = absurd (cc)
  member_handles of d good (t ∷ ts) end least below has all small e =
      let g = good_type of d good t (All-head (IsBelow rank d) t ts below) (All-head (HasSize table) t ts has) in
      let next : ℕ = max least (align table t) in
      let near : next ≤ 16 = omega (arith, small, (All-head (IsAligned table) t ts all).most) in
      let rest = All-tail (IsAligned table) t ts all in
      elim (or_cases (has_handles (shape_with of t)) (have_handles (members_with of ts (offsets_from table (round_up (align table t) end + type_size table t) ts))) e) [
        | inl here ↦ let is = g.handles here in omega (arith, is, greatest_least table next ts, greatest_most table next ts near rest)
        | inr behind ↦ member_handles of d good ts (round_up (align table t) end + type_size table t) next (All-tail (IsBelow rank d) t ts below) (All-tail (HasSize table) t ts has) rest near behind
      ]

  good_layout : (of : ℕ → Shape) (d : ℕ) → AreGood of d → (n : ℕ) (ts : List Ty) → ts ≢ [] → All (IsBelow rank d) ts → All (HasSize table) ts → All (IsAligned table) ts → layout_at table n ≡ Some (laid_out table ts) → IsGood table (struct n) (shape_in of (Some (laid_out table ts)))
  good_layout of d good n [] none below has all is = absurd (none refl)
  good_layout of d good n (t ∷ ts) none below has all is =
      let members : List Ty = t ∷ ts in
      let g = good_type of d good t (All-head (IsBelow rank d) t ts below) (All-head (HasSize table) t ts has) in
      let total : ℕ = round_up (greatest table members) (end_from table 0 members) in
      let fit : FitMembers (members_with of members (offsets_from table 0 members)) 0 total = fit_members of d good members 0 total below has (round_up_least (greatest table members) (end_from table 0 members) (omega (arith, greatest_least table 1 members))) in
      let first = size-positive (shape_with of t) g.fits in
      let ends = fit_end (members_with of ts (offsets_from table (round_up (align table t) 0 + type_size table t) ts)) (round_up (align table t) 0 + size (shape_with of t)) total fit.3 in
      record {
        sized = ap (λ o. size_in o) (sym is);
        fits = (omega (arith, first, ends), fit, λ e. ap (λ a. round_up a (end_from table 0 members) % 16) (member_handles of d good members 0 1 below has all (omega arith) e) ∙ round_up_whole 16 (end_from table 0 members));
        handles = λ e. ap (λ o. align_in o) is ∙ member_handles of d good members 0 1 below has all (omega arith) e;
      }

  -- ---- shapes of structs, to some depth

  struct_next : (d n : ℕ) → AreGood (struct_shape table d) d → (o : Option Layout) → layout_at table n ≡ o → IsSome o → rank n < suc d → IsGood table (struct n) (shape_in (struct_shape table d) o)
  struct_next d n prev None e has below = absurd (cc)
  struct_next d n prev (Some l) e has below =
      let is : l ≡ laid_out table l.members = laid.is n l e in
      let less : All (IsBelow rank d) l.members = All-weaker (IsBelow rank (rank n)) (IsBelow rank d) (λ t h. below_more rank (rank n) d t (omega (arith, below)) h) l.members (ranked_below table laid n l e) in
      subst (λ (x : Layout). IsGood table (struct n) (shape_in (struct_shape table d) (Some x))) (sym is) (good_layout (struct_shape table d) d prev n l.members (some n l e) less (laid.sized n l e) (members_aligned table laid some n l e) (e ∙ ap Some is))

  good_struct : (d : ℕ) → AreGood (struct_shape table d) d
  good_struct zero n has below = absurd (omega (arith, below))
  good_struct (suc d) n has below = struct_next d n (good_struct d) (layout_at table n) refl has below

  below_all : (t : Ty) → HasSize table t → IsBelow rank (depth table t) t
  below_all t has = is_below table laid (depth table t) t has (omega arith)

  -- the shape of a type that has a size
  pub shape_good : (t : Ty) → HasSize table t → IsGood table t (shape table t)
  shape_good t has =
      good_type (struct_shape table (depth table t)) (depth table t) (good_struct (depth table t)) t (below_all t has) has

  -- ---- how deep is enough

  -- by what structs of a lesser rank are
  type_same_by : (d e c : ℕ) → ((k : ℕ) → IsSome (layout_at table k) → rank k < d → rank k < e → rank k < c → struct_shape table d k ≡ struct_shape table e k) → (t : Ty) → HasSize table t → IsBelow rank d t → IsBelow rank e t → IsBelow rank c t → shape_with (struct_shape table d) t ≡ shape_with (struct_shape table e) t
  type_same_by d e c same void has below below' less = absurd has
  type_same_by d e c same (integer t) has below below' less = refl
  type_same_by d e c same (struct n) has below below' less = same n has below below' less
  type_same_by d e c same (pointer t) has below below' less = refl
  type_same_by d e c same (array t n) has below below' less =
      ap (λ s. elements s n) (type_same_by d e c same t has.1 below below' less)
  type_same_by d e c same (function r ps) has below below' less = absurd has

  members_same_by : (d e c : ℕ) → ((k : ℕ) → IsSome (layout_at table k) → rank k < d → rank k < e → rank k < c → struct_shape table d k ≡ struct_shape table e k) → (ts : List Ty) (os : List ℕ) → All (HasSize table) ts → All (IsBelow rank d) ts → All (IsBelow rank e) ts → All (IsBelow rank c) ts → members_with (struct_shape table d) ts os ≡ members_with (struct_shape table e) ts os
  members_same_by d e c same [] os has below below' less = refl
  members_same_by d e c same (t ∷ ts) [] has below below' less = refl
  members_same_by d e c same (t ∷ ts) (o ∷ os) has below below' less =
      rw (type_same_by d e c same t (All-head (HasSize table) t ts has) (All-head (IsBelow rank d) t ts below) (All-head (IsBelow rank e) t ts below') (All-head (IsBelow rank c) t ts less))
      (ap (λ ms. member o (shape_with (struct_shape table e) t) ms) (members_same_by d e c same ts os (All-tail (HasSize table) t ts has) (All-tail (IsBelow rank d) t ts below) (All-tail (IsBelow rank e) t ts below') (All-tail (IsBelow rank c) t ts less)))

  layout_same : (d e n : ℕ) → rank n ≤ d → rank n ≤ e → ((k : ℕ) → IsSome (layout_at table k) → rank k < d → rank k < e → rank k < rank n → struct_shape table d k ≡ struct_shape table e k) → (o : Option Layout) → layout_at table n ≡ o → shape_in (struct_shape table d) o ≡ shape_in (struct_shape table e) o
  layout_same d e n low low' same None is = refl
  layout_same d e n low low' same (Some l) is =
      let own = ranked_below table laid n l is in
      let more : (c : ℕ) → rank n ≤ c → All (IsBelow rank c) l.members = λ c h. All-weaker (IsBelow rank (rank n)) (IsBelow rank c) (λ t b. below_more rank (rank n) c t h b) l.members own in
      ap (λ ms. record' l.size ms) (members_same_by d e (rank n) same l.members l.offsets (laid.sized n l is) (more d low) (more e low') own)

  struct_same : (d e n : ℕ) → IsSome (layout_at table n) → rank n < d → rank n < e → struct_shape table d n ≡ struct_shape table e n
  struct_same zero e n has below below' = absurd (omega (arith, below))
  struct_same (suc d) zero n has below below' = absurd (omega (arith, below'))
  struct_same (suc d) (suc e) n has below below' =
      layout_same d e n (omega (arith, below)) (omega (arith, below')) (λ k h b b' less. struct_same d e k h b b') (layout_at table n) refl

  type_same : (d e : ℕ) (t : Ty) → HasSize table t → IsBelow rank d t → IsBelow rank e t → shape_with (struct_shape table d) t ≡ shape_with (struct_shape table e) t
  type_same d e t has below below' =
      type_same_by d e d (λ k h b b' less. struct_same d e k h b b') t has below below' below

  member_at : (ts : List Ty) (m : ℕ) (t : Ty) (P : Ty → Type 0) → slice_get ts m ≡ Some t → All P ts → P t
  member_at [] m t P at all = absurd (cc)
  member_at (u ∷ us) zero t P at all = let same : u ≡ t = cc in subst P same (All-head P u us all)
  member_at (u ∷ us) (suc m) t P at all = member_at us m t P at (All-tail P u us all)

  part_at : (d n m : ℕ) (l : Layout) (t : Ty) → layout_at table n ≡ Some l → slice_get l.members m ≡ Some t → shape table (struct n) ≡ shape_in (struct_shape table d) (layout_at table n) → l.offsets ≡ offsets_from table 0 l.members → shape_with (struct_shape table d) t ≡ shape table t → part_of (shape table (struct n)) m ≡ Some (record { offset = offset table (struct n) m; shape = shape table t })
  part_at d n m l t is at deeper offsets same = rw (deeper, is, offsets, sym same) (nth_with table (struct_shape table d) l.members 0 m t at)

  -- a member's part is the shape of its type, at its offset
  pub part_is : (n m : ℕ) (l : Layout) (t : Ty) → layout_at table n ≡ Some l → slice_get l.members m ≡ Some t → part_of (shape table (struct n)) m ≡ Some (record { offset = offset table (struct n) m; shape = shape table t })
  part_is n m l t is at =
      let deep = ranked_most table laid n l is in
      let depth_is : depth_in (layout_at table n) ≡ suc (rank n) = ap (λ o. depth_in o) is ∙ sym deep in
      let deeper : shape table (struct n) ≡ shape_in (struct_shape table (rank n)) (layout_at table n) = ap (λ d. struct_shape table d n) depth_is in
      let out : l ≡ laid_out table l.members = laid.is n l is in
      let offsets : l.offsets ≡ offsets_from table 0 l.members = ap (λ (x : Layout). x.offsets) out in
      let has : HasSize table t = member_at l.members m t (HasSize table) at (laid.sized n l is) in
      let less : IsBelow rank (rank n) t = member_at l.members m t (IsBelow rank (rank n)) at (ranked_below table laid n l is) in
      let same : shape_with (struct_shape table (rank n)) t ≡ shape table t = type_same (rank n) (depth table t) t has less (below_all t has) in
      part_at (rank n) n m l t is at deeper offsets same
