-- Rounding, alignments and sizes, and where members lie.
use Rattle.std.proofs.Common.{◌≡◌, ◌≢◌, ℕ, zero, suc, ◌+◌, ◌-◌, ◌*◌, ◌/◌, ◌%◌, ◌<◌, ◌≤◌, max, Bool, true, false, cond, List, [], ◌∷◌, Some, inl, inr, refl, ap, ◌∙◌, subst, arith}
use Rattle.std.specs.Prelude.{slice_get, slice_index, IsSome}
use Rattle.std.specs.List.{All}
use Rattle.std.proofs.Math.Nat.{mul-mod_left, mul-le-mul_right, le-mul_of_pos_right, mul_assoc, mul_comm}
use Rattle.std.proofs.lemmas.Nat.{div-add-mod', mod_below}
use Rattle.std.proofs.lemmas.Bool.{cases_lt}
use Rattle.std.proofs.lemmas.List.Elements.{All-cons, All-nil, All-head, All-tail, All-weaker}
use Rattle.c_types.specs.Integers.{bits}
use Rattle.c_types.specs.Layout.{HasSize, IsLaidOut, Layout, Table, align, align_in, end_from, greatest, greatest_from, laid_out, depth, layout_at, offset, offsets_from, offsets_in, round_up, size, size_in}
use Rattle.c_types.specs.Types.{Ty, void, integer, struct, pointer, array, function, is_function}
use Rattle.c_types.specs.declared.integers.IntType.{IntType}
use Rattle.c_types.specs.declared.integers.IntType.TheVariants.{Char, SignedChar, UnsignedChar, Short, UnsignedShort, Int, UnsignedInt, Long, UnsignedLong, LongLong, UnsignedLongLong}
use Rattle.c_types.proofs.Nesting.{IsBelow, below_more, is_below, is_some, rank_of, ranked_below}

-- ---- rounding

pub round_up_least : (a n : ℕ) → 0 < a → n ≤ round_up a n
round_up_least a n some =
    omega (arith, div-add-mod' (n + a - 1) a, mod_below (n + a - 1) a some)

pub round_up_whole : (a n : ℕ) → round_up a n % a ≡ 0
round_up_whole a n = mul-mod_left ((n + a - 1) / a) a

-- no lesser place of the alignment is there
pub round_up_most : (a n m : ℕ) → 0 < a → n ≤ m → m % a ≡ 0 → round_up a n ≤ m
round_up_most a n m some less whole =
    let up : ℕ = (n + a - 1) / a in
    let at : ℕ = m / a in
    let is : at * a ≡ m = omega (arith, div-add-mod' m a, whole) in
    let near : up * a ≤ n + a - 1 = omega (arith, div-add-mod' (n + a - 1) a) in
    elim (cases_lt at up) [
      | inl beyond ↦ let h : suc at * a ≤ up * a = mul-le-mul_right a beyond in absurd (omega (arith, some, is, near, less, h))
      | inr before ↦ let h : up * a ≤ at * a = mul-le-mul_right a before in omega (arith, is, h)
    ]

times_whole : (n s a : ℕ) → s % a ≡ 0 → n * s % a ≡ 0
times_whole n s a whole =
    let is : s / a * a ≡ s = omega (arith, div-add-mod' s a, whole) in
    subst (λ x. n * x % a ≡ 0) is (subst (λ x. x % a ≡ 0) (mul_assoc n (s / a) a) (mul-mod_left (n * (s / a)) a))

-- ---- of one type

-- what is known of a type's alignment and size
pub record IsAligned (table : Table) (t : Ty) : Type 0 where
  pub some : 0 < align table t
  pub most : align table t ≤ 16
  pub filled : 0 < size table t
  pub whole : size table t % align table t ≡ 0

bits_aligned : (n : ℕ) → 0 < n → n ≤ 8 → (0 < n) × (n ≤ 16) × (n % n ≡ 0)
bits_aligned n some most = (some, omega (arith, most), subst (λ x. x % n ≡ 0) (omega arith) (mul-mod_left 1 n))

integer_bytes : (t : IntType) → (0 < bits t / 8) × (bits t / 8 ≤ 8)
integer_bytes Char = (omega arith, omega arith)
integer_bytes SignedChar = (omega arith, omega arith)
integer_bytes UnsignedChar = (omega arith, omega arith)
integer_bytes Short = (omega arith, omega arith)
integer_bytes UnsignedShort = (omega arith, omega arith)
integer_bytes Int = (omega arith, omega arith)
integer_bytes UnsignedInt = (omega arith, omega arith)
integer_bytes Long = (omega arith, omega arith)
integer_bytes UnsignedLong = (omega arith, omega arith)
integer_bytes LongLong = (omega arith, omega arith)
integer_bytes UnsignedLongLong = (omega arith, omega arith)

integer_aligned : (table : Table) (t : IntType) → IsAligned table (integer t)
integer_aligned table t =
    let h = integer_bytes t in
    let b = bits_aligned (bits t / 8) h.0 h.1 in record { some = h.0; most = b.1; filled = h.0; whole = b.2 }

pointer_bytes : (b : Bool) → (let n : ℕ = cond b 4 16 in (0 < n) × (n ≤ 16) × (n % n ≡ 0))
pointer_bytes true = (omega arith, omega arith, refl)
pointer_bytes false = (omega arith, omega arith, refl)

pointer_aligned : (table : Table) (t : Ty) → IsAligned table (pointer t)
pointer_aligned table t =
    let h = pointer_bytes (is_function t) in record { some = h.0; most = h.1; filled = h.0; whole = h.2 }

array_aligned : (table : Table) (t : Ty) (n : ℕ) → 0 < n → IsAligned table t → IsAligned table (array t n)
array_aligned table t n count a =
    let h : size table t ≤ size table t * n = le-mul_of_pos_right (size table t) count in
    record { some = a.some; most = a.most; filled = omega (arith, a.filled, h, mul_comm (size table t) n); whole = times_whole n (size table t) (align table t) a.whole }

-- ---- of members

pub greatest_least : (table : Table) (least : ℕ) (ts : List Ty) → least ≤ greatest_from table least ts
greatest_least table least [] = omega arith
greatest_least table least (t ∷ ts) = let h = greatest_least table (max least (align table t)) ts in omega (arith, h)

pub greatest_most : (table : Table) (least : ℕ) (ts : List Ty) → least ≤ 16 → All (IsAligned table) ts → greatest_from table least ts ≤ 16
greatest_most table least [] small all = small
greatest_most table least (t ∷ ts) small all =
    let a = All-head (IsAligned table) t ts all in
    greatest_most table (max least (align table t)) ts (omega (arith, small, a.most)) (All-tail (IsAligned table) t ts all)

-- a member begins behind those before
begins_behind : (table : Table) (ts : List Ty) (end m : ℕ) (t : Ty) → All (IsAligned table) ts → slice_get ts m ≡ Some t → end ≤ slice_index (offsets_from table end ts) m
begins_behind table [] end m t all at = absurd (cc)
begins_behind table (u ∷ us) end zero t all at =
    let a = All-head (IsAligned table) u us all in round_up_least (align table u) end a.some
begins_behind table (u ∷ us) end (suc m) t all at =
    let a = All-head (IsAligned table) u us all in
    let h = begins_behind table us (round_up (align table u) end + size table u) m t (All-tail (IsAligned table) u us all) at in omega (arith, h, round_up_least (align table u) end a.some)

member_aligned : (table : Table) (ts : List Ty) (end m : ℕ) (t : Ty) → slice_get ts m ≡ Some t → slice_index (offsets_from table end ts) m % align table t ≡ 0
member_aligned table [] end m t at = absurd (cc)
member_aligned table (u ∷ us) end zero t at = let same : u ≡ t = cc in rw (← same) (round_up_whole (align table u) end)
member_aligned table (u ∷ us) end (suc m) t at = member_aligned table us (round_up (align table u) end + size table u) m t at

end_least : (table : Table) (ts : List Ty) (end : ℕ) → All (IsAligned table) ts → end ≤ end_from table end ts
end_least table [] end all = omega arith
end_least table (u ∷ us) end all =
    let a = All-head (IsAligned table) u us all in
    let h = end_least table us (round_up (align table u) end + size table u) (All-tail (IsAligned table) u us all) in omega (arith, h, round_up_least (align table u) end a.some)

ends_before : (table : Table) (ts : List Ty) (end m : ℕ) (t : Ty) → All (IsAligned table) ts → slice_get ts m ≡ Some t → slice_index (offsets_from table end ts) m + size table t ≤ end_from table end ts
ends_before table [] end m t all at = absurd (cc)
ends_before table (u ∷ us) end zero t all at =
    let same : u ≡ t = cc in
    rw (← same) (end_least table us (round_up (align table u) end + size table u) (All-tail (IsAligned table) u us all))
ends_before table (u ∷ us) end (suc m) t all at =
    ends_before table us (round_up (align table u) end + size table u) m t (All-tail (IsAligned table) u us all) at

in_order : (table : Table) (ts : List Ty) (end m k : ℕ) (t u : Ty) → All (IsAligned table) ts → slice_get ts m ≡ Some t → slice_get ts k ≡ Some u → m < k → slice_index (offsets_from table end ts) m + size table t ≤ slice_index (offsets_from table end ts) k
in_order table [] end m k t u all at at' less = absurd (cc)
in_order table (x ∷ xs) end m zero t u all at at' less = absurd (omega (arith, less))
in_order table (x ∷ xs) end zero (suc k) t u all at at' less =
    let same : x ≡ t = cc in
    rw (← same) (begins_behind table xs (round_up (align table x) end + size table x) k u (All-tail (IsAligned table) x xs all) at')
in_order table (x ∷ xs) end (suc m) (suc k) t u all at at' less =
    in_order table xs (round_up (align table x) end + size table x) m k t u (All-tail (IsAligned table) x xs all) at at' (omega (arith, less))

-- ---- of a struct

layout_aligned : (table : Table) (n : ℕ) (ts : List Ty) → ts ≢ [] → All (IsAligned table) ts → layout_at table n ≡ Some (laid_out table ts) → IsAligned table (struct n)
layout_aligned table n [] some all is = absurd (some refl)
layout_aligned table n (t ∷ ts) some all is =
    let ms : List Ty = t ∷ ts in
    let a = All-head (IsAligned table) t ts all in
    let least = greatest_least table 1 ms in
    let most = greatest_most table 1 ms (omega arith) all in
    let first = ends_before table ms 0 0 t all refl in
    let up = round_up_least (greatest table ms) (end_from table 0 ms) (omega (arith, least)) in
    let size_is : size_in (layout_at table n) ≡ round_up (greatest table ms) (end_from table 0 ms) = ap (λ o. size_in o) is in
    let align_is : align_in (layout_at table n) ≡ greatest table ms = ap (λ o. align_in o) is in
    record {
      some = omega (arith, align_is, least);
      most = omega (arith, align_is, most);
      filled = omega (arith, size_is, up, first, a.filled);
      whole = rw (size_is, align_is) (round_up_whole (greatest table ms) (end_from table 0 ms));
    }

module _ (table : Table) (laid : IsLaidOut table) where
  offset_is : (n m : ℕ) (l : Layout) → layout_at table n ≡ Some l → offset table (struct n) m ≡ slice_index (offsets_from table 0 l.members) m
  offset_is n m l is =
      let out : l ≡ laid_out table l.members = laid.is n l is in
      ap (λ o. slice_index (offsets_in o) m) is ∙ ap (λ (x : Layout). slice_index x.offsets m) out

  pub member_is_aligned : (n m : ℕ) (l : Layout) (t : Ty) → layout_at table n ≡ Some l → slice_get l.members m ≡ Some t → offset table (struct n) m % align table t ≡ 0
  member_is_aligned n m l t is at = rw (offset_is n m l is) (member_aligned table l.members 0 m t at)

module _ (table : Table) (laid : IsLaidOut table) (some : (n : ℕ) (l : Layout) → layout_at table n ≡ Some l → l.members ≢ []) where
  abbrev To : ℕ → Type 0
  To d = (n : ℕ) → IsSome (layout_at table n) → rank_of table n < d → IsAligned table (struct n)

  type_aligned : (d : ℕ) → To d → (t : Ty) → IsBelow (rank_of table) d t → HasSize table t → IsAligned table t
  type_aligned d prev void below has = absurd has
  type_aligned d prev (integer t) below has = integer_aligned table t
  type_aligned d prev (struct n) below has = prev n has below
  type_aligned d prev (pointer t) below has = pointer_aligned table t
  type_aligned d prev (array t n) below has = array_aligned table t n has.0 (type_aligned d prev t below has.1)
  type_aligned d prev (function r ps) below has = absurd has

  types_aligned : (d : ℕ) → To d → (ts : List Ty) → All (IsBelow (rank_of table) d) ts → All (HasSize table) ts → All (IsAligned table) ts
  types_aligned d prev [] below has = All-nil (IsAligned table)
  types_aligned d prev (t ∷ ts) below has =
      All-cons (IsAligned table) t ts (type_aligned d prev t (All-head (IsBelow (rank_of table) d) t ts below) (All-head (HasSize table) t ts has)) (types_aligned d prev ts (All-tail (IsBelow (rank_of table) d) t ts below) (All-tail (HasSize table) t ts has))

  struct_aligned : (d : ℕ) → To d
  struct_aligned zero n has below = absurd (omega (arith, below))
  struct_aligned (suc d) n has below =
      let l = is_some (layout_at table n) has in
      let is : l.0 ≡ laid_out table l.0.members = laid.is n l.0 l.1 in
      let less : All (IsBelow (rank_of table) d) l.0.members = All-weaker (IsBelow (rank_of table) (rank_of table n)) (IsBelow (rank_of table) d) (λ t h. below_more (rank_of table) (rank_of table n) d t (omega (arith, below)) h) l.0.members (ranked_below table laid n l.0 l.1) in
      layout_aligned table n l.0.members (some n l.0 l.1) (types_aligned d (struct_aligned d) l.0.members less (laid.sized n l.0 l.1)) (l.1 ∙ ap Some is)

  -- each type that has a size is aligned
  pub has_aligned : (t : Ty) → HasSize table t → IsAligned table t
  has_aligned t has =
      type_aligned (depth table t) (struct_aligned (depth table t)) t (is_below table laid (depth table t) t has (omega arith)) has

  pub members_aligned : (n : ℕ) (l : Layout) → layout_at table n ≡ Some l → All (IsAligned table) l.members
  members_aligned n l is =
      types_aligned (rank_of table n) (struct_aligned (rank_of table n)) l.members (ranked_below table laid n l is) (laid.sized n l is)

  pub member_is_inside : (n m : ℕ) (l : Layout) (t : Ty) → layout_at table n ≡ Some l → slice_get l.members m ≡ Some t → offset table (struct n) m + size table t ≤ size table (struct n)
  member_is_inside n m l t is at =
      let all = members_aligned n l is in
      let out : l ≡ laid_out table l.members = laid.is n l is in
      let size_is : size_in (layout_at table n) ≡ round_up (greatest table l.members) (end_from table 0 l.members) = ap (λ o. size_in o) is ∙ ap (λ (x : Layout). x.size) out in
      let up = round_up_least (greatest table l.members) (end_from table 0 l.members) (omega (arith, greatest_least table 1 l.members)) in
      let h = ends_before table l.members 0 m t all at in omega (arith, offset_is table laid n m l is, size_is, up, h)

  pub members_are_in_order : (n m k : ℕ) (l : Layout) (t u : Ty) → layout_at table n ≡ Some l → slice_get l.members m ≡ Some t → slice_get l.members k ≡ Some u → m < k → offset table (struct n) m + size table t ≤ offset table (struct n) k
  members_are_in_order n m k l t u is at at' less =
      let h = in_order table l.members 0 m k t u (members_aligned n l is) at at' less in omega (arith, offset_is table laid n m l is, offset_is table laid n k l is, h)
