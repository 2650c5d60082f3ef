-- The loop that places members one behind the other.
use Rattle.std.proofs.Common.{◌≡◌, ℕ, ◌+◌, ◌*◌, ◌^◌, ◌<◌, ◌≤◌, max, suc, List, [], ◌∷◌, ◌++◌, length, get_or, drop, refl, sym, ◌∙◌, ap, arith, append_assoc, drop-cons, add-one, length-append}
use Rattle.std.specs.List.{All}
use Rattle.std.proofs.lemmas.List.{get_or-map, length-map}
use Rattle.c_types.specs.Layout.{Table, IsCounted, IsSmall, size, align, round_up, offsets_from, end_from, greatest_from, greatest, most_bytes}
use Rattle.c_types.specs.Types.{Ty, void, integer, struct, pointer, array, function, type_of}
use Rattle.c_types.specs.refinement.Views.{types_in}
use Rattle.c_types.specs.declared.types.CType.{CType}

-- the first i members are placed
pub record SoFar (table : Table) (all : List Ty) (i end least : ℕ) (offsets : List ℕ) : Type 0 where
  pub places : offsets ++ offsets_from table end (drop i all) ≡ offsets_from table 0 all
  pub ends : end_from table end (drop i all) ≡ end_from table 0 all
  pub aligns : greatest_from table least (drop i all) ≡ greatest table all
  pub count : length offsets ≡ i
  pub positive : 0 < least
  pub most : least ≤ 16
  pub small : end ≤ 2 ^ 31 * i

pub begun : (table : Table) (all : List Ty) (offsets : List ℕ) → offsets ≡ [] → SoFar table all 0 0 1 offsets
begun table all offsets e =
    record {
      places = rw e refl;
      ends = refl;
      aligns = refl;
      count = rw e refl;
      positive = omega arith;
      most = omega arith;
      small = omega arith;
    }

-- what the definitions say of a list whose first type is t
placed_next : (table : Table) (rest ts : List Ty) (t : Ty) (end : ℕ) (offsets : List ℕ) → rest ≡ t ∷ ts →
    (offsets ++ round_up (align table t) end ∷ []) ++ offsets_from table (round_up (align table t) end + size table t) ts ≡ offsets ++ offsets_from table end rest
placed_next table rest ts t end offsets e =
    rw e (append_assoc offsets (round_up (align table t) end ∷ []) (offsets_from table (round_up (align table t) end + size table t) ts))

pub part_at : (table : Table) (members xs : List CType) (i : ℕ) (m : CType) → All (IsSmall table) (types_in members) → xs ≡ members → i < length xs → m ≡ get_or xs i m → IsSmall table (type_of m)
part_at table members xs i m parts same l e =
    let at = parts i (type_of m) (rw (length-map members type_of, ← same) l) in
    let is : get_or (types_in members) i (type_of m) ≡ type_of m = rw (← same) (get_or-map type_of xs i m (type_of m) l ∙ ap (λ x. type_of x) (sym e)) in
    rw is at at

pub counted : (table : Table) (t : Ty) → size table t ≤ most_bytes → IsCounted table t
counted table void h = tt
counted table (integer t) h = tt
counted table (struct n) h = tt
counted table (pointer t) h = tt
counted table (array t n) h = omega arith
counted table (function r ps) h = tt

pub placed : (table : Table) (xs : List CType) (i : ℕ) (m : CType) (end least needed here bytes : ℕ) (offsets items : List ℕ) →
    i < length xs → m ≡ get_or xs i m → IsSmall table (type_of m) →
    needed ≡ align table (type_of m) → 0 < needed → needed ≤ 16 →
    here ≡ round_up needed end → here < end + 16 →
    bytes ≡ size table (type_of m) → items ≡ offsets ++ here ∷ [] →
    SoFar table (types_in xs) i end least offsets →
    SoFar table (types_in xs) (i + 1) (here + bytes) (max least needed) items
placed table xs i m end least needed here bytes offsets items l e part needed_is positive most here_is near bytes_is items_is s =
    let t = type_of m in
    let shown : here ≡ round_up (align table t) end = here_is ∙ ap (λ a. round_up a end) needed_is in
    let is : get_or (types_in xs) i t ≡ t = get_or-map type_of xs i m t l ∙ ap (λ x. type_of x) (sym e) in
    let rest : drop i (types_in xs) ≡ t ∷ drop (i + 1) (types_in xs) =
    rw add-one (drop-cons (types_in xs) i t (rw (length-map xs type_of) l) ∙ ap (λ u. u ∷ drop (suc i) (types_in xs)) is) in
    let small : size table t ≤ most_bytes = part.1 in
    record {
      places = rw (items_is, shown, bytes_is) (placed_next table (drop i (types_in xs)) (drop (i + 1) (types_in xs)) t end offsets rest ∙ s.places);
      ends = rw (shown, bytes_is) (ap (λ r. end_from table end r) (sym rest) ∙ s.ends);
      aligns = rw needed_is (ap (λ r. greatest_from table least r) (sym rest) ∙ s.aligns);
      count = rw items_is (omega (arith, length-append offsets (here ∷ []), s.count));
      positive = omega (arith, s.positive);
      most = omega (arith, s.most);
      small = omega (arith, s.small, small);
    }
