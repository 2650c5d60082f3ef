-- The table of functions: the entry that a function has which is a value, by the type of a pointer to it.
use Rattle.std.proofs.Common.{◌≡◌, ℕ, suc, ◌<◌, List, [], ◌∷◌, length, map, Bool, true, false, Option, Some, None, Ok, refl, sym, ap, ◌∙◌, arith}
use Rattle.std.specs.Prelude.{option_map, slice_get, ◌==◌, ◌&&◌, if◌then◌else◌}
use Rattle.std.specs.List.{list_any}
use Rattle.std.proofs.lemmas.Option.{none-some, same_Some, slice_get-map, slice_get_within}
use Rattle.ms_linear.specs.Table.{Table, target_of}
use Rattle.ms_machine.specs.declared.store.Instance.{Instance}
use Rattle.c_types.specs.declared.integers.IntType.{IntType}
use Rattle.c_types.specs.declared.integers.IntType.TheVariants.{Char, SignedChar, UnsignedChar, Short, UnsignedShort, Int, UnsignedInt, Long, UnsignedLong, LongLong, UnsignedLongLong}
use Rattle.c_types.specs.Integers as integers
use Rattle.c_types.specs.Integers.{same_integer}
use Rattle.c_types.specs.Types.{Ty, void, integer, struct, pointer, array, function, Tys, no_types, types}
use Rattle.c_typed.specs.Tree.{Function, Typed}
use Rattle.c_code.specs.Functions.{signature}
use Rattle.c_code.specs.Modules.{compiled, index_of, is_name_of, named, rank_in}
use Rattle.c_code.specs.Uses.{uses}
use Rattle.c_typing.proofs.Indices.{and_true, rank_is}
use Rattle.c_typing.proofs.Lists.{equal_is, equal_itself, filter_has, has_number}
use Rattle.c_runs.proofs.Goes.{Site}
use Rattle.c_runs.proofs.Ready.{IsCallable}
use Rattle.c_runs.proofs.Whole.{both}

-- ---- the same type

abbrev by_index : ℕ → IntType
by_index n =
    if n == 0 then Char else (if n == 1 then SignedChar else (if n == 2 then UnsignedChar else (if n == 3 then Short else (if n == 4 then UnsignedShort else (if n == 5 then Int else (if n == 6 then UnsignedInt else (if n == 7 then Long else (if n == 8 then UnsignedLong else (if n == 9 then LongLong else UnsignedLongLong)))))))))

is_index : (t : IntType) → by_index (integers.index_of t) ≡ t
is_index Char = refl
is_index SignedChar = refl
is_index UnsignedChar = refl
is_index Short = refl
is_index UnsignedShort = refl
is_index Int = refl
is_index UnsignedInt = refl
is_index Long = refl
is_index UnsignedLong = refl
is_index LongLong = refl
is_index UnsignedLongLong = refl

same_integer_is : (t u : IntType) → same_integer t u ≡ true → t ≡ u
same_integer_is t u e = sym (is_index t) ∙ ap (λ (n : ℕ). by_index n) (equal_is (integers.index_of t) (integers.index_of u) e) ∙ is_index u

abbrev mutual
  pub same_type : Ty → Ty → Bool
  same_type void void = true
  same_type (integer t) (integer u) = same_integer t u
  same_type (struct m) (struct n) = m == n
  same_type (pointer t) (pointer u) = same_type t u
  same_type (array t m) (array u n) = (m == n) && same_type t u
  same_type (function r ps) (function s qs) = same_type r s && same_types ps qs
  same_type _ _ = false

  pub same_types : Tys → Tys → Bool
  same_types no_types no_types = true
  same_types (types t ts) (types u us) = same_type t u && same_types ts us
  same_types _ _ = false

mutual
  same_is : (t u : Ty) → same_type t u ≡ true → t ≡ u
  same_is void void e = refl
  same_is (integer t) (integer u) e = ap (λ (x : IntType). integer x) (same_integer_is t u e)
  same_is (struct m) (struct n) e = ap (λ (x : ℕ). struct x) (equal_is m n e)
  same_is (pointer t) (pointer u) e = ap (λ (x : Ty). pointer x) (same_is t u e)
  same_is (array t m) (array u n) e =
      let h = both (m == n) (same_type t u) e in ap (λ (x : Ty). array x m) (same_is t u h.1) ∙ ap (λ (k : ℕ). array u k) (equal_is m n h.0)
  same_is (function r ps) (function s qs) e =
      let h = both (same_type r s) (same_types ps qs) e in ap (λ (x : Ty). function x ps) (same_is r s h.0) ∙ ap (λ (xs : Tys). function s xs) (same_are ps qs h.1)
  same_is _ _ e = absurd cc

  same_are : (ts us : Tys) → same_types ts us ≡ true → ts ≡ us
  same_are no_types no_types e = refl
  same_are (types t ts) (types u us) e =
      let h = both (same_type t u) (same_types ts us) e in ap (λ (x : Ty). types x ts) (same_is t u h.0) ∙ ap (λ (xs : Tys). types u xs) (same_are ts us h.1)
  same_are _ _ e = absurd cc

mutual
  same_itself : (t : Ty) → same_type t t ≡ true
  same_itself void = refl
  same_itself (integer t) = equal_itself (integers.index_of t)
  same_itself (struct n) = equal_itself n
  same_itself (pointer t) = same_itself t
  same_itself (array t n) = and_true (n == n) (same_type t t) (equal_itself n) (same_itself t)
  same_itself (function r ps) = and_true (same_type r r) (same_types ps ps) (same_itself r) (same_themselves ps)

  same_themselves : (ts : Tys) → same_types ts ts ≡ true
  same_themselves no_types = refl
  same_themselves (types t ts) = and_true (same_type t t) (same_types ts ts) (same_itself t) (same_themselves ts)

-- ---- a function that is a value, and has the type that the pointer leads to

abbrev is_of_type : Ty → Option Function → Bool
is_of_type t None = false
is_of_type t (Some f) = same_type t f.ty

abbrev is_entry : Typed → Ty → ℕ → Bool
is_entry u (pointer t) n = list_any (λ m. m == n) (named u) && is_of_type t (slice_get u.functions n)
is_entry u _ n = false

-- for any other a number that no entry has
abbrev pub places_of : Typed → Ty → ℕ → ℕ
places_of u t n = if is_entry u t n then rank_in (named u) n else 4294967296

abbrev pub types_of : Typed → List Ty
types_of u = map (λ (f : Function). f.ty) u.functions

pub record IsEntry (u : Typed) (t : Ty) (n : ℕ) : Type 0 where
  pub among : list_any (λ m. m == n) (named u) ≡ true
  pub typed : slice_get (types_of u) n ≡ Some t
  pub place : places_of u (pointer t) n ≡ rank_in (named u) n

module _ (u : Typed) (t : Ty) (n : ℕ) where
  type_at : (f : Function) → slice_get u.functions n ≡ Some f → slice_get (types_of u) n ≡ Some f.ty
  type_at f e = slice_get-map (λ (g : Function). g.ty) u.functions n ∙ ap (option_map (λ (g : Function). g.ty)) e

  typed_by : (o : Option Function) → slice_get u.functions n ≡ o → is_of_type t o ≡ true → slice_get (types_of u) n ≡ Some t
  typed_by None e h = absurd cc
  typed_by (Some f) e h = type_at f e ∙ ap Some (sym (same_is t f.ty h))

  entry_is : is_entry u (pointer t) n ≡ true → IsEntry u t n
  entry_is e =
      let h = both (list_any (λ m. m == n) (named u)) (is_of_type t (slice_get u.functions n)) e in
      record { among = h.0; typed = typed_by (slice_get u.functions n) refl h.1; place = ap (λ (b : Bool). if b then rank_in (named u) n else 4294967296) e }

  -- one whose number is small has an entry
  pub small_entry : suc (places_of u (pointer t) n) < 4294967296 → IsEntry u t n
  small_entry lt = entry_is (by (is_entry u (pointer t) n) refl lt) where
    by : (b : Bool) → is_entry u (pointer t) n ≡ b → suc (if b then rank_in (named u) n else 4294967296) < 4294967296 → is_entry u (pointer t) n ≡ true
    by true e l = e
    by false e l = absurd (omega (arith, l))

  -- one that is named somewhere has an entry
  pub named_entry : slice_get (types_of u) n ≡ Some t → list_any (is_name_of n) (uses u) ≡ true → IsEntry u t n
  named_entry at used = entry_is (by (slice_get u.functions n) refl at) where
    by : (o : Option Function) → slice_get u.functions n ≡ o → slice_get (types_of u) n ≡ Some t → is_entry u (pointer t) n ≡ true
    by None e h = absurd (none-some t (sym (slice_get-map (λ (g : Function). g.ty) u.functions n ∙ ap (option_map (λ (g : Function). g.ty)) e) ∙ h))
    by (Some f) e h =
        let same : f.ty ≡ t = same_Some f.ty t (sym (type_at f e) ∙ h) in
        and_true (list_any (λ m. m == n) (named u)) (is_of_type t (slice_get u.functions n))
        (filter_has (λ k. list_any (is_name_of k) (uses u)) n _ (has_number (length u.functions) n (slice_get_within u.functions n f e)) used)
        (ap (is_of_type t) e ∙ ap (same_type t) same ∙ same_itself t)

  pub rank_at : IsEntry u t n → slice_get (named u) (rank_in (named u) n) ≡ Some n
  rank_at e = rank_is (named u) n e.among

  pub rank_below : IsEntry u t n → rank_in (named u) n < length (named u)
  rank_below e = slice_get_within (named u) (rank_in (named u) n) n (rank_at e)

-- functions of one entry are one
pub apart_entries : (u : Typed) (t : Ty) (m n : ℕ) → IsEntry u t m → IsEntry u t n → places_of u (pointer t) m ≡ places_of u (pointer t) n → m ≡ n
apart_entries u t m n a b e = same_Some m n (sym (rank_at u t m a) ∙ ap (slice_get (named u)) (sym a.place ∙ e ∙ b.place) ∙ rank_at u t n b)

-- ---- the table of the store

-- the one instance has one table: nothing stands at first in it, and behind that the functions that are values, which are defined
pub record IsTable (S : Site) (u : Typed) : Type 0 where
  pub few : length (named u) < 4294967295
  pub inst : Instance
  pub alone : S.instances ≡ inst ∷ []
  pub has_table : inst.table ≡ Some 0
  pub types : inst.types ≡ (compiled u).sigs
  pub table : Table
  pub tables : S.tables ≡ table ∷ []
  pub empty : slice_get table.entries 0 ≡ Some None
  pub entries : (n : ℕ) (t : Ty) → IsEntry u t n → target_of table.entries (suc (rank_in (named u) n)) (signature t) ≡ Ok (record { address = index_of u n })
  pub callable : (n : ℕ) → list_any (λ m. m == n) (named u) ≡ true → IsCallable u n
