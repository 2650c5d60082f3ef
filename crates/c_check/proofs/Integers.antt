-- Integer types and types that are told to be the same, and the types at which operators work.
use Rattle.std.proofs.Common.{◌≡◌, ◌∙◌, sym, ap, refl, ℕ, ◌^◌, ◌≤◌, ◌<◌, ◌==◌, ◌&&◌, nat_le, Bool, true, false, if◌then◌else◌, arith}
use Rattle.std.proofs.lemmas.Bool.Decides.{nat_tests}
use Rattle.c_types.specs.declared.integers.IntType.{IntType}
use Rattle.c_types.specs.declared.integers.IntType.TheVariants.{Char, SignedChar, UnsignedChar, Short, UnsignedShort, Int, UnsignedInt, Long, UnsignedLong, LongLong, UnsignedLongLong}
use Rattle.c_types.specs.Integers.{bits, promoted, common}
use Rattle.c_types.specs.Types.{Ty, void, integer, struct, pointer, array, function, Tys, no_types, types}
use Rattle.c_check_types.specs.TypeEquality.{index_of, same_integer, same_type, same_types}

-- ---- the same types

abbrev by_index : ℕ → IntType
by_index n =
    if n == 0 then Char else (if n == 1 then SignedChar else (if n == 2 then UnsignedChar else (if n == 3 then Short else (if n == 4 then UnsignedShort else (if n == 5 then Int else (if n == 6 then UnsignedInt else (if n == 7 then Long else (if n == 8 then UnsignedLong else (if n == 9 then LongLong else (UnsignedLongLong))))))))))

is_index : (t : IntType) → by_index (index_of t) ≡ t
is_index Char = refl
is_index SignedChar = refl
is_index UnsignedChar = refl
is_index Short = refl
is_index UnsignedShort = refl
is_index Int = refl
is_index UnsignedInt = refl
is_index Long = refl
is_index UnsignedLong = refl
is_index LongLong = refl
is_index UnsignedLongLong = refl

equal : (m n : ℕ) → (m == n) ≡ true → m ≡ n
equal m n e = grind (arith, nat_tests, e)

pub both : (a b : Bool) → (a && b) ≡ true → (a ≡ true) × (b ≡ true)
both true b e = (refl, e)
both false b e = let q : false ≡ true = e in absurd (cc)

pub same-integer : (t u : IntType) → same_integer t u ≡ true → t ≡ u
same-integer t u e =
    sym (is_index t) ∙ ap (λ n. by_index n) (equal (index_of t) (index_of u) e) ∙ is_index u

mutual
  pub same-type : (t u : Ty) → same_type t u ≡ true → t ≡ u
  same-type void void e = refl
  same-type (integer t) (integer u) e = ap (λ x. integer x) (same-integer t u e)
  same-type (struct m) (struct n) e = ap (λ x. struct x) (equal m n e)
  same-type (pointer t) (pointer u) e = ap (λ x. pointer x) (same-type t u e)
  same-type (array t m) (array u n) e =
      let h = both (m == n) (same_type t u) e in
      let p = equal m n h.0 in
      let q = same-type t u h.1 in
      λ i. array (q i) (p i)
  same-type (function r ps) (function s qs) e =
      let h = both (same_type r s) (same_types ps qs) e in
      let p = same-type r s h.0 in
      let q = same-types ps qs h.1 in
      λ i. function (p i) (q i)
  same-type t u e = let q : false ≡ true = e in absurd (cc)

  pub same-types : (ts us : Tys) → same_types ts us ≡ true → ts ≡ us
  same-types no_types no_types e = refl
  same-types (types t ts) (types u us) e =
      let h = both (same_type t u) (same_types ts us) e in
      let p = same-type t u h.0 in
      let q = same-types ts us h.1 in
      λ i. types (p i) (q i)
  same-types ts us e = let q : false ≡ true = e in absurd (cc)

-- ---- the types at which operators work (6.3.1.1, 6.3.1.8)

pub promoted-twice : (t : IntType) → promoted (promoted t) ≡ promoted t
promoted-twice Char = refl
promoted-twice SignedChar = refl
promoted-twice UnsignedChar = refl
promoted-twice Short = refl
promoted-twice UnsignedShort = refl
promoted-twice Int = refl
promoted-twice UnsignedInt = refl
promoted-twice Long = refl
promoted-twice UnsignedLong = refl
promoted-twice LongLong = refl
promoted-twice UnsignedLongLong = refl

abbrev Stays : IntType → IntType → Type 0
Stays t u = promoted (common t u) ≡ common t u

pub common-promoted : (t u : IntType) → promoted (common t u) ≡ common t u
common-promoted Char u = elim u as (λ u. Stays Char u) [ Char ↦ refl | _ ↦ refl ]
common-promoted SignedChar u = elim u as (λ u. Stays SignedChar u) [ Char ↦ refl | _ ↦ refl ]
common-promoted UnsignedChar u = elim u as (λ u. Stays UnsignedChar u) [ Char ↦ refl | _ ↦ refl ]
common-promoted Short u = elim u as (λ u. Stays Short u) [ Char ↦ refl | _ ↦ refl ]
common-promoted UnsignedShort u = elim u as (λ u. Stays UnsignedShort u) [ Char ↦ refl | _ ↦ refl ]
common-promoted Int u = elim u as (λ u. Stays Int u) [ Char ↦ refl | _ ↦ refl ]
common-promoted UnsignedInt u = elim u as (λ u. Stays UnsignedInt u) [ Char ↦ refl | _ ↦ refl ]
common-promoted Long u = elim u as (λ u. Stays Long u) [ Char ↦ refl | _ ↦ refl ]
common-promoted UnsignedLong u = elim u as (λ u. Stays UnsignedLong u) [ Char ↦ refl | _ ↦ refl ]
common-promoted LongLong u = elim u as (λ u. Stays LongLong u) [ Char ↦ refl | _ ↦ refl ]
common-promoted UnsignedLongLong u = elim u as (λ u. Stays UnsignedLongLong u) [ Char ↦ refl | _ ↦ refl ]

-- ---- numbers of a type

pub zero-fits : (t : IntType) → 0 < 2 ^ bits t
zero-fits Char = omega arith
zero-fits SignedChar = omega arith
zero-fits UnsignedChar = omega arith
zero-fits Short = omega arith
zero-fits UnsignedShort = omega arith
zero-fits Int = omega arith
zero-fits UnsignedInt = omega arith
zero-fits Long = omega arith
zero-fits UnsignedLong = omega arith
zero-fits LongLong = omega arith
zero-fits UnsignedLongLong = omega arith

pub narrow : (t : IntType) → nat_le (bits t) 32 ≡ true → bits t ≤ 32
narrow t e = grind (arith, nat_tests, e)
