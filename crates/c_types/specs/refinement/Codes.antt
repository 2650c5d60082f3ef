-- How the logic stores a table of structs: a number for the form, and its parts.
use Rattle.std.proofs.Common.{◌≡◌, ℕ, List, refl, ap, arith}
use Rattle.std.specs.Coded.{Coded, code_by, coded×, coded_list, coded_ℕ, coded_option}
use base.Stored.{Gv, gnil, gnum, gcons}
use Rattle.c_types.specs.Layout.{Layout, Table}
use Rattle.c_types.specs.Types.{Ty, void, integer, struct, pointer, array, function, Tys, no_types, types}
use Rattle.c_types.specs.contracts.integers.IntType as integer_row

abbrev head : Gv → Gv
head gnil = gnil
head (gnum n) = gnil
head (gcons a b) = a

abbrev tail : Gv → Gv
tail gnil = gnil
tail (gnum n) = gnil
tail (gcons a b) = b

abbrev number_in : Gv → ℕ
number_in gnil = 0
number_in (gnum n) = n
number_in (gcons a b) = 0

abbrev form : Gv → ℕ
form g = number_in (head g)

abbrev mutual
  ty_code : Ty → Gv
  ty_code void = gcons (gnum 0) gnil
  ty_code (integer t) = gcons (gnum 1) (integer_row.the_row.coded.code t)
  ty_code (struct n) = gcons (gnum 2) (coded_ℕ.code n)
  ty_code (pointer t) = gcons (gnum 3) (ty_code t)
  ty_code (array t n) = gcons (gnum 4) (gcons (ty_code t) (coded_ℕ.code n))
  ty_code (function r ps) = gcons (gnum 5) (gcons (ty_code r) (tys_code ps))

  tys_code : Tys → Gv
  tys_code no_types = gcons (gnum 0) gnil
  tys_code (types t ts) = gcons (gnum 1) (gcons (ty_code t) (tys_code ts))

mutual
  pub ty_inj : (x y : Ty) → ty_code x ≡ ty_code y → x ≡ y
  ty_inj void void p = refl
  ty_inj (integer t) (integer u) p = λ i. integer (integer_row.the_row.coded.inj t u (ap (λ g. tail g) p) i)
  ty_inj (struct n) (struct m) p = λ i. struct (coded_ℕ.inj n m (ap (λ g. tail g) p) i)
  ty_inj (pointer t) (pointer u) p = λ i. pointer (ty_inj t u (ap (λ g. tail g) p) i)
  ty_inj (array t n) (array u m) p = λ i. array (ty_inj t u (ap (λ g. head (tail g)) p) i) (coded_ℕ.inj n m (ap (λ g. tail (tail g)) p) i)
  ty_inj (function r ps) (function s qs) p = λ i. function (ty_inj r s (ap (λ g. head (tail g)) p) i) (tys_inj ps qs (ap (λ g. tail (tail g)) p) i)
  ty_inj x y p = absurd (let e = ap (λ g. form g) p in omega (arith, e))

  pub tys_inj : (x y : Tys) → tys_code x ≡ tys_code y → x ≡ y
  tys_inj no_types no_types p = refl
  tys_inj (types t ts) (types u us) p = λ i. types (ty_inj t u (ap (λ g. head (tail g)) p) i) (tys_inj ts us (ap (λ g. tail (tail g)) p) i)
  tys_inj x y p = absurd (let e = ap (λ g. form g) p in omega (arith, e))

abbrev coded_ty : Coded Ty
coded_ty = record { code = ty_code; inj = ty_inj }

abbrev coded_layout : Coded Layout
coded_layout =
    code_by (List Ty × (List ℕ × (ℕ × (ℕ × ℕ)))) (coded× (coded_list coded_ty) (coded× (coded_list coded_ℕ) (coded× coded_ℕ (coded× coded_ℕ coded_ℕ)))) (λ l. (l.members, (l.offsets, (l.size, (l.align, l.depth))))) (λ p. record { members = p.0; offsets = p.1.0; size = p.1.1.0; align = p.1.1.1.0; depth = p.1.1.1.1 }) (λ _. refl)

abbrev pub coded_table : Coded Table
coded_table = coded_list (coded_option coded_layout)
