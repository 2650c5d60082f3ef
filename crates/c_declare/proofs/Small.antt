-- Types that are left, when one of them has been measured.
use Rattle.std.proofs.Common.{◌≡◌, ◌∙◌, ℕ, suc, ◌+◌, ◌<◌, List, ◌∷◌, length, get_or, drop, Some, arith, sym, ap, subst}
use Rattle.std.proofs.Math.Seq.{drop-cons}
use Rattle.std.proofs.lemmas.List.Elements.{All-cons}
use Rattle.std.specs.List.{All}
use Rattle.c_types.specs.Layout.{Table, IsSmall}
use Rattle.c_types.specs.Types.{Ty, type_of}
use Rattle.c_types.specs.refinement.Views.{types_in}
use Rattle.c_types.specs.declared.types.CType.{CType}
use Rattle.c_check_types.specs.Types.{measured}
use Rattle.c_declare.proofs.Sizes.{small_if_measured}

pub one_more : (structs : Table) (ts : List CType) (i : ℕ) (t : CType) (n : ℕ) → i < length ts → t ≡ get_or ts i t → measured structs (type_of t) ≡ Some n
    → All (IsSmall structs) (types_in (drop (i + 1) ts)) → All (IsSmall structs) (types_in (drop i ts))
one_more structs ts i t n lt e m rest =
    let P : List Ty → Type 0 = λ l. All (IsSmall structs) l in
    let next : i + 1 ≡ suc i = omega arith in
    let behind = subst P (ap (λ k. types_in (drop k ts)) next) rest in
    let front = All-cons (IsSmall structs) (type_of t) (types_in (drop (suc i) ts)) (small_if_measured structs (type_of t) n m) behind in
    subst P (sym (ap (λ l. types_in l) (drop-cons ts i t lt) ∙ ap (λ u. type_of u ∷ types_in (drop (suc i) ts)) (sym e))) front
