-- Types that are the same, by the test of the definitions.
use Rattle.std.proofs.Common.{◌≡◌, ◌↔◌, Bool, true, false, ◌&&◌, List, [], IsTrue, refl, sym, ap, ◌∙◌}
use Rattle.ms_linear.specs.Table.{same_types}
use Rattle.ms_linear.proofs.Targets.{same_sig-is, same_sig-refl}
use Rattle.ms_types.specs.declared.types.FuncType.{FuncType}
use Rattle.ms_types.specs.declared.types.ValType.{ValType}

abbrev of_params : List ValType → FuncType
of_params ts = record { params = ts; results = [] }

and_true : (b : Bool) → (b && true) ≡ b
and_true true = refl
and_true false = refl

same_types-is : (a b : List ValType) → same_types a b ≡ true → a ≡ b
same_types-is a b e = ap (λ (t : FuncType). t.params) (same_sig-is (of_params a) (of_params b) (and_true (same_types a b) ∙ e))

same_types-refl : (a : List ValType) → same_types a a ≡ true
same_types-refl a = sym (and_true (same_types a a)) ∙ same_sig-refl (of_params a)

pub types_decided : (r : Bool) (a b : List ValType) → IsTrue r ↔ (a ≡ b) → r ≡ same_types a b
types_decided true a b h = sym (same_types-refl a) ∙ ap (same_types a) (h.0 refl)
types_decided false a b h = by (same_types a b) refl where
  by : (s : Bool) → same_types a b ≡ s → false ≡ s
  by true is = h.1 (same_types-is a b is)
  by false is = refl
