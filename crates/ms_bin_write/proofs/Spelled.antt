-- What is written is spelled so: numbers, vectors, sizes, names and types.
use Rattle.std.proofs.Common.{ℕ, ◌<◌, ◌≤◌, ◌^◌, Bool, true, false, List, [], ◌∷◌, ◌++◌, length, inl, inr, refl, sym, subst, arith, append_assoc}
use Rattle.std.specs.Prelude.{Option, Some, None}
use Rattle.std.specs.List.{flat_map}
use Rattle.std.proofs.lemmas.List.{length-append}
use Rattle.ms_bytes.specs.Repetition.{times}
use Rattle.ms_types.specs.declared.types.ValType.{ValType}
use Rattle.ms_types.specs.declared.types.ValType.TheVariants.{I32, I64, Handle}
use Rattle.ms_types.specs.declared.types.GlobalType.{GlobalType}
use Rattle.ms_leb.specs.Shortest.{shortest_unsigned}
use Rattle.ms_leb.proofs.Spelling.{unsigned_spelled}
use Rattle.ms_module.specs.Instructions.{value_rows}
use Rattle.ms_bin_grammar.specs.Faults.{Binary}
use Rattle.ms_bin_grammar.specs.Numbers.{number, vec}
use Rattle.ms_bin_grammar.specs.Sizes.{name, sized}
use Rattle.ms_bin_grammar.specs.Types.{block_type, block_types, func_type, global_type, limits, mutability, table_type, val_type, val_types}
use Rattle.ms_bin_write.specs.Parts.{number_bytes, sized_bytes, vec_bytes}
use Rattle.ms_bin_write.specs.Types.{block_type_code, func_type_bytes, global_type_bytes, limits_by, limits_bytes, mutability_code, table_bytes, value_bytes, value_code}
use Rattle.ms_flat.specs.refinement.Ranges.{AllFit, LimitsFit, NumberFitsIf}
use Rattle.ms_bin_write.specs.refinement.Ranges.{NameFits}
use Rattle.ms_bin_write.proofs.Counts.{count_few}

-- what is written is spelled so, unless it has too many bytes
abbrev pub Law : {A : Type 0} → Binary A → (A → List ℕ) → (A → Type 0) → Type 0
Law {A} f text fits = (x : A) → fits x → length (text x) < 2 ^ 32 → (t : List ℕ) → f.spelled (text x ++ t) x t

-- ---- parts of what has few bytes

pub front_few : (a b : List ℕ) → length (a ++ b) < 2 ^ 32 → length a < 2 ^ 32
front_few a b h = omega (arith, length-append a b)

pub back_few : (a b : List ℕ) → length (a ++ b) < 2 ^ 32 → length b < 2 ^ 32
back_few a b h = omega (arith, length-append a b)

-- ---- numbers and vectors

pub number_law : (n : ℕ) (t : List ℕ) → n < 2 ^ 32 → number.spelled (number_bytes n ++ t) n t
number_law n t lt = (shortest_unsigned n, unsigned_spelled 32 n lt, refl)

-- in front of something else
pub number_before : (n : ℕ) (b t : List ℕ) → n < 2 ^ 32 → number.spelled ((number_bytes n ++ b) ++ t) n (b ++ t)
number_before n b t lt = subst (λ (s : List ℕ). number.spelled s n (b ++ t)) (sym (append_assoc (number_bytes n) b t)) (number_law n (b ++ t) lt)

module _ {A : Type 0} (f : Binary A) (text : A → List ℕ) (fits : A → Type 0) (law : Law f text fits) where
  -- an item in front of something else
  pub before : (x : A) (b t : List ℕ) → fits x → length (text x) < 2 ^ 32 → f.spelled ((text x ++ b) ++ t) x (b ++ t)
  before x b t h small = subst (λ (s : List ℕ). f.spelled s x (b ++ t)) (sym (append_assoc (text x) b t)) (law x h small (b ++ t))

  pub times_law : (xs : List A) → AllFit fits xs → length (flat_map text xs) < 2 ^ 32 → (t : List ℕ) → (times (length xs) f).spelled (flat_map text xs ++ t) xs t
  unfolding times
  times_law [] h small t = (refl, refl)
  times_law (x ∷ xs) h small t = (
    x,
    flat_map text xs ++ t,
    before x (flat_map text xs) t h.0 (front_few (text x) (flat_map text xs) small),
    (xs, t, times_law xs h.1 (back_few (text x) (flat_map text xs) small) t, (refl, refl)),
  )

  pub vec_law : ((x : A) → fits x → 1 ≤ length (text x)) → Law (vec f) (vec_bytes text) (AllFit fits)
  unfolding vec vec_bytes
  vec_law some xs h small t =
      let few = back_few (number_bytes (length xs)) (flat_map text xs) small in
      let count = count_few text fits some xs h in
      (length xs, flat_map text xs ++ t, number_before (length xs) (flat_map text xs) t (omega arith), times_law xs h few t)

-- ---- sizes

pub sized_law : {A : Type 0} (f : Binary A) (content : List ℕ) (x : A) → length content < 2 ^ 32 → f.spelled content x [] → (t : List ℕ) → (sized f).spelled (sized_bytes content ++ t) x t
unfolding sized_bytes
sized_law f content x lt h t = (content, number_before (length content) content t lt, h)

pub name_law : Law name sized_bytes NameFits
unfolding sized_bytes
name_law x h small t =
    let few = back_few (number_bytes (length x)) x small in
    (length x, x ++ t, number_before (length x) x t few, ((refl, refl), h))

-- ---- types

pub value_law : (ty : ValType) (t : List ℕ) → val_type.spelled (value_code ty ∷ t) ty t
unfolding val_type val_types value_rows value_code
value_law I32 t = (0x7F, t, refl, (refl, refl))
value_law I64 t = (0x7E, t, refl, (refl, refl))
value_law Handle t = (0x58, t, refl, (refl, refl))

pub block_type_law : (ty : Option ValType) (t : List ℕ) → block_type.spelled (block_type_code ty ∷ t) ty t
unfolding block_type block_types value_rows value_code
block_type_law None t = (0x40, t, refl, inl (refl, (refl, refl)))
block_type_law (Some I32) t = (0x7F, t, refl, inr ((λ e. omega arith), (refl, refl)))
block_type_law (Some I64) t = (0x7E, t, refl, inr ((λ e. omega arith), (refl, refl)))
block_type_law (Some Handle) t = (0x58, t, refl, inr ((λ e. omega arith), (refl, refl)))

abbrev pub Anything : {A : Type 0} → A → Type 0
Anything x = Unit {0}

values_law : Law (vec val_type) (vec_bytes value_bytes) (AllFit Anything)
values_law = vec_law val_type value_bytes Anything (λ ty h small t. value_law ty t) (λ ty h. omega arith)

pub all_anything : {A : Type 0} (xs : List A) → AllFit Anything xs
all_anything [] = tt
all_anything (x ∷ xs) = (tt, all_anything xs)

pub func_type_law : Law func_type func_type_bytes Anything
unfolding func_type
func_type_law ft h small t =
    let params = vec_bytes value_bytes ft.params in
    let results = vec_bytes value_bytes ft.results in
    let few : length (params ++ results) < 2 ^ 32 = omega arith in (
      tt,
      (params ++ results) ++ t,
      refl,
      (
        ft.params,
        results ++ t,
        before (vec val_type) (vec_bytes value_bytes) (AllFit Anything) values_law ft.params results t (all_anything ft.params) (front_few params results few),
        (ft.results, t, values_law ft.results (all_anything ft.results) (back_few params results few) t, (refl, refl)),
      ),
    )

limits_by_law : (min : ℕ) (max : Option ℕ) → min < 2 ^ 32 → NumberFitsIf max → (t : List ℕ) → limits.spelled (limits_by min max ++ t) (record { min = min; max = max }) t
unfolding limits
limits_by_law min None a b t = (0x00, number_bytes min ++ t, refl, inl (refl, (min, t, number_law min t a, (refl, refl))))
limits_by_law min (Some max) a b t = (
  0x01,
  (number_bytes min ++ number_bytes max) ++ t,
  refl,
  inr ((λ e. omega arith), inl (refl, (min, number_bytes max ++ t, number_before min (number_bytes max) t a, (max, t, number_law max t b, (refl, refl))))),
)

pub limits_law : Law limits limits_bytes LimitsFit
limits_law l h small t = limits_by_law l.min l.max h.0 h.1 t

pub table_law : Law table_type table_bytes LimitsFit
unfolding table_type
table_law l h small t = (tt, limits_bytes l ++ t, refl, limits_by_law l.min l.max h.0 h.1 t)

mutability_law : (b : Bool) (t : List ℕ) → mutability.spelled (mutability_code b ∷ t) b t
unfolding mutability
mutability_law false t = (0x00, t, refl, inl (refl, (refl, refl)))
mutability_law true t = (0x01, t, refl, inr ((λ e. omega arith), inl (refl, (refl, refl))))

pub global_type_law : (g : GlobalType) (t : List ℕ) → global_type.spelled (global_type_bytes g ++ t) g t
unfolding global_type
global_type_law g t = (g.ty, mutability_code g.mutable ∷ t, value_law g.ty (mutability_code g.mutable ∷ t), (g.mutable, t, mutability_law g.mutable t, (refl, refl)))
