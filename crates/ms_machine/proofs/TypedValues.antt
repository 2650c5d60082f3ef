-- Values of known types, and elements of lists by their indices.
use Rattle.std.proofs.Common.{◌≡◌, ℕ, zero, suc, ◌<◌, List, [], ◌∷◌, ◌++◌, All, length, map, reverse, drop, take, slice_get, slice_set, Some, refl, sym, ap, ◌∙◌, subst, arith}
use Rattle.std.proofs.lemmas.List.{length-map, map-append, reverse-append}
use Rattle.std.proofs.lemmas.Option.{get_or_from_slice_get, slice_get_within}
use Rattle.ms_handle.specs.declared.handle.Handle.{Handle as H}
use Rattle.ms_linear.specs.Values.{default_of, type_of}
use Rattle.ms_linear.specs.declared.value.Value.{Value}
use Rattle.ms_linear.specs.declared.value.Value.TheVariants as values
use Rattle.ms_types.specs.declared.types.ValType.{ValType}
use Rattle.ms_types.specs.declared.types.ValType.TheVariants.{I32, I64, Handle}
use Rattle.ms_machine.specs.Typing.{types_of}

-- ---- the topmost value

pub i32_top : (vs : List Value) (ts : List ValType) → types_of vs ≡ I32 ∷ ts → (n : ℕ) × (rest : List Value) × (vs ≡ values.I32 n ∷ rest) × (types_of rest ≡ ts)
i32_top [] ts e = cc
i32_top (values.I32 n ∷ vs) ts e = (n, vs, refl, cc)
i32_top (values.I64 n ∷ vs) ts e = cc
i32_top (values.Handle h ∷ vs) ts e = cc

pub i64_top : (vs : List Value) (ts : List ValType) → types_of vs ≡ I64 ∷ ts → (n : ℕ) × (rest : List Value) × (vs ≡ values.I64 n ∷ rest) × (types_of rest ≡ ts)
i64_top [] ts e = cc
i64_top (values.I32 n ∷ vs) ts e = cc
i64_top (values.I64 n ∷ vs) ts e = (n, vs, refl, cc)
i64_top (values.Handle h ∷ vs) ts e = cc

pub handle_top : (vs : List Value) (ts : List ValType) → types_of vs ≡ Handle ∷ ts → (h : H) × (rest : List Value) × (vs ≡ values.Handle h ∷ rest) × (types_of rest ≡ ts)
handle_top [] ts e = cc
handle_top (values.I32 n ∷ vs) ts e = cc
handle_top (values.I64 n ∷ vs) ts e = cc
handle_top (values.Handle h ∷ vs) ts e = (h, vs, refl, cc)

pub value_top : (vs : List Value) (t : ValType) (ts : List ValType) → types_of vs ≡ t ∷ ts → (v : Value) × (rest : List Value) × (vs ≡ v ∷ rest) × (type_of v ≡ t) × (types_of rest ≡ ts)
value_top [] t ts e = cc
value_top (v ∷ vs) t ts e = (v, vs, refl, cc, cc)

pub height : (vs : List Value) (ts : List ValType) → types_of vs ≡ ts → length vs ≡ length ts
height vs ts e = sym (length-map vs type_of) ∙ ap length e

-- ---- elements by their indices

pub get_mapped : {A B : Type 0} (g : A → B) (xs : List A) (x : ℕ) (y : B) → slice_get (map g xs) x ≡ Some y → (a : A) × (slice_get xs x ≡ Some a) × (g a ≡ y)
get_mapped g [] x y e = cc
get_mapped g (a ∷ xs) zero y e = (a, refl, cc)
get_mapped g (a ∷ xs) (suc x) y e = get_mapped g xs x y e

pub set_mapped : {A B : Type 0} (g : A → B) (xs : List A) (x : ℕ) (a : A) → slice_get (map g xs) x ≡ Some (g a) → map g (slice_set xs x a) ≡ map g xs
set_mapped g [] x a e = cc
set_mapped g (y ∷ xs) zero a e = let s : g y ≡ g a = cc in ap (λ t. t ∷ map g xs) (sym s)
set_mapped g (y ∷ xs) (suc x) a e = ap (λ l. g y ∷ l) (set_mapped g xs x a e)

pub get_within : {A : Type 0} (xs : List A) (x : ℕ) → x < length xs → (a : A) × (slice_get xs x ≡ Some a)
get_within [] x lt = absurd (omega (arith, lt))
get_within (a ∷ xs) zero lt = (a, refl)
get_within (a ∷ xs) (suc x) lt = get_within xs x (omega (arith, lt))

pub all_at : {A : Type 0} (P : A → Type 0) (xs : List A) (x : ℕ) (a : A) → All P xs → slice_get xs x ≡ Some a → P a
all_at P xs x a all e = subst P (get_or_from_slice_get xs x a a e) (all x a (slice_get_within xs x a e))

-- ---- reversed lists, and the values that locals have at first

pub types_of-reverse : (vs : List Value) → types_of (reverse vs) ≡ reverse (types_of vs)
types_of-reverse [] = refl
types_of-reverse (v ∷ vs) =
    ap types_of (reverse-append (v ∷ []) vs) ∙ map-append type_of (reverse vs) (v ∷ []) ∙ ap (λ l. l ++ type_of v ∷ []) (types_of-reverse vs) ∙ sym (reverse-append (type_of v ∷ []) (types_of vs))

pub defaults_typed : (ts : List ValType) → types_of (map default_of ts) ≡ ts
defaults_typed [] = refl
defaults_typed (I32 ∷ ts) = ap (λ l. I32 ∷ l) (defaults_typed ts)
defaults_typed (I64 ∷ ts) = ap (λ l. I64 ∷ l) (defaults_typed ts)
defaults_typed (Handle ∷ ts) = ap (λ l. Handle ∷ l) (defaults_typed ts)

pub drop_seam : (n : ℕ) (xs ys : List ValType) → n ≡ length xs → drop n (xs ++ ys) ≡ ys
drop_seam n xs ys e = ap (λ k. drop k (xs ++ ys)) e ∙ seam xs where
  seam : (xs : List ValType) → drop (length xs) (xs ++ ys) ≡ ys
  seam [] = refl
  seam (x ∷ xs) = seam xs

pub take_seam : (xs ys : List ValType) → take (length xs) (xs ++ ys) ≡ xs
take_seam [] ys = refl
take_seam (x ∷ xs) ys = ap (λ l. x ∷ l) (take_seam xs ys)
