-- Code that a loop adds, item by item.
use Rattle.std.proofs.Common.{◌≡◌, ◌∙◌, ◌+◌, ◌<◌, ◌≤◌, ℕ, ℤ, suc, List, [], ◌∷◌, length, get_or, drop, drop-cons, add-one, subst, sym, ap, refl}
use Rattle.std.proofs.lemmas.List.{drop_all}
use Rattle.ms_module.specs.Building.{State}
use Rattle.ms_module.specs.declared.numeric.Width.{Width}
use Rattle.ms_module.specs.declared.numeric.Width.TheVariants.{W32, W64}
use Rattle.ms_module.specs.Numbered.{IsPlain}
use Rattle.ms_emit.proofs.Adding.{adds_nothing, adds_then}
use Rattle.ms_emit.specs.Codes.{Code, no_code, ◌⨾◌}
use Rattle.ms_emit.specs.refinement.Parts.{Adds}
use Rattle.c_types.specs.declared.types.Scalar.{Scalar}
use Rattle.c_types.specs.declared.types.Scalar.TheVariants as scalars
use Rattle.c_code.specs.Operations.{constant, width_of, zero_of}

-- ---- instructions that are no blocks

pub constant_is_plain : (w : Width) (z : ℤ) → IsPlain (constant w z)
constant_is_plain W32 z = tt
constant_is_plain W64 z = tt

pub zero_is_plain : (s : Scalar) → IsPlain (zero_of s)
zero_is_plain (scalars.Int t) = constant_is_plain (width_of t) _
zero_is_plain scalars.Pointer = tt
zero_is_plain scalars.Function = tt

-- ---- loops

-- whatever adds the rest from here adds the whole from the start
pub record IsLeft (start now : State) (rest whole : Code) : Type 0 where
  pub to_end : (end : State) → Adds now end rest → Adds start end whole

pub less_is_left : (s0 s1 s2 : State) (a b whole : Code) → IsLeft s0 s1 (a ⨾ b) whole → Adds s1 s2 a → IsLeft s0 s2 b whole
less_is_left s0 s1 s2 a b whole left h = record { to_end = λ end k. left.to_end end (adds_then s1 s2 end a b h k) }

pub none_is_left : (s0 s1 : State) (whole : Code) → IsLeft s0 s1 no_code whole → Adds s0 s1 whole
none_is_left s0 s1 whole left = left.to_end s1 (adds_nothing s1)

-- the item of this place, and what stands behind it
pub item_at : {A : Type 0} (xs : List A) (i k : ℕ) (x : A) → i < length xs → x ≡ get_or xs i x → k ≡ i + 1 → drop i xs ≡ x ∷ drop k xs
item_at xs i k x l e next = drop-cons xs i x l ∙ ap (λ y. y ∷ drop (suc i) xs) (sym e) ∙ rw (next, add-one) refl

-- a list's code is that of its first item, and then that of the others
module _ {A : Type 0} (code : List A → Code) (item : A → Code) (more : (x : A) (xs : List A) → code (x ∷ xs) ≡ item x ⨾ code xs) where
  pub item_is_added : (s0 s1 s2 : State) (xs : List A) (i k : ℕ) (x : A) (whole : Code) → i < length xs → x ≡ get_or xs i x → k ≡ i + 1
      → IsLeft s0 s1 (code (drop i xs)) whole → Adds s1 s2 (item x) → IsLeft s0 s2 (code (drop k xs)) whole
  item_is_added s0 s1 s2 xs i k x whole l e next left h =
      less_is_left s0 s1 s2 (item x) (code (drop k xs)) whole
      (subst (λ (c : Code). IsLeft s0 s1 c whole) (ap code (item_at xs i k x l e next) ∙ more x (drop k xs)) left) h

pub items_are_added : {A : Type 0} (code : List A → Code) → code [] ≡ no_code → (s0 s1 : State) (xs : List A) (i : ℕ) (whole : Code) → length xs ≤ i
    → IsLeft s0 s1 (code (drop i xs)) whole → Adds s0 s1 whole
items_are_added code none s0 s1 xs i whole l left =
    none_is_left s0 s1 whole (subst (λ (c : Code). IsLeft s0 s1 c whole) (ap code (drop_all i xs l) ∙ none) left)
