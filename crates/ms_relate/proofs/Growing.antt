-- More objects: what is known of values goes on holding.
use Rattle.std.proofs.Common.{◌≡◌, ℕ, suc, zero, ◌≤◌, ◌⊎◌, inl, inr, List, [], ◌∷◌, ◌++◌, Option, Some, length, replicate, refl, sym, ap, ◌∙◌, subst, arith}
use Rattle.std.specs.Prelude.{slice_get}
use Rattle.c_types.specs.Layout.{Table}
use Rattle.c_types.specs.Types.{Ty}
use Rattle.c_meaning.specs.Shapes.{width}
use Rattle.c_meaning.specs.Values.{Value}
use Rattle.ms_tagged.specs.Bytes.{Byte, Data, range}
use Rattle.ms_relate.specs.refinement.Homes.{Home, handle, handle_in, IsOf, is_number, is_null, is_invalid, is_pointer, is_named, is_no_function}
use Rattle.ms_relate.specs.refinement.Relation.{ArePieces, IsAt, Related, StandsAt}
use Rattle.c_meaning.specs.Objects.{Object}
use Rattle.ms_live.specs.declared.gaps.Live.{Live}
use Rattle.ms_segment.specs.Memory.{IsWithin, Memory, once_more}
use Rattle.std.proofs.lemmas.List.Elements.{All-nil}

-- ---- lists that grow

pub slice_get-push_old : {X : Type 0} (xs : List X) (y : X) (n : ℕ) (x : X) → slice_get xs n ≡ Some x → slice_get (xs ++ y ∷ []) n ≡ Some x
slice_get-push_old [] y n x at = absurd (cc)
slice_get-push_old (z ∷ zs) y zero x at = at
slice_get-push_old (z ∷ zs) y (suc n) x at = slice_get-push_old zs y n x at

pub slice_get-push_new : {X : Type 0} (xs : List X) (y : X) → slice_get (xs ++ y ∷ []) (length xs) ≡ Some y
slice_get-push_new [] y = refl
slice_get-push_new (z ∷ zs) y = slice_get-push_new zs y

pub push_cases : {X : Type 0} (xs : List X) (y : X) (n : ℕ) (x : X) → slice_get (xs ++ y ∷ []) n ≡ Some x → (slice_get xs n ≡ Some x) ⊎ ((n ≡ length xs) × (y ≡ x))
push_cases [] y zero x at = inr (refl, cc)
push_cases [] y (suc n) x at = absurd (cc)
push_cases (z ∷ zs) y zero x at = inl at
push_cases (z ∷ zs) y (suc n) x at =
    elim (push_cases zs y n x at) [ inl old ↦ inl old | inr new ↦ inr (ap suc new.0, new.1) ]

-- ---- values

-- each home stays
abbrev pub Extends : List Home → List Home → Type 0
Extends old new = (n : ℕ) (h : Home) → slice_get old n ≡ Some h → slice_get new n ≡ Some h

module _ (table : Table) (places : Ty → ℕ → ℕ) (old new : List Home) (more : Extends old new) where
  pub is_of_still : (t : Ty) (v : Value) → IsOf table places old t v → IsOf table places new t v
  is_of_still t v (is_number in_range) = is_number in_range
  is_of_still t v (is_null f) = is_null f
  is_of_still t v (is_invalid f) = is_invalid f
  is_of_still t v (is_pointer {p} h s f at span same near) = is_pointer h s f (more p.object h at) span same near
  is_of_still t v (is_named f small) = is_named f small
  is_of_still t v (is_no_function f) = is_no_function f

  pub handle_still : (t : Ty) (v : Value) → IsOf table places old t v → handle new v ≡ handle old v
  handle_still t v (is_number in_range) = refl
  handle_still t v (is_null f) = refl
  handle_still t v (is_invalid f) = refl
  handle_still t v (is_pointer {p} h s f at span same near) = ap (λ (o : Option Home). handle_in o p) (more p.object h at ∙ sym at)
  handle_still t v (is_named f small) = refl
  handle_still t v (is_no_function f) = refl

  pub stands_grown : (t : Ty) (v : Value) (bytes : List Byte) (a : ℕ) → StandsAt table places old bytes a t v → StandsAt table places new bytes a t v
  stands_grown t v bytes a stands =
      record {
        is_of = is_of_still t v stands.is_of;
        aligned = stands.aligned;
        spelled = record { data' = stands.spelled.data'; pieces' = λ has. subst (ArePieces (range a (width t) bytes)) (sym (handle_still t v stands.is_of)) (stands.spelled.pieces' has) };
      }

-- ---- accesses are no change

module _ (table : Table) (places : Ty → ℕ → ℕ) (homes : List Home) where
  at_once_more : (m : Memory) (o : Object) (h : Home) → IsAt table places homes m o h → IsAt table places homes (once_more m) o h
  at_once_more m o h here = record { shape = here.shape; count = here.count; fits = here.fits; state = here.state }

  pub related_once_more : (objects : List Object) (m : Memory) → Related table places homes objects m → Related table places homes objects (once_more m)
  related_once_more objects m related =
      record {
        long = related.long;
        each = λ n o h at at'. at_once_more m o h (related.each n o h at at');
        rising = related.rising;
        made = related.made;
        placed = record { within = related.placed.within; apart = related.placed.apart; ids = related.placed.ids };
      }

-- no objects, and no segments
pub related_new : (table : Table) (places : Ty → ℕ → ℕ) (capacity : ℕ) → Related table places [] [] (record { bytes = replicate capacity (Data 0); live = []; made = 0; accesses = 0 })
related_new table places capacity =
    record {
      long = refl;
      each = λ n o h at at'. absurd (cc);
      rising = λ i j g h less at at'. absurd (cc);
      made = λ n h at. absurd (cc);
      placed = record { within = All-nil (IsWithin (length (replicate capacity (Data 0)))); apart = λ i j d first below. absurd (omega (arith, below)); ids = All-nil (λ (s : Live). (1 ≤ s.id) × (s.id ≤ 0)) };
    }
