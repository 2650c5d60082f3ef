-- Which functions of a unit are defined, imported and values, as code has it, and the tables that are made of these.
use Rattle.std.proofs.Common.{◌≡◌, ◌∙◌, ℕ, suc, ◌+◌, ◌<◌, List, [], ◌∷◌, ◌++◌, length, map, Bool, true, false, Option, Some, None, get_or, replicate, refl, sym, ap, arith}
use Rattle.std.specs.Prelude.{◌&&◌, not, filter, is_some, slice_get, option_map}
use Rattle.std.specs.List.{list_any}
use Rattle.std.proofs.lemmas.List.{length-map}
use Rattle.std.proofs.lemmas.Option.{slice_get-map, slice_get_read}
use Rattle.c_typed.specs.declared.tree.Stmt.{Stmt}
use Rattle.c_typed.specs.declared.unit.Function.{Function}
use Rattle.c_typed.specs.declared.unit.TypedUnit.{TypedUnit}
use Rattle.c_typed.specs.refinement.Views.{body_of, function_of, typed_of}
use Rattle.c_typed.specs.Units.{numbers}
use Rattle.c_code.specs.Modules.{defined, imported, is_call_of, is_defined, is_defined_at, is_name_of, named}
use Rattle.c_code.specs.Uses.{uses}
use Rattle.c_emit.proofs.Ranks.{both_flagged, flagged, found_over, index_over, long, passed, picked}
use Rattle.c_emit.specs.declared.tables.Tables.{Tables}
use Rattle.c_emit.specs.declared.uses.Uses.{Uses}
use Rattle.c_emit.specs.refinement.Placed.{placed}
use Rattle.c_emit.specs.refinement.Sites.{AreTables}
use Rattle.c_emit.specs.refinement.Used.{AreUses}

same_body : (o : Option Stmt) → is_some (body_of o) ≡ is_some o
same_body None = refl
same_body (Some s) = refl

module _ (fs : List Function) where
  abbrev pub Has : ℕ → Bool
  Has n = is_defined (slice_get (map function_of fs) n)

  has : (i : ℕ) (f : Function) → i < length fs → f ≡ get_or fs i f → Has i ≡ is_some f.body
  has i f lt e =
      ap (λ o. is_defined o) (slice_get-map function_of fs i ∙ ap (option_map function_of) (slice_get_read fs (length fs) i f refl lt e)) ∙ same_body f.body

  pub picked_function : (i : ℕ) (f : Function) (xs : List ℕ) → i < length fs → f ≡ get_or fs i f → is_some f.body ≡ true
      → xs ≡ filter Has (numbers i) → xs ++ i ∷ [] ≡ filter Has (numbers (i + 1))
  picked_function i f xs lt e h so = picked Has i xs so (has i f lt e ∙ h)

  pub passed_function : (i : ℕ) (f : Function) (xs : List ℕ) → i < length fs → f ≡ get_or fs i f → is_some f.body ≡ false
      → xs ≡ filter Has (numbers i) → xs ≡ filter Has (numbers (i + 1))
  passed_function i f xs lt e h so = passed Has i xs so (has i f lt e ∙ h)

  -- those that aren't defined, and whose flags are set
  module _ (used : List Bool) where
    abbrev Missing : ℕ → Bool
    Missing n = not (Has n) && get_or used n false

    lacks : (i : ℕ) (f : Function) → i < length fs → f ≡ get_or fs i f → Missing i ≡ (not (is_some f.body) && get_or used i false)
    lacks i f lt e = ap (λ (d : Bool). not d && get_or used i false) (has i f lt e)

    pub picked_import : (i : ℕ) (f : Function) (xs : List ℕ) → i < length fs → f ≡ get_or fs i f → (not (is_some f.body) && get_or used i false) ≡ true
        → xs ≡ filter Missing (numbers i) → xs ++ i ∷ [] ≡ filter Missing (numbers (i + 1))
    picked_import i f xs lt e h so = picked Missing i xs so (lacks i f lt e ∙ h)

    pub passed_import : (i : ℕ) (f : Function) (xs : List ℕ) → i < length fs → f ≡ get_or fs i f → (not (is_some f.body) && get_or used i false) ≡ false
        → xs ≡ filter Missing (numbers i) → xs ≡ filter Missing (numbers (i + 1))
    passed_import i f xs lt e h so = passed Missing i xs so (lacks i f lt e ∙ h)

-- ---- of a unit that uses this

module _ (u : TypedUnit) where
  abbrev Functions : List Function
  Functions = u.functions.items

  abbrev count : ℕ
  count = length (map function_of Functions)

  counted : length Functions ≡ count
  counted = sym (length-map Functions function_of)

  pub defined_is : filter (Has Functions) (numbers (length Functions)) ≡ defined (typed_of u)
  defined_is = ap (λ (n : ℕ). filter (Has Functions) (numbers n)) counted

  pub flags_fit : (x : Uses) → AreUses (typed_of u) x → length x.used.items ≡ length Functions
  flags_fit x h =
      ap (λ (l : List Bool). length l) h.used ∙ length-map (numbers count) (λ n. list_any (is_call_of n) (uses (typed_of u))) ∙ long count ∙ sym counted

  pub imported_is : (x : Uses) → AreUses (typed_of u) x
      → filter (λ n. not (Has Functions n) && get_or x.used.items n false) (numbers (length Functions)) ≡ imported (typed_of u)
  imported_is x h =
      both_flagged (λ n. not (Has Functions n)) (λ n. list_any (is_call_of n) (uses (typed_of u))) count (length Functions) x.used.items h.used counted

  pub named_is : (x : Uses) → AreUses (typed_of u) x
      → filter (λ n. get_or x.named.items n false) (numbers (length x.named.items)) ≡ named (typed_of u)
  named_is x h = flagged (λ n. list_any (is_name_of n) (uses (typed_of u))) count x.named.items h.named

  pub are_tables : (x : Uses) (t : Tables) → AreUses (typed_of u) x → t.imported.items ≡ imported (typed_of u) → t.defined.items ≡ defined (typed_of u)
      → t.named.items ≡ named (typed_of u)
      → t.index.items ≡ placed (placed (replicate (length Functions) 3) t.imported.items 3) t.defined.items (length t.imported.items + 3)
      → t.entry.items ≡ placed (replicate (length Functions) 1) t.named.items 1 → t.through ≡ x.through → t.first_through ≡ length Functions + 3
      → AreTables (typed_of u) t
  are_tables x t h is ds ns index entry through first = record {
    index = λ n i e.
        index_over (is_defined_at (typed_of u)) (λ k. not (is_defined_at (typed_of u) k) && list_any (is_call_of k) (uses (typed_of u))) count n 3 (length t.imported.items + 3) i
        (ap (λ (l : List ℕ). length l + 3) is ∙ (let z : length (imported (typed_of u)) + 3 ≡ 3 + length (imported (typed_of u)) = omega arith in z))
        (sym (ap (λ (l : List ℕ). slice_get l n) (index
        ∙ ap (λ (k : ℕ). placed (placed (replicate k 3) t.imported.items 3) t.defined.items (length t.imported.items + 3)) counted
        ∙ ap (λ (l : List ℕ). placed (placed (replicate count 3) l 3) t.defined.items (length t.imported.items + 3)) is
        ∙ ap (λ (l : List ℕ). placed (placed (replicate count 3) (imported (typed_of u)) 3) l (length t.imported.items + 3)) ds)) ∙ e);
    entry = λ n i e.
        found_over (λ k. list_any (is_name_of k) (uses (typed_of u))) count n 1 i
        (sym (ap (λ (l : List ℕ). slice_get l n) (entry ∙ ap (λ (k : ℕ). placed (replicate k 1) t.named.items 1) counted
        ∙ ap (λ (l : List ℕ). placed (replicate count 1) l 1) ns)) ∙ e)
        ∙ (let z : (k : ℕ) → 1 + k ≡ suc k = λ k. omega arith in z _);
    through = through ∙ h.through;
    first_through = first ∙ ap (λ (k : ℕ). k + 3) counted ∙ (let z : count + 3 ≡ 3 + count = omega arith in z);
  }
