-- Variables at file scope and string literals of a well-typed unit, and how its module's globals begin: all zero or null.
use Rattle.std.proofs.Common.{◌≡◌, ℕ, zero, suc, ◌+◌, ◌<◌, ⊎_elim, List, [], ◌∷◌, ◌++◌, length, map, Bool, true, false, Some, refl, sym, ap, ◌∙◌, arith, subst}
use Rattle.std.specs.Prelude.{get_or, slice_get, ◌||◌}
use Rattle.std.proofs.lemmas.Bool.{cases_lt}
use Rattle.std.proofs.lemmas.Option.{slice_get_within}
use Rattle.ms_linear.specs.declared.global.GlobalInst.{GlobalInst}
use Rattle.ms_linear.specs.declared.value.Value.{Value as Word}
use Rattle.ms_linear.specs.Values.{default_of}
use Rattle.ms_module.specs.declared.module.Global.{Global as GlobalEntry}
use Rattle.c_types.specs.Types.{Ty, void, integer, pointer, struct, array, function}
use Rattle.c_typed.specs.declared.ops.Variable.TheVariants.{Global}
use Rattle.c_typed.specs.Tree.{Typed}
use Rattle.c_typed.specs.Units.{IsWellTyped, literals_in, numbers}
use Rattle.c_typed.specs.refinement.Expressions.{is_visible}
use Rattle.c_typed.specs.refinement.Types.{IsObject}
use Rattle.c_meaning.specs.Units.{is_global_object}
use Rattle.c_meaning.specs.Values.{zero_value}
use Rattle.c_meaning.specs.World.{Held, plain}
use Rattle.c_code.specs.Functions.{held_as}
use Rattle.c_code.specs.Modules.{globals_from, literal_globals}
use Rattle.c_code.specs.Targets.{Target}
use Rattle.ms_relate.specs.refinement.Homes.{Home}
use Rattle.c_runs.specs.Placed.{begun_as, first_globals}
use Rattle.c_runs.proofs.Held.{AreHeld, IsHeld, held_word, some_is, words}
use Rattle.c_runs.proofs.Files.{AreGlobals, Filed, Reached, global_of}
use Rattle.c_runs.proofs.Globals.{NamesOf, all_reached, file_slots, files_from}
use Rattle.c_runs.proofs.Ending.{visible_left, visible_right}
use Rattle.c_runs.proofs.Makes.{get_is}
use Rattle.c_runs.proofs.Numbers.{same}
use Rattle.c_runs.proofs.Scalars.{IsData, IsVariable, zero_held, zero_word}

-- ---- names

pub seen_below : (k x : ℕ) → x < k → is_visible (numbers k) x ≡ true
seen_below zero x lt = absurd (omega (arith, lt))
seen_below (suc k) x lt = ⊎_elim
    (λ l. visible_left (numbers k) (k ∷ []) x (seen_below k x l))
    (λ g. visible_right (numbers k) (k ∷ []) x (ap (λ (b : Bool). b || false) (same k x (omega (arith, lt, g)))))
    (cases_lt x k)

module _ (u : Typed) where
  pub file_kind : (n : ℕ) (ts : List Ty) (x : ℕ) (t : Ty) → slice_get ts x ≡ Some t → slice_get (files_from u n ts) x ≡ Some (t, is_global_object u (n + x) t)
  file_kind n [] x t e = absurd cc
  file_kind n (s ∷ ts) zero t e =
      let z : n ≡ n + 0 = omega arith in ap (λ (q : Ty). Some (q, is_global_object u n q)) (some_is s t e) ∙ ap (λ (k : ℕ). Some (t, is_global_object u k t)) z
  file_kind n (s ∷ ts) (suc x) t e = let z : suc n + x ≡ n + suc x = omega arith in file_kind (suc n) ts x t e ∙ ap (λ (k : ℕ). Some (t, is_global_object u k t)) z

  pub files_long : (n : ℕ) (ts : List Ty) → length (files_from u n ts) ≡ length ts
  files_long n [] = refl
  files_long n (t ∷ ts) = ap suc (files_long (suc n) ts)

  -- a variable that is no object is of one value
  global_data : (x : ℕ) (t : Ty) → IsVariable t → is_global_object u x t ≡ false → IsData t
  global_data x (integer v) i e = tt
  global_data x (pointer t) i e = i
  global_data x (array t k) i e = absurd cc
  global_data x (struct k) i e = absurd cc
  global_data x void i e = absurd i
  global_data x (function r ps) i e = absurd i

  module _ (well : IsWellTyped u) (types_are : (x : ℕ) (t : Ty) → slice_get u.globals x ≡ Some t → IsVariable t) where
    pub files_data : (x : ℕ) (t : Ty) → slice_get u.globals x ≡ Some t → is_global_object u x t ≡ false → IsData t
    files_data x t e q = global_data x t (types_are x t e) q

    pub names_of : (tg : Target) → tg.globals ≡ length u.globals → ((x : ℕ) → tg.is_object (Global x) ≡ is_global_object u x (get_or u.globals x void))
        → ((x : ℕ) (t : Ty) → slice_get u.globals x ≡ Some t → IsObject u.structs t) → NamesOf u.structs (file_slots u) (all_reached u) tg u.globals (literals_in u.made)
    names_of tg behind object_is sized =
        let is : (x : ℕ) (t : Ty) → slice_get u.globals x ≡ Some t → tg.is_object (Global x) ≡ is_global_object u x t = λ x t e. object_is x ∙ ap (is_global_object u x) (get_is u.globals x t e) in
        record {
          kinds = λ x t e. let z : 0 + x ≡ x = omega arith in file_kind 0 u.globals x t e ∙ ap (λ (k : ℕ). Some (t, is_global_object u k t)) z ∙ ap (λ (b : Bool). Some (t, b)) (sym (is x t e));
          seen = λ x t e. ap (λ (ns : List ℕ). is_visible ns x) well.variables ∙ seen_below (length u.globals) x (slice_get_within u.globals x t e);
          sizes = λ x t e. (sized x t e).1;
          data_are = λ x t e q. files_data x t e (sym (is x t e) ∙ q);
          texts = omega arith;
          behind = behind ∙ sym (files_long 0 u.globals);
        }

    -- ---- the first values

    abbrev pub nothing_reached : Reached
    nothing_reached = record { named = []; texts = 0; sealed = 0 }

    abbrev pub first_held : List Ty → List Held
    first_held = map (λ t. plain (zero_value t))

    module _ (places : Ty → ℕ → ℕ) (hs : List Home) where
      -- the types from the n-th on
      abbrev IsRest : ℕ → List Ty → Type 0
      IsRest n ts = (i : ℕ) → slice_get ts i ≡ slice_get u.globals (n + i)

      rest_of : (n : ℕ) (t : Ty) (ts : List Ty) → IsRest n (t ∷ ts) → IsRest (suc n) ts
      rest_of n t ts h i = let z : n + suc i ≡ suc n + i = omega arith in h (suc i) ∙ ap (slice_get u.globals) z

      first_of : (n : ℕ) (t : Ty) (ts : List Ty) → IsRest n (t ∷ ts) → slice_get u.globals n ≡ Some t
      first_of n t ts h = let z : n ≡ n + 0 = omega arith in ap (slice_get u.globals) z ∙ sym (h 0)

      begins_held : (n : ℕ) (t : Ty) (b : Bool) → (b ≡ false → IsData t) → IsHeld u.structs places (t, b) hs (plain (zero_value t))
      begins_held n t true d = tt
      begins_held n t false d = zero_held u.structs places t (d refl) hs

      zeros_held : (n : ℕ) (ts : List Ty) → IsRest n ts → AreHeld u.structs places (files_from u n ts) hs (first_held ts)
      zeros_held n [] h = tt
      zeros_held n (t ∷ ts) h = (begins_held n t (is_global_object u n t) (λ q. files_data n t (first_of n t ts h) q), zeros_held (suc n) ts (rest_of n t ts h))

      zero_is : (t : Ty) (b : Bool) → (b ≡ false → IsData t) → default_of (held_as b t) ≡ held_word places (t, b) hs (plain (zero_value t))
      zero_is t true d = refl
      zero_is t false d = zero_word places t (d refl) hs

      zero_globals : (n : ℕ) (ts : List Ty) (more : List GlobalEntry) → IsRest n ts → (x : ℕ) (v : Word) → slice_get (words places (files_from u n ts) hs (first_held ts)) x ≡ Some v
          → slice_get (map begun_as (globals_from u n ts ++ more)) x ≡ Some (global_of v)
      zero_globals n [] more h x v e = absurd cc
      zero_globals n (t ∷ ts) more h zero v e =
          let at = first_of n t ts h in
          ap (λ (q : Ty). Some (global_of (default_of (held_as (is_global_object u n q) t)))) (get_is u.globals n t at)
          ∙ ap (λ (w : Word). Some (global_of w)) (zero_is t (is_global_object u n t) (λ q. files_data n t at q) ∙ some_is (held_word places (t, is_global_object u n t) hs (plain (zero_value t))) v e)
      zero_globals n (t ∷ ts) more h (suc x) v e = zero_globals (suc n) ts more (rest_of n t ts h) x v e

      begun_at : (es : List GlobalEntry) (x : ℕ) → x < length (map begun_as es) → (v : Word) × (slice_get (map begun_as es) x ≡ Some (global_of v))
      begun_at [] x lt = absurd (omega (arith, lt))
      begun_at (e ∷ es) zero lt = (default_of e.ty.ty, refl)
      begun_at (e ∷ es) (suc x) lt = begun_at es x (omega (arith, lt))

      all_begin : (gs : List GlobalInst) → gs ≡ first_globals u → AreGlobals (length gs) gs
      all_begin gs is = subst (λ (l : List GlobalInst). AreGlobals (length l) l) (sym is) (begun_at (globals_from u 0 u.globals ++ literal_globals u (literals_in u.made)))

      pub first_filed : (gs : List GlobalInst) → gs ≡ first_globals u → Filed u.structs places (file_slots u) nothing_reached (length gs) hs (first_held u.globals) [] gs
      first_filed gs is =
          let rest : IsRest 0 u.globals = λ i. let z : i ≡ 0 + i = omega arith in ap (slice_get u.globals) z in
          record {
            held = zeros_held 0 u.globals rest;
            named = λ x t seen e. absurd cc;
            long = refl;
            all_are = all_begin gs is;
            words_are = λ x v e. ap (λ (l : List GlobalInst). slice_get l x) is ∙ zero_globals 0 u.globals (literal_globals u (literals_in u.made)) rest x v e;
            as_many = refl;
            texts_are = λ k n e. absurd cc;
          }
