-- The flags of variables (c_place/specs/Flags.antt) say what is an object in a body, and before `main`.
use Rattle.std.proofs.Common.{◌≡◌, ◌∙◌, ℕ, zero, suc, ◌+◌, ◌<◌, ◌≤◌, ◌++◌, ◌||◌, Bool, false, List, [], ◌∷◌, Some, get_or, length, map, slice_get, take, if◌then◌else◌, refl, sym, ap, arith}
use Rattle.std.specs.List.{list_any}
use Rattle.std.proofs.lemmas.List.{map-append, take_more}
use Rattle.std.proofs.lemmas.Option.{slice_get-get_or}
use Rattle.c_types.specs.Types.{Ty, void}
use Rattle.c_typed.specs.Objects.{is_object}
use Rattle.c_typed.specs.Tree.{Stmt, Typed}
use Rattle.c_typed.specs.declared.ops.Variable.{Variable}
use Rattle.c_typed.specs.declared.ops.Variable.TheVariants.{Local}
use Rattle.c_meaning.specs.Units.{is_global_object}
use Rattle.c_place.specs.refinement.Flags.{globals_from, slots_from}
use Rattle.c_typed.specs.Units.{numbers}
use Rattle.c_code.specs.Modules.{first_of, is_object_in, no_slots}
use Rattle.c_emit.specs.refinement.Sites.{AreFlags}

of_slot : (s : Stmt) (k : ℕ) (ts : List Ty) (n m : ℕ) (b : Bool) → m ≡ k + n → slice_get (slots_from s k ts) n ≡ Some b → b ≡ is_object s m (get_or ts n void)
of_slot s k [] n m b at e = absurd cc
of_slot s k (t ∷ ts) zero m b at e =
    let here : k ≡ m = omega (arith, at) in
    let is : is_object s k t ≡ b = cc in
    sym is ∙ ap (λ (i : ℕ). is_object s i t) here
of_slot s k (t ∷ ts) (suc n) m b at e = of_slot s (suc k) ts n m b (omega (arith, at)) e

of_global : (u : Typed) (k : ℕ) (ts : List Ty) (n m : ℕ) (b : Bool) → m ≡ k + n → slice_get (globals_from u k ts) n ≡ Some b → b ≡ is_global_object u m (get_or ts n void)
of_global u k [] n m b at e = absurd cc
of_global u k (t ∷ ts) zero m b at e =
    let here : k ≡ m = omega (arith, at) in
    let is : is_global_object u k t ≡ b = cc in
    sym is ∙ ap (λ (i : ℕ). is_global_object u i t) here
of_global u k (t ∷ ts) (suc n) m b at e = of_global u (suc k) ts n m b (omega (arith, at)) e

-- in a body
pub flags_of_body : (u : Typed) (s : Stmt) (slots : List Ty) (ls gs : List Bool) → ls ≡ slots_from s 0 slots → gs ≡ globals_from u 0 u.globals
    → AreFlags (is_object_in u s slots) ls gs
flags_of_body u s slots ls gs el eg = record {
  local = λ n b e. of_slot s 0 slots n n b (omega arith) (sym (ap (λ (bs : List Bool). slice_get bs n) el) ∙ e);
  global = λ n b e. of_global u 0 u.globals n n b (omega arith) (sym (ap (λ (bs : List Bool). slice_get bs n) eg) ∙ e);
}

-- before `main`
pub flags_at_start : (u : Typed) (gs : List Bool) → gs ≡ globals_from u 0 u.globals → AreFlags (no_slots u) [] gs
flags_at_start u gs eg = record {
  local = λ n b e. absurd cc;
  global = λ n b e. of_global u 0 u.globals n n b (omega arith) (sym (ap (λ (bs : List Bool). slice_get bs n) eg) ∙ e);
}

-- ---- the first so many slots

first_flags : (p : Variable → Bool) (ls gs : List Bool) (k : ℕ) → k ≤ length ls → AreFlags p ls gs → take k ls ≡ map (λ n. p (Local n)) (numbers k)
first_flags p ls gs zero le h = refl
first_flags p ls gs (suc k) le h =
    let lt : k < length ls = omega (arith, le) in
    let here : get_or ls k false ≡ p (Local k) = h.local k (get_or ls k false) (slice_get-get_or ls k false lt) in
    let next : suc k ≡ k + 1 = omega arith in
    let one_more : take (suc k) ls ≡ take (k + 1) ls = ap (λ (n : ℕ). take n ls) next in
    one_more ∙ take_more ls k false lt
    ∙ ap (λ (bs : List Bool). bs ++ get_or ls k false ∷ []) (first_flags p ls gs k (omega (arith, le)) h)
    ∙ ap (λ (b : Bool). map (λ n. p (Local n)) (numbers k) ++ b ∷ []) here
    ∙ sym (map-append (λ n. p (Local n)) (numbers k) (k ∷ []))

any_of_map : {A : Type 0} (f : A → Bool) (xs : List A) → list_any (λ b. b) (map f xs) ≡ list_any f xs
any_of_map f [] = refl
any_of_map f (x ∷ xs) = ap (λ (b : Bool). f x || b) (any_of_map f xs)

pub first_is : (u : Typed) (p : Variable → Bool) (ls gs : List Bool) (k : ℕ) (b : Bool) → k ≤ length ls → AreFlags p ls gs → b ≡ list_any (λ x. x) (take k ls)
    → first_of u p k ≡ (if b then k else 0)
first_is u p ls gs k b le h e =
    ap (λ (x : Bool). if x then k else 0)
    (sym (e ∙ ap (λ (bs : List Bool). list_any (λ x. x) bs) (first_flags p ls gs k le h) ∙ any_of_map (λ n. p (Local n)) (numbers k)))
