-- Calls of defined functions do what is meant, by induction on the bound that stands above the fuel.
use Rattle.std.proofs.Common.{◌≡◌, ◌≢◌, ℕ, zero, suc, ◌+◌, ◌<◌, ◌≤◌, List, [], ◌∷◌, ◌++◌, length, length-append, map, drop, Bool, true, false, Option, Some, None, refl, sym, ap, ◌∙◌, arith, subst, append_assoc, T, eqb→eq}
use Rattle.std.specs.Prelude.{replicate, slice_get, ◌==◌, ◌||◌, if◌then◌else◌}
use Rattle.std.specs.List.{list_any}
use Rattle.std.proofs.lemmas.List.{length-map, length-replicate}
use Rattle.ms_types.specs.declared.types.ValType.{ValType}
use Rattle.ms_types.specs.declared.types.ValType.TheVariants.{I32}
use Rattle.ms_linear.specs.declared.value.Value.{Value as Word}
use Rattle.ms_linear.specs.Values.{default_of}
use Rattle.ms_machine.specs.Running.{AreBytes}
use Rattle.ms_machine.specs.Store.{number_of_instance}
use Rattle.ms_module.specs.declared.instr.Instr.{Instr}
use Rattle.ms_task.specs.Control.{exit_ended}
use Rattle.ms_task.specs.declared.func.FuncInst.{FuncInst}
use Rattle.ms_task.specs.Thread.{Activation, Frame, Item, Thread, depth_of, result_of, sequence}
use Rattle.c_types.specs.Layout.{IsLaidOut, IsSmall, Layout, layout_at}
use Rattle.c_types.specs.Types.{Ty, function, Tys, no_types, types, scalar_of}
use Rattle.c_typed.specs.declared.ops.Variable.{Variable}
use Rattle.c_typed.specs.declared.ops.Variable.TheVariants.{Local}
use Rattle.c_typed.specs.Objects.{is_object}
use Rattle.c_typed.specs.Tree.{Stmt, Function, Typed}
use Rattle.c_typed.specs.refinement.Expressions as well
use Rattle.c_typed.specs.refinement.Expressions.{is_visible}
use Rattle.c_typed.specs.Statements.{IsStatement, no_jumps}
use Rattle.c_typed.specs.Units.{context_of, list_of, literals_in, numbers}
use Rattle.c_meaning.specs.Values.{Value, zero_value}
use Rattle.c_meaning.specs.World.{plain, World, Result, gives, Does, after, ◌>>=◌, ◌>>◌, pure, known}
use Rattle.c_meaning.specs.Functions as meaning
use Rattle.c_meaning.specs.Functions.{back_to, calls_at, first_locals, given, if_shallow, make_param, make_params, numbers_from, of_defined, run_body, with_body}
use Rattle.c_meaning.specs.Statements.{Flow, leave, stmt}
use Rattle.ms_emit.specs.Codes.{Code, Coded, no_code, ◌⨾◌, inner, joined, size_of, total}
use Rattle.c_code.specs.Functions as code
use Rattle.c_code.specs.Functions.{body, held_as, locals, params_from, params_in, result, result_in, scratch_locals, slots_from}
use Rattle.c_code.specs.Modules.{index_of, target_of}
use Rattle.c_code.specs.Operations.{val_of}
use Rattle.c_runs.proofs.Small.{is_small}
use Rattle.std.specs.List.{All}
use Rattle.std.proofs.lemmas.List.Elements.{All-head, All-tail}
use Rattle.c_types.specs.Layout.{Table}
use Rattle.c_typed.specs.refinement.Types.{IsObject}
use Rattle.c_code.specs.Statements as scheme
use Rattle.c_code.specs.Statements.{at_body, freed, objects_in}
use Rattle.c_code.specs.Targets.{Target}
use Rattle.c_code.specs.Uses as uses
use Rattle.c_code.specs.Uses.{waits_stmt}
use Rattle.c_typing.proofs.Sound.{AreSoundNames}
use Rattle.c_runs.proofs.Entries.{IsTable, places_of}
use Rattle.c_runs.proofs.Goes as goes
use Rattle.c_runs.proofs.Goes.{Site, Mem, Runs, Goes, after_after, behind_goes, resize, spent, tells_nothing, trapped, unspent}
use Rattle.c_meaning.specs.Objects.{Object}
use Rattle.ms_relate.specs.refinement.Homes.{Home}
use Rattle.ms_relate.specs.refinement.Relation.{Related}
use Rattle.ms_relate.proofs.Growing.{Extends}
use Rattle.c_runs.proofs.Held.{AreHeld, IsHeld, Lasts, Slot, get_behind, held_word, some_is, words}
use Rattle.c_runs.proofs.Lasting.{lasts_same}
use Rattle.c_runs.proofs.Related as related
use Rattle.c_runs.proofs.Related.{AreOf, Env, FiledIn, HasAll, IsValue, Kept, Now, are_still, extends_same, extends_trans, frame_of, front, piled, piled_still, pushes, seeing}
use Rattle.c_runs.proofs.Ops.{at_work, same}
use Rattle.c_runs.proofs.Operations.{AtHome, Linked}
use Rattle.c_runs.proofs.Exprs.{AreScalars, CallsRun}
use Rattle.c_runs.proofs.Flows.{FlowRuns, IsAt}
use Rattle.c_runs.proofs.Globals.{NamesOf, all_reached, file_slots}
use Rattle.c_runs.proofs.Globals.{NamesOf, all_reached, file_slots}
use Rattle.c_runs.proofs.Makes.{get_is}
use Rattle.c_runs.proofs.Scalars.{IsData, IsVariable, plain_data, small_slot, variable_type, zero_held, zero_word}
use Rattle.c_runs.proofs.Stmts.{ArePlain, IsPlain, left_runs, neither, no_objects, no_off, out_none, stmt_runs}
use Rattle.c_runs.proofs.Bodies.{IsResult, at_top, body_runs}
use Rattle.c_runs.proofs.Entering.{arg_words, args_held, args_words, callee, first_apart, first_own, firsts, flat, length_us, others_are}
use Rattle.c_runs.proofs.Ready.{IsReady, in_stmt_of}

-- ---- slots that are integers, and no objects

pub slot_there : (ts : List Ty) (x : ℕ) → x < length ts → (t : Ty) × (slice_get ts x ≡ Some t)
slot_there [] x lt = absurd (omega (arith, lt))
slot_there (t ∷ ts) zero lt = (t, refl)
slot_there (t ∷ ts) (suc x) lt = slot_there ts x (omega (arith, lt))

none_append : (P : ℕ → Bool) (xs : List ℕ) (k : ℕ) → list_any P xs ≡ false → P k ≡ false → list_any P (xs ++ k ∷ []) ≡ false
none_append P [] k e f = ap (λ (b : Bool). b || false) f
none_append P (x ∷ xs) k e f = let q = neither (P x) (list_any P xs) e in ap (λ (b : Bool). b || list_any P (xs ++ k ∷ [])) q.0 ∙ none_append P xs k q.1 f

plain_append : (E : Env) (xs : List ℕ) (k : ℕ) → ArePlain E xs → IsPlain E k → ArePlain E (xs ++ k ∷ [])
plain_append E [] k h q = (q, tt)
plain_append E (x ∷ xs) k h q = (h.0, plain_append E xs k h.1 q)

seen_append : (xs : List ℕ) (k x : ℕ) → is_visible (xs ++ k ∷ []) x ≡ true → is_visible xs x ≡ false → k ≡ x
seen_append [] k x e un = by (k == x) refl e where
  by : (b : Bool) → (k == x) ≡ b → (b || false) ≡ true → k ≡ x
  by true q f = eqb→eq k x (subst T (sym q) tt)
  by false q f = absurd cc
seen_append (y ∷ ys) k x e un = by (y == x) e un (seen_append ys k x) where
  by : (b : Bool) → (b || is_visible (ys ++ k ∷ []) x) ≡ true → (b || is_visible ys x) ≡ false → (is_visible (ys ++ k ∷ []) x ≡ true → is_visible ys x ≡ false → k ≡ x) → k ≡ x
  by true f g h = absurd cc
  by false f g h = h f g

pub seen_number : (k x : ℕ) → is_visible (numbers k) x ≡ true → x < k
seen_number zero x e = absurd cc
seen_number (suc k) x e = by (is_visible (numbers k) x) refl (seen_number k x) where
  by : (b : Bool) → is_visible (numbers k) x ≡ b → (is_visible (numbers k) x ≡ true → x < k) → x < suc k
  by true q h = let lt = h q in omega (arith, lt)
  by false q h = let z = seen_append (numbers k) k x e q in omega (arith, z)

module _ (s : Stmt) (k : ℕ) where
  -- no object, where it is among the first k
  abbrev pub IsFlat : ℕ → Ty → Type 0
  IsFlat n t = n < k → is_object s n t ≡ false

  abbrev pub AreFlat : ℕ → List Ty → Type 0
  AreFlat n [] = Unit {0}
  AreFlat n (t ∷ ts) = IsFlat n t × AreFlat (suc n) ts

  pub flat_of : (n : ℕ) (ts : List Ty) → ((x : ℕ) (t : Ty) → slice_get ts x ≡ Some t → n + x < k → is_object s (n + x) t ≡ false) → AreFlat n ts
  flat_of n [] h = tt
  flat_of n (t ∷ ts) h =
      let z : n + 0 ≡ n = omega arith in (
        (λ lt. subst (λ (m : ℕ). is_object s m t ≡ false) z (h 0 t refl (omega (arith, lt)))),
        flat_of (suc n) ts (λ x u e lt. let q : n + suc x ≡ suc n + x = omega arith in subst (λ (m : ℕ). is_object s m u ≡ false) q (h (suc x) u e (omega (arith, lt)))),
      )

  pub flat_is : (n : ℕ) (ts : List Ty) → AreFlat n ts → (x : ℕ) (t : Ty) → slice_get ts x ≡ Some t → IsFlat (n + x) t
  flat_is n [] a x t e = absurd cc
  flat_is n (q ∷ ts) a zero t e = let z : n ≡ n + 0 = omega arith in subst (λ (k : ℕ). IsFlat k t) z (subst (λ (p : Ty). IsFlat n p) (some_is q t e) a.0)
  flat_is n (q ∷ ts) a (suc x) t e = let z : suc n + x ≡ n + suc x = omega arith in subst (λ (k : ℕ). IsFlat k t) z (flat_is (suc n) ts a.1 x t e)

  -- the parameters are no objects
  pub kinds_flat : (n : ℕ) (ps : Tys) (ts : List Ty) → n + length (list_of ps) ≤ k → AreFlat n (list_of ps ++ ts) → meaning.slots_from s n (list_of ps ++ ts) ≡ flat (list_of ps) ++ meaning.slots_from s (n + length (list_of ps)) ts
  kinds_flat n no_types ts le a = let z : n ≡ n + 0 = omega arith in ap (λ (m : ℕ). meaning.slots_from s m ts) z
  kinds_flat n (types t ps) ts le a =
      let z : suc n + length (list_of ps) ≡ n + suc (length (list_of ps)) = omega arith in
      ap (λ (b : Bool). (t, b) ∷ meaning.slots_from s (suc n) (list_of ps ++ ts)) (a.0 (omega (arith, le)))
      ∙ ap (λ (l : List Slot). (t, false) ∷ l) (kinds_flat (suc n) ps ts (omega (arith, le)) a.1 ∙ ap (λ (m : ℕ). flat (list_of ps) ++ meaning.slots_from s m ts) z)

  pub kind_is : (n : ℕ) (ts : List Ty) (x : ℕ) (t : Ty) → slice_get ts x ≡ Some t → slice_get (meaning.slots_from s n ts) x ≡ Some (t, is_object s (n + x) t)
  kind_is n [] x t e = absurd cc
  kind_is n (q ∷ ts) zero t e = let z : n ≡ n + 0 = omega arith in ap (λ (m : ℕ). Some (q, is_object s m q)) z ∙ ap (λ (p : Ty). Some (p, is_object s (n + 0) p)) (some_is q t e)
  kind_is n (q ∷ ts) (suc x) t e = let z : suc n + x ≡ n + suc x = omega arith in kind_is (suc n) ts x t e ∙ ap (λ (m : ℕ). Some (t, is_object s m t)) z

  pub slot_back : (n : ℕ) (ts : List Ty) (x : ℕ) (t : Ty) (b : Bool) → slice_get (meaning.slots_from s n ts) x ≡ Some (t, b) → slice_get ts x ≡ Some t
  slot_back n [] x t b e = absurd cc
  slot_back n (q ∷ ts) zero t b e = ap (λ (j : Slot). Some j.0) (some_is (q, is_object s n q) (t, b) e)
  slot_back n (q ∷ ts) (suc x) t b e = slot_back (suc n) ts x t b e

  pub as_many : (n : ℕ) (ts : List Ty) → length (meaning.slots_from s n ts) ≡ length ts
  as_many n [] = refl
  as_many n (t ∷ ts) = ap suc (as_many (suc n) ts)

-- ---- the types of slots

abbrev pub AreSlots : List Ty → Type 0
AreSlots [] = Unit {0}
AreSlots (t ∷ ts) = IsVariable t × AreSlots ts

pub slots_of : (table : Table) (ts : List Ty) → All (IsObject table) ts → AreSlots ts
slots_of table [] h = tt
slots_of table (t ∷ ts) h = (variable_type table t (All-head (IsObject table) t ts h), slots_of table ts (All-tail (IsObject table) t ts h))

pub slot_is : (ts : List Ty) → AreSlots ts → (x : ℕ) (t : Ty) → slice_get ts x ≡ Some t → IsVariable t
slot_is [] a x t e = absurd cc
slot_is (q ∷ ts) a zero t e = subst IsVariable (some_is q t e) a.0
slot_is (q ∷ ts) a (suc x) t e = slot_is ts a.1 x t e

-- ---- the locals that are declared are the slots behind the parameters, and hold zeros, or no handle yet

pub map_append : {A C : Type 0} (f : A → C) (xs ys : List A) → map f (xs ++ ys) ≡ map f xs ++ map f ys
map_append f [] ys = refl
map_append f (x ∷ xs) ys = ap (λ (l : List _). f x ∷ l) (map_append f xs ys)

module _ (tg : Target) (body : Stmt) where
  abbrev AreLocals : ℕ → List Ty → Type 0
  AreLocals n ts = (x : ℕ) (t : Ty) → slice_get ts x ≡ Some t → (is_object body (n + x) t ≡ false → IsData t) × (tg.is_object (Local (n + x)) ≡ is_object body (n + x) t)

  behind_one : (n : ℕ) (t : Ty) (ts : List Ty) → AreLocals n (t ∷ ts) → AreLocals (suc n) ts
  behind_one n t ts h x s e = let q = h (suc x) s e in let z : n + suc x ≡ suc n + x = omega arith in (subst (λ (k : ℕ). is_object body k s ≡ false → IsData s) z q.0, subst (λ (k : ℕ). tg.is_object (Local k) ≡ is_object body k s) z q.1)

  module _ (places : Ty → ℕ → ℕ) (hs : List Home) where
    first_word : (t : Ty) (b : Bool) → (b ≡ false → IsData t) → default_of (held_as b t) ≡ held_word places (t, b) hs (plain (zero_value t))
    first_word t true u = refl
    first_word t false u = zero_word places t (u refl) hs

    pub words_of : (n : ℕ) (ts : List Ty) → AreLocals n ts → map default_of (slots_from tg n ts) ≡ words places (meaning.slots_from body n ts) hs (firsts ts)
    words_of n [] h = refl
    words_of n (t ∷ ts) h =
        let q = h 0 t refl in
        let z : n + 0 ≡ n = omega arith in
        ap (λ (b : Bool). default_of (held_as b t) ∷ map default_of (slots_from tg (suc n) ts)) (subst (λ (k : ℕ). tg.is_object (Local k) ≡ is_object body k t) z q.1)
        ∙ ap (λ (l : List Word). default_of (held_as (is_object body n t) t) ∷ l) (words_of (suc n) ts (behind_one n t ts h))
        ∙ ap (λ (v : Word). v ∷ words places (meaning.slots_from body (suc n) ts) hs (firsts ts)) (first_word t (is_object body n t) (subst (λ (k : ℕ). is_object body k t ≡ false → IsData t) z q.0))

    pub first_words : (n : ℕ) (ps : Tys) (ts : List Ty) → AreLocals n (list_of ps ++ ts) → map default_of (drop (length (list_of ps)) (slots_from tg n (list_of ps ++ ts))) ≡ words places (meaning.slots_from body (n + length (list_of ps)) ts) hs (firsts ts)
    first_words n no_types ts h = let z : n ≡ n + 0 = omega arith in words_of n ts h ∙ ap (λ (m : ℕ). words places (meaning.slots_from body m ts) hs (firsts ts)) z
    first_words n (types t ps) ts h =
        let z : suc n + length (list_of ps) ≡ n + suc (length (list_of ps)) = omega arith in
        first_words (suc n) ps ts (behind_one n t (list_of ps ++ ts) h) ∙ ap (λ (m : ℕ). words places (meaning.slots_from body m ts) hs (firsts ts)) z

-- those from the n-th on that are no objects are of one value
abbrev pub AreData : Stmt → (n : ℕ) → List Ty → Type 0
AreData body n ts = (x : ℕ) (t : Ty) → slice_get ts x ≡ Some t → is_object body (n + x) t ≡ false → IsData t

module _ (E : Env) (hs : List Home) (body : Stmt) where
  first_held : (t : Ty) (b : Bool) → (b ≡ false → IsData t) → IsHeld E.unit.structs E.places (t, b) hs (plain (zero_value t))
  first_held t true u = tt
  first_held t false u = zero_held E.unit.structs E.places t (u refl) hs

  pub firsts_held : (n : ℕ) (ts : List Ty) → AreData body n ts → AreHeld E.unit.structs E.places (meaning.slots_from body n ts) hs (firsts ts)
  firsts_held n [] h = tt
  firsts_held n (t ∷ ts) h =
      let z : n + 0 ≡ n = omega arith in (
        first_held t (is_object body n t) (subst (λ (k : ℕ). is_object body k t ≡ false → IsData t) z (h 0 t refl)),
        firsts_held (suc n) ts (λ x s e. let y : n + suc x ≡ suc n + x = omega arith in subst (λ (k : ℕ). is_object body k s ≡ false → IsData s) y (h (suc x) s e)),
      )

-- ---- a function that was compiled

pub record Compiled (S : Site) (unit : Typed) (f : ℕ) (t : Ty) (ps : Tys) : Type 0 where
  pub inst : FuncInst
  pub is_at : slice_get S.funcs (index_of unit f) ≡ Some inst
  pub no_host : inst.host ≡ None
  pub at_home : inst.instance ≡ 0
  pub takes : length inst.ty.params ≡ length (list_of ps)
  pub gives_one : result_of inst ≡ val_of t
  pub function_is : Function
  pub named : slice_get unit.functions f ≡ Some function_is
  pub typed : function_is.ty ≡ function t ps
  pub stmt_is : Stmt
  pub has_body : function_is.body ≡ Some stmt_is
  pub locals_are : inst.locals ≡ locals (target_of unit function_is stmt_is) (length (list_of ps)) function_is.slots (waits_stmt stmt_is)
  pub code : HasAll S.funcs (index_of unit f) 0 (body (target_of unit function_is stmt_is) function_is stmt_is)
  pub small : total (body (target_of unit function_is stmt_is) function_is stmt_is) ≤ S.most
  pub others : List Ty
  pub begins : function_is.slots ≡ list_of ps ++ others
  pub well : IsStatement (context_of unit function_is.slots (length (list_of ps))) t no_jumps stmt_is
  pub slots_are : AreSlots function_is.slots
  pub ready : IsReady true (target_of unit function_is stmt_is).is_object unit (is_small stmt_is) (uses.in_stmt stmt_is) (in_stmt_of stmt_is)
  pub result : IsResult t
  pub table : IsTable S unit
  pub laid_out : IsLaidOut unit.structs
  pub has_members : (n : ℕ) (l : Layout) → layout_at unit.structs n ≡ Some l → l.members ≢ []
  pub sizes : (x : ℕ) (s : Ty) → slice_get function_is.slots x ≡ Some s → IsSmall unit.structs s
  pub sound : AreSoundNames unit.structs unit.globals function_is.slots (map (λ (g : Function). g.ty) unit.functions)
  pub names : NamesOf unit.structs (file_slots unit) (all_reached unit) (target_of unit function_is stmt_is) unit.globals (literals_in unit.made)
  -- what stands in front of the slots: the arguments, where they are copied
  pub args : List Word
  pub first_is : (target_of unit function_is stmt_is).first ≡ length args

pub get_within : (xs : List FuncInst) (i : ℕ) (x : FuncInst) → slice_get xs i ≡ Some x → i < length xs
get_within [] i x e = absurd cc
get_within (y ∷ xs) zero x e = omega arith
get_within (y ∷ xs) (suc i) x e = let lt = get_within xs i x e in omega (arith, lt)

-- ---- a body, in the function of an environment

module _ (S : Site) (L : Linked S) (unit : Typed) (i f d : ℕ) (t : Ty) (ps : Tys) (p : Compiled S unit f t ps) where
  abbrev pub slots : List Ty
  slots = p.function_is.slots

  abbrev pub k : ℕ
  k = length (list_of ps)

  abbrev pub tg : Target
  tg = target_of unit p.function_is p.stmt_is

  slot_of : (x : ℕ) (s : Ty) → slice_get slots x ≡ Some s → IsVariable s
  slot_of = slot_is slots p.slots_are

  pub object_is : (x : ℕ) (s : Ty) → slice_get slots x ≡ Some s → tg.is_object (Local x) ≡ is_object p.stmt_is x s
  object_is x s e = ap (λ (q : Ty). is_object p.stmt_is x q) (get_is slots x s e)

  pub long : k ≤ length slots
  long = let a = ap length p.begins in let b = length-append (list_of ps) p.others in omega (arith, a, b)

  pub scratch_is : tg.scratch ≡ length p.args + length slots
  scratch_is = let e = p.first_is in omega (arith, e)

  abbrev pub kinds : List Slot
  kinds = meaning.slots_from p.stmt_is 0 slots

  pub kinds_at : (x : ℕ) (s : Ty) → slice_get slots x ≡ Some s → slice_get kinds x ≡ Some (s, tg.is_object (Local x))
  kinds_at x s e =
      let z : 0 + x ≡ x = omega arith in kind_is p.stmt_is k 0 slots x s e ∙ ap (λ (n : ℕ). Some (s, is_object p.stmt_is n s)) z ∙ ap (λ (b : Bool). Some (s, b)) (sym (object_is x s e))

  pub objects_at : (x : ℕ) (s : Ty) → slice_get kinds x ≡ Some (s, true) → related.IsSlot unit.structs s
  objects_at x s e = small_slot unit.structs p.laid_out p.has_members s (p.sizes x s (slot_back p.stmt_is k 0 slots x s true e))

  abbrev pub E : Env
  E = record {
    site = S;
    unit = unit;
    places = places_of unit;
    places_are = refl;
    table = p.table;
    target = tg;
    structs_are = refl;
    entries_are = refl;
    indices_are = refl;
    sigs_are = refl;
    laid_out = p.laid_out;
    has_members = p.has_members;
    args = p.args;
    first_is = p.first_is;
    calls = calls_at unit i;
    may_call = true;
    bound = i;
    turn_bound = suc i;
    fn = index_of unit f;
    slots = slots;
    kinds = kinds;
    as_long = as_many p.stmt_is k 0 slots;
    kinds_are = kinds_at;
    objects_are = objects_at;
    scratch_is = scratch_is;
    files = file_slots unit;
    reached = all_reached unit;
    waits = waits_stmt p.stmt_is;
    pending = 0;
    result = t;
    depth = d;
    level = d;
    visible = [];
  }

  abbrev pub K : well.Context
  K = context_of unit slots k

  pub home : AtHome E
  home = ap number_of_instance p.is_at ∙ ap Some p.at_home

  -- where its parameters may be named
  abbrev pub Ep : Env
  Ep = seeing (numbers k) E

  -- ---- its first locals

  abbrev pub temps : List Word
  temps = map default_of (scratch_locals tg (waits_stmt p.stmt_is))

  pub length_temps : length temps ≡ 4 + waits_stmt p.stmt_is
  length_temps =
      let a = length-map (replicate (waits_stmt p.stmt_is) I32) default_of in
      let b = length-replicate (waits_stmt p.stmt_is) I32 in
      omega (arith, a, b)

  abbrev pub start_now : (below : ℕ) → List Home → List Object → Now
  start_now below hs os = record { below = below; waits = 0; temps = temps; homes = hs; objects = os; visible = numbers k }

  pub in_front : (x : ℕ) (s : Ty) → slice_get (list_of ps ++ p.others) x ≡ Some s → slice_get slots x ≡ Some s
  in_front x s e = ap (λ (ts : List Ty). slice_get ts x) p.begins ∙ e

  pub slots_data : (x : ℕ) (s : Ty) → slice_get K.slots x ≡ Some s → tg.is_object (Local x) ≡ false → IsData s
  slots_data x s e plain' = plain_data p.stmt_is x s (slot_of x s e) (sym (object_is x s e) ∙ plain')

  others_data : AreData p.stmt_is (0 + k) p.others
  others_data x s e = plain_data p.stmt_is (0 + k + x) s (slot_of (k + x) s (in_front (k + x) s (get_behind (list_of ps) p.others x ∙ e)))

  pub locals_as : (x : ℕ) (s : Ty) → slice_get slots x ≡ Some s → (is_object p.stmt_is (0 + x) s ≡ false → IsData s) × (tg.is_object (Local (0 + x)) ≡ is_object p.stmt_is (0 + x) s)
  locals_as x s e = let z : x ≡ 0 + x = omega arith in (plain_data p.stmt_is (0 + x) s (slot_of x s e), subst (λ (n : ℕ). tg.is_object (Local n) ≡ is_object p.stmt_is n s) z (object_is x s e))

  -- ---- the code, and what it does

  abbrev pub R : Code
  R = result tg (scalar_of t)

  abbrev pub does : List Value → Does Value
  does us = run_body unit (calls_at unit i) (suc i) p.function_is p.stmt_is us

  abbrev pub flow : Does Flow
  flow = stmt unit (calls_at unit i) (suc i) kinds p.stmt_is

  -- the value, and what it leaves
  abbrev pub Left : Now → Value → World → Mem → Type 0
  Left now v w1 m1 = IsValue E t m1.homes v × (w1.fuel < now.below) × AreBytes w1.input × Extends now.homes m1.homes × Related E.unit.structs E.places m1.homes w1.objects m1.segments × Lasts now.objects w1.objects × FiledIn E w1 m1

  pub few : (hs : List Home) (us : List Value) → AreOf E ps hs us → 0 + length us ≤ k
  few hs us ok = let a = length_us E hs ps us ok in omega (arith, a)

  abbrev pub begun_with : List Value → World → World
  begun_with us w = record w { locals = first_locals p.function_is us; depth = suc w.depth }

  -- a call, from its start to the caller
  abbrev pub Enters : (hs : List Home) (us : List Value) → AreOf E ps hs us → (size : ℕ) → Type 0
  Enters hs us ok size =
      (caller : Frame) (vs : List Word) (r : List Item) → suc (depth_of r) ≡ d → (below : ℕ) → below ≤ i → (w : World) (m : Mem) → m.homes ≡ hs → suc w.depth ≡ d → w.fuel < below → AreBytes w.input
      → Related E.unit.structs E.places m.homes w.objects m.segments → FiledIn E w m
      → Runs S size m (exit_ended (callee E hs S.funcs (index_of unit f) p.inst ps us vs caller r p.is_at p.takes ok) vs (front (sequence S.funcs (index_of unit f) 0) (Activation (result_of p.inst) (length vs) caller ∷ r))) w
      (λ v w1 m1. exit_ended caller (pushes E t m1.homes v vs) r) (Left (start_now below m.homes w.objects)) (does us (begun_with us w))

  -- ---- where no parameter is an object, the arguments are the first slots

  module _ (no_args : p.args ≡ []) (none : AreFlat p.stmt_is k 0 slots) where
    first_zero : tg.first ≡ 0
    first_zero = p.first_is ∙ ap length no_args

    plain_slots : (x : ℕ) (s : Ty) → slice_get slots x ≡ Some s → x < k → tg.is_object (Local x) ≡ false
    plain_slots x s e lt = let z : 0 + x ≡ x = omega arith in object_is x s e ∙ subst (λ (n : ℕ). IsFlat p.stmt_is k n s) z (flat_is p.stmt_is k 0 slots none x s e) lt

    no_object : (x : ℕ) (s : Ty) → x < k → slice_get kinds x ≡ Some (s, true) → ⊥
    no_object x s lt e =
        let at = slot_back p.stmt_is k 0 slots x s true e in
        let f : false ≡ true = sym (plain_slots x s at lt) ∙ ap (λ (j : Slot). j.1) (some_is (s, tg.is_object (Local x)) (s, true) (sym (kinds_at x s at) ∙ e)) in absurd cc

    abbrev other_kinds : List Slot
    other_kinds = meaning.slots_from p.stmt_is (0 + k) p.others

    declared_are : (hs : List Home) → map default_of p.inst.locals ≡ words E.places other_kinds hs (firsts p.others) ++ temps
    declared_are hs =
        ap (map default_of) p.locals_are
        ∙ ap (λ (n : ℕ). map default_of ((if n == 0 then drop k (slots_from tg 0 slots) else slots_from tg 0 slots) ++ scratch_locals tg (waits_stmt p.stmt_is))) first_zero
        ∙ map_append default_of (drop k (slots_from tg 0 slots)) (scratch_locals tg (waits_stmt p.stmt_is))
        ∙ ap (λ (ts : List Ty). map default_of (drop k (slots_from tg 0 ts)) ++ temps) p.begins
        ∙ ap (λ (l : List Word). l ++ temps)
        (first_words tg p.stmt_is E.places hs 0 ps p.others (λ x s e. locals_as x s (in_front x s e)))

    module _ (hs : List Home) (us : List Value) (ok : AreOf E ps hs us) where
      split_is : kinds ≡ flat (list_of ps) ++ other_kinds
      split_is = ap (meaning.slots_from p.stmt_is 0) p.begins ∙ kinds_flat p.stmt_is k 0 ps p.others (omega arith) (subst (AreFlat p.stmt_is k 0) p.begins none)

      others_is : drop (length us) slots ≡ p.others
      others_is = ap (drop (length us)) p.begins ∙ others_are E hs ps us p.others ok

      held_are : AreHeld E.unit.structs E.places kinds hs (first_locals p.function_is us)
      held_are =
          subst (λ (ks : List Slot). AreHeld E.unit.structs E.places ks hs (first_locals p.function_is us)) (sym split_is)
          (subst (λ (ts : List Ty). AreHeld E.unit.structs E.places (flat (list_of ps) ++ other_kinds) hs (map plain us ++ firsts ts)) (sym others_is)
          (args_held E hs ps us other_kinds (firsts p.others) ok (firsts_held E hs p.stmt_is (0 + k) p.others others_data)))

      locals_are : arg_words E hs ps us ++ map default_of p.inst.locals ≡ words E.places kinds hs (first_locals p.function_is us) ++ temps
      locals_are =
          ap (λ (l : List Word). arg_words E hs ps us ++ l) (declared_are hs) ∙ sym (append_assoc (arg_words E hs ps us) (words E.places other_kinds hs (firsts p.others)) temps)
          ∙ ap (λ (l : List Word). l ++ temps)
          (sym (ap (λ (ks : List Slot). words E.places ks hs (first_locals p.function_is us)) split_is ∙ ap (λ (ts : List Ty). words E.places (flat (list_of ps) ++ other_kinds) hs (map plain us ++ firsts ts)) others_is ∙ args_words E hs ps us other_kinds (firsts p.others) ok))

      frame_is : (vs : List Word) (caller : Frame) (r : List Item) (w : World) (m : Mem) → m.homes ≡ hs → callee E hs S.funcs (index_of unit f) p.inst ps us vs caller r p.is_at p.takes ok ≡ frame_of E (record m { temps = temps }) (begun_with us w)
      frame_is vs caller r w m e =
          ap (λ (ls : List Word). record { function = index_of unit f; locals = ls }) (locals_are ∙ ap (λ (gs : List Home). words E.places kinds gs (first_locals p.function_is us) ++ temps) (sym e))
          ∙ ap (λ (front : List Word). record { function = index_of unit f; locals = front ++ (words E.places kinds m.homes (first_locals p.function_is us) ++ temps) }) (sym no_args)

      start_kept : (below : ℕ) (w : World) (m : Mem) → m.homes ≡ hs → suc w.depth ≡ d → w.fuel < below → AreBytes w.input → Related E.unit.structs E.places m.homes w.objects m.segments → FiledIn E w m
          → Kept Ep (start_now below m.homes w.objects) (begun_with us w) (record m { temps = temps })
      start_kept below w m e dep lt bytes related file = record {
        held = subst (λ (gs : List Home). AreHeld E.unit.structs E.places kinds gs (first_locals p.function_is us)) (sym e) held_are;
        deep = dep;
        less = lt;
        bytes = bytes;
        temps = record { long = length_temps; stay = λ j l. refl };
        grown = extends_same m.homes;
        related = related;
        open' = λ x s seen at. absurd (no_object x s (seen_number k x seen) at);
        apart = first_apart us (drop (length us) slots);
        own = first_own (length w.objects) us (drop (length us) slots);
        lasts = lasts_same w.objects;
        file = file;
      }

    abbrev B : Code
    B = scheme.stmt tg slots 0 (at_body []) p.stmt_is

    abbrev D : Coded
    D = (B ⨾ R) 1

    module _ (callees : CallsRun E L home K refl) (ints : (g : ℕ) (s : Ty) (qs : Tys) → slice_get K.functions g ≡ Some (function s qs) → AreScalars E L home K refl qs) where
      plain_at : (x : ℕ) → x < k → IsPlain E x
      plain_at x lt =
          let l = long in
          let s = slot_there slots x (omega (arith, lt, l)) in
          let b = plain_slots x s.0 s.1 lt in (s.0, kinds_at x s.0 s.1 ∙ ap (λ (c : Bool). Some (s.0, c)) b, b)

      plain_numbers : (n : ℕ) → n ≤ k → ArePlain E (numbers n)
      plain_numbers zero le = tt
      plain_numbers (suc n) le = plain_append E (numbers n) n (plain_numbers n (omega (arith, le))) (plain_at n (omega (arith, le)))

      plain_from : (us : List Value) (n : ℕ) → n + length us ≤ k → ArePlain E (numbers_from n us)
      plain_from [] n le = tt
      plain_from (u ∷ us) n le = (plain_at n (omega (arith, le)), plain_from us (suc n) (omega (arith, le)))

      code_is : body tg p.function_is p.stmt_is ≡ inner D
      code_is =
          let coded : (us : List Ty) → Ty → Coded = λ us r. let vs = objects_in tg slots (numbers (length us)) in (code.params tg us ⨾ scheme.stmt tg slots 0 (at_body vs) p.stmt_is ⨾ freed tg vs ⨾ result tg (scalar_of r)) 1 in
          let nothing = no_objects E L home K refl callees ints slots_data refl refl p.sound p.names (slot_there slots) (omega arith) (numbers k) (plain_numbers k (omega arith)) in
          ap (λ (ty : Ty). inner (coded (params_in ty) (result_in ty))) p.typed
          ∙ ap (λ (n : ℕ). let vs = objects_in tg slots (numbers k) in inner (((if n == 0 then no_code else params_from tg 0 (list_of ps)) ⨾ scheme.stmt tg slots 0 (at_body vs) p.stmt_is ⨾ freed tg vs ⨾ R) 1)) first_zero
          ∙ ap (λ (vs : List Variable). inner ((no_code ⨾ scheme.stmt tg slots 0 (at_body vs) p.stmt_is ⨾ freed tg vs ⨾ R) 1)) nothing
          ∙ ap (λ (n : ℕ). inner (joined (B 1) (R n))) (let n = 1 + length (B 1).seqs in let z : n + 0 ≡ n = omega arith in z)

      has : HasAll S.funcs (index_of unit f) 0 (inner D)
      has = subst (λ (ss : List (List Instr)). HasAll S.funcs (index_of unit f) 0 ss) code_is p.code

      pub flat_fits : size_of D ≤ S.most
      flat_fits = subst (λ (ss : List (List Instr)). total ss ≤ S.most) code_is p.small

      -- ---- from the start of the body to the caller

      abbrev leaves : List Value → Does (Unit {0})
      leaves us = leave unit (calls_at unit i) (suc i) kinds (numbers_from 0 us)

      params_are : (n : ℕ) (us : List Value) (w : World) → n + length us ≤ k → make_params unit kinds n us w ≡ gives tt w
      params_are n [] w le = refl
      params_are n (u ∷ us) w le =
          let s = plain_at n (omega (arith, le)) in
          ap (λ (o : Option (Ty × Bool)). after (after (known o w) (make_param unit n u)) (λ q. make_params unit kinds (suc n) us)) s.1 ∙ params_are (suc n) us w (omega (arith, le))

      does_is : (hs : List Home) (us : List Value) → AreOf E ps hs us → (w : World) → ((flow >>= (λ g. leaves us >> pure g)) >>= (λ g. pure (given t g))) w ≡ does us w
      does_is hs us ok w =
          let end : Flow → World → Result Value = λ g. pure (given t g) in
          after_after (flow w) (λ g. leaves us >> pure g) end ∙ ap (λ (h : Flow → World → Result Value). after (flow w) h) (λ j g w1. after_after (leaves us w1) (λ u. pure g) end j)
          ∙ ap (λ (ty : Ty). after (flow w) (λ g. leaves us >> pure (given (meaning.result_of ty) g))) (sym p.typed)
          ∙ ap (λ (q : Result (Unit {0})). after q (λ u. flow >>= (λ g. leaves us >> pure (given (meaning.result_of p.function_is.ty) g)))) (sym (params_are 0 us w (few hs us ok)))

      flow_runs : (hs : List Home) (us : List Value) → AreOf E ps hs us → FlowRuns Ep at_top 0 0 B same (flow >>= (λ g. leaves us >> pure g))
      flow_runs hs us ok =
          left_runs E L home K refl callees ints slots_data refl refl p.sound p.names (slot_there slots) (omega arith) (numbers k) at_top 0 0 B flow (numbers_from 0 us) (plain_from us 0 (few hs us ok))
          (stmt_runs E L home K refl callees ints slots_data refl refl p.sound p.names (slot_there slots) (omega arith) (numbers k) 0 None (at_body []) no_jumps no_off p.stmt_is (out_none E (numbers k)) (omega arith) p.ready p.well)

      callee_runs : (hs : List Home) (us : List Value) → AreOf E ps hs us → (caller : Frame) (vs : List Word) (r : List Item) → suc (depth_of r) ≡ d → (now : Now) → IsAt Ep 0 now → (w : World) (m : Mem) → Kept Ep now w m
          → Runs S (size_of D) m (at_work E m w vs (front D.instrs (Activation (result_of p.inst) (length vs) caller ∷ r))) w (λ v w1 m1. exit_ended caller (pushes E t m1.homes v vs) r) (Left now) (does us w)
      callee_runs hs us ok caller vs r dep now le w m kp =
          let to = λ (v : Value) (w1 : World) (m1 : Mem). exit_ended caller (pushes E t m1.homes v vs) r in
          subst (λ (o : Option ValType). Runs S (size_of D) m (at_work E m w vs (front D.instrs (Activation o (length vs) caller ∷ r))) w to (Left now) (does us w)) (sym p.gives_one)
          (subst (λ (x : Result Value). Runs S (size_of D) m (at_work E m w vs (front D.instrs (Activation (val_of t) (length vs) caller ∷ r))) w to (Left now) x) (does_is hs us ok w)
          (body_runs Ep p.result caller vs r dep B (flow >>= (λ g. leaves us >> pure g)) now (λ n h small at. flow_runs hs us ok n h small now at) 1 has.1 flat_fits le w m kp))

      pub flat_enters : (hs : List Home) (us : List Value) (ok : AreOf E ps hs us) → Enters hs us ok (size_of D)
      flat_enters hs us ok caller vs r dep below le w m e deeper lt bytes related file =
          let m' : Mem = record m { temps = temps } in
          let ws = begun_with us w in
          let now = start_now below m.homes w.objects in
          let marked = Activation (result_of p.inst) (length vs) caller ∷ r in
          let ts = at_work E m' ws vs (front D.instrs marked) in
          let to = λ (v : Value) (w1 : World) (m1 : Mem). exit_ended caller (pushes E t m1.homes v vs) r in
          subst (λ (t1 : Thread). Runs S (size_of D) m t1 w to (Left now) (does us ws))
          (sym (ap (λ (is : List Instr). exit_ended (callee E hs S.funcs (index_of unit f) p.inst ps us vs caller r p.is_at p.takes ok) vs (front is marked)) has.0
          ∙ ap (λ (fr' : Frame). exit_ended fr' vs (front D.instrs marked)) (frame_is hs us ok vs caller r w m e)))
          (resize S (0 + size_of D) (size_of D) m ts w to (Left now) (does us ws) (omega arith)
          (behind_goes S 0 (size_of D) w ws m m' ts ts to (Left now) (does us ws)
          (goes.shifts S w ws m temps ts refl refl (tells_nothing w ws refl refl refl))
          (callee_runs hs us ok caller vs r dep now (record { below = le; waits = refl; seen = refl }) ws m' (start_kept hs us ok below w m e deeper lt bytes related file))))
