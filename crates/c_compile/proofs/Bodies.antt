-- What bodies are made of: the code of loops, part by part, and the whole.
use Rattle.std.proofs.Common.{◌≡◌, ◌∙◌, ℕ, zero, suc, ◌+◌, ◌<◌, ◌==◌, ◌++◌, Bool, true, false, ◌-◌, List, [], ◌∷◌, add-one, drop, filter, length, map, take, Some, None, if◌then◌else◌, refl, sym, ap, subst, arith}
use Rattle.std.specs.Prelude.{Result, Ok, Err, IfOk, OnOk}
use Rattle.std.proofs.lemmas.List.{append_assoc, map-append, take_rest}
use Rattle.std.proofs.lemmas.List.Elements.{filter-append}
use Rattle.ms_types.specs.declared.types.ValType.{ValType}
use Rattle.ms_module.specs.Building.{State, first_state}
use Rattle.ms_emit.proofs.Adding.{adds_nothing, adds_then}
use Rattle.ms_emit.specs.Codes.{Code, inner, no_code, plain, ◌⨾◌}
use Rattle.ms_emit.specs.refinement.Parts.{Adds}
use Rattle.ms_module.specs.declared.instr.Instr.TheVariants.{LocalGet}
use Rattle.ms_module.specs.declared.module.Func.{Func}
use Rattle.c_types.specs.Layout.{size}
use Rattle.c_types.specs.Types.{Ty, scalar_of, type_of}
use Rattle.c_types.specs.declared.types.CType.{CType}
use Rattle.c_typed.specs.Tree.{Function, Stmt, Typed}
use Rattle.c_typed.specs.declared.ops.Variable.{Variable}
use Rattle.c_typed.specs.declared.ops.Variable.TheVariants.{Local}
use Rattle.c_typed.specs.Units.{numbers}
use Rattle.c_code.specs.Functions.{body, locals, param, params, params_in, result, result_in, scratch_locals, slots_from}
use Rattle.c_code.specs.Modules.{first_of, func_of, is_object_in, target}
use Rattle.c_code.specs.Statements.{at_body, freed, made, objects_in, stmt}
use Rattle.c_code.specs.Targets.{Target, get}
use Rattle.c_code.specs.Uses.{waits_stmt}
use Rattle.c_emit.specs.refinement.Sites.{Site}

-- the code of a whole body
pub whole_body : (st : State) (c : Code) → Adds first_state st c → st.seqs ≡ inner (c 1)
whole_body st c h = let room : 0 < 1 = omega arith in ap (λ (s : State). s.seqs) (h.is room)

-- behind the last part
pub behind_all : (s0 s1 : State) (rest all : Code) → rest ≡ no_code → ((final : State) → Adds s1 final rest → Adds s0 final all) → Adds s0 s1 all
behind_all s0 s1 rest all e h = h s1 (subst (λ (c : Code). Adds s1 s1 c) (sym e) (adds_nothing s1))

-- what is left stands behind this part
pub onward : {A E : Type 0} (r : Result A E) (s0 s1 s2 : State) (a b : Code) → OnOk r (Adds s0 s1 a) → OnOk r (Adds s1 s2 b → Adds s0 s2 (a ⨾ b))
onward (Ok x) s0 s1 s2 a b h = λ k. adds_then s0 s1 s2 a b h k
onward (Err x) s0 s1 s2 a b h = h

-- what is left has the next number
pub onward_next : {E : Type 0} (r : Result ℕ E) (n : ℕ) (s0 s1 s2 : State) (a : Code) (rest : ℕ → Code) → IfOk r (λ k. k ≡ n + 1) → Adds s0 s1 a
    → IfOk r (λ k. Adds s1 s2 (rest k) → Adds s0 s2 (a ⨾ rest (suc n)))
onward_next (Ok k) n s0 s1 s2 a rest e h = λ g. adds_then s0 s1 s2 a (rest (suc n)) h (subst (λ (i : ℕ). Adds s1 s2 (rest i)) (e ∙ add-one n) g)
onward_next (Err x) n s0 s1 s2 a rest e h = e

-- two parts
pub onward_second : {E : Type 0} (r : Result ℕ E) (n : ℕ) (s0 s1 s2 s3 : State) (a b : Code) (rest : ℕ → Code) → IfOk r (λ k. k ≡ n + 1) → Adds s0 s1 a → Adds s1 s2 b
    → IfOk r (λ k. Adds s2 s3 (rest k) → Adds s0 s3 (a ⨾ b ⨾ rest (suc n)))
onward_second (Ok k) n s0 s1 s2 s3 a b rest e h i = λ g.
    adds_then s0 s1 s3 a (b ⨾ rest (suc n)) h (adds_then s1 s2 s3 b (rest (suc n)) i (subst (λ (m : ℕ). Adds s2 s3 (rest m)) (e ∙ add-one n) g))
onward_second (Err x) n s0 s1 s2 s3 a b rest e h i = e

-- one of two ways
pub not_chosen : (s : State) (b : Bool) (a : Code) → b ≡ false → Adds s s (if b then a else no_code)
not_chosen s b a e = rw e (adds_nothing s)

-- ---- objects

one_object : (t : Target) (slots : List Ty) (n : ℕ) → objects_in t slots (numbers (suc n)) ≡ objects_in t slots (numbers n) ++ objects_in t slots (n ∷ [])
one_object t slots n =
    ap (λ (ns : List ℕ). map Local ns) (filter-append (λ i. t.is_object (Local i)) (numbers n) (n ∷ []))
    ∙ map-append Local (filter (λ i. t.is_object (Local i)) (numbers n)) (filter (λ i. t.is_object (Local i)) (n ∷ []))

pub objects_step : (t : Target) (slots : List Ty) (n m : ℕ) (old new all : List Variable) → m ≡ suc n → new ≡ objects_in t slots (n ∷ []) ++ old
    → objects_in t slots (numbers m) ++ old ≡ all → objects_in t slots (numbers n) ++ new ≡ all
objects_step t slots n m old new all em en h =
    ap (λ (vs : List Variable). objects_in t slots (numbers n) ++ vs) en
    ∙ sym (append_assoc (objects_in t slots (numbers n)) (objects_in t slots (n ∷ [])) old)
    ∙ ap (λ (vs : List Variable). vs ++ old) (sym (one_object t slots n))
    ∙ ap (λ (k : ℕ). objects_in t slots (numbers k) ++ old) (sym em)
    ∙ h

-- ---- locals

slots_dropped : (t : Target) (k n m : ℕ) (us : List Ty) → m ≡ n + k → drop k (slots_from t n us) ≡ slots_from t m (drop k us)
slots_dropped t zero n m us e = let at : n ≡ m = omega (arith, e) in ap (λ (i : ℕ). slots_from t i us) at
slots_dropped t (suc k) n m [] e = refl
slots_dropped t (suc k) n m (u ∷ us) e = slots_dropped t k (suc n) m us (omega (arith, e))

rest_mapped : (i : ℕ) (slots : List CType) → map type_of (drop i slots) ≡ drop i (map type_of slots)
rest_mapped zero slots = refl
rest_mapped (suc i) [] = refl
rest_mapped (suc i) (t ∷ ts) = rest_mapped i ts

pub locals_are : (t : Target) (k skipped waits : ℕ) (slots : List CType) (l0 l1 l2 : List ValType) → skipped ≡ (if t.first == 0 then k else 0)
    → l0 ≡ [] → l1 ≡ l0 ++ slots_from t skipped (map type_of (take (length slots - skipped) (drop skipped slots))) → l2 ≡ l1 ++ scratch_locals t waits
    → l2 ≡ locals t k (map type_of slots) waits
locals_are t k skipped waits slots l0 l1 l2 es e0 e1 e2 =
    e2
    ∙ ap (λ (ls : List ValType). ls ++ scratch_locals t waits)
    (e1 ∙ ap (λ (ls : List ValType). ls ++ slots_from t skipped (map type_of (take (length slots - skipped) (drop skipped slots)))) e0
    ∙ ap (λ (ts : List CType). slots_from t skipped (map type_of ts)) (take_rest slots skipped)
    ∙ ap (slots_from t skipped) (rest_mapped skipped slots)
    ∙ ap (λ (i : ℕ). slots_from t i (drop i us)) es ∙ by (t.first == 0)) where
      us : List Ty
      us = map type_of slots

      by : (b : Bool) → slots_from t (if b then k else 0) (drop (if b then k else 0) us) ≡ (if b then drop k (slots_from t 0 us) else slots_from t 0 us)
      by true = sym (slots_dropped t k 0 k us (omega arith))
      by false = refl

-- ---- parameters

-- they are the slots
pub params_stay : (t : Target) (us : List Ty) (s : State) → t.first ≡ 0 → Adds s s (params t us)
params_stay t us s e = rw e (adds_nothing s)

-- one that is an object that holds no scalar
pub param_bare : (t : Target) (n : ℕ) (u : Ty) (s0 s1 s2 : State) → t.is_object (Local n) ≡ true → scalar_of u ≡ None
    → Adds s0 s1 (made t (Local n) (size t.structs u)) → Adds s1 s2 (plain (get t (Local n) ∷ LocalGet n ∷ [])) → Adds s0 s2 (param t (t.is_object (Local n)) n u)
param_bare t n u s0 s1 s2 e o h k =
    rw (e, o) (adds_then s0 s1 s2 (made t (Local n) (size t.structs u)) (plain (get t (Local n) ∷ LocalGet n ∷ []) ⨾ no_code) h
    (adds_then s1 s2 s2 (plain (get t (Local n) ∷ LocalGet n ∷ [])) no_code k (adds_nothing s2)))

pub result_none : (t : Target) (u : Ty) (s : State) → scalar_of u ≡ None → Adds s s (result t (scalar_of u))
result_none t u s e = rw e (adds_nothing s)

-- ---- bodies

abbrev pub parts : Target → Stmt → (us slots : List Ty) → List Variable → (result_type : Ty) → Code
parts t s us slots vs rt = params t us ⨾ stmt t slots 0 (at_body vs) s ⨾ freed t vs ⨾ result t (scalar_of rt)

pub body_is : (t : Target) (f : Function) (s : Stmt) (us slots : List Ty) (k : ℕ) (vs : List Variable) (rt : Ty) (s0 s1 : State) → us ≡ params_in f.ty → slots ≡ f.slots
    → k ≡ length us → vs ≡ objects_in t slots (numbers k) → rt ≡ result_in f.ty → s0 ≡ first_state → Adds s0 s1 (parts t s us slots vs rt) → s1.seqs ≡ body t f s
body_is t f s us slots k vs rt s0 s1 eu es ek ev er e0 h =
    whole_body s1 (parts t s us slots vs rt) (subst (λ (x : State). Adds x s1 (parts t s us slots vs rt)) e0 h)
    ∙ ap (λ (l : List Ty). inner (parts t s l slots vs rt 1)) eu
    ∙ ap (λ (u : Ty). inner (parts t s (params_in f.ty) slots vs u 1)) er
    ∙ ap (λ (l : List Variable). inner (parts t s (params_in f.ty) slots l (result_in f.ty) 1)) (ev ∙ ap (λ (n : ℕ). objects_in t slots (numbers n)) (ek ∙ ap (λ (l : List Ty). length l) eu))
    ∙ ap (λ (l : List Ty). inner (parts t s (params_in f.ty) l (objects_in t l (numbers (length (params_in f.ty)))) (result_in f.ty) 1)) es

-- ---- functions

abbrev pub func_in : ℕ → Function → Stmt → Site → Func
func_in n f s x = record { sig = 3 + n; locals = locals x.target (length (params_in f.ty)) x.slots (waits_stmt s); body = body x.target f s }

abbrev pub site_at : Typed → Function → Stmt → (slots : List Ty) → (first scratch : ℕ) → Site
site_at u f s slots first scratch = record { target = target u (is_object_in u s slots) first scratch; slots = slots; globals = u.globals }

pub func_is : (u : Typed) (n : ℕ) (f : Function) (s : Stmt) (x : Site) (slots : List Ty) (k first scratch : ℕ) → slots ≡ f.slots → k ≡ length (params_in f.ty)
    → first ≡ first_of u (is_object_in u s f.slots) k → scratch ≡ first + length f.slots → x ≡ site_at u f s slots first scratch → func_in n f s x ∷ [] ≡ func_of u n f (Some s)
func_is u n f s x slots k first scratch es ek ef ec ex =
    ap (λ (y : Site). func_in n f s y ∷ [])
    (ex ∙ ap (λ (l : List Ty). site_at u f s l first scratch) es ∙ ap (λ (m : ℕ). site_at u f s f.slots first m) ec
    ∙ ap (λ (m : ℕ). site_at u f s f.slots m (m + length f.slots)) (ef ∙ ap (λ (m : ℕ). first_of u (is_object_in u s f.slots) m) ek))

pub one_func : {E : Type 0} (r : Result Func E) (g : Func) (gs : List Func) → g ∷ [] ≡ gs → IfOk r (λ h. h ≡ g) → IfOk r (λ h. h ∷ [] ≡ gs)
one_func (Ok h) g gs e k = ap (λ (x : Func). x ∷ []) k ∙ e
one_func (Err x) g gs e k = k
