-- What is run of a unit that was linked alone where its `main` is the one task: that task, behind the start function.
use Rattle.std.proofs.Common.{◌≡◌, ℕ, zero, suc, ◌+◌, ◌/◌, ◌<◌, List, [], ◌∷◌, ◌++◌, length, map, Bool, true, false, Option, Some, None, Ok, Err, refl, sym, ap, ◌∙◌, arith, subst}
use Rattle.std.specs.Prelude.{Result, codes, cond, filter, find, is_some, nat_lt, not, option_and_then, replicate, slice_get, if◌then◌else◌, ◌&&◌}
use Rattle.std.specs.List.{position_or_len}
use Rattle.std.specs.Str.{bytes_eq}
use Rattle.std.proofs.lemmas.Option.{slice_get_within}
use Rattle.std.proofs.lemmas.Slice.Eq.{bytes_eq-Decides}
use Rattle.std.proofs.Math.Nat.{mod-one}
use Rattle.ms_module.specs.declared.module.Export.{Export}
use Rattle.ms_module.specs.declared.module.ExportDesc.TheVariants as exports
use Rattle.ms_types.specs.declared.types.FuncType.{FuncType}
use Rattle.ms_types.specs.declared.types.ValType.{ValType}
use Rattle.ms_machine.specs.Crews.{Input, run_of, turns_from}
use Rattle.ms_machine.specs.Linked.{instance_in, linked, nothing_made, own_func}
use Rattle.ms_machine.specs.Running.{AreBytes, func_thread}
use Rattle.ms_machine.specs.Store.{Store}
use Rattle.ms_machine.specs.declared.store.Instance.{Instance}
use Rattle.ms_task.specs.declared.func.FuncInst.{FuncInst}
use Rattle.ms_task.specs.Thread.{Thread}
use Rattle.ms_tasks.specs.Tasks.{and_thread, crew_of, exported_task, is_task_result, is_task_type, of_task_type, takes_nothing, task_address, thread_at, threads_from}
use Rattle.c_types.specs.Types.{Ty, void, integer, pointer, function, is_function, Tys, no_types, types}
use Rattle.c_types.specs.declared.types.Scalar.TheVariants as scalars
use Rattle.c_typed.specs.refinement.Types.{IsType, IsValue}
use Rattle.c_typed.specs.Tree.{Function, Stmt, Typed}
use Rattle.c_typed.specs.Units.{HaveNames, IsFunction, IsWellTyped, list_of, numbers}
use Rattle.c_meaning.specs.Units.{main_number}
use Rattle.c_code.specs.Functions.{held_as, listed, params_in, result_in}
use Rattle.c_code.specs.Operations.{val_of, val_option}
use Rattle.c_code.specs.Modules.{compiled, export_of, exports_of, function_at, gives_function, imported, index_of, is_defined, is_defined_at, is_exported, named}
use Rattle.c_runs.proofs.Fits.{IsMost}
use Rattle.c_runs.specs.Correct.{Behaves, MeansRun, gives_integer}
use Rattle.c_runs.specs.Placed.{IsFunctionAt, IsPlaced}
use Rattle.c_runs.proofs.Linking.{address_at, few_named_in, is_made, none_imported, placed, st, three_hosts}
use Rattle.c_runs.proofs.Numbers.{is_below}
use Rattle.c_runs.proofs.Placed.{all_at, same_one}
use Rattle.c_runs.proofs.Top.{compiled_behaves}
use Rattle.c_runs.proofs.Whole.{both}

-- ---- the turns of one task

turns_are : (turns i count : ℕ) → turns_from turns 1 i count ≡ replicate count 0
turns_are turns i zero = refl
turns_are turns i (suc count) =
    ap (λ (k : ℕ). k ∷ turns_from turns 1 (suc i) count) (mod-one (i / turns))
    ∙ ap (λ (ks : List ℕ). 0 ∷ ks) (turns_are turns (suc i) count)

-- ---- the first function of a name is the one that has it

abbrev is_main : Function → Bool
is_main f = bytes_eq (codes "main") f.name

first_main : (fs : List Function) (n : ℕ) (f : Function) → slice_get fs n ≡ Some f → is_main f ≡ true → HaveNames fs → position_or_len is_main fs ≡ n
first_main [] n f e m h = absurd cc
first_main (g ∷ fs) zero f e m h =
    ap (λ (x : Function). cond (not (is_main x)) (1 + position_or_len is_main fs) 0) (same_one g f e)
    ∙ ap (λ (b : Bool). cond (not b) (1 + position_or_len is_main fs) 0) m
first_main (g ∷ fs) (suc n) f e m h = by (is_main g) refl (first_main fs n f e m h.1) where
  by : (b : Bool) → is_main g ≡ b → position_or_len is_main fs ≡ n → cond (not b) (1 + position_or_len is_main fs) 0 ≡ suc n
  by true q r =
      absurd (all_at (λ (x : Function). x.name ≡ g.name → ⊥) fs n f e h.0
      (sym ((bytes_eq-Decides (codes "main") f.name).0 m) ∙ (bytes_eq-Decides (codes "main") g.name).0 q))
  by false q r = let z : 1 + n ≡ suc n = omega arith in ap (λ (k : ℕ). 1 + k) r ∙ z

number_is : (u : Typed) (n : ℕ) (f : Function) → slice_get u.functions n ≡ Some f → is_main f ≡ true → HaveNames u.functions → main_number u ≡ Some n
number_is u n f e m h =
    ap (λ (k : ℕ). cond (nat_lt k (length u.functions)) (Some k) None) (first_main u.functions n f e m h)
    ∙ ap (λ (b : Bool). cond b (Some n) None) (is_below n (length u.functions) (slice_get_within u.functions n f e))

-- ---- a function without parameters

no_parameters : (ps : Tys) → list_of ps ≡ [] → ps ≡ no_types
no_parameters no_types e = refl
no_parameters (types t ps) e = absurd cc

no_types_in : (vs : List ValType) → takes_nothing vs ≡ true → vs ≡ []
no_types_in [] e = refl
no_types_in (v ∷ vs) e = absurd cc

none_mapped : {A B : Type 0} (g : A → B) (xs : List A) → map g xs ≡ [] → xs ≡ []
none_mapped g [] e = refl
none_mapped g (x ∷ xs) e = absurd cc

-- ---- what an instance exports as `main`

pub record IsMain (u : Typed) (funcs : List FuncInst) (i : Instance) (address : ℕ) : Type 0 where
  pub number : ℕ
  pub function_is : Function
  pub stmt_is : Stmt
  pub at : slice_get u.functions number ≡ Some function_is
  pub has_body : function_is.body ≡ Some stmt_is
  pub named : is_main function_is ≡ true
  pub exported : is_exported u function_is ≡ true
  pub found : option_and_then (of_task_type funcs) (slice_get i.funcs (index_of u number)) ≡ Some address

module _ (u : Typed) (funcs : List FuncInst) (i : Instance) (address : ℕ) where
  abbrev in_exports : List Export → Option ℕ
  in_exports es = option_and_then (exported_task funcs i) (find (λ (e : Export). bytes_eq (codes "main") e.name) es)

  module _ (m : ℕ) (ns : List ℕ) (further : in_exports (exports_of u ns) ≡ Some address → IsMain u funcs i address) where
    named_so : (f : Function) (s : Stmt) → slice_get u.functions m ≡ Some f → f.body ≡ Some s → is_exported u f ≡ true → (b : Bool) → is_main f ≡ b
        → option_and_then (exported_task funcs i) (cond b (Some (record { name = f.name; desc = exports.Func (index_of u m) })) (find (λ (e : Export). bytes_eq (codes "main") e.name) (exports_of u ns))) ≡ Some address
        → IsMain u funcs i address
    named_so f s q d x true n e = record { number = m; function_is = f; stmt_is = s; at = q; has_body = d; named = n; exported = x; found = e }
    named_so f s q d x false n e = further e

    exported : (f : Function) (s : Stmt) → slice_get u.functions m ≡ Some f → f.body ≡ Some s → (b : Bool) → is_exported u f ≡ b
        → in_exports ((cond b (record { name = f.name; desc = exports.Func (index_of u m) } ∷ []) []) ++ exports_of u ns) ≡ Some address
        → IsMain u funcs i address
    exported f s q d true x e = named_so f s q d x (is_main f) refl e
    exported f s q d false x e = further e

    with_body : (f : Function) → slice_get u.functions m ≡ Some f → (o : Option Stmt) → f.body ≡ o
        → in_exports (exports_of u (cond (is_some o) (m ∷ ns) ns)) ≡ Some address → IsMain u funcs i address
    with_body f q None d e = further e
    with_body f q (Some s) d e =
        exported f s q d (is_exported u f) refl (subst (λ (o : Option Function). in_exports (export_of u m o ++ exports_of u ns) ≡ Some address) q e)

    of_number : (o : Option Function) → slice_get u.functions m ≡ o → in_exports (exports_of u (cond (is_defined o) (m ∷ ns) ns)) ≡ Some address → IsMain u funcs i address
    of_number None q e = further e
    of_number (Some f) q e = with_body f q f.body refl e

  exported_main : (ms : List ℕ) → in_exports (exports_of u (filter (is_defined_at u) ms)) ≡ Some address → IsMain u funcs i address
  exported_main [] e = absurd cc
  exported_main (m ∷ ms) e = of_number m (filter (is_defined_at u) ms) (λ e'. exported_main ms e') (function_at u m) refl e

if_true : (x a : ℕ) (b : Bool) → cond b (Some x) None ≡ Some a → (b ≡ true) × (x ≡ a)
if_true x a true e = (refl, same_one x a e)
if_true x a false e = absurd cc

-- ---- the store of a unit that was linked alone

module _ (u : Typed) (name : List ℕ) (c : ℕ) (well : IsWellTyped u) (most : IsMost u) (none : imported u ≡ []) (few : length (named u) < 4294967295) where
  abbrev s : Store
  s = st u name c none

  abbrev there : IsPlaced u s
  there = placed u name c none few

  abbrev i : Instance
  i = instance_in nothing_made (compiled u) three_hosts

  its_address : (x : ℕ) → x < length s.funcs → slice_get i.funcs x ≡ Some x
  its_address x lt = address_at (compiled u).funcs (own_func (compiled u) 0) x lt

  run_is : (turns budget : ℕ) (t : Thread) (input : Input)
      → run_of (turns_from turns 1 0 budget) (crew_of s (t ∷ [])) input ≡ run_of (replicate budget 0) (crew_of s (t ∷ [])) input
  run_is turns budget t input = ap (λ (ks : List ℕ). run_of ks (crew_of s (t ∷ [])) input) (turns_are turns 0 budget)

  -- ---- the task

  module _ (a : ℕ) (p : IsMain u s.funcs i a) where
    abbrev x : ℕ
    x = index_of u p.number

    abbrev inst : IsFunctionAt u s p.number p.function_is p.stmt_is
    inst = there.functions p.number p.function_is p.stmt_is p.at p.has_body

    if_task : (is_task_type inst.inst.ty ≡ true) × (x ≡ a)
    if_task =
        if_true x a (is_task_type inst.inst.ty)
        (sym (ap (λ (o : Option ℕ). option_and_then (of_task_type s.funcs) o) (its_address x (slice_get_within s.funcs x inst.inst inst.is_at))
        ∙ ap (λ (o : Option FuncInst). option_and_then (λ (f : FuncInst). if is_task_type f.ty then Some x else None) o) inst.is_at)
        ∙ p.found)

    typed : (t : Ty) × (p.function_is.ty ≡ function t no_types)
    typed =
        let here = all_at (IsFunction u) u.functions p.number p.function_is p.at well.functions in
        let none = no_types_in inst.inst.ty.params (both (takes_nothing inst.inst.ty.params) (is_task_result inst.inst.ty.results) if_task.0).0 in
        let ps = none_mapped (held_as false) (params_in p.function_is.ty) (sym (ap (λ (ty : FuncType). ty.params) inst.type_is) ∙ none) in
        (here.0, here.2 ∙ ap (function here.0) (no_parameters here.1 (ap params_in (sym here.2) ∙ ps)))

    -- it gives no pointer: none to an object, which no task gives, and none to a function, which isn't exported
    numeric : gives_integer typed.0 ≡ true
    numeric = by typed.0 (subst (IsType u.structs) typed.1 (all_at (IsFunction u) u.functions p.number p.function_is p.at well.functions).3).0
        (ap (λ (ty : Ty). is_task_result (listed (val_of (result_in ty)))) (sym typed.1) ∙ ap (λ (ty : FuncType). is_task_result ty.results) (sym inst.type_is) ∙ (both (takes_nothing inst.inst.ty.params) (is_task_result inst.inst.ty.results) if_task.0).1)
        (ap (λ (ty : Ty). not (bytes_eq (codes "main") p.function_is.name && gives_function u ty)) (sym typed.1) ∙ p.exported)
      where
        no_function : (b n : Bool) → n ≡ true → is_task_result (listed (val_option (Some (if b then scalars.Function else scalars.Pointer)))) ≡ true → not (n && b) ≡ true → false ≡ true
        no_function true true h e x = x
        no_function false true h e x = e
        no_function b false h e x = h

        by : (t : Ty) → IsValue t → is_task_result (listed (val_of t)) ≡ true → not (bytes_eq (codes "main") p.function_is.name && gives_function u (function t no_types)) ≡ true → gives_integer t ≡ true
        by void v e x = refl
        by (integer i) v e x = refl
        by (pointer q) v e x = no_function (is_function q) (bytes_eq (codes "main") p.function_is.name) p.named e x
        by _ v e x = absurd v

    main_behaves : Behaves u s a
    main_behaves =
        subst (Behaves u s) if_task.1
        (compiled_behaves u s p.number p.function_is p.stmt_is typed.0 well most (number_is u p.number p.function_is p.at p.named well.distinct) p.at p.has_body typed.1 numeric there)

  one_thread : (threads : List Thread) (o : Option ℕ) → and_thread (thread_at s o) 0 (Ok []) ≡ Ok threads → (a : ℕ) × (o ≡ Some a) × (func_thread s a ∷ [] ≡ threads)
  one_thread threads None e = absurd cc
  one_thread threads (Some a) e = (a, refl, ap (λ (r : Result (List Thread) ℕ). or r) e) where
    or : Result (List Thread) ℕ → List Thread
    or (Ok ts) = ts
    or (Err k) = threads

  executed : (turns budget : ℕ) (threads : List Thread) (input : Input) → threads_from s ((0, codes "main") ∷ []) 0 ≡ Ok threads → AreBytes input
      → MeansRun u input budget (run_of (turns_from turns 1 0 budget) (crew_of s threads) input)
  executed turns budget threads input e bytes =
      let q = one_thread threads (task_address s 0 (codes "main")) e in
      subst (λ (ts : List Thread). MeansRun u input budget (run_of (turns_from turns 1 0 budget) (crew_of s ts) input)) q.2
      (subst (MeansRun u input budget) (sym (run_is turns budget (func_thread s q.0) input))
      (main_behaves q.0 (exported_main u s.funcs i q.0 (numbers (length u.functions)) q.1) input bytes budget))

pub executed_behaves : (u : Typed) (name : List ℕ) (c turns budget : ℕ) (s : Store) (threads : List Thread) (input : Input) → IsWellTyped u → IsMost u
    → linked ((name, compiled u) ∷ []) c ≡ Ok s → threads_from s ((0, codes "main") ∷ []) 0 ≡ Ok threads
    → AreBytes input → MeansRun u input budget (run_of (turns_from turns 1 0 budget) (crew_of s threads) input)
executed_behaves u name c turns budget s threads input well most e tasks bytes =
    let none = none_imported u name c s e in
    subst (λ (t : Store). threads_from t ((0, codes "main") ∷ []) 0 ≡ Ok threads → MeansRun u input budget (run_of (turns_from turns 1 0 budget) (crew_of t threads) input))
    (is_made u name c none s e) (λ tasks'. executed u name c well most none (few_named_in u name c s e) turns budget threads input tasks' bytes) tasks
