-- How deep blocks nest in the module of a unit, how many loops its bodies have, and what they call.
use Rattle.std.proofs.Common.{◌≡◌, ℕ, zero, suc, ◌≤◌, ◌<◌, List, [], ◌∷◌, Option, Some, None, refl, arith, ◌+◌, length, ap}
use Rattle.std.specs.Prelude.{Bool, slice_get}
use Rattle.std.specs.List.{All}
use Rattle.std.proofs.lemmas.List.{length-map}
use Rattle.std.proofs.lemmas.List.Elements.{All-head, All-nil, All-tail}
use Rattle.ms_types.specs.declared.types.ValType.{ValType}
use Rattle.ms_types.specs.declared.types.ValType.TheVariants as vals
use Rattle.ms_module.specs.declared.instr.Instr.{Instr}
use Rattle.ms_module.specs.declared.instr.Instr.TheVariants.{Unreachable, Nop, Block, Loop, If, Br, BrIf, BrTable, Return, Call, CallIndirect, Drop, Select, LocalGet, LocalSet, LocalTee, GlobalGet, GlobalSet, I32Const, I64Const, Numeric, Linear, Segment}
use Rattle.ms_module.specs.declared.module.Element.{Element}
use Rattle.ms_module.specs.declared.module.Fill.{Fill}
use Rattle.ms_module.specs.declared.module.Func.{Func}
use Rattle.ms_module.specs.declared.module.Global.{Global as GlobalEntry}
use Rattle.ms_module.specs.refinement.Nesting.{ModuleNestsWithin, NestsWithin}
use Rattle.c_types.specs.Types.{Ty}
use Rattle.ms_rules.specs.Context.{imported_funcs}
use Rattle.c_typed.specs.declared.ops.Variable.{Variable}
use Rattle.c_typed.specs.refinement.Nesting.{body_nesting, deepest, function_nesting, made_nesting, stmt_nesting, unit_nesting}
use Rattle.c_typed.specs.Tree.{Function, Stmt, Typed}
use Rattle.c_typed.specs.Units.{literals_in}
use Rattle.c_code.specs.Functions.{body}
use Rattle.c_code.specs.Modules.{compiled, defined, imported, func_of, funcs_from, global_of, globals_from, literal_globals, start_func, start_target, target, target_of}
use Rattle.c_code.specs.Targets.{Target}
use Rattle.c_code.specs.Uses.{Use, calls, copies, in_made, in_stmt, names, through}
use Rattle.c_typing.specs.refinement.LoopsAndCalls.{IsBounded, IsCallee, IsCalleeType, IsNoCall, IsQuiet, OfCalls, called, host, loops_among, loops_in_body, loops_in_made, loops_in_stmt, one_if_loop}
use Rattle.c_typing.proofs.Bounded.{BodyBounded}
use Rattle.c_typing.proofs.BoundedExprs.{Calls, Host}
use Rattle.c_typing.proofs.BoundedStmts.{body_ok, start_ok}
use Rattle.c_typing.proofs.Frames.{each_all}
use Rattle.c_typing.proofs.Indices.{defined_from, sigs_from, third}
use Rattle.c_typing.proofs.Interface.{imported_length}
use Rattle.c_typing.proofs.Lists.{slice_right}
use Rattle.c_typing.proofs.Modules.{defined_are}
use Rattle.c_typing.proofs.Names.{Each, each_append}

-- ---- depth: any function may be called

abbrev Any : ℕ → Type 0
Any i = Unit {0}

any_calls : (t : Target) (us : List Use) → Each (Calls Any Any t) us
any_calls t [] = tt
any_calls t (calls n ∷ us) = (tt, any_calls t us)
any_calls t (through q ∷ us) = (tt, any_calls t us)
any_calls t (names n ∷ us) = (tt, any_calls t us)
any_calls t (copies n ∷ us) = (tt, any_calls t us)

any_host : Host Any
any_host = record { putchar = tt; getchar = tt; abort = tt }

module _ (u : Typed) (h : ℕ) where
  abbrev Nests : Func → Type 0
  Nests f = NestsWithin (suc h) f.body 0

  abbrev Shallow : GlobalEntry → Type 0
  Shallow g = NestsWithin (suc h) g.init 0

  func_nests : (n : ℕ) (f : Function) (o : Option Stmt) → body_nesting o ≤ h → Each Nests (func_of u n f o)
  func_nests n f None le = tt
  func_nests n f (Some s) le =
      let t = target_of u f s in
      ((body_ok Any Any any_host t h f s (record { depth = le; uses = any_calls t (in_stmt s) })).nested, tt)

  funcs_nest : (n : ℕ) (fs : List Function) → deepest function_nesting fs ≤ h → Each Nests (funcs_from u n fs)
  funcs_nest n [] le = tt
  funcs_nest n (f ∷ fs) le = each_append Nests (func_of u n f f.body) (funcs_from u (suc n) fs)
      (func_nests n f f.body (omega (arith, le))) (funcs_nest (suc n) fs (omega (arith, le)))

  start_nests : deepest made_nesting u.made ≤ h → Nests (start_func u)
  start_nests le =
      let t = start_target u in
      (start_ok Any Any any_host t h u.globals u.made (record { depth = le; uses = any_calls t (in_made u.made) })).nested

  global_nests : (v : ValType) → Shallow (global_of u v)
  global_nests vals.I32 = (tt, tt)
  global_nests vals.I64 = (tt, tt)
  global_nests vals.Handle = (tt, tt)

  globals_nest : (n : ℕ) (ts : List Ty) → Each Shallow (globals_from u n ts)
  globals_nest n [] = tt
  globals_nest n (t ∷ ts) = (global_nests _, globals_nest (suc n) ts)

  literals_nest : (n : ℕ) → Each Shallow (literal_globals u n)
  literals_nest zero = tt
  literals_nest (suc n) = (global_nests vals.Handle, literals_nest n)

  within_nests : unit_nesting u ≤ h → ModuleNestsWithin (suc h) (compiled u)
  within_nests le =
      let m = compiled u in record {
        funcs = each_all Nests m.funcs (each_append Nests (funcs_from u 0 u.functions) (start_func u ∷ [])
            (funcs_nest 0 u.functions (omega (arith, le))) (start_nests (omega (arith, le)), tt));
        globals = each_all Shallow m.globals (each_append Shallow (globals_from u 0 u.globals)
            (literal_globals u (literals_in u.made)) (globals_nest 0 u.globals) (literals_nest (literals_in u.made)));
        elements = each_all (λ (e : Element). NestsWithin (suc h) e.offset 0) m.elements ((tt, tt), tt);
        fills = All-nil (λ (f : Fill). NestsWithin (suc h) f.offset 0);
      }

pub nests : (u : Typed) (d : ℕ) → unit_nesting u < d → ModuleNestsWithin d (compiled u)
nests u zero le = absurd (omega (arith, le))
nests u (suc h) le = within_nests u h (omega (arith, le))

-- ---- loops and calls

each_at : {A : Type 0} (P : A → Type 0) (xs : List A) → ((i : ℕ) (x : A) → slice_get xs i ≡ Some x → P x) → Each P xs
each_at P [] f = tt
each_at P (x ∷ xs) f = (f 0 x refl, each_at P xs (λ i y e. f (suc i) y e))

each_all_both : (P : Instr → Type 0) (xs : List (List Instr)) → Each (λ ys. Each P ys) xs → All (λ ys. All P ys) xs
each_all_both P xs h = each_all (λ (ys : List Instr). All P ys) xs (by xs h) where
  by : (xs : List (List Instr)) → Each (λ ys. Each P ys) xs → Each (λ ys. All P ys) xs
  by [] h = tt
  by (ys ∷ xs) h = (each_all P ys h.0, by xs h.1)

module _ (u : Typed) where
  hosts : (us : List Use) → Host (IsCallee u us)
  hosts us = record { putchar = host (omega arith); getchar = host (omega arith); abort = host (omega arith) }

  calls_of : (us : List Use) (is_object : Variable → Bool) (first scratch : ℕ)
      → Each (Calls (IsCallee u us) (IsCalleeType u us) (target u is_object first scratch)) us
  calls_of us p first scratch = each_at (Calls (IsCallee u us) (IsCalleeType u us) (target u p first scratch)) us by where
    by : (i : ℕ) (x : Use) → slice_get us i ≡ Some x
        → Calls (IsCallee u us) (IsCalleeType u us) (target u p first scratch) x
    by i (calls n) e = called n i e refl
    by i (through q) e = (q, i, e, refl)
    by i (names n) e = tt
    by i (copies n) e = tt

  bounded_is : (us : List Use) (h l : ℕ) (ss : List (List Instr)) → BodyBounded (IsCallee u us) (IsCalleeType u us) h l ss
      → IsBounded u l us ss
  bounded_is us h l ss b =
      record { loops_are = b.loops; calls_are = each_all_both (OfCalls (IsCallee u us) (IsCalleeType u us)) ss b.calls }

  pub function_bounded : (f : Function) (s : Stmt)
      → IsBounded u (loops_in_stmt s) (in_stmt s) (body (target_of u f s) f s)
  function_bounded f s =
      let us = in_stmt s in
      let t = target_of u f s in
      let h = stmt_nesting s in
      bounded_is us h (loops_in_stmt s) (body t f s) (body_ok (IsCallee u us) (IsCalleeType u us) (hosts us) t h f s
      (record { depth = omega arith; uses = calls_of us t.is_object t.first t.scratch }))

  bounded_start : IsBounded u (loops_in_made u.made) (in_made u.made) ((start_func u).body)
  bounded_start =
      let us = in_made u.made in
      let t = start_target u in
      let h = deepest made_nesting u.made in
      bounded_is us h (loops_in_made u.made) ((start_func u).body) (start_ok (IsCallee u us) (IsCalleeType u us) (hosts us) t h
      u.globals u.made (record { depth = omega arith; uses = calls_of us t.is_object t.first t.scratch }))

  funcs_length : length (funcs_from u 0 u.functions) ≡ length (defined u)
  funcs_length =
      let ns = defined_from 0 u.functions in
      let a = length-map (funcs_from u 0 u.functions) (λ (g : Func). g.sig) in
      let b = ap (λ (l : List ℕ). length l) (sigs_from u 0 u.functions) in
      let c = length-map ns third in
      let d = ap (λ (l : List ℕ). length l) (defined_are u) in
      omega (arith, a, b, c, d)

  -- the start function is the last one
  start_at : slice_get (compiled u).funcs (length (defined u)) ≡ Some (start_func u)
  start_at =
      let l = funcs_length in
      let e : length (defined u) ≡ length (funcs_from u 0 u.functions) + 0 = omega (arith, l) in
      slice_right (funcs_from u 0 u.functions) (start_func u ∷ []) (length (defined u)) 0 e

  pub start_bounded : (i : ℕ) × (g : Func) × ((compiled u).start ≡ Some (length (imported_funcs (compiled u).imports) + i))
      × (slice_get (compiled u).funcs i ≡ Some g) × IsBounded u (loops_in_made u.made) (in_made u.made) g.body
  start_bounded =
      let l = imported_length u in
      let n = length (defined u) in
      let e : 3 + length (imported u) + n ≡ length (imported_funcs (compiled u).imports) + n = omega (arith, l) in
      (n, start_func u, ap Some e, start_at, bounded_start)

-- ---- without loops and calls

abbrev OfHost : ℕ → Type 0
OfHost i = i < 3

abbrev Never : ℕ → Type 0
Never i = ⊥

no_calls : (t : Target) (us : List Use) → All IsNoCall us → Each (Calls OfHost Never t) us
no_calls t [] h = tt
no_calls t (calls n ∷ us) h = absurd (All-head IsNoCall (calls n) us h)
no_calls t (through q ∷ us) h = absurd (All-head IsNoCall (through q) us h)
no_calls t (names n ∷ us) h = (tt, no_calls t us (All-tail IsNoCall (names n) us h))
no_calls t (copies n ∷ us) h = (tt, no_calls t us (All-tail IsNoCall (copies n) us h))

quiet_is : (i : Instr) → one_if_loop i ≤ 0 → OfCalls OfHost Never i → IsQuiet i
quiet_is (Block ty n) l f = tt
quiet_is (Loop ty n) l f = absurd (omega (arith, l))
quiet_is (If ty n o) l f = tt
quiet_is (Call i) l f = f
quiet_is (CallIndirect i) l f = f
quiet_is Unreachable l f = tt
quiet_is Nop l f = tt
quiet_is (Br i) l f = tt
quiet_is (BrIf i) l f = tt
quiet_is (BrTable i) l f = tt
quiet_is Return l f = tt
quiet_is Drop l f = tt
quiet_is Select l f = tt
quiet_is (LocalGet i) l f = tt
quiet_is (LocalSet i) l f = tt
quiet_is (LocalTee i) l f = tt
quiet_is (GlobalGet i) l f = tt
quiet_is (GlobalSet i) l f = tt
quiet_is (I32Const z) l f = tt
quiet_is (I64Const z) l f = tt
quiet_is (Numeric i) l f = tt
quiet_is (Linear i) l f = tt
quiet_is (Segment i) l f = tt

quiet_among : (is : List Instr) → loops_among is ≤ 0 → Each (OfCalls OfHost Never) is → Each IsQuiet is
quiet_among [] l f = tt
quiet_among (i ∷ is) l f = (quiet_is i (omega (arith, l)) f.0, quiet_among is (omega (arith, l)) f.1)

quiet_body : (ss : List (List Instr)) → loops_in_body ss ≤ 0 → Each (λ is. Each (OfCalls OfHost Never) is) ss
    → Each (λ is. Each IsQuiet is) ss
quiet_body [] l f = tt
quiet_body (is ∷ ss) l f = (quiet_among is (omega (arith, l)) f.0, quiet_body ss (omega (arith, l)) f.1)

pub function_quiet : (u : Typed) (f : Function) (s : Stmt) → loops_in_stmt s ≡ 0 → All IsNoCall (in_stmt s)
    → All (λ is. All IsQuiet is) (body (target_of u f s) f s)
function_quiet u f s l h =
    let t = target_of u f s in
    let n = stmt_nesting s in
    let hosts : Host OfHost = record { putchar = omega arith; getchar = omega arith; abort = omega arith } in
    let b = body_ok OfHost Never hosts t n f s (record { depth = omega arith; uses = no_calls t (in_stmt s) h }) in
    let ls = b.loops in each_all_both IsQuiet (body t f s) (quiet_body (body t f s) (omega (arith, l, ls)) b.calls)
