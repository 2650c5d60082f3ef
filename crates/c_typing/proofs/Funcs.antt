-- Each function of a unit's module has a typed body.
use Rattle.std.proofs.Common.{◌≡◌, ℕ, suc, ◌+◌, ◌<◌, List, [], ◌∷◌, ◌++◌, length, true, false, Option, Some, None, refl, sym, ap, ◌∙◌, arith, subst, length-append}
use Rattle.std.specs.List.{All}
use Rattle.std.proofs.lemmas.List.Elements.{All-head, All-tail, All-nil}
use Rattle.std.proofs.lemmas.Option.{none-some}
use Rattle.std.specs.Prelude.{slice_get, get_or, map, ◌||◌}
use Rattle.ms_types.specs.declared.types.ValType.{ValType}
use Rattle.ms_types.specs.declared.types.ValType.TheVariants as vals
use Rattle.ms_module.specs.declared.module.Func.{Func}
use Rattle.ms_rules.specs.Context.{Context, inside}
use Rattle.ms_rules.specs.Modules.{FuncTyped}
use Rattle.c_types.specs.Types.{Ty, void, function, Tys}
use Rattle.c_typed.specs.declared.ops.Variable.{Variable}
use Rattle.c_typed.specs.declared.ops.Variable.TheVariants.{Local, Global}
use Rattle.c_typed.specs.Objects as objects
use Rattle.c_typed.specs.Tree.{Function, Stmt, Typed}
use Rattle.c_typed.specs.Statements.{IsStatement, no_jumps}
use Rattle.c_typed.specs.refinement.Types.{IsObject, IsType}
use Rattle.c_typed.specs.Units as units
use Rattle.c_typed.specs.Units.{IsBody, IsFunction, IsMade, IsWellTyped, list_of, literals_in, variables_in}
use Rattle.c_meaning.specs.Units as meaning
use Rattle.c_code.specs.Functions.{body, held_as, locals, params_in, listed}
use Rattle.c_code.specs.Modules.{compiled, func_of, funcs_from, is_object_in, no_slots, start_func, start_target, target_of, waits_made}
use Rattle.c_code.specs.Operations.{val_of}
use Rattle.c_code.specs.Uses as uses
use Rattle.c_typing.proofs.Bodies.{body_typed, each_below, start_typed, ParamsHeld}
use Rattle.c_typing.proofs.Exprs.{listed_is}
use Rattle.c_typing.proofs.Frames.{C0, First, Fs, L, at_first, at_param, at_scratch, at_slot, at_waiting, global_at, in_function, literal_at, one_table, params_held, scalars_of, sound_with, uses_named, waiting_in}
use Rattle.c_typing.proofs.Indices.{sig_at}
use Rattle.c_typing.proofs.Lists.{slice_left}
use Rattle.c_typing.proofs.Names.{Each, Holds, IsNamed, Names, TypeOf, each_append, each_back, each_front, or_left, or_right}
use Rattle.c_typing.proofs.Sound.{sound_of_type, AreSound}

module _ (u : Typed) (w : IsWellTyped u) where
  abbrev Func' : ℕ → Function → Stmt → Func
  Func' n f s = record {
    sig = 3 + n;
    locals = locals (target_of u f s) (length (params_in f.ty)) f.slots (uses.waits_stmt s);
    body = body (target_of u f s) f s;
  }

  abbrev With : Function → Ty → List Ty → Function
  With f q ss = record f { ty = q; slots = ss }

  module _ (f : Function) (s : Stmt) (r : Ty) (ps : Tys) (more : List Ty) where
    abbrev Us : List Ty
    Us = list_of ps

    abbrev W : ℕ
    W = uses.waits_stmt s

    abbrev G : Function
    G = With f (function r ps) (Us ++ more)

    abbrev Here : Context
    Here = inside (C0 u) (L u G s Us more W) (val_of r)

    names : Names Here (target_of u G s) u.globals (Us ++ more) (literals_in u.made) W
    names = record {
      variable = v;
      literal = literal_at u;
      i32 = at_first u G s Us more W;
      i64 = at_scratch u G s Us more W 1 vals.I64 refl;
      handle = at_scratch u G s Us more W 2 vals.Handle refl;
      place = at_scratch u G s Us more W 3 vals.Handle refl;
      waiting = at_waiting u G s Us more W;
      putchar = refl;
      getchar = refl;
      abort = refl;
      table = one_table u;
    } where
      v : (x : Variable) (q : Ty) → TypeOf u.globals (Us ++ more) x q
          → Holds Here (target_of u G s) x (held_as ((target_of u G s).is_object x) q)
      v (Local n) q e = at_slot u G s Us more W n q e
      v (Global n) q e = global_at u n q e

    core : (n : ℕ) → slice_get u.functions n ≡ Some G → All (IsObject u.structs) (Us ++ more)
        → IsStatement (units.context_of u (Us ++ more) (length Us)) r no_jumps s
        → AreSound ps → Each (IsNamed (C0 u) (start_target u) (Fs u)) (uses.in_stmt s)
        → ((m : ℕ) → objects.in_stmt (Global m) s ≡ true → meaning.in_functions m u.functions ≡ true)
        → FuncTyped (C0 u) (Func' n G s)
    core n at all well sc named under = (
      record { params = map (held_as false) Us; results = listed (val_of r) },
      val_of r,
      sig_at u n G at,
      listed_is (val_of r),
      body_typed Here (target_of u G s) W u.structs u.globals (Us ++ more) (Fs u) (literals_in u.made) names
          (sound_with u w (Us ++ more) all) G s r ps refl refl
          (let l = length-append Us more in omega (arith, l)) refl held well
          (record {
            uses = in_function u (L u G s Us more W) (val_of r) (is_object_in u s (Us ++ more)) (First u G s Us more W)
                (First u G s Us more W + length (Us ++ more)) (uses.in_stmt s) named;
            objects = obj;
            least = omega arith;
          }),
    )
      where
        obj : (x : Variable) (q : Ty) → TypeOf u.globals (Us ++ more) x q → objects.in_stmt x s ≡ true
            → (target_of u G s).is_object x ≡ true
        obj (Local m) q e i = or_right (objects.is_whole (get_or (Us ++ more) m void)) (objects.in_stmt (Local m) s) i
        obj (Global m) q e i = or_right (objects.is_whole (get_or u.globals m void))
            (meaning.in_made m u.made || meaning.in_functions m u.functions)
            (or_right (meaning.in_made m u.made) (meaning.in_functions m u.functions) (under m i))

        held : ParamsHeld Here (target_of u G s) 0 Us
        held = params_held Here (target_of u G s) 0 Us (λ n q e.
            let z : n ≡ 0 + n = omega arith in
            subst (λ (m : ℕ). (slice_get (L u G s Us more W) m ≡ Some (held_as false q)) × Holds Here (target_of u G s) (Local m)
            (held_as ((target_of u G s).is_object (Local m)) q)) z
            (at_param u G s Us more W n q e, at_slot u G s Us more W n q (slice_left Us more n q e))) (scalars_of ps sc)

  one_typed : (n : ℕ) (f : Function) (s : Stmt) → slice_get u.functions n ≡ Some f → IsFunction u f → f.body ≡ Some s
      → Each (IsNamed (C0 u) (start_target u) (Fs u)) (uses.in_stmt s)
      → ((m : ℕ) → objects.in_stmt (Global m) s ≡ true → meaning.in_functions m u.functions ≡ true)
      → FuncTyped (C0 u) (Func' n f s)
  one_typed n f s at h is named under =
      let r = h.0 in
      let ps = h.1 in
      let b : IsBody u r ps f.slots (Some s) = subst (λ (o : Option Stmt). IsBody u r ps f.slots o) is h.4 in
      let more = b.0.0 in
      let sc = sound_of_type u.structs (function r ps) (subst
      (λ (q : Ty). IsType u.structs q) h.2 h.3) in
      let both : Goal (function r ps) (list_of ps ++ more) =
      λ a. core f s r ps more n a (subst (λ (l : List Ty). All (IsObject u.structs) l) b.0.1 b.1)
      (subst (λ (l : List Ty). IsStatement (units.context_of u l
      (length (list_of ps))) r no_jumps s) b.0.1 b.2) sc.1 named under in
      subst (λ (l : List Ty). Goal f.ty l) (sym b.0.1) (subst (λ (q : Ty). Goal q (list_of ps ++ more)) (sym h.2) both) at
    where
      Goal : Ty → List Ty → Type 0
      Goal q ss = slice_get u.functions n ≡ Some (With f q ss) → FuncTyped (C0 u) (Func' n (With f q ss) s)

  pub funcs_typed : (k : ℕ) (fs : List Function) → ((i : ℕ) → slice_get u.functions (k + i) ≡ slice_get fs i)
      → All (IsFunction u) fs → Each (IsNamed (C0 u) (start_target u) (Fs u)) (uses.in_functions fs)
      → ((m : ℕ) → meaning.in_functions m fs ≡ true → meaning.in_functions m u.functions ≡ true)
      → Each (FuncTyped (C0 u)) (funcs_from u k fs)
  funcs_typed k [] at h named under = tt
  funcs_typed k (f ∷ fs) at h named under =
      each_append (FuncTyped (C0 u)) (func_of u k f f.body) (funcs_from u (suc k) fs)
      (by f.body refl (each_front (IsNamed (C0 u) (start_target u) (Fs u)) (uses.in_body f.body) (uses.in_functions fs) named)
      (λ m e. under m (or_left (meaning.in_body m f.body) (meaning.in_functions m fs) e)))
      (funcs_typed (suc k) fs (λ i. let z : suc k + i ≡ k + suc i = omega arith in ap (slice_get u.functions) z ∙ at (suc i))
      (All-tail (IsFunction u) f fs h)
      (each_back (IsNamed (C0 u) (start_target u) (Fs u)) (uses.in_body f.body) (uses.in_functions fs) named)
      (λ m e. under m (or_right (meaning.in_body m f.body) (meaning.in_functions m fs) e)))
    where
      by : (o : Option Stmt) → f.body ≡ o → Each (IsNamed (C0 u) (start_target u) (Fs u)) (uses.in_body o)
          → ((m : ℕ) → meaning.in_body m o ≡ true → meaning.in_functions m u.functions ≡ true)
          → Each (FuncTyped (C0 u)) (func_of u k f o)
      by None is nm un = tt
      by (Some s) is nm un = (
        one_typed k f s (let z : k ≡ k + 0 = omega arith in ap (slice_get u.functions) z ∙ at 0)
            (All-head (IsFunction u) f fs h) is nm un,
        tt,
      )

  -- ---- before `main`

  abbrev StartLocals : List ValType
  StartLocals = locals (start_target u) 0 [] (waits_made u u.made)

  start_names : Names (inside (C0 u) StartLocals None) (start_target u) u.globals [] (literals_in u.made) (waits_made u u.made)
  start_names = record {
    variable = v;
    literal = literal_at u;
    i32 = refl;
    i64 = refl;
    handle = refl;
    place = refl;
    waiting = λ d lt. let z : 0 + 4 + d ≡ suc (suc (suc (suc d))) = omega arith in
        ap (slice_get StartLocals) z ∙ waiting_in (start_target u) (waits_made u u.made) d lt;
    putchar = refl;
    getchar = refl;
    abort = refl;
    table = one_table u;
  } where
    v : (x : Variable) (q : Ty) → TypeOf u.globals [] x q → Holds (inside (C0 u) StartLocals None) (start_target u) x
        (held_as ((start_target u).is_object x) q)
    v (Local n) q e = absurd (none-some q e)
    v (Global n) q e = global_at u n q e

  pub start_is_typed : FuncTyped (C0 u) (start_func u)
  start_is_typed = (
    record { params = []; results = [] },
    None,
    refl,
    refl,
    start_typed u (inside (C0 u) StartLocals None) (start_target u) (waits_made u u.made) refl u.structs u.globals (Fs u)
        (literals_in u.made) start_names (sound_with u w []
        (All-nil (IsObject u.structs))) u.made w.made
        (omega arith) (subst (λ (l : List ℕ). Each (λ n. n < length u.globals) l) (sym w.variables)
        (each_below (length u.globals) (length u.globals) (omega arith)))
        (record {
          uses = in_function u StartLocals None (no_slots u) 0 0 (uses.in_made u.made)
              (each_front (IsNamed (C0 u) (start_target u) (Fs u)) (uses.in_made u.made) (uses.in_functions u.functions)
              (uses_named u));
          objects = λ m e. or_right (objects.is_whole (get_or u.globals m void))
              (meaning.in_made m u.made || meaning.in_functions m u.functions)
              (or_left (meaning.in_made m u.made) (meaning.in_functions m u.functions) e);
          least = omega arith;
        }),
  )

  pub all_typed : Each (FuncTyped (C0 u)) (compiled u).funcs
  all_typed =
      each_append (FuncTyped (C0 u)) (funcs_from u 0 u.functions) (start_func u ∷ [])
      (funcs_typed 0 u.functions (λ i. let z : 0 + i ≡ i = omega arith in ap (slice_get u.functions) z) w.functions
      (each_back (IsNamed (C0 u) (start_target u) (Fs u)) (uses.in_made u.made) (uses.in_functions u.functions) (uses_named u))
      (λ m e. e))
      (start_is_typed, tt)
