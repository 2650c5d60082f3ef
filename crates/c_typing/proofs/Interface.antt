-- What the module of a unit exports and imports is what the unit defines, and what it uses and doesn't define.
use Rattle.std.proofs.Common.{◌≡◌, ℕ, zero, suc, ◌+◌, ◌<◌, List, [], ◌∷◌, ◌++◌, length, Bool, true, false, Option, Some, None, refl, sym, ap, ◌∙◌, arith, inl, inr}
use Rattle.std.specs.List.{list_any}
use Rattle.std.proofs.lemmas.List.{length-map}
use Rattle.std.proofs.lemmas.Option.{none-some, same_Some, slice_get-get_or, slice_get-map, slice_get_within}
use Rattle.std.specs.Prelude.{codes, slice_get, get_or, cond, is_some, map, not, option_map, ◌&&◌, ◌==◌}
use Rattle.std.specs.Str.{bytes_eq}
use Rattle.ms_types.specs.declared.types.ValType.TheVariants as vals
use Rattle.ms_module.specs.declared.module.Export.{Export}
use Rattle.ms_module.specs.declared.module.ExportDesc.TheVariants as exports
use Rattle.ms_module.specs.declared.module.Func.{Func}
use Rattle.ms_rules.specs.Context.{imported_funcs}
use Rattle.c_types.specs.declared.integers.IntType.TheVariants.{Int}
use Rattle.c_types.specs.Types.{Ty, void, integer, function, no_types}
use Rattle.c_typed.specs.Tree.{Function, Stmt, Typed}
use Rattle.c_code.specs.Functions.{body, locals, params_in, signature}
use Rattle.c_code.specs.Modules.{all_functions, compiled, defined, export_of, exports_of, func_of, funcs_from, function_at, gives_function, import_from_c, imported, index_of, is_call_of, is_defined, is_defined_at, is_exported, name_in, rank_in, start_func, target_of}
use Rattle.c_code.specs.Uses.{uses, waits_stmt}
use Rattle.c_typing.specs.refinement.Interface.{Defines, Imports, IsAbort, IsCompiled, IsExport, IsFromC, IsGetchar, IsMadeKnown, IsPutchar, IsTaken, Lacks, MakesKnown, Takes}
use Rattle.c_typing.specs.refinement.Interface as face
use Rattle.c_typing.proofs.Frames.{each_all}
use Rattle.c_typing.proofs.Indices.{and_true, both, defined_from, imports_are, rank_is, sig_at, third}
use Rattle.c_typing.proofs.Lists.{either, equal_is, filter_has, has_number, slice_left, slice_right}
use Rattle.c_typing.proofs.Modules.{all_from, defined_are, each_map, each_with, numbered}
use Rattle.c_typing.proofs.Names.{Each, each_append}

no_body : (o : Option Stmt) → is_some o ≡ false → o ≡ None
no_body None e = refl
no_body (Some s) e = absurd cc

not_true : (b : Bool) → not b ≡ true → b ≡ false
not_true false e = refl
not_true true e = absurd cc

not_both : (b : Bool) → not (b && false) ≡ true
not_both true = refl
not_both false = refl

module _ (u : Typed) where
  -- ---- the function of a defined one

  abbrev pub FuncOf : ℕ → Function → Stmt → Func
  FuncOf n f s = record {
    sig = 3 + n;
    locals = locals (target_of u f s) (length (params_in f.ty)) f.slots (waits_stmt s);
    body = body (target_of u f s) f s;
  }

  func_at : (n : ℕ) (f : Function) (s : Stmt) → Defines u n f s → (k : ℕ) (fs : List Function)
      → ((i : ℕ) → slice_get u.functions (k + i) ≡ slice_get fs i)
      → (r : ℕ) → slice_get (defined_from k fs) r ≡ Some n → slice_get (funcs_from u k fs) r ≡ Some (FuncOf n f s)
  func_at n f s d k [] at r e = absurd (none-some n e)
  func_at n f s d k (g ∷ gs) at r e = by (func_at n f s d (suc k) gs
      (λ i. let z : suc k + i ≡ k + suc i = omega arith in ap (slice_get u.functions) z ∙ at (suc i))) g.body refl r e where
        by : ((r : ℕ) → slice_get (defined_from (suc k) gs) r ≡ Some n → slice_get (funcs_from u (suc k) gs) r ≡ Some (FuncOf n f s))
            → (o : Option Stmt) → g.body ≡ o → (r : ℕ)
            → slice_get (cond (is_some o) (k ∷ defined_from (suc k) gs) (defined_from (suc k) gs)) r ≡ Some n
            → slice_get (func_of u k g o ++ funcs_from u (suc k) gs) r ≡ Some (FuncOf n f s)
        by rest None q r e = rest r e
        by rest (Some b) q (suc r) e = rest r e
        by rest (Some b) q zero e =
            let kn : k ≡ n = same_Some k n e in
            let z : k ≡ k + 0 = omega arith in
            let gf : g ≡ f = same_Some g f (sym (ap (slice_get u.functions) z ∙ at 0) ∙ ap (slice_get u.functions) kn ∙ d.at) in
            let bs : b ≡ s = same_Some b s (sym q ∙ ap (λ (h : Function). h.body) gf ∙ d.body_is) in
            ap (λ (m : ℕ). Some (FuncOf m g b)) kn ∙ ap (λ (h : Function). Some (FuncOf n h b)) gf
            ∙ ap (λ (c : Stmt). Some (FuncOf n f c)) bs

  defined_here : (n : ℕ) (f : Function) (s : Stmt) → Defines u n f s → is_defined_at u n ≡ true
  defined_here n f s d = ap is_defined d.at ∙ ap is_some d.body_is

  within : (n : ℕ) (f : Function) → slice_get u.functions n ≡ Some f → n < length u.functions
  within n f at = slice_get_within u.functions n f at

  among : (n : ℕ) (f : Function) (s : Stmt) → Defines u n f s → list_any (λ x. x == n) (defined u) ≡ true
  among n f s d = filter_has (is_defined_at u) n (all_functions u) (has_number (length u.functions) n (within n f d.at))
      (defined_here n f s d)

  pub imported_length : length (imported_funcs (compiled u).imports) ≡ 3 + length (imported u)
  imported_length =
      let l : length (imported_funcs (map (import_from_c u) (imported u))) ≡ length (imported u) =
      ap (λ (l : List ℕ). length l) (imports_are u (imported u)) ∙ length-map (imported u) third in
      let c : length (imported_funcs (compiled u).imports)
      ≡ suc (suc (suc (length (imported_funcs (map (import_from_c u) (imported u)))))) = refl in
      omega (arith, l, c)

  pub is_compiled : (n : ℕ) (f : Function) (s : Stmt) → Defines u n f s → IsCompiled u (index_of u n) f s
  is_compiled n f s d =
      let r = rank_in (defined u) n in
      let at : slice_get (defined u) r ≡ Some n = rank_is (defined u) n (among n f s d) in
      let is : index_of u n ≡ 3 + length (imported u) + r =
      ap (λ (b : Bool). cond b (3 + length (imported u) + r) (3 + rank_in (imported u) n)) (defined_here n f s d) in
      let l = imported_length in
      record {
        number = r;
        func = FuncOf n f s;
        index_is = let z : 3 + length (imported u) + r ≡ length (imported_funcs (compiled u).imports) + r = omega (arith, l) in
            is ∙ z;
        at = slice_left (funcs_from u 0 u.functions) (start_func u ∷ []) r (FuncOf n f s)
            (func_at n f s d 0 u.functions (all_from u) r (ap (λ (ns : List ℕ). slice_get ns r) (sym (defined_are u)) ∙ at));
        body_is = refl;
        sig_is = sig_at u n f d.at;
      }

  -- ---- exports

  abbrev Entry : ℕ → Function → Export
  Entry n f = record { name = f.name; desc = exports.Func (index_of u n) }

  entry_is : (n : ℕ) (f : Function) (s : Stmt) → Defines u n f s → IsExport u (Entry n f) f s
  entry_is n f s d = record { name_is = refl; index = index_of u n; desc_is = refl; compiled_is = is_compiled n f s d }

  known : (n : ℕ) (o : Option Function) → function_at u n ≡ o → is_defined o ≡ true → Each (IsMadeKnown u) (export_of u n o)
  known n None at d = tt
  known n (Some f) at d = by f.body refl d (is_exported u f) refl where
    by : (o : Option Stmt) → f.body ≡ o → is_some o ≡ true → (b : Bool) → is_exported u f ≡ b
        → Each (IsMadeKnown u) (cond b (Entry n f ∷ []) [])
    by o q d false e = tt
    by None q d true e = absurd cc
    by (Some s) q d true e =
        let h : Defines u n f s = record { at = at; body_is = q } in (
          record { number = n; function = f; code = s; defined = h; exported = e; is = entry_is n f s h },
          tt,
        )

  all_known : (ns : List ℕ) → Each (λ n. (n < length u.functions) × (is_defined_at u n ≡ true)) ns
      → Each (IsMadeKnown u) (exports_of u ns)
  all_known [] h = tt
  all_known (n ∷ ns) h = each_append (IsMadeKnown u) (export_of u n (function_at u n)) (exports_of u ns)
      (known n (function_at u n) refl h.0.1) (all_known ns h.1)

  found : (n : ℕ) (f : Function) → slice_get u.functions n ≡ Some f → is_exported u f ≡ true → (ns : List ℕ)
      → list_any (λ x. x == n) ns ≡ true → (i : ℕ) × (slice_get (exports_of u ns) i ≡ Some (Entry n f))
  found n f at x [] e = absurd cc
  found n f at x (m ∷ ns) e = elim (either (m == n) (list_any (λ y. y == n) ns) e) [
    | inl h ↦ (
      0,
      let is : export_of u m (function_at u m) ≡ Entry n f ∷ [] =
          ap (λ (k : ℕ). export_of u k (function_at u k)) (equal_is m n h) ∙ ap (export_of u n) at
          ∙ ap (λ (b : Bool). cond b (Entry n f ∷ []) []) x in
          ap (λ (es : List Export). slice_get (es ++ exports_of u ns) 0) is,
    )
    | inr h ↦
        let r = found n f at x ns h in
        let es = export_of u m (function_at u m) in
        (length es + r.0, slice_right es (exports_of u ns) (length es + r.0) r.0 refl ∙ r.1)
  ]

  pub makes_known : MakesKnown u
  makes_known = record {
    only = each_all (IsMadeKnown u) (compiled u).exports (all_known (defined u) (numbered u (is_defined_at u)));
    all = λ n f s d x. let r = found n f d.at x (defined u) (among n f s d) in (Entry n f, r.0, r.1, entry_is n f s d);
  }

  pub main_known : (f : Function) → f.name ≡ codes "main" → f.ty ≡ function (integer Int) no_types
      → (is_exported u f ≡ true) × (signature f.ty ≡ record { params = []; results = vals.I32 ∷ [] })
  main_known f e t = (
    ap (λ (q : Ty). not (bytes_eq (codes "main") f.name && gives_function u q)) t ∙ not_both (bytes_eq (codes "main") f.name),
    ap signature t,
  )

  -- ---- imports

  from_c_is : (n : ℕ) (f : Function) → slice_get u.functions n ≡ Some f → IsFromC u (import_from_c u n) f
  from_c_is n f at = record { from_is = refl; name_is = ap (name_in u) at; function_is = sig_at u n f at }

  abbrev IsUsed : ℕ → Bool
  IsUsed n = not (is_defined_at u n) && list_any (is_call_of n) (uses u)

  taken : (n : ℕ) → (n < length u.functions) × (IsUsed n ≡ true) → IsTaken u (import_from_c u n)
  taken n h =
      let none : Function = record { name = []; ty = void; slots = []; body = None } in
      let f = get_or u.functions n none in
      let at : slice_get u.functions n ≡ Some f = slice_get-get_or u.functions n none h.0 in
      let p = both (not (is_defined_at u n)) (list_any (is_call_of n) (uses u)) h.1 in
      face.from_c n f (record {
        at = at;
        body_is = no_body f.body (sym (ap is_defined at) ∙ not_true (is_defined_at u n) p.0);
        used = p.1;
      }) (from_c_is n f at)

  pub takes : Takes u
  takes = record {
    only = each_all (IsTaken u) (compiled u).imports (
      face.putchar (record { from_is = refl; name_is = refl; function_is = refl }),
      (
        face.getchar (record { from_is = refl; name_is = refl; function_is = refl }),
        (
          face.abort (record { from_is = refl; name_is = refl; function_is = refl }),
          each_map (IsTaken u) (import_from_c u) (imported u)
              (each_with (λ n. (n < length u.functions) × (IsUsed n ≡ true)) (λ n. IsTaken u (import_from_c u n)) taken (imported u)
              (numbered u IsUsed)),
        ),
      ),
    );
    putchar = (_, 0, refl, record { from_is = refl; name_is = refl; function_is = refl });
    getchar = (_, 1, refl, record { from_is = refl; name_is = refl; function_is = refl });
    abort = (_, 2, refl, record { from_is = refl; name_is = refl; function_is = refl });
    all = there;
  } where
    there : (n : ℕ) (f : Function) → Lacks u n f → Imports u (λ i. IsFromC u i f)
    there n f h =
        let r = rank_in (imported u) n in
        let absent : is_defined_at u n ≡ false = ap is_defined h.at ∙ ap is_some h.body_is in
        let passes : IsUsed n ≡ true =
        and_true (not (is_defined_at u n)) (list_any (is_call_of n) (uses u)) (ap not absent) h.used in
        let at : slice_get (imported u) r ≡ Some n = rank_is (imported u) n
        (filter_has IsUsed n (all_functions u) (has_number (length u.functions) n (within n f h.at)) passes) in (
          import_from_c u n,
          suc (suc (suc r)),
          slice_get-map (import_from_c u) (imported u) r ∙ ap (option_map (import_from_c u)) at,
          from_c_is n f h.at,
        )
