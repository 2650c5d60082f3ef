-- The module of a unit is well typed.
use Rattle.std.proofs.Common.{◌≡◌, ℕ, zero, suc, ◌+◌, ◌<◌, ◌≤◌, List, [], ◌∷◌, ◌++◌, length, Bool, true, false, Option, Some, None, refl, sym, ap, ◌∙◌, arith, subst, inl, inr}
use Rattle.std.specs.List.{All, list_any}
use Rattle.std.proofs.lemmas.List.{length-map, length-append}
use Rattle.std.proofs.lemmas.List.Elements.{All-head, All-nil, All-tail}
use Rattle.std.proofs.lemmas.Option.{slice_get_within}
use Rattle.std.specs.Prelude.{slice_get, cond, filter, is_some, map, nat_lt, not, ◌&&◌, pos}
use Rattle.ms_types.specs.declared.types.FuncType.{FuncType}
use Rattle.ms_types.specs.declared.types.Limits.{Limits}
use Rattle.ms_types.specs.declared.types.ValType.{ValType}
use Rattle.ms_types.specs.declared.types.ValType.TheVariants as vals
use Rattle.ms_module.specs.declared.instr.Instr.TheVariants.{I32Const}
use Rattle.ms_module.specs.declared.module.Export.{Export}
use Rattle.ms_module.specs.declared.module.Func.{Func}
use Rattle.ms_module.specs.declared.module.Import.{Import}
use Rattle.ms_rules.specs.Context.{sigs_of_funcs, imported_globals}
use Rattle.ms_rules.specs.Modules.{AreDistinct, ElementTyped, ExportTyped, FuncTyped, GlobalTyped, Head, ImportTyped, IsNotAmong, SigTyped, StartTyped, TableTyped, WellTyped, ConstantTyped, FillTyped, MemoryTyped}
use Rattle.c_types.specs.Types.{Ty}
use Rattle.c_typed.specs.Tree.{Function, Typed}
use Rattle.c_typed.specs.Units.{HaveNames, IsWellTyped, literals_in, numbers}
use Rattle.c_code.specs.Functions.{listed, signature}
use Rattle.c_code.specs.Limits.{Limit, first_true, has_many_slots, is_long_copy, limit_of}
use Rattle.c_code.specs.Limits as limits
use Rattle.c_code.specs.Modules.{compiled, defined, distinct_behind, export_of, exports_of, first_of_type, function_at, global_of, globals_from, import_from_c, imported, index_of, is_call_of, is_defined_at, is_exported, is_name_of, literal_globals, named, sigs_through, through_in}
use Rattle.c_code.specs.Uses.{Use, calls, copies, names, through, uses}
use Rattle.c_typing.proofs.Funcs.{all_typed}
use Rattle.c_typing.proofs.Bodies.{each_below}
use Rattle.c_typing.proofs.Frames.{C0, each_all, funcs_at, one_table}
use Rattle.c_typing.proofs.Indices.{IsPresent, defined_from, defined_is, index_at, no_imported_memories, no_imported_tables, sigs_are, third}
use Rattle.c_typing.proofs.Lists.{either, filter_all, numbers_is, slice_right}
use Rattle.c_typing.proofs.Names.{Each, each_append, or_left, or_right}
use Rattle.ms_linear.specs.Table.{same_sig}
use Rattle.ms_module.specs.declared.module.ExportDesc.TheVariants as exports

pub each_with : {A : Type 0} (P Q : A → Type 0) → ((x : A) → P x → Q x) → (xs : List A) → Each P xs → Each Q xs
each_with P Q f [] h = tt
each_with P Q f (x ∷ xs) h = (f x h.0, each_with P Q f xs h.1)

pub each_map : {A B : Type 0} (P : B → Type 0) (g : A → B) (xs : List A) → Each (λ x. P (g x)) xs → Each P (map g xs)
each_map P g [] h = tt
each_map P g (x ∷ xs) h = (h.0, each_map P g xs h.1)

every : {A : Type 0} (P : A → Type 0) → ((x : A) → P x) → (xs : List A) → Each P xs
every P f [] = tt
every P f (x ∷ xs) = (f x, every P f xs)

-- ---- types of functions

listed_short : (o : Option ValType) → length (listed o) ≤ 1
listed_short None = omega arith
listed_short (Some v) = omega arith

signature_typed : (t : Ty) → SigTyped (signature t)
signature_typed t = listed_short _

distinct_each : (P : FuncType → Type 0) (seen ts : List FuncType) → Each P seen → Each P ts → Each P (distinct_behind seen ts)
distinct_each P seen [] h g = h
distinct_each P seen (t ∷ ts) h g = distinct_each P
    (cond (list_any (same_sig t) seen) seen (seen ++ t ∷ [])) ts
    (by (list_any (same_sig t) seen)) g.1 where
      by : (b : Bool) → Each P (cond b seen (seen ++ t ∷ []))
      by true = h
      by false = each_append P seen (t ∷ []) h (g.0, tt)

through_typed : (us : List Use) → Each SigTyped (through_in us)
through_typed [] = tt
through_typed (through t ∷ us) = (signature_typed t, through_typed us)
through_typed (calls n ∷ us) = through_typed us
through_typed (names n ∷ us) = through_typed us
through_typed (copies n ∷ us) = through_typed us

-- ---- limits

pub no_limit : (b : Bool) (l : Limit) (rest : Option Limit) → first_true b l rest ≡ None → (b ≡ false) × (rest ≡ None)
no_limit true l rest e = absurd cc
no_limit false l rest e = (refl, e)

pub not_below : (m n : ℕ) → nat_lt m n ≡ false → n ≤ m
not_below m n e = grind (arith, e)

is_use : (n : ℕ) (x : Use) → is_name_of n x ≡ true → is_call_of n x ≡ true
is_use n (names m) e = e
is_use n (calls m) e = absurd cc
is_use n (through t) e = absurd cc
is_use n (copies m) e = absurd cc

module _ (u : Typed) where
  few_named : limit_of u ≡ None → length (named u) ≤ 65535
  few_named e =
      let a = no_limit (list_any has_many_slots u.functions) limits.locals
      (first_true (list_any (is_long_copy u.structs) (uses u)) limits.copy
      (first_true (nat_lt 65535 (length (named u))) limits.functions None)) e in
      let b = no_limit (list_any (is_long_copy u.structs) (uses u)) limits.copy
      (first_true (nat_lt 65535 (length (named u))) limits.functions None) a.1 in
      not_below 65535 (length (named u)) ((no_limit (nat_lt 65535 (length (named u))) limits.functions None b.1).0)

  sigs_length : 3 + length u.functions ≤ length (compiled u).sigs
  sigs_length =
      let fs = map (λ (g : Function). signature g.ty) u.functions in
      let a = length-map u.functions (λ (g : Function). signature g.ty) in
      let b = length-append fs (sigs_through u) in
      let c : length (compiled u).sigs ≡ suc (suc (suc (length (fs ++ sigs_through u)))) = refl in
      omega (arith, a, b, c)

  -- ---- lists of functions

  pub numbered : (p : ℕ → Bool) → Each (λ n. (n < length u.functions) × (p n ≡ true)) (filter p (numbers (length u.functions)))
  numbered p = filter_all p (λ n. n < length u.functions) (numbers (length u.functions))
      (each_below (length u.functions) (length u.functions) (omega arith))

  name_is_call : (n : ℕ) (us : List Use) → list_any (is_name_of n) us ≡ true → list_any (is_call_of n) us ≡ true
  name_is_call n [] e = absurd cc
  name_is_call n (x ∷ us) e = elim (either (is_name_of n x) (list_any (is_name_of n) us) e) [
    | inl h ↦ or_left (is_call_of n x) (list_any (is_call_of n) us) (is_use n x h)
    | inr h ↦ or_right (is_call_of n x)
        (list_any (is_call_of n) us) (name_is_call n us h)
  ]

  index_within : (n : ℕ) → n < length u.functions → IsPresent u n → index_of u n < length (sigs_of_funcs (compiled u))
  index_within n lt p = slice_get_within (sigs_of_funcs (compiled u)) (index_of u n) (3 + n) (index_at u n lt p)

  -- ---- imports, globals

  imports_typed : Each (λ (i : Import). ImportTyped (compiled u) i.desc) (compiled u).imports
  imports_typed =
      let l = sigs_length in (
        omega (arith, l),
        (
          omega (arith, l),
          (
            omega (arith, l),
            each_map (λ (i : Import). ImportTyped (compiled u) i.desc) (import_from_c u) (imported u)
                (each_with (λ n. (n < length u.functions) × (not (is_defined_at u n) && list_any (is_call_of n) (uses u) ≡ true))
                (λ n. ImportTyped (compiled u) (import_from_c u n).desc) (λ n h. let lt = h.0 in omega (arith, l, lt))
                (imported u)
                (numbered (λ n. not (is_defined_at u n) && list_any (is_call_of n) (uses u)))),
          ),
        ),
      )

  global_typed : (v : ValType) → GlobalTyped (compiled u) (global_of u v)
  global_typed v = (first_of_type u v, refl, by v) where
    by : (v : ValType) → ConstantTyped
        (imported_globals (compiled u).imports) v (first_of_type u v)
    by vals.I32 = refl
    by vals.I64 = refl
    by vals.Handle = refl

  globals_typed : (k : ℕ) (ts : List Ty) → Each (GlobalTyped (compiled u)) (globals_from u k ts)
  globals_typed k [] = tt
  globals_typed k (t ∷ ts) = (global_typed _, globals_typed (suc k) ts)

  literals_typed : (n : ℕ) → Each (GlobalTyped (compiled u)) (literal_globals u n)
  literals_typed zero = tt
  literals_typed (suc n) = (global_typed vals.Handle, literals_typed n)

  -- ---- start

  start_typed : StartTyped (compiled u) (compiled u).start
  start_typed =
      let a = length-map (imported u) third in
      let b = length-map (defined u) third in
      let i = 3 + length (imported u) + length (defined u) in
      let front = 0 ∷ 1 ∷ 2 ∷ map third (imported u) in
      let l : length front ≡ suc (suc (suc (length (map third (imported u))))) = refl in
      let z : i ≡ length front + length (map third (defined u)) = omega (arith, a, b, l) in
      let y : length (map third (defined u)) ≡ length (map third (defined u)) + 0 = omega arith in (
        record { params = []; results = [] },
        funcs_at u i 2 (record { params = []; results = [] })
            (ap (λ (q : List ℕ). slice_get q i) (sigs_are u)
            ∙ slice_right front (map third (defined u) ++ 2 ∷ []) i (length (map third (defined u))) z
            ∙ slice_right (map third (defined u)) (2 ∷ []) (length (map third (defined u))) 0 y) refl,
        refl,
        refl,
      )

  -- ---- exports

  export_typed : (n : ℕ) (o : Option Function) → index_of u n < length (sigs_of_funcs (compiled u))
      → Each (λ (e : Export). ExportTyped (compiled u) e.desc) (export_of u n o)
  export_typed n None h = tt
  export_typed n (Some f) h = by (is_exported u f) where
    by : (b : Bool) → Each (λ (e : Export). ExportTyped (compiled u) e.desc)
        (cond b (record {
          name = f.name;
          desc = exports.Func
              (index_of u n);
        } ∷ []) [])
    by true = (h, tt)
    by false = tt

  exports_typed : (ns : List ℕ) → Each (λ n. (n < length u.functions) × (is_defined_at u n ≡ true)) ns
      → Each (λ (e : Export). ExportTyped (compiled u) e.desc) (exports_of u ns)
  exports_typed [] h = tt
  exports_typed (n ∷ ns) h =
      each_append (λ (e : Export). ExportTyped (compiled u) e.desc) (export_of u n (function_at u n)) (exports_of u ns)
      (export_typed n (function_at u n) (index_within n h.0.0 (inl h.0.1))) (exports_typed ns h.1)

  abbrev pub names_of : List ℕ → List (List ℕ)
  names_of ns = map (λ (e : Export). e.name) (exports_of u ns)

  -- of these functions, from number k on, none has this name
  not_among : (name : List ℕ) (k : ℕ) (fs : List Function) → ((i : ℕ) → slice_get u.functions (k + i) ≡ slice_get fs i)
      → All (λ (g : Function). g.name ≡ name → ⊥) fs → IsNotAmong name (names_of (defined_from k fs))
  not_among name k [] at h = tt
  not_among name k (f ∷ fs) at h = by (is_some f.body)
      (not_among name (suc k) fs (λ i. let z : suc k + i ≡ k + suc i = omega arith in ap (slice_get u.functions) z ∙ at (suc i))
      (All-tail (λ (g : Function). g.name ≡ name → ⊥) f fs h)) where
        here : (b : Bool) (es : List Export) → IsNotAmong name (map (λ (e : Export). e.name) es)
            → IsNotAmong name (map (λ (e : Export). e.name)
            ((cond b (record {
              name = f.name;
              desc = exports.Func
                  (index_of u k);
            } ∷ []) []) ++ es))
        here true es g = (λ e. All-head (λ (g : Function). g.name ≡ name → ⊥) f fs h (sym e), g)
        here false es g = g

        by : (b : Bool) → IsNotAmong name (names_of (defined_from (suc k) fs))
            → IsNotAmong name (names_of (cond b (k ∷ defined_from (suc k) fs) (defined_from (suc k) fs)))
        by false g = g
        by true g =
            let z : k ≡ k + 0 = omega arith in
            let is : function_at u k ≡ Some f = ap (slice_get u.functions) z ∙ at 0 in
            subst (λ (o : Option Function). IsNotAmong name (map (λ (e : Export). e.name)
            (export_of u k o ++ exports_of u (defined_from (suc k) fs)))) (sym is)
            (here (is_exported u f) (exports_of u (defined_from (suc k) fs)) g)

  distinct_names : (k : ℕ) (fs : List Function) → ((i : ℕ) → slice_get u.functions (k + i) ≡ slice_get fs i) → HaveNames fs
      → AreDistinct (names_of (defined_from k fs))
  distinct_names k [] at h = tt
  distinct_names k (f ∷ fs) at h =
      let next : (i : ℕ) → slice_get u.functions (suc k + i) ≡ slice_get fs i = λ i. let z : suc k + i ≡ k + suc i =
      omega arith in ap (slice_get u.functions) z ∙ at (suc i) in
      by (is_some f.body) (distinct_names (suc k) fs next h.1) (not_among f.name (suc k) fs next h.0)
    where
      here : (b : Bool) (es : List Export) → AreDistinct (map (λ (e : Export). e.name) es)
          → IsNotAmong f.name (map (λ (e : Export). e.name) es)
          → AreDistinct (map (λ (e : Export). e.name)
          ((cond b (record {
            name = f.name;
            desc = exports.Func
                (index_of u k);
          } ∷ []) []) ++ es))
      here true es g n = (n, g)
      here false es g n = g

      by : (b : Bool) → AreDistinct (names_of (defined_from (suc k) fs)) → IsNotAmong f.name (names_of (defined_from (suc k) fs))
          → AreDistinct (names_of (cond b (k ∷ defined_from (suc k) fs) (defined_from (suc k) fs)))
      by false g n = g
      by true g n =
          let z : k ≡ k + 0 = omega arith in
          let is : function_at u k ≡ Some f = ap (slice_get u.functions) z ∙ at 0 in
          subst (λ (o : Option Function). AreDistinct (map (λ (e : Export). e.name)
          (export_of u k o ++ exports_of u (defined_from (suc k) fs)))) (sym is)
          (here (is_exported u f) (exports_of u (defined_from (suc k) fs)) g n)

  -- ---- the whole

  -- from the start of the list on
  pub all_from : (i : ℕ) → slice_get u.functions (0 + i) ≡ slice_get u.functions i
  all_from i = let z : 0 + i ≡ i = omega arith in ap (slice_get u.functions) z

  pub defined_are : defined u ≡ defined_from 0 u.functions
  defined_are = ap (filter (is_defined_at u)) (numbers_is (length u.functions)) ∙ defined_is u 0 u.functions all_from

  pub exports_differ : IsWellTyped u → AreDistinct (names_of (defined u))
  exports_differ w = subst (λ (ns : List ℕ). AreDistinct (names_of ns)) (sym defined_are)
      (distinct_names 0 u.functions all_from w.distinct)

  head : IsWellTyped u → limit_of u ≡ None → Head (compiled u)
  head w limit =
      let m = compiled u in
      let few = few_named limit in
      let named_sigs = every (λ (f : Function). SigTyped (signature f.ty)) (λ f. signature_typed f.ty) u.functions in
      record {
        sigs = each_all SigTyped m.sigs (
          omega arith,
          (
            omega arith,
            (
              omega arith,
              each_append SigTyped (map (λ (f : Function). signature f.ty) u.functions) (sigs_through u)
                  (each_map SigTyped (λ (f : Function). signature f.ty) u.functions named_sigs)
                  (distinct_each SigTyped [] (through_in (uses u)) tt (through_typed (uses u))),
            ),
          ),
        );
        imports = each_all (λ (i : Import). ImportTyped m i.desc) m.imports imports_typed;
        funcs = each_all (λ (f : Func). f.sig < length m.sigs) m.funcs
            (each_with (FuncTyped (C0 u)) (λ (f : Func). f.sig < length m.sigs)
            (λ f h. slice_get_within m.sigs f.sig h.0 h.2) m.funcs (all_typed u w));
        tables = each_all TableTyped m.tables ((omega (arith, few), (omega (arith, few), omega arith)), tt);
        memories = All-nil MemoryTyped;
        globals = each_all (GlobalTyped m) m.globals (each_append (GlobalTyped m) (globals_from u 0 u.globals)
            (literal_globals u (literals_in u.made)) (globals_typed 0 u.globals) (literals_typed (literals_in u.made)));
        elements = each_all (ElementTyped m) m.elements (
          (
            one_table u,
            (I32Const (pos 1), refl, refl),
            each_all (λ f. f < length (sigs_of_funcs m)) (map (index_of u) (named u))
                (each_map (λ f. f < length (sigs_of_funcs m)) (index_of u) (named u)
                (each_with (λ n. (n < length u.functions) × (list_any (is_name_of n) (uses u) ≡ true))
                (λ n. index_of u n < length (sigs_of_funcs m))
                (λ n h. index_within n h.0 (inr (name_is_call n (uses u) h.1))) (named u)
                (numbered (λ n. list_any (is_name_of n) (uses u))))),
          ),
          tt,
        );
        fills = All-nil (FillTyped m);
        start = start_typed;
        exports = each_all (λ (e : Export). ExportTyped m e.desc) m.exports
            (exports_typed (defined u) (numbered (is_defined_at u)));
        names = exports_differ w;
        one_table = let e = ap (λ (l : List Limits). length (l ++ m.tables)) (no_imported_tables u (imported u)) in
            omega (arith, e);
        one_memory = let e = ap (λ (l : List Limits). length (l ++ m.memories)) (no_imported_memories u (imported u)) in
            omega (arith, e);
      }

  pub valid : IsWellTyped u → limit_of u ≡ None → WellTyped (compiled u)
  valid w limit = record { head = head w limit; funcs = each_all (FuncTyped (C0 u)) (compiled u).funcs (all_typed u w) }
