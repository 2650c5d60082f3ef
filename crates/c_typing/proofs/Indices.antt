-- What the indices in a unit's code name: types of functions, and functions.
use Rattle.std.proofs.Common.{◌≡◌, ℕ, suc, ◌+◌, ◌<◌, List, [], ◌∷◌, ◌++◌, length, Bool, true, false, Option, Some, None, refl, sym, ap, ◌∙◌, arith, subst, ◌⊎◌, inl, inr}
use Rattle.std.specs.Prelude.{slice_get, cond, filter, map, not, is_some, ◌&&◌, ◌==◌, option_map}
use Rattle.std.specs.List.{list_any}
use Rattle.std.proofs.lemmas.Option.{slice_get-map}
use Rattle.ms_types.specs.declared.types.FuncType.{FuncType}
use Rattle.ms_types.specs.declared.types.ValType.{ValType}
use Rattle.ms_types.specs.declared.types.ValType.TheVariants.{I32, I64, Handle}
use Rattle.ms_linear.specs.Table.{same_sig, same_type, same_types}
use Rattle.ms_module.specs.declared.module.Func.{Func}
use Rattle.ms_rules.specs.Context.{imported_funcs, imported_globals, imported_memories, imported_tables, sigs_of_funcs}
use Rattle.c_types.specs.Types.{Ty}
use Rattle.c_typed.specs.Tree.{Function, Stmt, Typed}
use Rattle.c_typed.specs.Units.{numbers}
use Rattle.c_code.specs.Functions.{signature}
use Rattle.c_code.specs.Modules.{compiled, defined, distinct_behind, func_of, funcs_from, import_from_c, imported, index_of, is_call_of, is_defined_at, place_of, rank_in, sig_of, sigs_through, through_in, start_func, is_defined}
use Rattle.c_code.specs.Uses.{Use, calls, copies, names, through, uses}
use Rattle.c_typing.proofs.Lists.{any_left, any_right, either, equal_is, equal_itself, filter_has, has_number, numbers_is, position_finds, slice_left, slice_right, upto}
use Rattle.c_typing.proofs.Names.{or_left, or_right}
use Rattle.std.proofs.lemmas.List.{length-map}

-- ---- equal types of functions

same_type_is : (a b : ValType) → same_type a b ≡ true → a ≡ b
same_type_is I32 I32 e = refl
same_type_is I64 I64 e = refl
same_type_is Handle Handle e = refl
same_type_is I32 I64 e = absurd cc
same_type_is I32 Handle e = absurd cc
same_type_is I64 I32 e = absurd cc
same_type_is I64 Handle e = absurd cc
same_type_is Handle I32 e = absurd cc
same_type_is Handle I64 e = absurd cc

pub both : (a b : Bool) → a && b ≡ true → (a ≡ true) × (b ≡ true)
both true b e = (refl, e)
both false b e = absurd cc

pub and_true : (a b : Bool) → a ≡ true → b ≡ true → a && b ≡ true
and_true true b e h = h
and_true false b e h = absurd cc

same_types_is : (ts us : List ValType) → same_types ts us ≡ true → ts ≡ us
same_types_is [] [] e = refl
same_types_is (t ∷ ts) (u ∷ us) e = let p = both (same_type t u) (same_types ts us) e in
    ap (λ (x : ValType). x ∷ ts) (same_type_is t u p.0) ∙ ap (λ (l : List ValType). u ∷ l) (same_types_is ts us p.1)
same_types_is [] (u ∷ us) e = absurd cc
same_types_is (t ∷ ts) [] e = absurd cc

same_sig_is : (a b : FuncType) → same_sig a b ≡ true → a ≡ b
same_sig_is a b e =
    let p = both (same_types a.params b.params) (same_types a.results b.results) e in
    ap (λ (l : List ValType). sig l a.results) (same_types_is a.params b.params p.0)
    ∙ ap (λ (l : List ValType). sig b.params l) (same_types_is a.results b.results p.1)
  where
    sig : List ValType → List ValType → FuncType
    sig ps rs = record { params = ps; results = rs }

same_type_itself : (t : ValType) → same_type t t ≡ true
same_type_itself I32 = refl
same_type_itself I64 = refl
same_type_itself Handle = refl

same_types_itself : (ts : List ValType) → same_types ts ts ≡ true
same_types_itself [] = refl
same_types_itself (t ∷ ts) = and_true (same_type t t) (same_types ts ts) (same_type_itself t) (same_types_itself ts)

same_sig_itself : (a : FuncType) → same_sig a a ≡ true
same_sig_itself a = and_true (same_types a.params a.params) (same_types a.results a.results) (same_types_itself a.params)
    (same_types_itself a.results)

-- ---- the types of the calls through pointers

still_there : (t : FuncType) (seen ts : List FuncType) → list_any (same_sig t) seen ≡ true
    → list_any (same_sig t) (distinct_behind seen ts) ≡ true
still_there t seen [] e = e
still_there t seen (x ∷ ts) e = by (list_any (same_sig x) seen) (λ s h. still_there t s ts h) where
  by : (b : Bool) → ((s : List FuncType) → list_any (same_sig t) s ≡ true → list_any (same_sig t) (distinct_behind s ts) ≡ true)
      → list_any (same_sig t) (distinct_behind (cond b seen (seen ++ x ∷ [])) ts) ≡ true
  by true g = g seen e
  by false g = g (seen ++ x ∷ []) (any_left (same_sig t) seen (x ∷ []) e)

comes_in : (t : FuncType) (seen ts : List FuncType) → list_any (same_sig t) ts ≡ true
    → list_any (same_sig t) (distinct_behind seen ts) ≡ true
comes_in t seen [] e = absurd cc
comes_in t seen (x ∷ ts) e = by (list_any (same_sig x) seen) refl (λ s h. comes_in t s ts h) where
  by : (b : Bool) → list_any (same_sig x) seen ≡ b → ((s : List FuncType) → list_any (same_sig t) ts ≡ true
      → list_any (same_sig t) (distinct_behind s ts) ≡ true)
      → list_any (same_sig t) (distinct_behind (cond b seen (seen ++ x ∷ [])) ts) ≡ true
  by true q g = elim (either (same_sig t x) (list_any (same_sig t) ts) e) [
    | inl h ↦ still_there t seen ts (subst (λ (y : FuncType). list_any (same_sig y) seen ≡ true)
        (sym (same_sig_is t x h)) q)
    | inr h ↦ g seen h
  ]
  by false q g = elim (either (same_sig t x) (list_any (same_sig t) ts) e) [
    | inl h ↦ still_there t (seen ++ x ∷ []) ts (any_right (same_sig t) seen (x ∷ [])
        (or_left (same_sig t x) false h))
    | inr h ↦ g (seen ++ x ∷ []) h
  ]

through_there : (t : Ty) (pre rest : List Use) → list_any (same_sig (signature t)) (through_in (pre ++ through t ∷ rest)) ≡ true
through_there t [] rest = or_left (same_sig (signature t) (signature t)) (list_any (same_sig (signature t)) (through_in rest))
    (same_sig_itself (signature t))
through_there t (through v ∷ pre) rest = or_right (same_sig (signature t) (signature v))
    (list_any (same_sig (signature t)) (through_in (pre ++ through t ∷ rest))) (through_there t pre rest)
through_there t (calls n ∷ pre) rest = through_there t pre rest
through_there t (names n ∷ pre) rest = through_there t pre rest
through_there t (copies n ∷ pre) rest = through_there t pre rest

abbrev or_zero : Option ℕ → ℕ
or_zero None = 0
or_zero (Some i) = i

place_is : (t : FuncType) (ts : List FuncType) → list_any (same_sig t) ts ≡ true → slice_get ts (place_of t ts) ≡ Some t
place_is t ts e =
    let p = position_finds (same_sig t) ts e in
    let at : place_of t ts ≡ p.0 = ap or_zero p.2 in
    ap (slice_get ts) at ∙ p.3 ∙ ap Some (sym (same_sig_is t p.1 p.4))

pub rank_is : (ms : List ℕ) (n : ℕ) → list_any (λ m. m == n) ms ≡ true → slice_get ms (rank_in ms n) ≡ Some n
rank_is ms n e =
    let p = position_finds (λ m. m == n) ms e in
    let at : rank_in ms n ≡ p.0 = ap or_zero p.2 in
    ap (slice_get ms) at ∙ p.3 ∙ ap Some (equal_is p.1 n p.4)

-- ---- the types of all functions, by their indices

abbrev pub third : ℕ → ℕ
third n = 3 + n

abbrev pub defined_from : ℕ → List Function → List ℕ
defined_from k [] = []
defined_from k (f ∷ fs) = cond (is_some f.body) (k ∷ defined_from (suc k) fs) (defined_from (suc k) fs)

module _ (u : Typed) where
  pub imports_are : (ns : List ℕ) → imported_funcs (map (import_from_c u) ns) ≡ map third ns
  imports_are [] = refl
  imports_are (n ∷ ns) = ap (λ (l : List ℕ). (3 + n) ∷ l) (imports_are ns)

  pub no_imported_globals : (ns : List ℕ) → imported_globals (map (import_from_c u) ns) ≡ []
  no_imported_globals [] = refl
  no_imported_globals (n ∷ ns) = no_imported_globals ns

  pub no_imported_tables : (ns : List ℕ) → imported_tables (map (import_from_c u) ns) ≡ []
  no_imported_tables [] = refl
  no_imported_tables (n ∷ ns) = no_imported_tables ns

  pub no_imported_memories : (ns : List ℕ) → imported_memories (map (import_from_c u) ns) ≡ []
  no_imported_memories [] = refl
  no_imported_memories (n ∷ ns) = no_imported_memories ns

  pub sigs_from : (k : ℕ) (fs : List Function) → map (λ (f : Func). f.sig) (funcs_from u k fs) ≡ map third (defined_from k fs)
  sigs_from k [] = refl
  sigs_from k (f ∷ fs) = by f.body (sigs_from (suc k) fs) where
    by : (o : Option Stmt) → map (λ (f : Func). f.sig) (funcs_from u (suc k) fs) ≡ map third (defined_from (suc k) fs)
        → map (λ (f : Func). f.sig) (func_of u k f o ++ funcs_from u (suc k) fs) ≡ map third
        (cond (is_some o) (k ∷ defined_from (suc k) fs) (defined_from (suc k) fs))
    by None e = e
    by (Some s) e = ap (λ (l : List ℕ). (3 + k) ∷ l) e

  pub defined_is : (k : ℕ) (fs : List Function) → ((i : ℕ) → slice_get u.functions (k + i) ≡ slice_get fs i)
      → filter (is_defined_at u) (upto k (length fs)) ≡ defined_from k fs
  defined_is k [] h = refl
  defined_is k (f ∷ fs) h =
      let z : k ≡ k + 0 = omega arith in
      let at : is_defined_at u k ≡ is_some f.body = ap (λ (o : Option Function). is_defined o)
      (ap (slice_get u.functions) z ∙ h 0) in
      ap (λ (b : Bool). cond b (k ∷ filter (is_defined_at u) (upto (suc k) (length fs)))
      (filter (is_defined_at u) (upto (suc k) (length fs)))) at
      ∙ ap (λ (l : List ℕ). cond (is_some f.body) (k ∷ l) l)
      (defined_is (suc k) fs (λ i. let w : suc k + i ≡ k + suc i = omega arith in ap (slice_get u.functions) w ∙ h (suc i)))

  abbrev pub all_sigs : List ℕ
  all_sigs = (0 ∷ 1 ∷ 2 ∷ map third (imported u)) ++ (map third (defined u) ++ 2 ∷ [])

  map_more : (xs : List Func) (y : Func) → map (λ (f : Func). f.sig) (xs ++ y ∷ []) ≡ map (λ (f : Func). f.sig) xs ++ y.sig ∷ []
  map_more [] y = refl
  map_more (x ∷ xs) y = ap (λ (l : List ℕ). x.sig ∷ l) (map_more xs y)

  pub sigs_are : sigs_of_funcs (compiled u) ≡ all_sigs
  sigs_are =
      let d : map (λ (f : Func). f.sig) (funcs_from u 0 u.functions) ≡ map third (defined u) =
      sigs_from 0 u.functions ∙ ap (map third)
      (sym (ap (filter (is_defined_at u)) (numbers_is (length u.functions))
      ∙ defined_is 0 u.functions (λ i. let z : 0 + i ≡ i = omega arith in ap (slice_get u.functions) z))) in
      ap (λ (l : List ℕ). (0 ∷ 1 ∷ 2 ∷ l) ++ map (λ (f : Func). f.sig) (compiled u).funcs) (imports_are (imported u))
      ∙ ap (λ (l : List ℕ). (0 ∷ 1 ∷ 2 ∷ map third (imported u)) ++ l)
      (map_more (funcs_from u 0 u.functions) (start_func u) ∙ ap (λ (l : List ℕ). l ++ 2 ∷ []) d)

-- ---- what each index names

module _ (u : Typed) where
  abbrev Sigs : List FuncType
  Sigs = (compiled u).sigs

  pub sig_at : (n : ℕ) (f : Function) → slice_get u.functions n ≡ Some f → slice_get Sigs (3 + n) ≡ Some (signature f.ty)
  sig_at n f e =
      let fs = map (λ (g : Function). signature g.ty) u.functions in
      let z : 3 + n ≡ suc (suc (suc n)) = omega arith in
      ap (slice_get Sigs) z ∙ slice_left fs (sigs_through u) n (signature f.ty)
      (slice_get-map (λ (g : Function). signature g.ty) u.functions n
      ∙ ap (option_map (λ (g : Function). signature g.ty)) e)

  pub sig_through : (t : Ty) (pre rest : List Use) → uses u ≡ pre ++ through t ∷ rest
      → slice_get Sigs (sig_of u t) ≡ Some (signature t)
  sig_through t pre rest e =
      let fs = map (λ (g : Function). signature g.ty) u.functions in
      let i = place_of (signature t) (sigs_through u) in
      let l : length fs ≡ length u.functions = length-map u.functions
      (λ (g : Function). signature g.ty) in
      let z : 3 + length u.functions + i ≡ suc (suc (suc (length fs + i))) = omega (arith, l) in
      ap (slice_get Sigs) z ∙ slice_right fs (sigs_through u) (length fs + i) i refl
      ∙ place_is (signature t) (sigs_through u) (comes_in (signature t) [] (through_in (uses u))
      (subst (λ (us : List Use). list_any (same_sig (signature t)) (through_in us) ≡ true) (sym e)
      (through_there t pre rest)))

  -- a function that is used or defined
  abbrev pub IsPresent : ℕ → Type 0
  IsPresent n = (is_defined_at u n ≡ true) ⊎ (list_any (is_call_of n) (uses u) ≡ true)

  pub index_at : (n : ℕ) → n < length u.functions → IsPresent n
      → slice_get (sigs_of_funcs (compiled u)) (index_of u n) ≡ Some (3 + n)
  index_at n lt present = ap (λ (l : List ℕ). slice_get l (index_of u n)) (sigs_are u) ∙ by (is_defined_at u n) refl present where
    named : list_any (λ x. x == n) (numbers (length u.functions)) ≡ true
    named = has_number (length u.functions) n lt

    front : List ℕ
    front = 0 ∷ 1 ∷ 2 ∷ map third (imported u)

    by : (b : Bool) → is_defined_at u n ≡ b → (is_defined_at u n ≡ true) ⊎ (list_any (is_call_of n) (uses u) ≡ true)
        → slice_get ((0 ∷ 1 ∷ 2 ∷ map third (imported u)) ++ (map third (defined u) ++ 2 ∷ [])) (index_of u n) ≡ Some (3 + n)
    by true e p =
        let r = rank_in (defined u) n in
        let at : slice_get (defined u) r ≡ Some n = rank_is (defined u) n
        (filter_has (is_defined_at u) n (numbers (length u.functions)) named e) in
        let l : length (map third (imported u)) ≡ length (imported u) =
        length-map (imported u) third in
        let z : 3 + length (imported u) + r ≡ suc (suc (suc (length (map third (imported u))))) + r = omega (arith, l) in
        let is : index_of u n ≡ 3 + length (imported u) + r =
        ap (λ (b : Bool). cond b (3 + length (imported u) + r) (3 + rank_in (imported u) n)) e in
        slice_right (0 ∷ 1 ∷ 2 ∷ map third (imported u)) (map third (defined u) ++ 2 ∷ []) (index_of u n) r (is ∙ z)
        ∙ slice_left (map third (defined u)) (2 ∷ []) r (3 + n)
        (slice_get-map third (defined u) r ∙ ap (option_map third) at)
    by false e p =
        let r = rank_in (imported u) n in
        let used : list_any (is_call_of n) (uses u) ≡ true = elim p [ inl h ↦ absurd cc | inr h ↦ h ] in
        let passes : not (is_defined_at u n) && list_any (is_call_of n) (uses u) ≡ true =
        and_true (not (is_defined_at u n)) (list_any (is_call_of n) (uses u)) (ap not e) used in
        let at : slice_get (imported u) r ≡ Some n = rank_is (imported u) n
        (filter_has (λ m. not (is_defined_at u m) && list_any (is_call_of m) (uses u)) n
        (numbers (length u.functions)) named passes) in
        let is : index_of u n ≡ 3 + r = ap (λ (b : Bool). cond b (3 + length (imported u) + rank_in (defined u) n) (3 + r)) e in
        let z : 3 + r ≡ suc (suc (suc r)) = omega arith in
        slice_left (0 ∷ 1 ∷ 2 ∷ map third (imported u)) (map third (defined u) ++ 2 ∷ []) (index_of u n) (3 + n)
        (ap (slice_get (0 ∷ 1 ∷ 2 ∷ map third (imported u))) (is ∙ z)
        ∙ (slice_get-map third (imported u) r ∙ ap (option_map third) at))

  call_present : (n : ℕ) (x : Use) (pre rest : List Use) → is_call_of n x ≡ true → uses u ≡ pre ++ x ∷ rest
      → list_any (is_call_of n) (uses u) ≡ true
  call_present n x pre rest e is = subst (λ (us : List Use). list_any (is_call_of n) us ≡ true) (sym is)
      (any_right (is_call_of n) pre (x ∷ rest) (or_left (is_call_of n x) (list_any (is_call_of n) rest) e))

  pub called : (n : ℕ) (pre rest : List Use) → uses u ≡ pre ++ calls n ∷ rest → list_any (is_call_of n) (uses u) ≡ true
  called n pre rest is = call_present n (calls n) pre rest (equal_itself n) is
