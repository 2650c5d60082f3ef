-- What is found in one part behind another.
use Rattle.std.proofs.Common.{◌≡◌, ◌∙◌, ◌||◌, ◌++◌, ◌==◌, ◌≤◌, ◌+◌, ℕ, zero, suc, Bool, true, false, List, [], ◌∷◌, length, map, replicate, slice_set, Option, Vec, Box, Global, arith, refl, subst, sym, ap}
use Rattle.std.specs.Prelude.{Result, Ok, Err, OnOk, if◌then◌else◌}
use Rattle.std.specs.List.{list_any}
use Rattle.std.proofs.lemmas.Bool.Decides.{nat_tests}
use Rattle.std.proofs.lemmas.List.{length-map, map-append}
use Rattle.std.proofs.lemmas.List.Folds.{list_any-append}
use Rattle.ms_types.specs.declared.types.FuncType.{FuncType}
use Rattle.ms_linear.specs.Table.{same_sig}
use Rattle.c_types.specs.declared.types.CType.{CType}
use Rattle.c_types.specs.Layout.{Table}
use Rattle.c_types.specs.Types.{Ty, type_of}
use Rattle.c_typed.specs.declared.tree.Expr.{Expr}
use Rattle.c_typed.specs.declared.tree.Expr.TheVariants as exprs
use Rattle.c_typed.specs.declared.tree.Place.{Place}
use Rattle.c_typed.specs.declared.tree.Sized.{Sized}
use Rattle.c_typed.specs.declared.tree.Sized.TheVariants as sizes
use Rattle.c_typed.specs.declared.tree.Stmt.{Stmt}
use Rattle.c_typed.specs.declared.tree.Stmt.TheVariants as stmts
use Rattle.c_typed.specs.declared.unit.Function.{Function}
use Rattle.c_typed.specs.declared.unit.Made.{Made}
use Rattle.c_typed.specs.declared.unit.Made.TheVariants as mades
use Rattle.c_typed.specs.declared.unit.TypedUnit.{TypedUnit}
use Rattle.c_typed.specs.Parts.{sequence}
use Rattle.c_typed.specs.Tree as tree
use Rattle.c_typed.specs.refinement.Views.{expr_of, function_of, list_of, made_of, place_of, sized_of, step_of, stmt_of, typed_of}
use Rattle.c_typed.proofs.Sequences.{scope_is, switch_is}
use Rattle.c_typed.specs.Units.{numbers}
use Rattle.c_code.specs.Functions.{signature}
use Rattle.c_code.specs.Limits.{is_long_copy}
use Rattle.c_code.specs.Modules.{all_functions, distinct_behind, is_call_of, is_name_of, through_in}
use Rattle.c_code.specs.Uses.{Use, calls, copies, names, through, in_expr, in_exprs, in_functions, in_made, in_place, in_step, in_stmt, in_stmts, in_values, uses}
use Rattle.c_place.specs.refinement.Lists.{exprs_in}
use Rattle.c_place.specs.refinement.Marks.{marked_from}
use Rattle.c_place.proofs.Lists.{call_is, call_through_is}
use Rattle.c_place.proofs.Marking.{before, from_none, set_is}
use Rattle.c_emit.specs.declared.uses.Uses.{Uses}
use Rattle.c_emit.specs.refinement.Found.{Finds, Found, found, in_one, no_uses, with_uses}
use Rattle.c_emit.specs.refinement.Used.{AreUses}

or_none : (b : Bool) → b ≡ (b || false)
or_none true = refl
or_none false = refl

or_both : (b c d : Bool) → ((b || c) || d) ≡ (b || (c || d))
or_both true c d = refl
or_both false c d = refl

through_both : (xs ys : List Use) → through_in (xs ++ ys) ≡ through_in xs ++ through_in ys
through_both [] ys = refl
through_both (calls n ∷ xs) ys = through_both xs ys
through_both (names n ∷ xs) ys = through_both xs ys
through_both (through t ∷ xs) ys = ap (λ ts. signature t ∷ ts) (through_both xs ys)
through_both (copies n ∷ xs) ys = through_both xs ys

distinct_both : (seen ts us : List FuncType) → distinct_behind (distinct_behind seen ts) us ≡ distinct_behind seen (ts ++ us)
distinct_both seen [] us = refl
distinct_both seen (t ∷ ts) us = distinct_both (if list_any (same_sig t) seen then seen else seen ++ t ∷ []) ts us

or_lists : (p : Use → Bool) (xs ys : List Use) (b : Bool) → ((b || list_any p xs) || list_any p ys) ≡ (b || list_any p (xs ++ ys))
or_lists p xs ys b = or_both b (list_any p xs) (list_any p ys) ∙ ap (λ c. b || c) (sym (list_any-append p xs ys))

flags_both : (p : ℕ → Use → Bool) (xs ys : List Use) (n : ℕ) (bs : List Bool)
    → marked_from n (λ k. list_any (p k) ys) (marked_from n (λ k. list_any (p k) xs) bs) ≡ marked_from n (λ k. list_any (p k) (xs ++ ys)) bs
flags_both p xs ys n [] = refl
flags_both p xs ys n (b ∷ bs) =
    ap (λ (c : Bool). c ∷ marked_from (suc n) (λ k. list_any (p k) ys) (marked_from (suc n) (λ k. list_any (p k) xs) bs)) (or_lists (p n) xs ys b)
    ∙ ap (λ (l : List Bool). (b || list_any (p n) (xs ++ ys)) ∷ l) (flags_both p xs ys (suc n) bs)

types_both : (xs ys : List Use) (ts : List FuncType)
    → distinct_behind (distinct_behind ts (through_in xs)) (through_in ys) ≡ distinct_behind ts (through_in (xs ++ ys))
types_both xs ys ts = distinct_both ts (through_in xs) (through_in ys) ∙ ap (λ us. distinct_behind ts us) (sym (through_both xs ys))

abbrev four : (us ns : List Bool) (ts : List FuncType) (b : Bool) → Found
four us ns ts b = record { used = us; named = ns; through = ts; has_long_copy = b }

same_four : (us us' ns ns' : List Bool) (ts ts' : List FuncType) (b b' : Bool) → us ≡ us' → ns ≡ ns' → ts ≡ ts' → b ≡ b' → four us ns ts b ≡ four us' ns' ts' b'
same_four us us' ns ns' ts ts' b b' e1 e2 e3 e4 =
    ap (λ x. four x ns ts b) e1 ∙ ap (λ x. four us' x ts b) e2 ∙ ap (λ x. four us' ns' x b) e3 ∙ ap (λ x. four us' ns' ts' x) e4

with_both : (structs : Table) (xs ys : List Use) (s : Found) → with_uses structs ys (with_uses structs xs s) ≡ with_uses structs (xs ++ ys) s
with_both structs xs ys s =
    same_four _ _ _ _ _ _ _ _ (flags_both is_call_of xs ys 0 s.used) (flags_both is_name_of xs ys 0 s.named) (types_both xs ys s.through)
    (or_lists (is_long_copy structs) xs ys s.has_long_copy)

none_left : (structs : Table) (s : Found) → s ≡ with_uses structs [] s
none_left structs s = same_four _ _ _ _ _ _ _ _ (from_none 0 s.used) (from_none 0 s.named) refl (or_none s.has_long_copy)

pub nothing_found : (structs : Table) (xs : List Use) (s : Found) → xs ≡ [] → Finds structs xs s s
nothing_found structs xs s is = record { is = none_left structs s ∙ ap (λ l. with_uses structs l s) (sym is) }

finds_both : (structs : Table) (xs ys : List Use) (s0 s1 s2 : Found) → Finds structs xs s0 s1 → Finds structs ys s1 s2 → Finds structs (xs ++ ys) s0 s2
finds_both structs xs ys s0 s1 s2 h k = record { is = k.is ∙ ap (with_uses structs ys) h.is ∙ with_both structs xs ys s0 }

pub finds_then : (A E : Type 0) (r : Result A E) (structs : Table) (xs ys : List Use) (s0 s1 s2 : Found)
    → Finds structs xs s0 s1 → OnOk r (Finds structs ys s1 s2) → OnOk r (Finds structs (xs ++ ys) s0 s2)
finds_then A E (Ok x) structs xs ys s0 s1 s2 h k = finds_both structs xs ys s0 s1 s2 h k
finds_then A E (Err x) structs xs ys s0 s1 s2 h k = k

pub finds_three : (A E : Type 0) (r : Result A E) (structs : Table) (xs ys zs : List Use) (s0 s1 s2 s3 : Found)
    → Finds structs xs s0 s1 → Finds structs ys s1 s2 → OnOk r (Finds structs zs s2 s3) → OnOk r (Finds structs (xs ++ (ys ++ zs)) s0 s3)
finds_three A E r structs xs ys zs s0 s1 s2 s3 h k l = finds_then A E r structs xs (ys ++ zs) s0 s1 s3 h (finds_then A E r structs ys zs s1 s2 s3 k l)

-- ---- lists: what is found behind this one, and behind the last one

pub found_step : (structs : Table) (xs ys all : List Use) (s0 s1 s : Found)
    → all ≡ xs ++ ys → Finds structs xs s0 s1 → with_uses structs all s0 ≡ s → with_uses structs ys s1 ≡ s
found_step structs xs ys all s0 s1 s is h so =
    ap (with_uses structs ys) h.is ∙ with_both structs xs ys s0 ∙ ap (λ l. with_uses structs l s0) (sym is) ∙ so

pub found_end : (structs : Table) (xs all : List Use) (s0 s1 : Found) → xs ≡ [] → with_uses structs xs s1 ≡ with_uses structs all s0 → Finds structs all s0 s1
found_end structs xs all s0 s1 is so = record { is = none_left structs s1 ∙ ap (λ l. with_uses structs l s1) (sym is) ∙ so }

pub made_is : (m : tree.Made) (ms : List tree.Made) → in_made (m ∷ ms) ≡ in_one m ++ in_made ms
made_is (tree.global n ss) ms = refl
made_is (tree.text bytes) ms = refl

values_is : (ss : List tree.Stmt) → in_stmts (sequence ss) ≡ in_values ss
values_is [] = refl
values_is (s ∷ ss) = ap (λ l. in_stmt s ++ l) (values_is ss)

-- ---- one use

same_flags : (f g : ℕ → Bool) → ((k : ℕ) → f k ≡ g k) → (n : ℕ) (bs : List Bool) → marked_from n f bs ≡ marked_from n g bs
same_flags f g same n [] = refl
same_flags f g same n (b ∷ bs) =
    ap (λ (c : Bool). (b || c) ∷ marked_from (suc n) f bs) (same n) ∙ ap (λ (l : List Bool). (b || g n) ∷ l) (same_flags f g same (suc n) bs)

turned : (n k : ℕ) → (k == n || false) ≡ (n == k || false)
turned n k = let e : (k == n) ≡ (n == k) = grind (arith, nat_tests) in ap (λ b. b || false) e

pub flag_set : (n : ℕ) (bs : List Bool) → slice_set bs n true ≡ marked_from 0 (λ k. n == k || false) bs
flag_set n bs = set_is n bs ∙ same_flags (λ k. k == n || false) (λ k. n == k || false) (turned n) 0 bs

pub no_flag : (n : ℕ) (bs : List Bool) → length bs ≤ n → bs ≡ marked_from 0 (λ k. n == k || false) bs
no_flag n bs past = before n 0 bs (omega (arith, past)) ∙ same_flags (λ k. k == n || false) (λ k. n == k || false) (turned n) 0 bs

pub call_found : (structs : Table) (n : ℕ) (s : Found) (us : List Bool) → us ≡ marked_from 0 (λ k. n == k || false) s.used
    → Finds structs (calls n ∷ []) s (four us s.named s.through s.has_long_copy)
call_found structs n s us e = record { is = same_four _ _ _ _ _ _ _ _ e (from_none 0 s.named) refl (or_none s.has_long_copy) }

pub through_found : (A E : Type 0) (r : Result A E) (structs : Table) (t : Ty) (s : Found) (ts : List FuncType)
    → OnOk r (ts ≡ distinct_behind s.through (signature t ∷ [])) → OnOk r (Finds structs (through t ∷ []) s (four s.used s.named ts s.has_long_copy))
through_found A E (Ok x) structs t s ts e =
    record { is = same_four _ _ _ _ _ _ _ _ (from_none 0 s.used) (from_none 0 s.named) e (or_none s.has_long_copy) }
through_found A E (Err x) structs t s ts e = e

pub copy_found : (structs : Table) (n : ℕ) (s : Found) (b : Bool) → b ≡ is_long_copy structs (copies n)
    → Finds structs (copies n ∷ []) s (four s.used s.named s.through (s.has_long_copy || b))
copy_found structs n s b e =
    record { is = same_four _ _ _ _ _ _ _ _ (from_none 0 s.used) (from_none 0 s.named) refl (ap (λ c. s.has_long_copy || c) (e ∙ or_none (is_long_copy structs (copies n)))) }

-- ---- nodes, by their parts

abbrev pub by_place : Place → List Use
by_place p = in_place (place_of p)

abbrev pub by_expr : Expr → List Use
by_expr e = in_expr (expr_of e)

abbrev pub by_exprs : List Expr → List Use
by_exprs es = in_exprs (exprs_in es)

abbrev pub by_stmt : Stmt → List Use
by_stmt s = in_stmt (stmt_of s)

abbrev pub by_stmts : List Stmt → List Use
by_stmts ss = in_stmts (sequence (list_of ss))

-- the same uses
pub found_as : (A E : Type 0) (r : Result A E) (structs : Table) (xs ys : List Use) (s0 s1 : Found)
    → xs ≡ ys → OnOk r (Finds structs xs s0 s1) → OnOk r (Finds structs ys s0 s1)
found_as A E r structs xs ys s0 s1 is h = subst (λ l. OnOk r (Finds structs l s0 s1)) is h

-- parts that are the same
three_same : {X Y Z : Type 0} (f : X → List Use) (g : Y → List Use) (h : Z → List Use) {x x' : X} {y y' : Y} {z z' : Z}
    → x ≡ x' → y ≡ y' → z ≡ z' → f x ++ (g y ++ h z) ≡ f x' ++ (g y' ++ h z')
three_same f g h {x} {x'} {y} {y'} {z} {z'} p q r = ap (λ l. f l ++ (g y ++ h z)) p ∙ ap (λ l. f x' ++ (g l ++ h z)) q ∙ ap (λ l. f x' ++ (g y' ++ h l)) r

two_same : {X Y : Type 0} (f : X → List Use) (g : Y → List Use) {x x' : X} {y y' : Y} → x ≡ x' → y ≡ y' → f x ++ g y ≡ f x' ++ g y'
two_same f g {x} {x'} {y} {y'} p q = ap (λ l. f l ++ g y) p ∙ ap (λ l. f x' ++ g l) q

sized_none : (n : ℕ) (o : Sized) → in_expr (sized_of o n) ≡ []
sized_none n (sizes.Place' p b) = refl
sized_none n (sizes.Value' p e) = refl
sized_none n sizes.Nothing = refl

pub size_uses : (e : Expr) (n : ℕ) (o : Sized) → e ≡ exprs.SizeOf n o → by_expr e ≡ []
size_uses e n o is = ap by_expr is ∙ sized_none n o

pub choose_uses : (e : Expr) (s : _) (c a b : Box Expr Global) (c' a' b' : Expr) → e ≡ exprs.Choose s c a b → c' ≡ c.value → a' ≡ a.value → b' ≡ b.value
    → by_expr c' ++ (by_expr a' ++ by_expr b') ≡ by_expr e
choose_uses e s c a b c' a' b' is p q r = three_same by_expr by_expr by_expr p q r ∙ sym (ap by_expr is)

pub copy_uses : (e : Expr) (n : ℕ) (a b : Box Place Global) (a' b' : Place) → e ≡ exprs.Copy n a b → a' ≡ a.value → b' ≡ b.value
    → copies n ∷ (by_place a' ++ by_place b') ≡ by_expr e
copy_uses e n a b a' b' is p q = ap (λ l. copies n ∷ l) (two_same by_place by_place p q) ∙ sym (ap by_expr is)

pub call_uses : (e : Expr) (n : ℕ) (s : _) (es : Vec Expr Global) (es' : List Expr) → e ≡ exprs.Call n s es → es' ≡ es.items → calls n ∷ by_exprs es' ≡ by_expr e
call_uses e n s es es' is p = ap (λ l. calls n ∷ by_exprs l) p ∙ sym (ap by_expr is ∙ ap in_expr (call_is n s es))

pub call_through_uses : (e : Expr) (t : CType) (s : _) (a : Box Expr Global) (es : Vec Expr Global) (a' : Expr) (es' : List Expr)
    → e ≡ exprs.CallThrough t s a es → a' ≡ a.value → es' ≡ es.items → through (type_of t) ∷ (by_expr a' ++ by_exprs es') ≡ by_expr e
call_through_uses e t s a es a' es' is p q =
    ap (λ l. through (type_of t) ∷ l) (two_same by_expr by_exprs p q) ∙ sym (ap by_expr is ∙ ap in_expr (call_through_is t s a es))

pub if_uses : (s : Stmt) (c : Expr) (a b : Box Stmt Global) (a' b' : Stmt) → s ≡ stmts.If c a b → a' ≡ a.value → b' ≡ b.value
    → by_expr c ++ (by_stmt a' ++ by_stmt b') ≡ by_stmt s
if_uses s c a b a' b' is p q = ap (λ l. by_expr c ++ l) (two_same by_stmt by_stmt p q) ∙ sym (ap by_stmt is)

pub loop_uses : (s : Stmt) (c : Expr) (step : Option Expr) (b : Box Stmt Global) (b' : Stmt) → s ≡ stmts.Loop c step b → b' ≡ b.value
    → by_expr c ++ (in_step (step_of step) ++ by_stmt b') ≡ by_stmt s
loop_uses s c step b b' is p = ap (λ l. by_expr c ++ (in_step (step_of step) ++ by_stmt l)) p ∙ sym (ap by_stmt is)

pub switch_uses : (s : Stmt) (t : _) (e : Expr) (slots cases : _) (ss : Vec Stmt Global) (ss' : List Stmt) → s ≡ stmts.Switch t e slots cases ss → ss' ≡ ss.items
    → by_expr e ++ by_stmts ss' ≡ by_stmt s
switch_uses s t e slots cases ss ss' is p = ap (λ l. by_expr e ++ by_stmts l) p ∙ sym (ap by_stmt is ∙ ap in_stmt (switch_is t e slots cases ss))

pub scope_uses : (s : Stmt) (slots : _) (ss : Vec Stmt Global) (ss' : List Stmt) → s ≡ stmts.Scope slots ss → ss' ≡ ss.items → by_stmts ss' ≡ by_stmt s
scope_uses s slots ss ss' is p = ap by_stmts p ∙ sym (ap by_stmt is ∙ ap in_stmt (scope_is slots ss))

pub global_uses : (m : Made) (n : ℕ) (ss : Vec Stmt Global) (ss' : List Stmt) → m ≡ mades.Global n ss → ss' ≡ ss.items → by_stmts ss' ≡ in_one (made_of m)
global_uses m n ss ss' is p = ap by_stmts p ∙ values_is (list_of ss.items) ∙ sym (ap (λ x. in_one (made_of x)) is)

-- ---- a unit

more_flags : (f : ℕ → Bool) (k n : ℕ) → marked_from k f (replicate (suc n) false) ≡ marked_from k f (replicate n false) ++ f (k + n) ∷ []
more_flags f k zero = let e : k ≡ k + 0 = omega arith in ap (λ i. f i ∷ []) e
more_flags f k (suc n) =
    let e : suc k + n ≡ k + suc n = omega arith in
    ap (λ l. f k ∷ l) (more_flags f (suc k) n) ∙ ap (λ i. marked_from k f (replicate (suc n) false) ++ f i ∷ []) e

all_flags : (f : ℕ → Bool) (n : ℕ) → marked_from 0 f (replicate n false) ≡ map f (numbers n)
all_flags f zero = refl
all_flags f (suc n) =
    let e : 0 + n ≡ n = omega arith in
    more_flags f 0 n ∙ ap (λ l. l ++ f (0 + n) ∷ []) (all_flags f n) ∙ ap (λ i. map f (numbers n) ++ f i ∷ []) e ∙ sym (map-append f (numbers n) (n ∷ []))

pub are_uses : (u : TypedUnit) (x0 x1 x : Uses) (ms : List Made) (fs : List Function)
    → found x0 ≡ no_uses (length u.functions.items) → ms ≡ u.made.items → fs ≡ u.functions.items
    → Finds u.structs (in_made (map made_of ms)) (found x0) (found x1) → Finds u.structs (in_functions (map function_of fs)) (found x1) (found x)
    → AreUses (typed_of u) x
are_uses u x0 x1 x ms fs none em ef h k =
    let all = uses (typed_of u) in
    let n = length u.functions.items in
    let whole : found x ≡ with_uses u.structs all (no_uses n) =
    k.is ∙ ap (with_uses u.structs (in_functions (map function_of fs))) (h.is ∙ ap (with_uses u.structs (in_made (map made_of ms))) none)
    ∙ with_both u.structs (in_made (map made_of ms)) (in_functions (map function_of fs)) (no_uses n)
    ∙ ap (λ l. with_uses u.structs (in_made (map made_of l) ++ in_functions (map function_of fs)) (no_uses n)) em
    ∙ ap (λ l. with_uses u.structs (in_made (map made_of u.made.items) ++ in_functions (map function_of l)) (no_uses n)) ef in
    let flags : (p : ℕ → Use → Bool) → marked_from 0 (λ k. list_any (p k) all) (replicate n false) ≡ map (λ k. list_any (p k) all) (all_functions (typed_of u)) = λ p.
    all_flags (λ k. list_any (p k) all) n ∙ ap (λ i. map (λ k. list_any (p k) all) (numbers i)) (sym (length-map u.functions.items function_of)) in
    record {
      used = ap (λ (s : Found). s.used) whole ∙ flags is_call_of;
      named = ap (λ (s : Found). s.named) whole ∙ flags is_name_of;
      through = ap (λ (s : Found). s.through) whole;
      has_long_copy = ap (λ (s : Found). s.has_long_copy) whole;
    }
