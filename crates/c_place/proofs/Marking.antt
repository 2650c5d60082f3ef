-- What is marked in one pass behind another.
use Rattle.std.proofs.Common.{◌≡◌, ◌∙◌, ℕ, zero, suc, ◌+◌, ◌<◌, ◌≤◌, ◌==◌, ◌||◌, Bool, true, false, List, [], ◌∷◌, ◌++◌, length, map, slice_set, Option, Some, None, drop, get_or, add-one, append_assoc, arith, refl, subst, sym, ap}
use Rattle.std.proofs.lemmas.Bool.Decides.{nat_tests}
use Rattle.std.proofs.Math.Seq.{drop-cons}
use Rattle.c_types.specs.declared.types.CType.{CType}
use Rattle.c_types.specs.Types.{Ty, type_of}
use Rattle.c_typed.specs.declared.ops.Variable.{Variable}
use Rattle.c_typed.specs.declared.ops.Variable.TheVariants.{Local, Global}
use Rattle.c_typed.specs.declared.tree.Place.{Place}
use Rattle.c_typed.specs.declared.tree.Expr.{Expr}
use Rattle.c_typed.specs.declared.tree.Sized.{Sized}
use Rattle.c_typed.specs.declared.tree.Stmt.{Stmt}
use Rattle.c_typed.specs.declared.unit.Function.{Function}
use Rattle.c_typed.specs.declared.unit.Made.{Made}
use Rattle.c_typed.specs.declared.unit.Made.TheVariants as mades
use Rattle.c_typed.specs.declared.unit.TypedUnit.{TypedUnit}
use Rattle.c_typed.specs.Objects.{in_expr, in_exprs, in_place, in_stmt, in_stmts, is_whole}
use Rattle.c_typed.specs.Parts.{sequence}
use Rattle.c_typed.specs.Tree as to
use Rattle.c_typed.specs.refinement.Views.{body_of, expr_of, function_of, list_of, made_of, place_of, sized_of, step_of, stmt_of, typed_of}
use Rattle.c_meaning.specs.Units.{in_body, in_functions, in_made, in_values}
use Rattle.c_place.specs.refinement.Flags.{flags, globals_from, of_body, of_function, slots_from}
use Rattle.c_place.specs.refinement.Lists.{exprs_in}
use Rattle.c_place.specs.refinement.Marks.{Marks, in_iteration, in_one, marked, marked_from}

or_none : (b : Bool) → b ≡ (b || false)
or_none true = refl
or_none false = refl

or_both : (b c d : Bool) → ((b || c) || d) ≡ (b || (c || d))
or_both true c d = refl
or_both false c d = refl

pub from_none : (n : ℕ) (bs : List Bool) → bs ≡ marked_from n (λ k. false) bs
from_none n [] = refl
from_none n (b ∷ bs) = ap (λ (x : Bool). x ∷ bs) (or_none b) ∙ ap (λ (l : List Bool). (b || false) ∷ l) (from_none (suc n) bs)

pub from_both : (f g : ℕ → Bool) (n : ℕ) (bs : List Bool) → marked_from n g (marked_from n f bs) ≡ marked_from n (λ k. f k || g k) bs
from_both f g n [] = refl
from_both f g n (b ∷ bs) =
    ap (λ (x : Bool). x ∷ marked_from (suc n) g (marked_from (suc n) f bs)) (or_both b (f n) (g n))
    ∙ ap (λ (l : List Bool). (b || (f n || g n)) ∷ l) (from_both f g (suc n) bs)

abbrev pub marks : List Bool → List Bool → Marks
marks ls gs = record { locals = ls; globals = gs }

pub marked_none : (m : Marks) → m ≡ marked (λ v. false) m
marked_none m =
    ap (λ (l : List Bool). marks l m.globals) (from_none 0 m.locals)
    ∙ ap (λ (l : List Bool). marks (marked_from 0 (λ k. false) m.locals) l) (from_none 0 m.globals)

pub marked_twice : (f g : Variable → Bool) (m : Marks) → marked g (marked f m) ≡ marked (λ v. f v || g v) m
marked_twice f g m =
    ap (λ (l : List Bool). marks l (marked_from 0 (λ n. g (Global n)) (marked_from 0 (λ n. f (Global n)) m.globals)))
    (from_both (λ n. f (Local n)) (λ n. g (Local n)) 0 m.locals)
    ∙ ap (λ (l : List Bool). marks (marked_from 0 (λ n. f (Local n) || g (Local n)) m.locals) l)
    (from_both (λ n. f (Global n)) (λ n. g (Global n)) 0 m.globals)

pub both : (f g : Variable → Bool) (m0 m1 m2 : Marks) → m1 ≡ marked f m0 → m2 ≡ marked g m1 → m2 ≡ marked (λ v. f v || g v) m0
both f g m0 m1 m2 e1 e2 = e2 ∙ ap (marked g) e1 ∙ marked_twice f g m0

-- ---- one flag

or_true : (b : Bool) → true ≡ (b || true)
or_true true = refl
or_true false = refl

abbrev is_nth : ℕ → ℕ → Bool
is_nth n m = m == n || false

same : (k : ℕ) → is_nth k k ≡ true
same k = let e : (k == k) ≡ true = grind (arith, nat_tests) in ap (λ (b : Bool). b || false) e

apart : (n k : ℕ) → (n ≡ k → ⊥) → is_nth n k ≡ false
apart n k ne = let e : (k == n) ≡ false = grind (arith, nat_tests) in ap (λ (b : Bool). b || false) e

one_apart : (b : Bool) (n k : ℕ) → (n ≡ k → ⊥) → b ≡ (b || is_nth n k)
one_apart b n k ne = or_none b ∙ ap (λ (c : Bool). b || c) (sym (apart n k ne))

-- none of these has this number
pub past : (n k : ℕ) (bs : List Bool) → n < k → bs ≡ marked_from k (λ m. m == n || false) bs
past n k [] lt = refl
past n k (b ∷ bs) lt =
    ap (λ (c : Bool). c ∷ bs) (one_apart b n k (λ e. omega (arith, lt, e)))
    ∙ ap (λ (l : List Bool). (b || is_nth n k) ∷ l) (past n (suc k) bs (omega (arith, lt)))

pub before : (n k : ℕ) (bs : List Bool) → k + length bs ≤ n → bs ≡ marked_from k (λ m. m == n || false) bs
before n k [] le = refl
before n k (b ∷ bs) le =
    ap (λ (c : Bool). c ∷ bs) (one_apart b n k (λ e. omega (arith, le, e)))
    ∙ ap (λ (l : List Bool). (b || is_nth n k) ∷ l) (before n (suc k) bs (omega (arith, le)))

set_from : (n k m : ℕ) (bs : List Bool) → m ≡ n + k → slice_set bs n true ≡ marked_from k (λ i. i == m || false) bs
set_from n k m [] e = refl
set_from zero k m (b ∷ bs) e =
    let at : m ≡ k = omega (arith, e) in
    ap (λ (c : Bool). c ∷ bs) (or_true b ∙ ap (λ (c : Bool). b || c) (sym (same m) ∙ ap (λ (i : ℕ). is_nth m i) at))
    ∙ ap (λ (l : List Bool). (b || is_nth m k) ∷ l) (past m (suc k) bs (omega (arith, at)))
set_from (suc n) k m (b ∷ bs) e =
    ap (λ (c : Bool). c ∷ slice_set bs n true) (one_apart b m k (λ q. omega (arith, e, q)))
    ∙ ap (λ (l : List Bool). (b || is_nth m k) ∷ l) (set_from n (suc k) m bs (omega (arith, e)))

pub set_is : (n : ℕ) (bs : List Bool) → slice_set bs n true ≡ marked_from 0 (λ i. i == n || false) bs
set_is n bs = set_from n 0 n bs (omega arith)

-- ---- the flags of slots and of variables at file scope

pub slots_marked : (s : to.Stmt) (n : ℕ) (ts : List Ty) → marked_from n (λ k. in_stmt (Local k) s) (map is_whole ts) ≡ slots_from s n ts
slots_marked s n [] = refl
slots_marked s n (t ∷ ts) = ap (λ (l : List Bool). (is_whole t || in_stmt (Local n) s) ∷ l) (slots_marked s (suc n) ts)

pub globals_marked : (u : to.Typed) (n : ℕ) (ts : List Ty) → marked_from n (λ k. in_made k u.made || in_functions k u.functions) (map is_whole ts) ≡ globals_from u n ts
globals_marked u n [] = refl
globals_marked u n (t ∷ ts) = ap (λ (l : List Bool). (is_whole t || (in_made n u.made || in_functions n u.functions)) ∷ l) (globals_marked u (suc n) ts)

-- ---- what an `&` stands before, in a tree of the code

abbrev pub by_place : Place → Variable → Bool
by_place p v = in_place v (place_of p)

abbrev pub by_expr : Expr → Variable → Bool
by_expr e v = in_expr v (expr_of e)

abbrev pub by_sized : ℕ → Sized → Variable → Bool
by_sized n s v = in_expr v (sized_of s n)

abbrev pub by_exprs : List Expr → Variable → Bool
by_exprs es v = in_exprs v (exprs_in es)

abbrev pub by_stmt : Stmt → Variable → Bool
by_stmt s v = in_stmt v (stmt_of s)

abbrev pub by_stmts : List Stmt → Variable → Bool
by_stmts ss v = in_stmts v (sequence (list_of ss))

-- of a part that is the same
pub of_same : {A : Type 0} (f : A → Variable → Bool) (m n : Marks) {x y : A} → x ≡ y → n ≡ marked (f x) m → n ≡ marked (f y) m
of_same {A} f m n is h = subst (λ (z : A). n ≡ marked (f z) m) is h

pub at_same : {A : Type 0} (f : A → Variable → Bool) (m n : Marks) {x y : A} → x ≡ y → n ≡ marked (f y) m → n ≡ marked (f x) m
at_same {A} f m n is h = subst (λ (z : A). n ≡ marked (f z) m) (sym is) h

-- ---- lists

pub exprs_step : (m n k : Marks) (e : Expr) (es all : List Expr) → all ≡ e ∷ es → n ≡ marked (by_expr e) m → marked (by_exprs all) m ≡ k → marked (by_exprs es) n ≡ k
exprs_step m n k e es all is h so =
    ap (marked (by_exprs es)) h ∙ marked_twice (by_expr e) (by_exprs es) m ∙ ap (λ (l : List Expr). marked (by_exprs l) m) (sym is) ∙ so

pub stmts_step : (m n k : Marks) (s : Stmt) (ss all : List Stmt) → all ≡ s ∷ ss → n ≡ marked (by_stmt s) m → marked (by_stmts all) m ≡ k → marked (by_stmts ss) n ≡ k
stmts_step m n k s ss all is h so =
    ap (marked (by_stmts ss)) h ∙ marked_twice (by_stmt s) (by_stmts ss) m ∙ ap (λ (l : List Stmt). marked (by_stmts l) m) (sym is) ∙ so

-- behind the last one
pub exprs_end : (n k : Marks) (es : List Expr) → es ≡ [] → marked (by_exprs es) n ≡ k → n ≡ k
exprs_end n k es is so = marked_none n ∙ ap (λ (l : List Expr). marked (by_exprs l) n) (sym is) ∙ so

pub stmts_end : (n k : Marks) (ss : List Stmt) → ss ≡ [] → marked (by_stmts ss) n ≡ k → n ≡ k
stmts_end n k ss is so = marked_none n ∙ ap (λ (l : List Stmt). marked (by_stmts l) n) (sym is) ∙ so

-- ---- loops

-- a test, and what a loop does behind it
pub iteration_of : (m0 m1 m2 : Marks) (c : Expr) (after : Option Expr) (s s' : Stmt) → s ≡ s' → m1 ≡ marked (by_expr c) m0
    → m2 ≡ marked (λ v. in_iteration v (step_of after) (stmt_of s)) m1 → m2 ≡ marked (λ v. in_stmt v (to.loop (expr_of c) (step_of after) (stmt_of s'))) m0
iteration_of m0 m1 m2 c after s s' is e1 e2 =
    subst (λ (x : Stmt). m2 ≡ marked (λ v. in_stmt v (to.loop (expr_of c) (step_of after) (stmt_of x))) m0) is (by after e2) where
      by : (o : Option Expr) → m2 ≡ marked (λ v. in_iteration v (step_of o) (stmt_of s)) m1 → m2 ≡ marked (λ v. in_stmt v (to.loop (expr_of c) (step_of o) (stmt_of s))) m0
      by None h = both (by_expr c) (by_stmt s) m0 m1 m2 e1 h
      by (Some e) h = both (by_expr c) (λ v. by_expr e v || by_stmt s v) m0 m1 m2 e1 h

-- ---- one variable

pub mark_local : (ls ls' gs : List Bool) (n : ℕ) → ls' ≡ marked_from 0 (λ m. m == n || false) ls → marks ls' gs ≡ marked (λ u. in_expr u (to.address (to.of (Local n)))) (marks ls gs)
mark_local ls ls' gs n e = ap (λ (l : List Bool). marks l gs) e ∙ ap (λ (l : List Bool). marks (marked_from 0 (λ m. m == n || false) ls) l) (from_none 0 gs)

pub mark_global : (ls gs gs' : List Bool) (n : ℕ) → gs' ≡ marked_from 0 (λ m. m == n || false) gs → marks ls gs' ≡ marked (λ u. in_expr u (to.address (to.of (Global n)))) (marks ls gs)
mark_global ls gs gs' n e = ap (λ (l : List Bool). marks ls l) e ∙ ap (λ (l : List Bool). marks l (marked_from 0 (λ m. m == n || false) gs)) (from_none 0 ls)

-- ---- lists of what is walked over

pub ahead : {A : Type 0} (xs : List A) (i : ℕ) (x : A) → i < length xs → x ≡ get_or xs i x → drop i xs ≡ x ∷ drop (i + 1) xs
ahead xs i x l e = drop-cons xs i x l ∙ ap (λ y. y ∷ drop (suc i) xs) (sym e) ∙ rw add-one refl

pub values_step : (m n : Marks) (k : List Bool) (s : Stmt) (ss all : List Stmt) → all ≡ s ∷ ss → n ≡ marked (by_stmt s) m → m.locals ≡ []
    → marked_from 0 (λ j. in_values j (list_of all)) m.globals ≡ k → (n.locals ≡ []) × (marked_from 0 (λ j. in_values j (list_of ss)) n.globals ≡ k)
values_step m n k s ss all is h none so = (
  ap (λ (x : Marks). x.locals) h ∙ ap (λ (l : List Bool). marked_from 0 (λ j. in_stmt (Local j) (stmt_of s)) l) none,
  ap (λ (x : Marks). marked_from 0 (λ j. in_values j (list_of ss)) x.globals) h
      ∙ from_both (λ j. in_stmt (Global j) (stmt_of s)) (λ j. in_values j (list_of ss)) 0 m.globals
      ∙ ap (λ (l : List Stmt). marked_from 0 (λ j. in_values j (list_of l)) m.globals) (sym is) ∙ so,
)

pub values_end : (gs k : List Bool) (ss : List Stmt) → ss ≡ [] → marked_from 0 (λ j. in_values j (list_of ss)) gs ≡ k → gs ≡ k
values_end gs k ss is so = from_none 0 gs ∙ ap (λ (l : List Stmt). marked_from 0 (λ j. in_values j (list_of l)) gs) (sym is) ∙ so

pub made_step : (gs gs' k : List Bool) (x : Made) (xs all : List Made) → all ≡ x ∷ xs → gs' ≡ marked_from 0 (λ j. in_one j (made_of x)) gs
    → marked_from 0 (λ j. in_made j (map made_of all)) gs ≡ k → marked_from 0 (λ j. in_made j (map made_of xs)) gs' ≡ k
made_step gs gs' k (mades.Global i ss) xs all is h so =
    ap (marked_from 0 (λ j. in_made j (map made_of xs))) h
    ∙ from_both (λ j. in_values j (list_of ss.items)) (λ j. in_made j (map made_of xs)) 0 gs
    ∙ ap (λ (l : List Made). marked_from 0 (λ j. in_made j (map made_of l)) gs) (sym is) ∙ so
made_step gs gs' k (mades.Literal bytes) xs all is h so =
    ap (marked_from 0 (λ j. in_made j (map made_of xs))) (h ∙ sym (from_none 0 gs))
    ∙ ap (λ (l : List Made). marked_from 0 (λ j. in_made j (map made_of l)) gs) (sym is) ∙ so

pub made_end : (gs k : List Bool) (xs : List Made) → xs ≡ [] → marked_from 0 (λ j. in_made j (map made_of xs)) gs ≡ k → gs ≡ k
made_end gs k xs is so = from_none 0 gs ∙ ap (λ (l : List Made). marked_from 0 (λ j. in_made j (map made_of l)) gs) (sym is) ∙ so

pub literal_marks : (gs : List Bool) (m m' : Made) → m ≡ m' → gs ≡ marked_from 0 (λ j. in_one j (made_of m')) gs → gs ≡ marked_from 0 (λ j. in_one j (made_of m)) gs
literal_marks gs m m' is h = subst (λ (x : Made). gs ≡ marked_from 0 (λ j. in_one j (made_of x)) gs) (sym is) h

pub functions_step : (gs gs' k : List Bool) (f : Function) (fs all : List Function) → all ≡ f ∷ fs → gs' ≡ marked_from 0 (λ j. in_body j (body_of f.body)) gs
    → marked_from 0 (λ j. in_functions j (map function_of all)) gs ≡ k → marked_from 0 (λ j. in_functions j (map function_of fs)) gs' ≡ k
functions_step gs gs' k f fs all is h so =
    ap (marked_from 0 (λ j. in_functions j (map function_of fs))) h
    ∙ from_both (λ j. in_body j (body_of f.body)) (λ j. in_functions j (map function_of fs)) 0 gs
    ∙ ap (λ (l : List Function). marked_from 0 (λ j. in_functions j (map function_of l)) gs) (sym is) ∙ so

pub flags_step : (made made' : List (List Bool)) (k : List (List Bool)) (r : List Bool) (f : Function) (fs all : List Function) → all ≡ f ∷ fs
    → made' ≡ made ++ r ∷ [] → r ≡ of_function (function_of f) → made ++ map of_function (map function_of all) ≡ k → made' ++ map of_function (map function_of fs) ≡ k
flags_step made made' k r f fs all is e er so =
    let rest = map of_function (map function_of fs) in
    ap (λ (l : List (List Bool)). l ++ rest) e ∙ append_assoc made (r ∷ []) rest ∙ ap (λ (x : List Bool). made ++ x ∷ rest) er
    ∙ ap (λ (l : List Function). made ++ map of_function (map function_of l)) (sym is) ∙ so

pub functions_end : (gs k : List Bool) (fs : List Function) → fs ≡ [] → marked_from 0 (λ j. in_functions j (map function_of fs)) gs ≡ k → gs ≡ k
functions_end gs k fs is so = from_none 0 gs ∙ ap (λ (l : List Function). marked_from 0 (λ j. in_functions j (map function_of l)) gs) (sym is) ∙ so

-- ---- a function, and a unit

pub no_body : (gs : List Bool) (b : Option Stmt) → b ≡ None → gs ≡ marked_from 0 (λ j. in_body j (body_of b)) gs
no_body gs b e = from_none 0 gs ∙ ap (λ (x : Option Stmt). marked_from 0 (λ j. in_body j (body_of x)) gs) (sym e)

pub body_slots : (b : Option Stmt) (s : Stmt) (slots : List CType) (m n : Marks) (r : List Bool)
    → b ≡ Some s → r ≡ n.locals → n ≡ marked (by_stmt s) m → m.locals ≡ map is_whole (map type_of slots) → r ≡ of_body (map type_of slots) (body_of b)
body_slots b s slots m n r e er h em =
    er ∙ ap (λ (x : Marks). x.locals) h ∙ ap (λ (l : List Bool). marked_from 0 (λ k. in_stmt (Local k) (stmt_of s)) l) em
    ∙ slots_marked (stmt_of s) 0 (map type_of slots) ∙ ap (λ (x : Option Stmt). of_body (map type_of slots) (body_of x)) (sym e)

pub all_globals : (u : TypedUnit) (g0 g1 g2 : List Bool) → g0 ≡ map is_whole (map type_of u.globals.items)
    → g1 ≡ marked_from 0 (λ j. in_made j (map made_of u.made.items)) g0 → g2 ≡ marked_from 0 (λ j. in_functions j (map function_of u.functions.items)) g1
    → g2 ≡ (flags (typed_of u)).globals
all_globals u g0 g1 g2 e0 e1 e2 =
    let ms : ℕ → Bool = λ j. in_made j (map made_of u.made.items) in
    let fs : ℕ → Bool = λ j. in_functions j (map function_of u.functions.items) in
    e2 ∙ ap (marked_from 0 fs) (e1 ∙ ap (marked_from 0 ms) e0) ∙ from_both ms fs 0 (map is_whole (map type_of u.globals.items))
    ∙ globals_marked (typed_of u) 0 (map type_of u.globals.items)
