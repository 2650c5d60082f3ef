-- What external declarations make is a unit that is well typed, as far as it has been read.
use Rattle.std.proofs.Common.{◌≡◌, ◌∙◌, sym, ap, subst, refl, ℕ, zero, suc, Bool, true, false, List, [], ◌∷◌, ◌++◌, length, map, set, Option, Some, None, slice_get, arith}
use Rattle.std.specs.List.{All}
use Rattle.c_types.specs.Types.{Ty, void, integer, struct, pointer, array, function, Tys, is_function}
use Rattle.c_tree.specs.declared.external.ExternalForm.{ExternalForm}
use Rattle.c_tree.specs.declared.external.ExternalForm.TheVariants as forms
use Rattle.c_tree.specs.declared.external.External.{External}
use Rattle.c_tree.specs.declared.external.OuterSpecifier.{OuterSpecifier}
use Rattle.c_tree.specs.declared.initialiser.Init.{Init}
use Rattle.c_tree.specs.Statements.{Items}
use Rattle.c_tree.specs.Tree.{Declarator, Initialiser}
use Rattle.c_typed.specs.declared.ops.Variable.TheVariants as variables
use Rattle.c_typed.specs.Constants.{give_constants}
use Rattle.c_typed.specs.declared.unit.Subject.TheVariants as subjects
use Rattle.c_typed.specs.Tree as to
use Rattle.c_typed.specs.Tree.{Function, Stmt}
use Rattle.c_check_types.specs.State.{State, Rule, followed, only_if, and_then}
use Rattle.c_check_types.specs.Scopes.{outer}
use Rattle.c_check_types.specs.Types.{Derived, whole, lengthless, whole_type, Parameter, types_of_parameters}
use Rattle.c_declare.specs.Functions.{has_no_body, result_in, defined, with_definition, with_body}
use Rattle.c_check.specs.Statements.{scope_of, nothing_done, is_missing}
use Rattle.c_check.specs.Declarations.{with_values, global_value, declares_global, names_function, declares, declares_one, declaration, defines_function, definition, stands_alone, form, external}
use Rattle.c_typed.specs.refinement.Types.{IsType, IsObject}
use Rattle.c_typed.specs.refinement.Expressions.{is_visible}
use Rattle.c_typed.specs.Statements.{no_jumps, IsStatement}
use Rattle.c_typed.specs.Units.{literals_in, numbers, list_of, IsGiven}
use Rattle.c_check.proofs.States.{context, visible_in, front, Good, Extends, Quiet, Steps, Grows, Does}
use Rattle.c_check.proofs.Extension.{extends-same, extends-onward, get-kept, type-kept, object-kept, quiet-steps, steps-onward, steps-grows}
use Rattle.c_check.proofs.Rules.{step, ends, given-then, only-then}
use Rattle.c_check.proofs.Types.{IsBase, IsParameter, IsDerived, base-derived, whole-is, params-kept, declared-does}
use Rattle.c_check.proofs.Scopes.{IsFunctionType, function-type, Widens, opened-state, opened-good, closed-state, enclosed-steps, enclosed-good, declares_function-does, enters_global-does}
use Rattle.c_check.proofs.Declared.{types-in, types-listed, variable_type-does, enters_parameters-does}
use Rattle.c_check.proofs.Structs.{outer-does}
use Rattle.c_check.proofs.Leaves.{nothing-behind, initialised-does}
use Rattle.c_check.proofs.Stated.{outside, nothing-declared, scope-is, items-does}
use Rattle.c_check.proofs.Held.{so_far, Held, none-visible, holds-widened, held-stepped, with-made, made-good, made-holds, made-next, with-given, given-good, given-held, body-good, body-held}

-- ---- rules between which little is said

-- structs that are defined stay
abbrev Any : State → State → Type 0
Any s t = Extends s.structs t.structs

any-onward : (s t u : State) → Any s t → Any t u → Any s u
any-onward s t u p q = extends-onward s.structs t.structs u.structs p q

any-same : (s : State) → Any s s
any-same s = extends-same s.structs

quietly-any : (s t : State) → Quiet s t → Any s t
quietly-any s t q = q.structs

steps-any : (s t : State) → Steps s t → Any s t
steps-any s t q = q.structs

widens-any : (s t : State) → Widens s t → Any s t
widens-any s t q = q.structs

-- at the end of a declaration
abbrev pub Whole : {A : Type 0} → State → A → Type 0
Whole u a = Held u × (u.slots ≡ [])

onto : (R : State → State → Type 0) (from : (s t : State) → R s t → Any s t) {A B : Type 0} {o : Option (A × State)} {next : A → Rule B} (s : State) {P : State → A → Type 0} {Q : State → B → Type 0}
    → ((a : A) (t : State) → ◌≡◌ {A = Option (A × State)} o (Some (a, t)) → Good t × R s t × P t a)
    → ((a : A) (t : State) → Good t → R s t → P t a → (b : B) (u : State) → ◌≡◌ {A = Option (B × State)} (next a t) (Some (b, u)) → Good u × Any t u × Q u b)
    → (b : B) (u : State) → ◌≡◌ {A = Option (B × State)} (followed o next) (Some (b, u)) → Good u × Any s u × Q u b
onto R from {A} {o = o} {next = next} s {P = P} {Q = Q} does f =
    step Any any-onward o next s (λ t a. R s t × P t a) Q (λ a t e. let d = does a t e in (d.0, from s t d.1, (d.1, d.2))) (λ a t good r p. f a t good p.0 p.1)

only-ends : (b : Bool) (s : State) → Good s → Held s → s.slots ≡ [] → Does Any (only_if b) s Whole
only-ends true s g h e = ends Any tt s s Whole g (any-same s) (h, e)
only-ends false s g h e = λ a u f. let q : None ≡ Some (a, u) = f in absurd (cc)

-- ---- variables

global_value-does : (m n : ℕ) (t : Ty) (v : Option Initialiser) (s : State) → Good s → Held s → s.slots ≡ [] → IsObject s.structs t → slice_get s.globals n ≡ Some t
    → slice_get s.made m ≡ Some (to.global n []) → Does Any (global_value m n t v) s Whole
global_value-does m n t None s g h e o at there = ends Any tt s s Whole g (any-same s) (h, e)
global_value-does m n t (Some v) s g h e o at there =
    onto Quiet quietly-any s (initialised-does [] v true (to.of (variables.Global n)) t [] s g o at (nothing-behind (context s) [])) (λ ss u good q done.
    let empty = q.slots ∙ e in
    let held = held-stepped s u good (quiet-steps s u q) h in
    let still : slice_get u.made m ≡ Some (to.global n []) = subst (λ ms. slice_get ms m ≡ Some (to.global n [])) (sym q.made.1) (get-kept s.made q.made.0 m (to.global n []) there) in
    let news = subst (λ xs. All (IsGiven (context u)) xs) (sym done.is) done.given in
    only-then Any (give_constants ss) (with_values m n ss) u Whole (λ constants.
    ends Any tt u (with-given u m n ss) Whole (given-good u m n ss good) (any-same u) (given-held u m n [] ss good empty still news constants held, empty)))

at-end : {A : Type 0} (xs : List A) (x : A) → slice_get (xs ++ x ∷ []) (length xs) ≡ Some x
at-end [] x = refl
at-end (y ∷ xs) x = at-end xs x

declares_global-does : (name : List ℕ) (d : Derived) (ps : List Parameter) (v : Option Initialiser) (s : State) → Good s → Held s → s.slots ≡ [] → IsDerived s.structs d ps
    → Does Any (declares_global name d v) s Whole
declares_global-does name d ps v s g h e i =
    onto Quiet quietly-any s (variable_type-does d ps v s g i) (λ t u good q o.
    let empty = q.slots ∙ e in
    let held = held-stepped s u good (quiet-steps s u q) h in
    onto Widens widens-any u (enters_global-does name t u good o) (λ n w fine z there.
    let x = with-made w n in
    let holds = made-holds w n (holds-widened u w fine z held.0) in
    let next = made-next u w t n held.1 there.4 there.2 there.3 in
    global_value-does (length w.made) n t v x (made-good w n fine) (holds, next) (there.1 ∙ empty)
    (object-kept u.structs w.structs z.structs t o) there.0 (at-end w.made (to.global n []))))

-- ---- functions that are declared

names_function-does : (name : List ℕ) (t : Ty) (s : State) → Good s → Held s → s.slots ≡ [] → IsFunctionType t → IsType s.structs t → Does Any (names_function name t) s Whole
names_function-does name t s g h e f i =
    onto Steps steps-any s (declares_function-does name t s g f i) (λ n u good q there.
    ends Any tt u u Whole good (any-same u) (held-stepped s u good q h, there.1 ∙ e))

declares-does : (name : List ℕ) (d : Derived) (ps : List Parameter) (v : Option Initialiser) (s : State) → Good s → Held s → s.slots ≡ [] → IsDerived s.structs d ps
    → Does Any (declares name d v) s Whole
declares-does name (lengthless t) ps v s g h e i = declares_global-does name (lengthless t) ps v s g h e i
declares-does name (whole t) ps v s g h e i = by (is_function t) refl where
  by : (b : Bool) → is_function t ≡ b → Does Any (declares name (whole t) v) s Whole
  by true f = rw f (only-then Any (is_missing v) _ s _ (λ b. names_function-does name t s g h e (function-type t f) i.0))
  by false f = rw f (declares_global-does name (whole t) ps v s g h e i)

declares_one-does : (b : Ty) (d : Declarator) (v : Option Initialiser) (s : State) → Good s → Held s → s.slots ≡ [] → IsBase s.structs b → Does Any (declares_one b d v) s Whole
declares_one-does b d v s g h e i =
    onto Quiet quietly-any s (declared-does d (whole b) [] s g (base-derived s.structs b i)) (λ y u good q j.
    given-then Any y.name _ u _ (λ name f.
    declares-does name y.derived y.params v u good (held-stepped s u good (quiet-steps s u q) h) (q.slots ∙ e) j))

declaration-does : (b : Ty) (xs : List Init) (s : State) → Good s → Held s → s.slots ≡ [] → IsBase s.structs b → Does Any (declaration b xs) s Whole
declaration-does b [] s g h e i = ends Any tt s s Whole g (any-same s) (h, e)
declaration-does b (x ∷ xs) s g h e i =
    onto Any (λ t u r. r) s (declares_one-does b x.declarator x.value s g h e i) (λ a u good q w.
    declaration-does b xs u good w.0 w.1 (type-kept s.structs u.structs q b i.0, i.1))

-- ---- functions that are defined

result-of : (t r : Ty) → result_in t ≡ Some r → (us : Tys) × (t ≡ function r us)
result-of void r e = let q : None ≡ Some r = e in absurd (cc)
result-of (integer t) r e = let q : None ≡ Some r = e in absurd (cc)
result-of (struct n) r e = let q : None ≡ Some r = e in absurd (cc)
result-of (pointer t) r e = let q : None ≡ Some r = e in absurd (cc)
result-of (array t n) r e = let q : None ≡ Some r = e in absurd (cc)
result-of (function u us) r e = let q : u ≡ r = cc in (us, ap (λ v. function v us) q)

-- a function with this number that is there
function-at : (fs : List Function) (n : ℕ) (t : Ty) (f : Function) → slice_get (map (λ (h : Function). h.ty) fs) n ≡ Some t → slice_get fs n ≡ Some f → f.ty ≡ t
function-at [] n t f e h = let q : None ≡ Some f = h in absurd (cc)
function-at (x ∷ fs) zero t f e h =
    let q : x ≡ f = cc in
    let k : x.ty ≡ t = cc in sym (ap (λ (y : Function). y.ty) q) ∙ k
function-at (x ∷ fs) (suc n) t f e h = function-at fs n t f e h

definition-is : (fs gs : List Function) (n : ℕ) (slots : List Ty) (body : Stmt) → with_definition fs n slots body ≡ Some gs
    → (f : Function) × (slice_get fs n ≡ Some f) × (set fs n (defined f slots body) ≡ gs)
definition-is fs gs n slots body e = by (slice_get fs n) refl e where
  by : (o : Option Function) → slice_get fs n ≡ o → and_then o (λ f. Some (set fs n (defined f slots body))) ≡ Some gs
      → (f : Function) × (slice_get fs n ≡ Some f) × (set fs n (defined f slots body) ≡ gs)
  by None f e = let q : None ≡ Some gs = e in absurd (cc)
  by (Some f) is e = (f, is, let q : set fs n (defined f slots body) ≡ gs = cc in q)

-- a state with these functions and no slots
abbrev with-functions : State → ℕ → List Function → State
with-functions s n fs = record s { functions = fs; slots = []; additions = s.additions ++ record { at = s.at; subject = subjects.Body n } ∷ [] }

with_body-does : (n : ℕ) (body : Stmt) (r : Ty) (us : Tys) (locals : List Ty) (s : State) → Good s → Held s → visible_in s.scopes ≡ []
    → slice_get (map (λ (h : Function). h.ty) s.functions) n ≡ Some (function r us) → s.slots ≡ list_of us ++ locals → IsStatement (so_far s s.slots (length (list_of us))) r no_jumps body
    → Does Any (with_body n body) s Whole
with_body-does n body r us locals s g h nothing at slots is =
    given-then Any (with_definition s.functions n s.slots body) _ s _ (λ fs e.
    let d = definition-is s.functions fs n s.slots body e in
    let ty = function-at s.functions n (function r us) d.0 at d.1 in
    let good = subst (λ gs. Good (with-functions s n gs)) d.2 (body-good s n d.0 body d.1 nothing g) in
    let held = subst (λ gs. Held (with-functions s n gs)) d.2 (body-held s n d.0 body r us locals d.1 ty slots is g h) in
    ends Any tt s (with-functions s n fs) Whole good (any-same s) (held, refl))

-- what may be named outside of a body is what the function may name
outside-is : (v : State) (k : ℕ) → visible_in (outer v.scopes) ≡ [] → v.literals ≡ literals_in v.made → Grows (outside v (numbers k)) (so_far (closed-state v) v.slots k)
outside-is v k nothing e =
    let same : visible_in (outer v.scopes) ++ numbers k ≡ numbers k = ap (λ ns. ns ++ numbers k) nothing in
    record {
      structs = extends-same v.structs;
      globals = λ n u h. h;
      literals = omega (arith, e);
      functions = λ n u h. h;
      slots = λ n u h. h;
      visible = λ n h. subst (λ ns. is_visible ns n ≡ true) same h;
      fresh = λ n l h. subst (λ ns. is_visible ns n ≡ false) same h;
    }

defines_function-does : (n : ℕ) (ps : List Parameter) (r : Ty) (us : Tys) (is : Items) (s : State) → Good s → Held s → s.slots ≡ []
    → slice_get (map (λ (h : Function). h.ty) s.functions) n ≡ Some (function r us) → us ≡ types_of_parameters ps → All (IsParameter s.structs) ps → IsType s.structs r
    → Does Any (defines_function n ps r is) s Whole
defines_function-does n ps r us is s g h e at same params type =
    let t = opened-state s in
    let k = length (list_of us) in
    onto Steps steps-any t (enters_parameters-does ps t (opened-good s g) params) (λ b u fine q slots.
    let kept = type-kept t.structs u.structs q.structs r type in
    let listed : u.slots ≡ list_of us = slots.0 ∙ ap (λ xs. xs ++ types-in ps) e ∙ sym (types-listed ps) ∙ ap (λ ts. list_of ts) (sym same) in
    let numbered : front u.scopes ≡ numbers k = slots.1 (ap (λ ts. numbers (length ts)) (sym e)) ∙ ap (λ ts. numbers (length ts)) listed in
    onto Steps steps-any u (items-does is r no_jumps (numbers k) None nothing_done u fine kept (nothing-declared u r no_jumps (numbers k) None numbered)) (λ d v fair z j.
    let w = closed-state v in
    let inner = steps-onward t u v q z in
    let all = enclosed-steps s v inner in
    let well = enclosed-good s v g inner fair in
    let held = held-stepped s w well all h in
    let nothing : visible_in (outer v.scopes) ≡ [] = ap (λ ss. visible_in ss) inner.outer ∙ none-visible s g e in
    let there = (steps-grows s w all).functions n (function r us) at in
    let behind : w.slots ≡ list_of us ++ z.slots.0 = z.slots.1 ∙ ap (λ xs. xs ++ z.slots.0) listed in
    with_body-does n (scope_of d) r us z.slots.0 w well held nothing there behind
    (scope-is v r no_jumps (numbers k) None d j (so_far w w.slots k) (outside-is v k nothing held.0.literals))))

definition-does : (b : Ty) (d : Declarator) (is : Items) (s : State) → Good s → Held s → s.slots ≡ [] → IsBase s.structs b → Does Any (definition b d is) s Whole
definition-does b d is s g h e i =
    onto Quiet quietly-any s (declared-does d (whole b) [] s g (base-derived s.structs b i)) (λ x t good p j.
    given-then Any x.name _ t _ (λ name a.
    given-then Any (whole_type x.derived) _ t _ (λ ty c.
    given-then Any (result_in ty) _ t _ (λ r k.
    let w = whole-is t.structs x.derived x.params ty j c in
    let f = result-of ty r k in
    let us = f.0 in
    let type = subst (λ v. IsType t.structs v) f.1 w.0 in
    let params = (subst (λ v. IsDerived t.structs (whole v) x.params) f.1 (subst (λ v. IsDerived t.structs v x.params) w.1 j)).1 in
    let held = held-stepped s t good (quiet-steps s t p) h in
    onto Steps steps-any t (declares_function-does name ty t good (r, us, f.1) w.0) (λ n u fine q at.
    only-then Any (has_no_body (slice_get u.functions n)) _ u _ (λ l.
    defines_function-does n x.params r us is u fine (held-stepped t u fine q held) (at.1 ∙ p.slots ∙ e)
    (at.0 ∙ ap (λ v. Some v) f.1) params.0 (params-kept t.structs u.structs q.structs x.params params.1) (type-kept t.structs u.structs q.structs r type.1)))))))

-- ---- units

form-does : (x : OuterSpecifier) (b : Ty) (f : ExternalForm) (s : State) → Good s → Held s → s.slots ≡ [] → IsBase s.structs b → Does Any (form x b f) s Whole
form-does x b forms.Alone s g h e i = only-ends (stands_alone x) s g h e
form-does x b (forms.Declaration xs) s g h e i = declaration-does b xs s g h e i
form-does x b (forms.Function d is) s g h e i = definition-does b d is s g h e i

-- a state at an external declaration
abbrev there-state : State → ℕ → State
there-state s n = record s { at = n }

there-good : (s : State) (n : ℕ) → Good s → Good (there-state s n)
there-good s n g =
    record { tags = g.tags; laid_out = g.laid_out; structs = g.structs; names = g.names; globals = g.globals; functions = g.functions; named = g.named; slots = g.slots; scoped = g.scoped; known = g.known; opened = g.opened }

there-held : (s : State) (n : ℕ) → Held s → Held (there-state s n)
there-held s n h = (record { literals = h.0.literals; made = h.0.made; functions = h.0.functions }, h.1)

pub external-does : (x : External) (s : State) → Good s → Held s → s.slots ≡ [] → Does Any (external x) s Whole
external-does x s g h e =
    let v = there-state s x.at in
    onto Quiet quietly-any v (outer-does x.specifier v (there-good s x.at g)) (λ b u good q i.
    form-does x.specifier b x.form u good (held-stepped v u good (quiet-steps v u q) (there-held s x.at h)) (q.slots ∙ e) i)
