-- What holds of the tables of a unit as far as it has been read.
use Rattle.std.proofs.Common.{◌≡◌, ◌∙◌, sym, ap, subst, refl, ℕ, zero, suc, ◌+◌, ◌<◌, true, false, List, [], ◌∷◌, ◌++◌, length, map, set, Option, Some, None, slice_get, arith}
use Rattle.std.proofs.lemmas.List.{map-append, length-append, append-nil}
use Rattle.std.proofs.lemmas.List.Elements.{All-nil, All-cons, All-head, All-tail, All-append, All-push, All-set, All-weaker}
use Rattle.std.proofs.lemmas.Option.{get_or_from_slice_get, slice_get_within}
use Rattle.std.specs.List.{All}
use Rattle.c_types.specs.Types.{Ty, function, Tys}
use Rattle.c_typed.specs.Tree as tree
use Rattle.c_typed.specs.Tree.{Function, Made, Stmt, Typed}
use Rattle.c_typed.specs.declared.unit.Subject.TheVariants as subjects
use Rattle.c_check_types.specs.State.{State}
use Rattle.c_typed.specs.refinement.Types.{IsObject}
use Rattle.c_typed.specs.refinement.Expressions.{Context, is_visible}
use Rattle.c_typed.specs.Statements.{no_jumps, IsStatement}
use Rattle.c_typed.specs.Constants.{give_constants}
use Rattle.c_typed.specs.Identifiers.{is_identifier}
use Rattle.c_typed.specs.Units.{HasIdentifier, HaveNames, literals_in, variables_in, numbers, context_of, list_of, IsBody, IsFunction, IsMade, IsGiven, IsWellTyped}
use Rattle.c_declare.specs.Functions.{defined}
use Rattle.c_check.specs.Units.{typed_state}
use Rattle.c_check.proofs.States.{context, visible_in, IsBelow, Good, IsDeclared, Extends, IsText, IsNew, Steps, Grows}
use Rattle.c_check.proofs.Extension.{extends-same, type-kept, get-kept, texts-append}
use Rattle.c_check.proofs.Growth.{statement-grown, given-grown, made-grown}
use Rattle.c_check.proofs.Types.{objects-kept}
use Rattle.c_check.proofs.Scopes.{Widens, steps-widens}

-- what a function of the unit so far, with these slots, may name
abbrev pub so_far : State → List Ty → (params : ℕ) → Context
so_far s slots k = context_of (typed_state s) slots k

pub record Holds (s : State) : Type 0 where
  pub literals : s.literals ≡ literals_in s.made
  pub made : All (IsMade (so_far s [] 0)) s.made
  pub functions : All (IsFunction (typed_state s)) s.functions

-- each variable is made
abbrev pub AreMade : State → Type 0
AreMade s = variables_in s.made ≡ numbers (length s.globals)

abbrev pub Held : State → Type 0
Held s = Holds s × AreMade s

-- ---- lists

all-behind : {A : Type 0} (P : A → Type 0) (xs ys : List A) → All P (xs ++ ys) → All P ys
all-behind P [] ys h = h
all-behind P (x ∷ xs) ys h = all-behind P xs ys (All-tail P x (xs ++ ys) h)

all-with : {A : Type 0} (P Q R : A → Type 0) → ((x : A) → P x → Q x → R x) → (xs : List A) → All P xs → All Q xs → All R xs
all-with P Q R f xs p q k d l = f _ (p k d l) (q k d l)

variables-append : (ms ns : List Made) → variables_in (ms ++ ns) ≡ variables_in ms ++ variables_in ns
variables-append [] ns = refl
variables-append (tree.global n ss ∷ ms) ns = ap (λ vs. n ∷ vs) (variables-append ms ns)
variables-append (tree.text bytes ∷ ms) ns = variables-append ms ns

no-variables : (ms : List Made) → All IsText ms → variables_in ms ≡ []
no-variables [] h = refl
no-variables (tree.global n ss ∷ ms) h = absurd (All-head IsText (tree.global n ss) ms h)
no-variables (tree.text bytes ∷ ms) h = no-variables ms (All-tail IsText (tree.text bytes) ms h)

-- nothing is visible where there are no slots
none-below : (slots : List Ty) (ns : List ℕ) → slots ≡ [] → All (IsBelow slots) ns → ns ≡ []
none-below slots [] e h = refl
none-below slots (n ∷ ns) e h =
    let k : n < length slots = All-head (IsBelow slots) n ns h in
    let z : length slots ≡ 0 = ap (λ ts. length ts) e in
    absurd (omega (arith, k, z))

pub none-visible : (s : State) → Good s → s.slots ≡ [] → visible_in s.scopes ≡ []
none-visible s g e = none-below s.slots (visible_in s.scopes) e g.opened

-- ---- functions where a unit goes on

text-made : (c : Context) (m : Made) → IsText m → IsMade c m
text-made c (tree.global n ss) h = absurd h
text-made c (tree.text bytes) h = tt

body-kept : (u v : Typed) → Extends u.structs v.structs → ((slots : List Ty) (k : ℕ) → Grows (context_of u slots k) (context_of v slots k)) →
    (r : Ty) (ps : Tys) (slots : List Ty) (body : Option Stmt) → IsBody u r ps slots body → IsBody v r ps slots body
body-kept u v p grows r ps slots None h = tt
body-kept u v p grows r ps slots (Some x) h =
    let k = length (list_of ps) in
    (h.0, objects-kept u.structs v.structs p slots h.1, statement-grown (context_of u slots k) (context_of v slots k) (grows slots k) r no_jumps x h.2)

pub function-kept : (u v : Typed) → Extends u.structs v.structs → ((slots : List Ty) (k : ℕ) → Grows (context_of u slots k) (context_of v slots k)) →
    (f : Function) → IsFunction u f → IsFunction v f
function-kept u v p grows f h =
    (h.0, h.1, h.2, type-kept u.structs v.structs p f.ty h.3, body-kept u v p grows h.0 h.1 f.slots f.body h.4)

new-function : (u : Typed) (f : Function) → IsNew f → IsDeclared u.structs f → IsFunction u f
new-function u f new h = (h.0, h.1, h.2, h.3, subst (λ b. IsBody u h.0 h.1 f.slots b) (sym new) tt)

-- ---- where a state goes on

widens-grows : (s t : State) → Widens s t → (slots : List Ty) (k : ℕ) → Grows (so_far s slots k) (so_far t slots k)
widens-grows s t p slots k =
    let ty = λ (f : Function). f.ty in
    let fs = p.functions.0 in
    record {
      structs = p.structs;
      globals = λ n u e. rw p.globals.1 (get-kept s.globals p.globals.0 n u e);
      literals = rw p.made.1 (omega (arith, texts-append s.made p.made.0));
      functions = λ n u e. rw (p.functions.1, map-append ty s.functions fs) (get-kept (map ty s.functions) (map ty fs) n u e);
      slots = λ n u e. e;
      visible = λ n e. e;
      fresh = λ n l e. e;
    }

pub holds-widened : (s t : State) → Good t → Widens s t → Holds s → Holds t
holds-widened s t g p h =
    let u = typed_state s in
    let v = typed_state t in
    let fs = p.functions.0 in
    let ms = p.made.0 in
    let grows = widens-grows s t p in
    let c = so_far s [] 0 in
    let d = so_far t [] 0 in
    let declared : All (IsDeclared t.structs) (s.functions ++ fs) = rw p.functions.1 at g.functions in
    let news = all-with IsNew (IsDeclared t.structs) (IsFunction v) (new-function v) fs p.functions.2 (all-behind (IsDeclared t.structs) s.functions fs declared) in
    let olds = All-weaker (IsFunction u) (IsFunction v) (function-kept u v p.structs grows) s.functions h.functions in
    record {
      literals = rw p.made.1 (omega (arith, p.made.3, h.literals, texts-append s.made ms));
      made = subst (λ ns. All (IsMade d) ns) (sym p.made.1) (All-append (IsMade d) s.made ms (All-weaker (IsMade c) (IsMade d) (made-grown c d (grows [] 0)) s.made h.made) (All-weaker IsText (IsMade d) (text-made d) ms p.made.2));
      functions = subst (λ gs. All (IsFunction v) gs) (sym p.functions.1) (All-append (IsFunction v) s.functions fs olds news);
    }

pub held-stepped : (s t : State) → Good t → Steps s t → Held s → Held t
held-stepped s t g p h =
    let ms = p.made.0 in (
      holds-widened s t g (steps-widens s t p) h.0,
      ap (λ ns. variables_in ns) p.made.1 ∙ variables-append s.made ms ∙ ap (λ vs. variables_in s.made ++ vs) (no-variables ms p.made.2) ∙ append-nil (variables_in s.made) ∙ h.1 ∙ ap (λ ts. numbers (length ts)) (sym p.globals),
    )

-- what holds of a unit when all of it has been read
pub well-typed : (s : State) → Good s → Held s → IsWellTyped (typed_state s)
well-typed s g h =
    record {
      laid_out = g.laid_out;
      structs = g.structs;
      tags = g.tags;
      names = g.names;
      globals = g.globals;
      variables = h.1;
      made = h.0.made;
      identifiers = g.named.1;
      distinct = g.named.2;
      functions = h.0.functions;
    }

-- a context at a state between declarations is that of the unit so far
pub context-is : (s : State) → s.literals ≡ literals_in s.made → s.slots ≡ [] → visible_in s.scopes ≡ [] → Grows (context s) (so_far s [] 0)
context-is s e f v =
    record {
      structs = extends-same s.structs;
      globals = λ m u h. h;
      literals = omega (arith, e);
      functions = λ m u h. h;
      slots = λ m u h. subst (λ ts. slice_get ts m ≡ Some u) f h;
      visible = λ n h. subst (λ ns. is_visible ns n ≡ true) v h;
      fresh = λ n l h. subst (λ ns. is_visible ns n ≡ false) v h;
    }

-- ---- variables at file scope

-- a state in which other things are made
abbrev pub with-things : State → List Made → State
with-things s ms = record s { made = ms }

things-good : (s : State) (ms : List Made) → Good s → Good (with-things s ms)
things-good s ms g =
    record { tags = g.tags; laid_out = g.laid_out; structs = g.structs; names = g.names; globals = g.globals; functions = g.functions; named = g.named; slots = g.slots; scoped = g.scoped; known = g.known; opened = g.opened }

things-grow : (s : State) (ms : List Made) → literals_in ms ≡ literals_in s.made → (slots : List Ty) (k : ℕ) → Grows (so_far s slots k) (so_far (with-things s ms) slots k)
things-grow s ms e slots k =
    record {
      structs = extends-same s.structs;
      globals = λ m u h. h;
      literals = omega (arith, e);
      functions = λ m u h. h;
      slots = λ m u h. h;
      visible = λ n h. h;
      fresh = λ n l h. h;
    }

things-hold : (s : State) (ms : List Made) → literals_in ms ≡ literals_in s.made → All (IsMade (so_far s [] 0)) ms → Holds s → Holds (with-things s ms)
things-hold s ms e made h =
    let w = with-things s ms in
    let u = typed_state s in
    let v = typed_state w in
    let grows = things-grow s ms e in
    record {
      literals = h.literals ∙ sym e;
      made = All-weaker (IsMade (so_far s [] 0)) (IsMade (so_far w [] 0)) (made-grown (so_far s [] 0) (so_far w [] 0) (grows [] 0)) ms made;
      functions = All-weaker (IsFunction u) (IsFunction v) (function-kept u v (extends-same s.structs) grows) s.functions h.functions;
    }

-- a state in which one more variable is made
abbrev pub with-made : State → ℕ → State
with-made s n = with-things s (s.made ++ tree.global n [] ∷ [])

pub made-good : (s : State) (n : ℕ) → Good s → Good (with-made s n)
made-good s n g = things-good s (s.made ++ tree.global n [] ∷ []) g

same-literals : (ms : List Made) (n : ℕ) → literals_in (ms ++ tree.global n [] ∷ []) ≡ literals_in ms
same-literals ms n = let e = texts-append ms (tree.global n [] ∷ []) in omega (arith, e)

pub made-holds : (s : State) (n : ℕ) → Holds s → Holds (with-made s n)
made-holds s n h =
    let is = IsMade (so_far s [] 0) in
    things-hold s (s.made ++ tree.global n [] ∷ []) (same-literals s.made n) (All-push is s.made (tree.global n []) h.made (All-nil (IsGiven (so_far s [] 0)), refl)) h

-- the variable that is made is the next one
pub made-next : (u w : State) (t : Ty) (n : ℕ) → AreMade u → w.made ≡ u.made → n ≡ length u.globals → w.globals ≡ u.globals ++ t ∷ [] → AreMade (with-made w n)
made-next u w t n h made is globals =
    let l = length-append u.globals (t ∷ []) in
    let k : length w.globals ≡ suc (length u.globals) = ap (λ ts. length ts) globals ∙ omega (arith, l) in
    variables-append w.made (tree.global n [] ∷ []) ∙ ap (λ ms. variables_in ms ++ n ∷ []) made ∙ ap (λ vs. vs ++ n ∷ []) h
    ∙ ap (λ m. numbers (length u.globals) ++ m ∷ []) is ∙ ap (λ k. numbers k) (sym k)

-- ---- the values of a variable

set-literals : (ms : List Made) (m n : ℕ) (ss ts : List Stmt) → slice_get ms m ≡ Some (tree.global n ss) → literals_in (set ms m (tree.global n ts)) ≡ literals_in ms
set-literals [] m n ss ts e = refl
set-literals (x ∷ ms) zero n ss ts e =
    let q : x ≡ tree.global n ss = cc in subst (λ (y : Made). literals_in (tree.global n ts ∷ ms) ≡ literals_in (y ∷ ms)) (sym q) refl
set-literals (tree.global k us ∷ ms) (suc m) n ss ts e = set-literals ms m n ss ts e
set-literals (tree.text bytes ∷ ms) (suc m) n ss ts e = ap (λ k. k + 1) (set-literals ms m n ss ts e)

set-variables : (ms : List Made) (m n : ℕ) (ss ts : List Stmt) → slice_get ms m ≡ Some (tree.global n ss) → variables_in (set ms m (tree.global n ts)) ≡ variables_in ms
set-variables [] m n ss ts e = refl
set-variables (x ∷ ms) zero n ss ts e =
    let q : x ≡ tree.global n ss = cc in subst (λ (y : Made). variables_in (tree.global n ts ∷ ms) ≡ variables_in (y ∷ ms)) (sym q) refl
set-variables (tree.global k us ∷ ms) (suc m) n ss ts e = ap (λ vs. k ∷ vs) (set-variables ms m n ss ts e)
set-variables (tree.text bytes ∷ ms) (suc m) n ss ts e = set-variables ms m n ss ts e

-- a state in which a variable has these values
abbrev pub with-given : State → (place number : ℕ) → List Stmt → State
with-given s m n ss = with-things s (set s.made m (tree.global n ss))

pub given-good : (s : State) (m n : ℕ) (ss : List Stmt) → Good s → Good (with-given s m n ss)
given-good s m n ss g = things-good s (set s.made m (tree.global n ss)) g

pub given-held : (s : State) (m n : ℕ) (old ss : List Stmt) → Good s → s.slots ≡ [] → slice_get s.made m ≡ Some (tree.global n old) → All (IsGiven (context s)) ss
    → give_constants ss ≡ true → Held s → Held (with-given s m n ss)
given-held s m n old ss g empty at news constants h =
    let c = so_far s [] 0 in
    let there = All-weaker (IsGiven (context s)) (IsGiven c) (given-grown (context s) c (context-is s h.0.literals empty (none-visible s g empty))) ss news in (
      things-hold s (set s.made m (tree.global n ss)) (set-literals s.made m n old ss at) (All-set (IsMade c) s.made m (tree.global n ss) (there, constants) h.0.made) h.0,
      set-variables s.made m n old ss at ∙ h.1,
    )

-- ---- a function that is defined

types-set : (fs : List Function) (n : ℕ) (f g : Function) → slice_get fs n ≡ Some f → g.ty ≡ f.ty → map (λ (h : Function). h.ty) (set fs n g) ≡ map (λ (h : Function). h.ty) fs
types-set [] n f g e same = refl
types-set (x ∷ fs) zero f g e same =
    let q : x ≡ f = cc in
    ap (λ t. t ∷ map (λ (h : Function). h.ty) fs) (same ∙ sym (ap (λ (h : Function). h.ty) q))
types-set (x ∷ fs) (suc n) f g e same = ap (λ ts. x.ty ∷ ts) (types-set fs n f g e same)

names-set : (fs : List Function) (n : ℕ) (f g : Function) → slice_get fs n ≡ Some f → g.name ≡ f.name → map (λ (h : Function). h.name) (set fs n g) ≡ map (λ (h : Function). h.name) fs
names-set [] n f g e same = refl
names-set (x ∷ fs) zero f g e same =
    let q : x ≡ f = cc in
    ap (λ t. t ∷ map (λ (h : Function). h.name) fs) (same ∙ sym (ap (λ (h : Function). h.name) q))
names-set (x ∷ fs) (suc n) f g e same = ap (λ ts. x.name ∷ ts) (names-set fs n f g e same)

-- a state in which a function is defined, and its slots are gone
abbrev pub with-body : State → ℕ → Function → Stmt → State
with-body s n f body =
    record s { functions = set s.functions n (defined f s.slots body); slots = []; additions = s.additions ++ record { at = s.at; subject = subjects.Body n } ∷ [] }

body-types : (s : State) (n : ℕ) (f : Function) (body : Stmt) → slice_get s.functions n ≡ Some f
    → map (λ (h : Function). h.ty) (with-body s n f body).functions ≡ map (λ (h : Function). h.ty) s.functions
body-types s n f body e = types-set s.functions n f (defined f s.slots body) e refl

body-grows : (s : State) (n : ℕ) (f : Function) (body : Stmt) → slice_get s.functions n ≡ Some f → (slots : List Ty) (k : ℕ)
    → Grows (so_far s slots k) (so_far (with-body s n f body) slots k)
body-grows s n f body e slots k =
    record {
      structs = extends-same s.structs;
      globals = λ m u h. h;
      literals = omega arith;
      functions = λ m u h. rw (body-types s n f body e) h;
      slots = λ m u h. h;
      visible = λ m h. h;
      fresh = λ m l h. h;
    }

all-at : {A : Type 0} (P : A → Type 0) (xs : List A) (n : ℕ) (x : A) → slice_get xs n ≡ Some x → All P xs → P x
all-at P xs n x e h = subst P (get_or_from_slice_get xs n x x e) (h n x (slice_get_within xs n x e))

-- a fact on names alone, of a list with the same names
names-there : (fs gs : List Function) → map (λ (h : Function). h.name) fs ≡ map (λ (h : Function). h.name) gs → All HasIdentifier fs × HaveNames fs → All HasIdentifier gs × HaveNames gs
names-there [] [] e h = h
names-there [] (g ∷ gs) e h = let q : [] ≡ g.name ∷ map (λ (h : Function). h.name) gs = e in absurd (cc)
names-there (f ∷ fs) [] e h = let q : f.name ∷ map (λ (h : Function). h.name) fs ≡ [] = e in absurd (cc)
names-there (f ∷ fs) (g ∷ gs) e h =
    let p : f.name ≡ g.name = cc in
    let q : map (λ (h : Function). h.name) fs ≡ map (λ (h : Function). h.name) gs = cc in
    let r = names-there fs gs q (All-tail HasIdentifier f fs h.0, h.1.1) in (
      All-cons HasIdentifier g gs (subst (λ n. is_identifier n ≡ true) p (All-head HasIdentifier f fs h.0)) r.0,
      (others f.name g.name fs gs p q h.1.0, r.1),
    ) where
      others : (n m : List ℕ) (fs gs : List Function) → n ≡ m → map (λ (h : Function). h.name) fs ≡ map (λ (h : Function). h.name) gs
          → All (λ (x : Function). x.name ≡ n → ⊥) fs → All (λ (x : Function). x.name ≡ m → ⊥) gs
      others n m [] [] p e h = All-nil (λ (x : Function). x.name ≡ m → ⊥)
      others n m [] (g ∷ gs) p e h = let q : [] ≡ g.name ∷ map (λ (h : Function). h.name) gs = e in absurd (cc)
      others n m (f ∷ fs) [] p e h = let q : f.name ∷ map (λ (h : Function). h.name) fs ≡ [] = e in absurd (cc)
      others n m (f ∷ fs) (g ∷ gs) p e h =
          let a : f.name ≡ g.name = cc in
          let b : map (λ (h : Function). h.name) fs ≡ map (λ (h : Function). h.name) gs = cc in
          All-cons (λ (x : Function). x.name ≡ m → ⊥) g gs (λ same. All-head (λ (x : Function). x.name ≡ n → ⊥) f fs h (a ∙ same ∙ sym p)) (others n m fs gs p b (All-tail (λ (x : Function). x.name ≡ n → ⊥) f fs h))

pub body-good : (s : State) (n : ℕ) (f : Function) (body : Stmt) → slice_get s.functions n ≡ Some f → visible_in s.scopes ≡ [] → Good s → Good (with-body s n f body)
body-good s n f body e nothing g =
    let d = all-at (IsDeclared s.structs) s.functions n f e g.functions in
    let same = names-set s.functions n f (defined f s.slots body) e refl in
    let named = names-there s.functions (set s.functions n (defined f s.slots body)) (sym same) (g.named.1, g.named.2) in
    record {
      tags = g.tags;
      laid_out = g.laid_out;
      structs = g.structs;
      names = g.names;
      globals = g.globals;
      functions = All-set (IsDeclared s.structs) s.functions n (defined f s.slots body) (d.0, d.1, d.2, d.3) g.functions;
      named = (g.named.0 ∙ sym same, named.0, named.1);
      slots = All-nil (IsObject s.structs);
      scoped = g.scoped;
      known = g.known;
      opened = subst (λ ns. All (IsBelow []) ns) (sym nothing) (All-nil (IsBelow []));
    }

pub body-held : (s : State) (n : ℕ) (f : Function) (body : Stmt) (r : Ty) (us : Tys) (locals : List Ty) → slice_get s.functions n ≡ Some f → f.ty ≡ function r us
    → s.slots ≡ list_of us ++ locals → IsStatement (so_far s s.slots (length (list_of us))) r no_jumps body → Good s → Held s → Held (with-body s n f body)
body-held s n f body r us locals e ty slots is g h =
    let u = typed_state s in
    let w = with-body s n f body in
    let v = typed_state w in
    let k = length (list_of us) in
    let grows = body-grows s n f body e in
    let d = all-at (IsDeclared s.structs) s.functions n f e g.functions in
    let there = statement-grown (so_far s s.slots k) (so_far w s.slots k) (grows s.slots k) r no_jumps body is in (
      record {
        literals = h.0.literals;
        made = All-weaker (IsMade (so_far s [] 0)) (IsMade (so_far w [] 0)) (made-grown (so_far s [] 0) (so_far w [] 0) (grows [] 0)) s.made h.0.made;
        functions = All-set (IsFunction v) s.functions n (defined f s.slots body) (r, us, ty, d.3, ((locals, slots), g.slots, there))
            (All-weaker (IsFunction u) (IsFunction v) (function-kept u v (extends-same s.structs) grows) s.functions h.0.functions);
      },
      h.1,
    )
