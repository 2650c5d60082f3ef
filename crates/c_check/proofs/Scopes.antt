-- What declarations make known: variables, functions and the names of scopes.
use Rattle.std.proofs.Common.{◌≡◌, ◌∙◌, sym, ap, subst, refl, ℕ, zero, suc, ◌<◌, ◌&&◌, ◌||◌, Bool, true, false, not, List, [], ◌∷◌, ◌++◌, length, map, Option, Some, None, slice_get, is_some, append_assoc, arith}
use Rattle.std.proofs.lemmas.List.{append-nil, length-append, map-append}
use Rattle.std.proofs.lemmas.List.Elements.{All-nil, All-cons, All-head, All-tail, All-append, All-push, All-weaker}
use Rattle.std.proofs.lemmas.Slice.Eq.{bytes_eq-Decides}
use Rattle.std.specs.List.{All, list_any}
use Rattle.std.specs.Str.{bytes_eq}
use Rattle.ms_names.proofs.Positions.{any-none}
use Rattle.c_types.specs.Types.{Ty, void, integer, struct, pointer, array, function, Tys, is_function}
use Rattle.c_typed.specs.declared.unit.Subject.TheVariants as subjects
use Rattle.c_typed.specs.Identifiers.{is_identifier}
use Rattle.c_typed.specs.Tree.{Function}
use Rattle.c_check_types.specs.declared.entity.Entity.{Entity}
use Rattle.c_check_types.specs.declared.entity.Entity.TheVariants as entities
use Rattle.c_check_types.specs.State.{Names, State, Scope, number_of, followed}
use Rattle.c_check_types.specs.Scopes.{library, no_names, outer, in_front, is_known, enters, opens, new_slot, enters_local, is_function as names_function, entity_in_front, enters_function, names_variable, a_function, new_function, has_type, old_function, old_or_new, declares_function, enters_global}
use Rattle.c_typed.specs.refinement.Types.{IsType, IsObject}
use Rattle.c_typed.specs.refinement.Expressions.{is_visible}
use Rattle.c_typed.specs.Units.{HasIdentifier, HaveNames}
use Rattle.c_check.proofs.States.{visible_in, front, IsKnown, AreKnown, AreNamed, IsBelow, IsAbove, Good, IsDeclared, Extends, Quiet, Steps, MakesTexts, IsNew, Does}
use Rattle.c_check.proofs.Visibility.{in-left, visible-last}
use Rattle.c_check.proofs.Extension.{extends-same, quiet-same, quiet-steps, steps-same, extends-onward, makes-onward, more, open-split}
use Rattle.c_check.proofs.Rules.{stepping, calmly, step, behind, ends, only-then}
use Rattle.c_check.proofs.Integers.{same-type}

-- ---- names alone

abbrev pub Nothing : {A : Type 0} → State → A → Type 0
Nothing u a = Unit {0}

-- a state with other scopes
abbrev with-scopes : State → List Scope → State
with-scopes s scopes = record s { scopes = scopes }

-- ---- scopes that are opened and closed

all-front : {A : Type 0} (P : A → Type 0) (xs ys : List A) → All P (xs ++ ys) → All P xs
all-front P [] ys h = All-nil P
all-front P (x ∷ xs) ys h =
    All-cons P x xs (All-head P x (xs ++ ys) h) (all-front P xs ys (All-tail P x (xs ++ ys) h))

abbrev pub opened-state : State → State
opened-state s = with-scopes s (no_names ∷ s.scopes)

pub opened-good : (s : State) → Good s → Good (opened-state s)
opened-good s g =
    record {
      tags = g.tags;
      laid_out = g.laid_out;
      structs = g.structs;
      names = g.names;
      globals = g.globals;
      functions = g.functions;
      named = g.named;
      slots = g.slots;
      scoped = omega arith;
      known = (All-nil (IsKnown (visible_in (no_names ∷ s.scopes))), g.known);
      opened = All-append (IsBelow s.slots) (visible_in s.scopes) [] g.opened (All-nil (IsBelow s.slots));
    }

abbrev pub closed-state : State → State
closed-state s = with-scopes s (outer s.scopes)

outer-known : (ss : List Scope) → AreKnown ss → AreKnown (outer ss)
outer-known [] h = tt
outer-known (s ∷ ss) h = h.1

pub closed-good : (s : State) → Good s → 0 < length (outer s.scopes) → Good (closed-state s)
closed-good s g more =
    record {
      tags = g.tags;
      laid_out = g.laid_out;
      structs = g.structs;
      names = g.names;
      globals = g.globals;
      functions = g.functions;
      named = g.named;
      slots = g.slots;
      scoped = more;
      known = outer-known s.scopes g.known;
      opened = all-front (IsBelow s.slots) (visible_in (outer s.scopes)) (front s.scopes) (subst (λ ns. All (IsBelow s.slots) ns) (open-split s.scopes) g.opened);
    }

-- from a state to what is left of one that began with a scope of its own
pub enclosed-steps : (s u : State) → Steps (opened-state s) u → Steps s (closed-state u)
enclosed-steps s u p =
    record {
      structs = p.structs;
      globals = p.globals;
      functions = p.functions;
      outer = ap (λ ss. outer ss) p.outer;
      front = ([], ap (λ ss. front ss) p.outer ∙ sym (append-nil (front s.scopes)), All-nil (IsAbove s.slots));
      slots = p.slots;
      made = p.made;
    }

pub enclosed-good : (s u : State) → Good s → Steps (opened-state s) u → Good u → Good (closed-state u)
enclosed-good s u g p h = closed-good u h (subst (λ ss. 0 < length ss) (sym p.outer) g.scoped)

-- a rule in a scope of its own, and what is made of its answer
pub enclosed : {A B : Type 0} (o : Option (A × State)) (make : A → B) (s : State) (P : State → A → Type 0) (Q : State → B → Type 0) → Good s
    → ((a : A) (u : State) → ◌≡◌ {A = Option (A × State)} o (Some (a, u)) → Good u × Steps (opened-state s) u × P u a)
    → ((a : A) (u : State) → Good u → Steps (opened-state s) u → P u a → Q (closed-state u) (make a))
    → (b : B) (t : State) → ◌≡◌ {A = Option (B × State)} (followed o (λ a u. Some (make a, closed-state u))) (Some (b, t)) → Good t × Steps s t × Q t b
enclosed None make s P Q g does f b t e = let q : None ≡ Some (b, t) = e in absurd (cc)
enclosed {A} {B} (Some (a, u)) make s P Q g does f b t e =
    let d = does a u (λ i. Some (a, u)) in
    let q : ◌≡◌ {A = B × State} (make a, closed-state u) (b, t) = cc in
    subst (λ (z : B × State). Good z.1 × Steps s z.1 × Q z.1 z.0) q (enclosed-good s u g d.1 d.0, enclosed-steps s u d.1, f a u d.0 d.1 d.2)

-- ---- names that are entered

front-same : (ss : List Scope) (name : List ℕ) (e : Entity) → front (in_front ss name e) ≡ front ss
front-same [] name e = refl
front-same (s ∷ ss) name e = refl

outer-same : (ss : List Scope) (name : List ℕ) (e : Entity) → outer (in_front ss name e) ≡ outer ss
outer-same [] name e = refl
outer-same (s ∷ ss) name e = refl

visible-same : (ss : List Scope) (name : List ℕ) (e : Entity) → visible_in (in_front ss name e) ≡ visible_in ss
visible-same [] name e = refl
visible-same (s ∷ ss) name e = refl

length-same : (ss : List Scope) (name : List ℕ) (e : Entity) → length (in_front ss name e) ≡ length ss
length-same [] name e = refl
length-same (s ∷ ss) name e = refl

entered-known : (ss : List Scope) (name : List ℕ) (e : Entity) → AreKnown ss → IsKnown (visible_in ss) e → AreKnown (in_front ss name e)
entered-known [] name e h k = tt
entered-known (s ∷ ss) name e h k = (All-push (IsKnown (visible_in (s ∷ ss))) s.entities e h.0 k, h.1)

-- a state with a name more
abbrev pub entered : State → List ℕ → Entity → State
entered s name e = with-scopes s (in_front s.scopes name e)

entered-good : (s : State) (name : List ℕ) (e : Entity) → Good s → IsKnown (visible_in s.scopes) e → Good (entered s name e)
entered-good s name e g k =
    record {
      tags = g.tags;
      laid_out = g.laid_out;
      structs = g.structs;
      names = g.names;
      globals = g.globals;
      functions = g.functions;
      named = g.named;
      slots = g.slots;
      scoped = subst (λ n. 0 < n) (sym (length-same s.scopes name e)) g.scoped;
      known = entered-known s.scopes name e g.known k;
      opened = subst (λ ns. All (IsBelow s.slots) ns) (sym (visible-same s.scopes name e)) g.opened;
    }

entered-more : (s : State) (name : List ℕ) (e : Entity) → Quiet s (entered s name e)
entered-more s name e =
    record { structs = extends-same s.structs; globals = refl; functions = refl; outer = outer-same s.scopes name e; front = front-same s.scopes name e; slots = refl; made = (quiet-same s).made }

pub enters-does : (name : List ℕ) (e : Entity) (s : State) → Good s → IsKnown (visible_in s.scopes) e → Does Quiet (enters name e) s (λ u a. u ≡ entered s name e)
enters-does name e s g k =
    only-then Quiet (not (is_some (library name)) && not (is_known s.scopes name)) _ s _ (λ t.
    ends Quiet tt s (entered s name e) (λ u a. u ≡ entered s name e) (entered-good s name e g k) (entered-more s name e) refl)

-- ---- variables of a function

at-end : {A : Type 0} (xs : List A) (x : A) → slice_get (xs ++ x ∷ []) (length xs) ≡ Some x
at-end [] x = refl
at-end (y ∷ xs) x = at-end xs x

longer : {A : Type 0} (xs : List A) (x : A) → length (xs ++ x ∷ []) ≡ suc (length xs)
longer xs x = let e = length-append xs (x ∷ []) in omega (arith, e)

-- a state with a slot more, in the innermost scope
abbrev pub with-slot : State → Ty → State
with-slot s t = record s { scopes = opens s.scopes (length s.slots); slots = s.slots ++ t ∷ [] }

visible-more : (ss : List Scope) (n : ℕ) → 0 < length ss → visible_in (opens ss n) ≡ visible_in ss ++ n ∷ []
visible-more [] n h = absurd (omega arith)
visible-more (s ∷ ss) n h = sym (append_assoc (visible_in ss) s.slots (n ∷ []))

front-more : (ss : List Scope) (n : ℕ) → 0 < length ss → front (opens ss n) ≡ front ss ++ n ∷ []
front-more [] n h = absurd (omega arith)
front-more (s ∷ ss) n h = refl

outer-kept : (ss : List Scope) (n : ℕ) → outer (opens ss n) ≡ outer ss
outer-kept [] n = refl
outer-kept (s ∷ ss) n = refl

length-kept : (ss : List Scope) (n : ℕ) → length (opens ss n) ≡ length ss
length-kept [] n = refl
length-kept (s ∷ ss) n = refl

known-longer : (xs : List ℕ) (n : ℕ) (e : Entity) → IsKnown xs e → IsKnown (xs ++ n ∷ []) e
known-longer xs n (entities.Local m) h = in-left xs (n ∷ []) m h
known-longer xs n (entities.Global m) h = tt
known-longer xs n (entities.Function m) h = tt
known-longer xs n (entities.Constant m) h = h

known-kept : (ss : List Scope) (n : ℕ) → AreKnown ss → AreKnown (opens ss n)
known-kept [] n h = tt
known-kept (s ∷ ss) n h =
    (subst (λ ns. All (IsKnown ns) s.entities) (append_assoc (visible_in ss) s.slots (n ∷ [])) (All-weaker (IsKnown (visible_in (s ∷ ss))) (IsKnown (visible_in (s ∷ ss) ++ n ∷ [])) (known-longer (visible_in (s ∷ ss)) n) s.entities h.0), h.1)

below-more : (slots : List Ty) (t : Ty) (n : ℕ) → IsBelow slots n → IsBelow (slots ++ t ∷ []) n
below-more slots t n h = let l = longer slots t in omega (arith, h, l)

pub slot-good : (s : State) (t : Ty) → Good s → IsObject s.structs t → Good (with-slot s t)
slot-good s t g h =
    let n = length s.slots in
    let below = IsBelow (s.slots ++ t ∷ []) in
    record {
      tags = g.tags;
      laid_out = g.laid_out;
      structs = g.structs;
      names = g.names;
      globals = g.globals;
      functions = g.functions;
      named = g.named;
      slots = All-push (IsObject s.structs) s.slots t g.slots h;
      scoped = subst (λ k. 0 < k) (sym (length-kept s.scopes n)) g.scoped;
      known = known-kept s.scopes n g.known;
      opened = subst (λ ns. All below ns) (sym (visible-more s.scopes n g.scoped))
          (All-push below (visible_in s.scopes) n (All-weaker (IsBelow s.slots) below (below-more s.slots t) (visible_in s.scopes) g.opened) (let l = longer s.slots t in omega (arith, l)));
    }

pub slot-more : (s : State) (t : Ty) → Good s → Steps s (with-slot s t)
slot-more s t g =
    let same = steps-same s in
    let n = length s.slots in
    record {
      structs = same.structs;
      globals = refl;
      functions = same.functions;
      outer = outer-kept s.scopes n;
      front = (n ∷ [], front-more s.scopes n g.scoped, All-cons (IsAbove s.slots) n [] (omega arith) (All-nil (IsAbove s.slots)));
      slots = (t ∷ [], refl);
      made = same.made;
    }

-- a slot of this type is there, the next one, behind those of a state and visible
abbrev pub HasSlot : State → Ty → State → ℕ → Type 0
HasSlot s t u n =
    (slice_get u.slots n ≡ Some t) × (u.slots ≡ s.slots ++ t ∷ []) × (is_visible (visible_in u.scopes) n ≡ true) × (front u.scopes ≡ front s.scopes ++ n ∷ []) × (n ≡ length s.slots)

pub new_slot-does : (t : Ty) (s : State) → Good s → IsObject s.structs t → Does Steps (new_slot t) s (HasSlot s t)
new_slot-does t s g h =
    let n = length s.slots in
    ends Steps n s (with-slot s t) (HasSlot s t) (slot-good s t g h) (slot-more s t g)
    (at-end s.slots t, refl, ap (λ ns. is_visible ns n) (visible-more s.scopes n g.scoped) ∙ visible-last (visible_in s.scopes) n, front-more s.scopes n g.scoped, refl)

entered-slot : (s u : State) (t : Ty) (name : List ℕ) (e : Entity) (n : ℕ) → HasSlot s t u n → HasSlot s t (entered u name e) n
entered-slot s u t name e n h =
    (h.0, h.1, ap (λ ns. is_visible ns n) (visible-same u.scopes name e) ∙ h.2, front-same u.scopes name e ∙ h.3, h.4)

pub enters_local-does : (name : List ℕ) (t : Ty) (s : State) → Good s → IsObject s.structs t → Does Steps (enters_local name t) s (HasSlot s t)
enters_local-does name t s g h =
    stepping s (new_slot-does t s g h) (λ n u good q p.
    calmly u (enters-does name (entities.Local n) u good p.2) (λ a w fine r is.
    ends Steps n w w (HasSlot s t) fine (steps-same w) (subst (λ v. HasSlot s t v n) (sym is) (entered-slot s u t name (entities.Local n) n p))))

-- ---- functions

-- at this number there is a function of this type, and slots are those of a state
abbrev pub HasFunction : Ty → State → State → ℕ → Type 0
HasFunction t s u n =
    (slice_get (map (λ (f : Function). f.ty) u.functions) n ≡ Some t) × (u.slots ≡ s.slots) × (front u.scopes ≡ front s.scopes)

abbrev pub IsFunctionType : Ty → Type 0
IsFunctionType t = (r : Ty) × (ps : Tys) × (t ≡ function r ps)

pub function-type : (t : Ty) → is_function t ≡ true → IsFunctionType t
function-type (function r ps) e = (r, ps, refl)
function-type void e = let q : false ≡ true = e in absurd (cc)
function-type (integer t) e = let q : false ≡ true = e in absurd (cc)
function-type (struct n) e = let q : false ≡ true = e in absurd (cc)
function-type (pointer t) e = let q : false ≡ true = e in absurd (cc)
function-type (array t n) e = let q : false ≡ true = e in absurd (cc)

-- what stays where a function's name is entered
abbrev pub Keeps : State → State → Type 0
Keeps s u = (u.functions ≡ s.functions) × (u.slots ≡ s.slots) × (front u.scopes ≡ front s.scopes)

entered-keeps : (s : State) (name : List ℕ) (e : Entity) → Keeps s (entered s name e)
entered-keeps s name e = (refl, refl, front-same s.scopes name e)

enters_function-does : (name : List ℕ) (n : ℕ) (s : State) → Good s → Does Quiet (enters_function name n) s (λ u a. Keeps s u)
enters_function-does name n s g = behind (names_function (entity_in_front s.scopes name) n) refl where
  behind : (b : Bool) → names_function (entity_in_front s.scopes name) n ≡ b → Does Quiet (enters_function name n) s (λ u a. Keeps s u)
  behind true e = rw e (ends Quiet tt s s (λ u a. Keeps s u) g (quiet-same s) (refl, refl, refl))
  behind false e =
      rw e (λ a u f. let d = enters-does name (entities.Function n) s g tt a u f in (d.0, d.1, subst (λ v. Keeps s v) (sym d.2) (entered-keeps s name (entities.Function n))))

-- a state with a function more
abbrev with-function : State → List ℕ → Ty → State
with-function s name t =
    record s { function_names = s.function_names ++ name ∷ []; functions = s.functions ++ a_function name t ∷ []; additions = s.additions ++ record { at = s.at; subject = subjects.Function (length s.functions) } ∷ [] }

-- a name that isn't among those of functions
neither : (a b : Bool) → (a || b) ≡ false → (a ≡ false) × (b ≡ false)
neither true b e = let q : true ≡ false = e in absurd (cc)
neither false b e = (refl, e)

differs : (x y : List ℕ) → bytes_eq x y ≡ false → x ≡ y → ⊥
differs x y e same = let q : true ≡ false = sym ((bytes_eq-Decides x y).1 same) ∙ e in absurd (cc)

all-differ : (name : List ℕ) (fs : List Function) → list_any (bytes_eq name) (map (λ (f : Function). f.name) fs) ≡ false → All (λ (f : Function). name ≡ f.name → ⊥) fs
all-differ name [] e = All-nil (λ (f : Function). name ≡ f.name → ⊥)
all-differ name (f ∷ fs) e =
    let n = neither (bytes_eq name f.name) (list_any (bytes_eq name) (map (λ (f : Function). f.name) fs)) e in
    All-cons (λ (f : Function). name ≡ f.name → ⊥) f fs (differs name f.name n.0) (all-differ name fs n.1)

name-push : (fs : List Function) (f : Function) → HaveNames fs → All (λ (g : Function). f.name ≡ g.name → ⊥) fs → HaveNames (fs ++ f ∷ [])
name-push [] f h k = (All-nil (λ (g : Function). g.name ≡ f.name → ⊥), tt)
name-push (g ∷ fs) f h k =
    (All-push (λ (x : Function). x.name ≡ g.name → ⊥) fs f h.0 (All-head (λ (x : Function). f.name ≡ x.name → ⊥) g fs k), name-push fs f h.1 (All-tail (λ (x : Function). f.name ≡ x.name → ⊥) g fs k))

function-named : (names : Names) (fs : List Function) (name : List ℕ) (t : Ty) → AreNamed names fs → is_identifier name ≡ true → number_of names name ≡ None
    → AreNamed (names ++ name ∷ []) (fs ++ a_function name t ∷ [])
function-named names fs name t h id absent =
    let ns = map (λ (f : Function). f.name) fs in
    let none : list_any (bytes_eq name) ns ≡ false = any-none (bytes_eq name) ns (subst (λ xs. number_of xs name ≡ None) h.0 absent) in
    (ap (λ xs. xs ++ name ∷ []) h.0 ∙ sym (map-append (λ (f : Function). f.name) fs (a_function name t ∷ [])), All-push HasIdentifier fs (a_function name t) h.1 id, name-push fs (a_function name t) h.2 (all-differ name fs none))

function-good : (s : State) (name : List ℕ) (t : Ty) → Good s → IsFunctionType t → IsType s.structs t → is_identifier name ≡ true → number_of s.function_names name ≡ None → Good (with-function s name t)
function-good s name t g f h id absent =
    record {
      tags = g.tags;
      laid_out = g.laid_out;
      structs = g.structs;
      names = g.names;
      globals = g.globals;
      functions = All-push (IsDeclared s.structs) s.functions (a_function name t) g.functions (f.0, f.1, f.2, h);
      named = function-named s.function_names s.functions name t g.named id absent;
      slots = g.slots;
      scoped = g.scoped;
      known = g.known;
      opened = g.opened;
    }

function-more : (s : State) (name : List ℕ) (t : Ty) → Steps s (with-function s name t)
function-more s name t =
    let same = steps-same s in
    record {
      structs = same.structs;
      globals = refl;
      functions = (a_function name t ∷ [], refl, All-cons IsNew (a_function name t) [] refl (All-nil IsNew));
      outer = refl;
      front = same.front;
      slots = same.slots;
      made = same.made;
    }

function-there : (fs : List Function) (name : List ℕ) (t : Ty) → slice_get (map (λ (f : Function). f.ty) (fs ++ a_function name t ∷ [])) (length fs) ≡ Some t
function-there [] name t = refl
function-there (f ∷ fs) name t = function-there fs name t

new_function-does : (name : List ℕ) (t : Ty) (s : State) → Good s → IsFunctionType t → IsType s.structs t → number_of s.function_names name ≡ None
    → Does Steps (new_function name t) s (HasFunction t s)
new_function-does name t s g f h absent =
    only-then Steps (is_identifier name) _ s _ (λ id.
    only-then Steps (not (names_variable s.scopes name)) _ s _ (λ b.
    let v = with-function s name t in
    let n = length s.functions in
    behind s v (function-more s name t) (
    calmly v (enters_function-does name n v (function-good s name t g f h id absent)) (λ c w good q i.
    ends Steps n w w (HasFunction t s) good (steps-same w) (rw i.0 (function-there s.functions name t), i.1, i.2)))))

old-there : (fs : List Function) (n : ℕ) (t : Ty) → has_type (slice_get fs n) t ≡ true → slice_get (map (λ (f : Function). f.ty) fs) n ≡ Some t
old-there [] n t e = let q : false ≡ true = e in absurd (cc)
old-there (f ∷ fs) zero t e = ap (λ u. Some u) (same-type f.ty t e)
old-there (f ∷ fs) (suc n) t e = old-there fs n t e

old_function-does : (name : List ℕ) (t : Ty) (n : ℕ) (s : State) → Good s → Does Steps (old_function name t n) s (HasFunction t s)
old_function-does name t n s g =
    only-then Steps (has_type (slice_get s.functions n) t) _ s _ (λ b.
    calmly s (enters_function-does name n s g) (λ c w good q i.
    ends Steps n w w (HasFunction t s) good (steps-same w) (rw i.0 (old-there s.functions n t b), i.1, i.2)))

old_or_new-does : (name : List ℕ) (t : Ty) (o : Option ℕ) (s : State) → Good s → IsFunctionType t → IsType s.structs t → number_of s.function_names name ≡ o
    → Does Steps (old_or_new name t o) s (HasFunction t s)
old_or_new-does name t None s g f h e = new_function-does name t s g f h e
old_or_new-does name t (Some n) s g f h e = old_function-does name t n s g

pub declares_function-does : (name : List ℕ) (t : Ty) (s : State) → Good s → IsFunctionType t → IsType s.structs t → Does Steps (declares_function name t) s (HasFunction t s)
declares_function-does name t s g f h = old_or_new-does name t (number_of s.function_names name) s g f h refl

-- ---- variables at file scope

-- what rules of declarations at file scope do up to a value: they may declare a variable, too
pub record Widens (s t : State) : Type 0 where
  pub structs : Extends s.structs t.structs
  pub globals : (ts : List Ty) × (t.globals ≡ s.globals ++ ts)
  pub functions : (fs : List Function) × (t.functions ≡ s.functions ++ fs) × All IsNew fs
  pub slots : (ts : List Ty) × (t.slots ≡ s.slots ++ ts)
  pub made : MakesTexts s t

pub steps-widens : (s t : State) → Steps s t → Widens s t
steps-widens s t p =
    record {
      structs = p.structs;
      globals = ([], p.globals ∙ sym (append-nil s.globals));
      functions = p.functions;
      slots = p.slots;
      made = p.made;
    }

pub widens-onward : (s t u : State) → Widens s t → Widens t u → Widens s u
widens-onward s t u p q =
    let gs = p.globals.0 in
    let hs = q.globals.0 in
    let fs = p.functions.0 in
    let ks = q.functions.0 in
    let ts = p.slots.0 in
    let us = q.slots.0 in
    record {
      structs = extends-onward s.structs t.structs u.structs p.structs q.structs;
      globals = (gs ++ hs, more s.globals t.globals u.globals gs hs p.globals.1 q.globals.1);
      functions = (fs ++ ks, more s.functions t.functions u.functions fs ks p.functions.1 q.functions.1, All-append IsNew fs ks p.functions.2 q.functions.2);
      slots = (ts ++ us, more s.slots t.slots u.slots ts us p.slots.1 q.slots.1);
      made = makes-onward s t u p.made q.made;
    }

-- a state with a variable more
abbrev with-global : State → (number : ℕ) → List ℕ → Ty → State
with-global s n name t =
    record s { global_names = s.global_names ++ name ∷ []; globals = s.globals ++ t ∷ []; additions = s.additions ++ record { at = s.at; subject = subjects.Variable n } ∷ [] }

global-good : (s : State) (n : ℕ) (name : List ℕ) (t : Ty) → Good s → IsObject s.structs t → Good (with-global s n name t)
global-good s n name t g h =
    record {
      tags = g.tags;
      laid_out = g.laid_out;
      structs = g.structs;
      names = let e = g.names in omega (arith, e, longer s.global_names name, longer s.globals t);
      globals = All-push (IsObject s.structs) s.globals t g.globals h;
      functions = g.functions;
      named = g.named;
      slots = g.slots;
      scoped = g.scoped;
      known = g.known;
      opened = g.opened;
    }

-- at this number there is a variable of this type, the next one, and slots and what is made are those of a state
abbrev pub HasGlobal : Ty → State → State → ℕ → Type 0
HasGlobal t s u n =
    (slice_get u.globals n ≡ Some t) × (u.slots ≡ s.slots) × (n ≡ length s.globals) × (u.globals ≡ s.globals ++ t ∷ []) × (u.made ≡ s.made) × (u.literals ≡ s.literals) × (u.functions ≡ s.functions)

global-widens : (s : State) (n : ℕ) (name : List ℕ) (t : Ty) → Widens s (with-global s n name t)
global-widens s n name t =
    let p = steps-same s in
    record { structs = p.structs; globals = (t ∷ [], refl); functions = p.functions; slots = p.slots; made = p.made }

pub enters_global-does : (name : List ℕ) (t : Ty) (s : State) → Good s → IsObject s.structs t → Does Widens (enters_global name t) s (HasGlobal t s)
enters_global-does name t s g h =
    let e = entities.Global (length s.globals) in
    let v = entered s name e in
    only-then Widens (not (is_some (number_of s.function_names name))) _ s _ (λ b.
    step Widens widens-onward (enters name e s) _ s (λ v a. v ≡ entered s name e) (HasGlobal t s)
    (λ a v i. let d = enters-does name e s g tt a v i in (d.0, steps-widens s v (quiet-steps s v d.1), d.2))
    (λ a v good w is.
    let same = ap (λ (x : State). x.globals) is in
    ends Widens (length s.globals) v (with-global v (length s.globals) name t) (HasGlobal t s) (global-good v (length s.globals) name t good (subst (λ x. IsObject x t) (sym (ap (λ (x : State). x.structs) is)) h)) (global-widens v (length s.globals) name t)
    (rw same (at-end s.globals t), ap (λ (x : State). x.slots) is, refl, rw same refl, ap (λ (x : State). x.made) is, ap (λ (x : State). x.literals) is, ap (λ (x : State). x.functions) is)))
