-- What stays where a state goes on: sizes, types, and what a tree may name.
use Rattle.std.proofs.Common.{◌≡◌, ◌∙◌, sym, ap, subst, refl, ℕ, zero, suc, ◌+◌, ◌*◌, List, [], ◌∷◌, ◌++◌, length, map, Option, Some, None, IsSome, slice_get, append_assoc, arith}
use Rattle.std.proofs.lemmas.List.{map-append, append-nil, length-append}
use Rattle.std.proofs.lemmas.List.Elements.{All-nil, All-append, All-weaker}
use Rattle.c_types.specs.Layout.{Table, Layout, layout_at, HasSize, IsSmall, size, size_in, members_in}
use Rattle.c_types.specs.Types.{Ty, void, integer, struct, pointer, array, function, Tys, no_types, types}
use Rattle.c_typed.specs.Tree as tree
use Rattle.c_typed.specs.Tree.{Function, Made}
use Rattle.c_check_types.specs.State.{Scope, State}
use Rattle.c_check_types.specs.Scopes.{outer}
use Rattle.c_typed.specs.refinement.Types.{IsType, IsObject, AreParameters}
use Rattle.c_typed.specs.refinement.Expressions.{IsMember, is_visible}
use Rattle.c_typed.specs.Units.{literals_in}
use Rattle.c_check.proofs.States.{context, visible_in, front, Extends, IsText, MakesTexts, Quiet, IsNew, IsAbove, Steps, Grows}
use Rattle.c_check.proofs.Visibility.{in-left, in-neither, below-all}

-- ---- tables

pub extends-same : (x : Table) → Extends x x
extends-same x = record { tags = omega arith; structs = λ n l e. e }

pub extends-onward : (x y z : Table) → Extends x y → Extends y z → Extends x z
extends-onward x y z p q =
    record { tags = omega (arith, p.tags, q.tags); structs = λ n l e. q.structs n l (p.structs n l e) }

pub layout-kept : (x y : Table) → Extends x y → (n : ℕ) (o : Option Layout) → layout_at x n ≡ o → IsSome o → layout_at y n ≡ layout_at x n
layout-kept x y p n None e h = absurd (cc)
layout-kept x y p n (Some l) e h = p.structs n l e ∙ sym e

pub size-kept : (x y : Table) → Extends x y → (t : Ty) → HasSize x t → HasSize y t × (size y t ≡ size x t)
size-kept x y p void h = absurd h
size-kept x y p (integer t) h = (h, refl)
size-kept x y p (struct n) h =
    let q = layout-kept x y p n (layout_at x n) refl h in
    (rw q h, ap (λ o. size_in o) q)
size-kept x y p (pointer t) h = (h, refl)
size-kept x y p (array t n) h =
    let q = size-kept x y p t h.1 in ((h.0, q.0), ap (λ s. n * s) q.1)
size-kept x y p (function r ps) h = absurd h

pub small-kept : (x y : Table) → Extends x y → (t : Ty) → IsSmall x t → IsSmall y t
small-kept x y p t h = let q = size-kept x y p t h.0 in (q.0, rw q.1 h.1)

mutual
  pub type-kept : (x y : Table) → Extends x y → (t : Ty) → IsType x t → IsType y t
  type-kept x y p void h = tt
  type-kept x y p (integer t) h = tt
  type-kept x y p (struct n) h = omega (arith, p.tags, h)
  type-kept x y p (pointer t) h = (h.0, type-kept x y p t h.1)
  type-kept x y p (array t n) h = (type-kept x y p t h.0, small-kept x y p (array t n) h.1, h.2)
  type-kept x y p (function r ps) h = (h.0, type-kept x y p r h.1, parameters-kept x y p ps h.2)

  pub parameters-kept : (x y : Table) → Extends x y → (ts : Tys) → AreParameters x ts → AreParameters y ts
  parameters-kept x y p no_types h = tt
  parameters-kept x y p (types t ts) h = (h.0, type-kept x y p t h.1, parameters-kept x y p ts h.2)

pub object-kept : (x y : Table) → Extends x y → (t : Ty) → IsObject x t → IsObject y t
object-kept x y p t h = (type-kept x y p t h.0, small-kept x y p t h.1)

pub member-kept : (x y : Table) → Extends x y → (n m : ℕ) (t : Ty) → IsMember x n m t → IsMember y n m t
member-kept x y p n m t h = behind (layout_at x n) refl where
  behind : (o : Option Layout) → layout_at x n ≡ o → IsMember y n m t
  behind None e = let q : None ≡ Some t = subst (λ o. slice_get (members_in o) m ≡ Some t) e h in absurd (cc)
  behind (Some l) e = rw (p.structs n l e) (rw e at h)

-- ---- what is made

pub texts-append : (ms ns : List Made) → literals_in (ms ++ ns) ≡ literals_in ms + literals_in ns
texts-append [] ns = omega arith
texts-append (tree.global n ss ∷ ms) ns = texts-append ms ns
texts-append (tree.text bytes ∷ ms) ns = let e = texts-append ms ns in omega (arith, e)

pub makes-nothing : (s : State) → MakesTexts s s
makes-nothing s = ([], sym (append-nil s.made), All-nil IsText, omega arith)

pub makes-onward : (s t u : State) → MakesTexts s t → MakesTexts t u → MakesTexts s u
makes-onward s t u p q =
    let ms = p.0 in
    let ns = q.0 in
    (ms ++ ns, q.1 ∙ ap (λ xs. xs ++ ns) p.1 ∙ append_assoc s.made ms ns, All-append IsText ms ns p.2 q.2, omega (arith, p.3, q.3, texts-append ms ns))

-- ---- states

pub quiet-same : (s : State) → Quiet s s
quiet-same s =
    record { structs = extends-same s.structs; globals = refl; functions = refl; outer = refl; front = refl; slots = refl; made = makes-nothing s }

pub quiet-onward : (s t u : State) → Quiet s t → Quiet t u → Quiet s u
quiet-onward s t u p q =
    record {
      structs = extends-onward s.structs t.structs u.structs p.structs q.structs;
      globals = q.globals ∙ p.globals;
      functions = q.functions ∙ p.functions;
      outer = q.outer ∙ p.outer;
      front = q.front ∙ p.front;
      slots = q.slots ∙ p.slots;
      made = makes-onward s t u p.made q.made;
    }

pub quiet-steps : (s t : State) → Quiet s t → Steps s t
quiet-steps s t p =
    record {
      structs = p.structs;
      globals = p.globals;
      functions = ([], p.functions ∙ sym (append-nil s.functions), All-nil IsNew);
      outer = p.outer;
      front = ([], p.front ∙ sym (append-nil (front s.scopes)), All-nil (IsAbove s.slots));
      slots = ([], p.slots ∙ sym (append-nil s.slots));
      made = p.made;
    }

pub steps-same : (s : State) → Steps s s
steps-same s = quiet-steps s s (quiet-same s)

pub more : {A : Type 0} (a b c xs ys : List A) → b ≡ a ++ xs → c ≡ b ++ ys → c ≡ a ++ (xs ++ ys)
more a b c xs ys p q = q ∙ ap (λ zs. zs ++ ys) p ∙ append_assoc a xs ys

above : (xs ys ts : List Ty) → ys ≡ xs ++ ts → (n : ℕ) → IsAbove ys n → IsAbove xs n
above xs ys ts e n h =
    let l = length-append xs ts in
    let k : length ys ≡ length (xs ++ ts) = ap (λ zs. length zs) e in
    omega (arith, h, l, k)

pub steps-onward : (s t u : State) → Steps s t → Steps t u → Steps s u
steps-onward s t u p q =
    let fs = p.functions.0 in
    let gs = q.functions.0 in
    let ts = p.slots.0 in
    let us = q.slots.0 in
    let ns = p.front.0 in
    let ms = q.front.0 in
    record {
      structs = extends-onward s.structs t.structs u.structs p.structs q.structs;
      globals = q.globals ∙ p.globals;
      functions = (fs ++ gs, more s.functions t.functions u.functions fs gs p.functions.1 q.functions.1, All-append IsNew fs gs p.functions.2 q.functions.2);
      outer = q.outer ∙ p.outer;
      front = (ns ++ ms, more (front s.scopes) (front t.scopes) (front u.scopes) ns ms p.front.1 q.front.1, All-append (IsAbove s.slots) ns ms p.front.2 (All-weaker (IsAbove t.slots) (IsAbove s.slots) (above s.slots t.slots ts p.slots.1) ms q.front.2));
      slots = (ts ++ us, more s.slots t.slots u.slots ts us p.slots.1 q.slots.1);
      made = makes-onward s t u p.made q.made;
    }

-- ---- what a tree may name

pub get-kept : {A : Type 0} (xs ys : List A) (n : ℕ) (x : A) → slice_get xs n ≡ Some x → slice_get (xs ++ ys) n ≡ Some x
get-kept [] ys n x e = let q : None ≡ Some x = e in absurd (cc)
get-kept (y ∷ xs) ys zero x e = e
get-kept (y ∷ xs) ys (suc n) x e = get-kept xs ys n x e

-- the slots of the scopes: those behind the innermost one, and its own
pub open-split : (ss : List Scope) → visible_in ss ≡ visible_in (outer ss) ++ front ss
open-split [] = refl
open-split (s ∷ ss) = refl

pub steps-open : (s t : State) (p : Steps s t) → visible_in t.scopes ≡ visible_in s.scopes ++ p.front.0
steps-open s t p =
    open-split t.scopes ∙ ap (λ ss. visible_in ss ++ front t.scopes) p.outer ∙ ap (λ ns. visible_in (outer s.scopes) ++ ns) p.front.1
    ∙ sym (append_assoc (visible_in (outer s.scopes)) (front s.scopes) p.front.0) ∙ ap (λ ns. ns ++ p.front.0) (sym (open-split s.scopes))

pub steps-grows : (s t : State) → Steps s t → Grows (context s) (context t)
steps-grows s t p =
    let fs = p.functions.0 in
    let ty = λ (f : Function). f.ty in
    record {
      structs = p.structs;
      globals = λ n u e. rw p.globals e;
      literals = omega (arith, p.made.3);
      functions = λ n u e. rw (p.functions.1, map-append ty s.functions fs) (get-kept (map ty s.functions) (map ty fs) n u e);
      slots = λ n u e. rw p.slots.1 (get-kept s.slots p.slots.0 n u e);
      visible = λ n e. ap (λ ns. is_visible ns n) (steps-open s t p) ∙ in-left (visible_in s.scopes) p.front.0 n e;
      fresh = λ n l e. ap (λ ns. is_visible ns n) (steps-open s t p) ∙ in-neither (visible_in s.scopes) p.front.0 n e (below-all s.slots p.front.0 n l p.front.2);
    }

pub quiet-grows : (s t : State) → Quiet s t → Grows (context s) (context t)
quiet-grows s t p = steps-grows s t (quiet-steps s t p)
