-- What is declared has a type that may stand in a unit.
use Rattle.std.proofs.Common.{◌≡◌, ap, subst, refl, ℕ, zero, suc, ◌<◌, true, false, not, is_some, List, [], ◌∷◌, ◌++◌, length, Option, Some, None, if◌then◌else◌, arith}
use Rattle.std.proofs.lemmas.List.{length-append}
use Rattle.std.proofs.lemmas.List.Elements.{All-nil, All-head, All-tail, All-push, All-weaker}
use Rattle.std.proofs.lemmas.List.Quantifiers.{position-Some}
use Rattle.std.specs.List.{All}
use Rattle.std.specs.Str.{bytes_eq}
use Rattle.c_types.specs.declared.integers.IntType.TheVariants.{Int, UnsignedInt, LongLong}
use Rattle.c_types.specs.Layout.{Table, Layout, layout_at, HasSize, IsSmall, size}
use Rattle.c_types.specs.Types.{Ty, void, integer, struct, pointer, array, function, no_types, is_function}
use Rattle.c_tree.specs.declared.operators.Infix.TheVariants.{Binary}
use Rattle.c_tree.specs.declared.specifier.SpecifierNode.{SpecifierNode}
use Rattle.c_tree.specs.declared.specifier.SpecifierNode.TheVariants as specifiers
use Rattle.c_tree.specs.Operators.{combination}
use Rattle.c_tree.specs.Tree as tree
use Rattle.c_tree.specs.Tree.{Expr, Declarator, Parameters}
use Rattle.c_typed.specs.declared.unit.Subject.TheVariants as subjects
use Rattle.c_typed.specs.Tree.{Function}
use Rattle.c_check_types.specs.State.{State, Names, Rule, number_of}
use Rattle.c_check_types.specs.Scopes.{tag_number, old_or_new_tag, entity_of}
use Rattle.c_check_types.specs.Types.{measured, size_of, specified, integer_said, Derived, whole, lengthless, whole_type, Parameter, Declared, may_be_led_to, pointer_to, element, sized_array, result_type, adjusted, types_of_parameters, integer_type, with_name, a_parameter, declared, parameters, constant_of, constant, type_name}
use Rattle.c_check_types.specs.Constants.{natural, unary}
use Rattle.c_check_types.specs.declared.constants.Constant.{Constant}
use Rattle.c_types.proofs.Growth.{tagged}
use Rattle.c_typed.specs.refinement.Types.{IsScalar, IsValue, MayBeLedTo, IsType, IsObject, AreParameters}
use Rattle.c_check.proofs.States.{Good, IsDeclared, Extends, Quiet, Does}
use Rattle.c_check.proofs.Extension.{type-kept, object-kept, quiet-same}
use Rattle.c_check.proofs.Rules.{quietly, ends, given-then, given-ends, only-then}
use Rattle.c_check.proofs.Sizes.{small_if_measured, few_if_measured}

-- ---- what a table that grows keeps

pub objects-kept : (x y : Table) → Extends x y → (ts : List Ty) → All (IsObject x) ts → All (IsObject y) ts
objects-kept x y p ts h = All-weaker (IsObject x) (IsObject y) (object-kept x y p) ts h

declared-kept : (x y : Table) → Extends x y → (f : Function) → IsDeclared x f → IsDeclared y f
declared-kept x y p f h = (h.0, h.1, h.2, type-kept x y p f.ty h.3)

pub functions-kept : (x y : Table) → Extends x y → (fs : List Function) → All (IsDeclared x) fs → All (IsDeclared y) fs
functions-kept x y p fs h = All-weaker (IsDeclared x) (IsDeclared y) (declared-kept x y p) fs h

-- ---- tags

tag-extends : (x : Table) (n : ℕ) (l : Layout) → layout_at x n ≡ Some l → layout_at (x ++ None ∷ []) n ≡ Some l
tag-extends [] n l e = let q : None ≡ Some l = e in absurd (cc)
tag-extends (o ∷ os) zero l e = e
tag-extends (o ∷ os) (suc n) l e = tag-extends os n l e

tag-is-old : (x : Table) (n : ℕ) (l : Layout) → layout_at (x ++ None ∷ []) n ≡ Some l → layout_at x n ≡ Some l
tag-is-old [] zero l e = let q : None ≡ Some l = e in absurd (cc)
tag-is-old [] (suc n) l e = let q : None ≡ Some l = e in absurd (cc)
tag-is-old (o ∷ os) zero l e = e
tag-is-old (o ∷ os) (suc n) l e = tag-is-old os n l e

one-more : {A : Type 0} (xs : List A) (x : A) → length (xs ++ x ∷ []) ≡ suc (length xs)
one-more xs x = let e = length-append xs (x ∷ []) in omega (arith, e)

-- a state with a tag more
abbrev with-tag : State → List ℕ → State
with-tag s tag =
    record s { tags = s.tags ++ tag ∷ []; structs = s.structs ++ None ∷ []; members = s.members ++ [] ∷ []; additions = s.additions ++ record { at = s.at; subject = subjects.Tag (length s.structs) } ∷ [] }

tag-more : (s : State) (tag : List ℕ) → Quiet s (with-tag s tag)
tag-more s tag =
    record {
      structs = record { tags = omega (arith, one-more s.structs None); structs = tag-extends s.structs };
      globals = refl;
      functions = refl;
      outer = refl;
      front = refl;
      slots = refl;
      made = (quiet-same s).made;
    }

tag-good : (s : State) (tag : List ℕ) → Good s → Good (with-tag s tag)
tag-good s tag g =
    let p = (tag-more s tag).structs in
    let x = s.structs in
    let y = s.structs ++ None ∷ [] in
    record {
      tags = omega (arith, g.tags, one-more s.structs None, one-more s.tags tag);
      laid_out = tagged x g.laid_out;
      structs = λ n l e. let h = g.structs n l (tag-is-old x n l e) in (h.0, objects-kept x y p l.members h.1);
      names = g.names;
      globals = objects-kept x y p s.globals g.globals;
      functions = functions-kept x y p s.functions g.functions;
      named = g.named;
      slots = objects-kept x y p s.slots g.slots;
      scoped = g.scoped;
      known = g.known;
      opened = g.opened;
    }

abbrev IsTag : State → ℕ → Type 0
IsTag s n = n < length s.structs

old-or-new-does : (tag : List ℕ) (s : State) → Good s → (o : Option ℕ) → number_of s.tags tag ≡ o → Does Quiet (old_or_new_tag tag o) s IsTag
old-or-new-does tag s g None e =
    only-then Quiet (not (is_some (number_of s.enum_tags tag))) _ s IsTag (λ b. ends Quiet (length s.structs) s (with-tag s tag) IsTag (tag-good s tag g) (tag-more s tag) (omega (arith, one-more s.structs None)))
old-or-new-does tag s g (Some n) e =
    let p = position-Some (bytes_eq tag) s.tags n [] e in
    ends Quiet n s s IsTag g (quiet-same s) (omega (arith, p.0, g.tags))

pub tag-does : (tag : List ℕ) (s : State) → Good s → Does Quiet (tag_number tag) s IsTag
tag-does tag s g = old-or-new-does tag s g (number_of s.tags tag) refl

-- ---- sizes

abbrev Measures : State → Ty → State → ℕ → Type 0
Measures s t u n = IsSmall u.structs t × (n ≡ size u.structs t) × (u ≡ s)

pub size_of-does : (t : Ty) (s : State) → Good s → Does Quiet (size_of t) s (λ u n. IsSmall u.structs t × (n ≡ size u.structs t) × (u ≡ s))
size_of-does t s g =
    given-ends Quiet (measured s.structs t) s (Measures s t) g (quiet-same s) (λ n e. let p = small_if_measured s.structs t n e in (p.0, p.1, refl))

-- ---- specifiers

-- a type that is written without a declarator
abbrev pub IsBase : Table → Ty → Type 0
IsBase x t = IsType x t × (is_function t ≡ false)

abbrev Bases : State → Ty → Type 0
Bases u t = IsBase u.structs t

pub specified-does : (x : SpecifierNode) (s : State) → Good s → Does Quiet (specified x) s (λ u t. IsBase u.structs t)
specified-does specifiers.Void s g = ends Quiet void s s Bases g (quiet-same s) (tt, refl)
specified-does (specifiers.Integer ws) s g =
    given-then Quiet (combination ws) _ s _ (λ c e. ends Quiet (integer (integer_said c.sign c.width)) s s Bases g (quiet-same s) (tt, refl))
specified-does specifiers.SizeT s g = ends Quiet (integer UnsignedInt) s s Bases g (quiet-same s) (tt, refl)
specified-does specifiers.PtrdiffT s g = ends Quiet (integer LongLong) s s Bases g (quiet-same s) (tt, refl)
specified-does (specifiers.Struct tag) s g =
    quietly s (tag-does tag s g) (λ n t good q h. ends Quiet (struct n) t t Bases good (quiet-same t) (h, refl))
specified-does (specifiers.Enum tag) s g =
    only-then Quiet (is_some (number_of s.enum_tags tag)) _ s Bases (λ b. ends Quiet (integer Int) s s Bases g (quiet-same s) (tt, refl))

-- ---- what is declared

abbrev pub IsParameter : Table → Parameter → Type 0
IsParameter x p = IsScalar p.ty × IsType x p.ty

-- the parameters that stand at the name of a function are its type's
abbrev pub HasParameters : Table → Ty → List Parameter → Type 0
HasParameters x (function r us) ps = (us ≡ types_of_parameters ps) × All (IsParameter x) ps
HasParameters x _ ps = Unit {0}

abbrev pub IsDerived : Table → Derived → List Parameter → Type 0
IsDerived x (whole t) ps = IsType x t × HasParameters x t ps
IsDerived x (lengthless t) ps = IsObject x t

parameter-kept : (x y : Table) → Extends x y → (p : Parameter) → IsParameter x p → IsParameter y p
parameter-kept x y p q h = (h.0, type-kept x y p q.ty h.1)

pub params-kept : (x y : Table) → Extends x y → (ps : List Parameter) → All (IsParameter x) ps → All (IsParameter y) ps
params-kept x y p ps h = All-weaker (IsParameter x) (IsParameter y) (parameter-kept x y p) ps h

base-has : (x : Table) (t : Ty) → is_function t ≡ false → HasParameters x t []
base-has x void e = tt
base-has x (integer t) e = tt
base-has x (struct n) e = tt
base-has x (pointer t) e = tt
base-has x (array t n) e = tt
base-has x (function r ps) e = let q : true ≡ false = e in absurd (cc)

-- a specifier's type, without a declarator
pub base-derived : (x : Table) (t : Ty) → IsBase x t → IsDerived x (whole t) []
base-derived x t h = (h.0, base-has x t h.1)

pub whole-is : (x : Table) (d : Derived) (ps : List Parameter) (t : Ty) → IsDerived x d ps → whole_type d ≡ Some t → IsType x t × (d ≡ whole t)
whole-is x (whole u) ps t h e =
    let q : u ≡ t = cc in (subst (λ v. IsType x v) q h.0, ap (λ v. whole v) q)
whole-is x (lengthless u) ps t h e = let q : None ≡ Some t = e in absurd (cc)

led-to : (x : Table) (t : Ty) → HasSize x t → MayBeLedTo t
led-to x void h = absurd h
led-to x (integer t) h = tt
led-to x (struct n) h = tt
led-to x (pointer t) h = tt
led-to x (array t n) h = tt
led-to x (function r ps) h = tt

lead : (x : Table) (u t : Ty) → IsType x u → (if may_be_led_to u then Some (pointer u) else None) ≡ Some t → IsBase x t
lead x void t h e = let q : None ≡ Some t = e in absurd (cc)
lead x (integer i) t h e = subst (λ v. IsBase x v) (let q : pointer (integer i) ≡ t = cc in q) ((tt, h), refl)
lead x (struct n) t h e = subst (λ v. IsBase x v) (let q : pointer (struct n) ≡ t = cc in q) ((tt, h), refl)
lead x (pointer u) t h e = subst (λ v. IsBase x v) (let q : pointer (pointer u) ≡ t = cc in q) ((tt, h), refl)
lead x (array u n) t h e = subst (λ v. IsBase x v) (let q : pointer (array u n) ≡ t = cc in q) ((tt, h), refl)
lead x (function r ps) t h e = subst (λ v. IsBase x v) (let q : pointer (function r ps) ≡ t = cc in q) ((tt, h), refl)

pointer-is : (x : Table) (d : Derived) (ps : List Parameter) (t : Ty) → IsDerived x d ps → pointer_to d ≡ Some t → IsBase x t
pointer-is x (whole u) ps t h e = lead x u t h.0 e
pointer-is x (lengthless u) ps t h e = let q : None ≡ Some t = e in absurd (cc)

result-is : (x : Table) (d : Derived) (ps : List Parameter) (t : Ty) → IsDerived x d ps → result_type d ≡ Some t → IsValue t × IsType x t
result-is x (whole void) ps t h e =
    let q : void ≡ t = cc in subst (λ v. IsValue v × IsType x v) q (tt, tt)
result-is x (whole (integer i)) ps t h e =
    let q : integer i ≡ t = cc in subst (λ v. IsValue v × IsType x v) q (tt, tt)
result-is x (whole (pointer u)) ps t h e =
    let q : pointer u ≡ t = cc in subst (λ v. IsValue v × IsType x v) q (tt, h.0)
result-is x (whole (struct n)) ps t h e = let q : None ≡ Some t = e in absurd (cc)
result-is x (whole (array u n)) ps t h e = let q : None ≡ Some t = e in absurd (cc)
result-is x (whole (function r us)) ps t h e = let q : None ≡ Some t = e in absurd (cc)
result-is x (lengthless u) ps t h e = let q : None ≡ Some t = e in absurd (cc)

adjusted-is : (x : Table) (d : Derived) (ps : List Parameter) (t : Ty) → IsDerived x d ps → adjusted d ≡ Some t → IsScalar t × IsType x t
adjusted-is x (lengthless u) ps t h e =
    let q : pointer u ≡ t = cc in subst (λ v. IsScalar v × IsType x v) q (tt, (led-to x u h.1.0, h.0))
adjusted-is x (whole void) ps t h e = let q : None ≡ Some t = e in absurd (cc)
adjusted-is x (whole (integer i)) ps t h e =
    let q : integer i ≡ t = cc in subst (λ v. IsScalar v × IsType x v) q (tt, tt)
adjusted-is x (whole (struct n)) ps t h e = let q : None ≡ Some t = e in absurd (cc)
adjusted-is x (whole (pointer u)) ps t h e =
    let q : pointer u ≡ t = cc in subst (λ v. IsScalar v × IsType x v) q (tt, h.0)
adjusted-is x (whole (array u n)) ps t h e =
    let q : pointer u ≡ t = cc in subst (λ v. IsScalar v × IsType x v) q (tt, (led-to x u h.0.1.0.1, h.0.0))
adjusted-is x (whole (function r us)) ps t h e =
    let q : pointer (function r us) ≡ t = cc in subst (λ v. IsScalar v × IsType x v) q (tt, (tt, h.0))

pub parameters-are : (x : Table) (ps : List Parameter) → All (IsParameter x) ps → AreParameters x (types_of_parameters ps)
parameters-are x [] h = tt
parameters-are x (p ∷ ps) h =
    let q = All-head (IsParameter x) p ps h in (q.0, q.1, parameters-are x ps (All-tail (IsParameter x) p ps h))

-- ---- rules of declarators

element-does : (d : Derived) (ps : List Parameter) (s : State) → Good s → IsDerived s.structs d ps → Does Quiet (element d) s (λ u t. IsObject u.structs t)
element-does d ps s g h =
    given-then Quiet (whole_type d) _ s _ (λ t e.
    given-then Quiet (measured s.structs t) _ s _ (λ k m.
    ends Quiet t s s (λ u t. IsObject u.structs t) g (quiet-same s)
    ((whole-is s.structs d ps t h e).0, (small_if_measured s.structs t k m).0)))

sized_array-does : (t : Ty) (c : Constant) (s : State) → Good s → IsType s.structs t → Does Quiet (sized_array t c) s (λ u a. IsBase u.structs a)
sized_array-does t c s g h =
    given-then Quiet (natural c) _ s _ (λ n e.
    given-then Quiet (measured s.structs (array t n)) _ s _ (λ k m.
    ends Quiet (array t n) s s Bases g (quiet-same s)
    ((h, (small_if_measured s.structs (array t n) k m).0, few_if_measured s.structs t n k m), refl)))

-- what a declarator declares
abbrev pub IsDeclaration : State → Declared → Type 0
IsDeclaration u x = IsDerived u.structs x.derived x.params

abbrev pub ParameterThere : State → Parameter × Names → Type 0
ParameterThere u q = IsParameter u.structs q.0

abbrev pub ParametersThere : State → List Parameter → Type 0
ParametersThere u qs = All (IsParameter u.structs) qs

a_parameter-does : (x : SpecifierNode) (declares : Ty → Rule Declared) (names : Names)
    → ((b : Ty) (s : State) → Good s → IsBase s.structs b → Does Quiet (declares b) s IsDeclaration)
    → (s : State) → Good s → Does Quiet (a_parameter x declares names) s ParameterThere
a_parameter-does x declares names does s g =
    quietly s (specified-does x s g) (λ b t good q h.
    quietly t (does b t good h) (λ y u fine r i.
    given-then Quiet (adjusted y.derived) _ u _ (λ ty e.
    given-then Quiet (with_name names y.name) _ u _ (λ more f.
    ends Quiet (record { name = y.name; ty = ty }, more) u u ParameterThere fine (quiet-same u) (adjusted-is u.structs y.derived y.params ty i e)))))

abbrev Nothing : {A : Type 0} → State → A → Type 0
Nothing u c = Unit {0}

mutual
  pub declared-does : (d : Declarator) (b : Derived) (ps : List Parameter) (s : State) → Good s → IsDerived s.structs b ps → Does Quiet (declared d b ps) s IsDeclaration
  declared-does (tree.named name) b ps s g h =
      ends Quiet (record { name = Some name; derived = b; params = ps }) s s IsDeclaration g (quiet-same s) h
  declared-does tree.nothing b ps s g h =
      ends Quiet (record { name = None; derived = b; params = ps }) s s IsDeclaration g (quiet-same s) h
  declared-does (tree.wrapped inner) b ps s g h = declared-does inner b ps s g h
  declared-does (tree.pointer inner) b ps s g h =
      given-then Quiet (pointer_to b) _ s _ (λ t e.
      declared-does inner (whole t) [] s g (base-derived s.structs t (pointer-is s.structs b ps t h e)))
  declared-does (tree.array inner) b ps s g h =
      quietly s (element-does b ps s g h) (λ t u good q i. declared-does inner (lengthless t) [] u good i)
  declared-does (tree.sized inner e) b ps s g h =
      quietly s (element-does b ps s g h) (λ t u good q i.
      quietly u (constant-does e u good) (λ c v fine r j.
      quietly v (sized_array-does t c v fine (type-kept u.structs v.structs r.structs t i.0)) (λ a w fair z k.
      declared-does inner (whole a) [] w fair (base-derived w.structs a k))))
  declared-does (tree.function inner written) b ps s g h =
      given-then Quiet (result_type b) _ s _ (λ r e.
      quietly s (parameters-does written [] [] s g (All-nil (IsParameter s.structs))) (λ qs u good q i.
      let v = result-is s.structs b ps r h e in
      declared-does inner (whole (function r (types_of_parameters qs))) qs u good
      ((v.0, type-kept s.structs u.structs q.structs r v.1, parameters-are u.structs qs i), (refl, i))))
  declared-does (tree.function_void inner) b ps s g h =
      given-then Quiet (result_type b) _ s _ (λ r e.
      let v = result-is s.structs b ps r h e in
      declared-does inner (whole (function r no_types)) [] s g ((v.0, v.1, tt), (refl, All-nil (IsParameter s.structs))))

  pub parameters-does : (ps : Parameters) (names : Names) (qs : List Parameter) (s : State) → Good s → All (IsParameter s.structs) qs
      → Does Quiet (parameters ps names qs) s ParametersThere
  parameters-does tree.no_parameters names qs s g h = ends Quiet qs s s ParametersThere g (quiet-same s) h
  parameters-does (tree.parameter_and x d ps) names qs s g h =
      quietly s (a_parameter-does x (λ b. declared d (whole b) []) names (λ b t good i. declared-does d (whole b) [] t good (base-derived t.structs b i)) s g) (λ q u good r i.
      parameters-does ps q.1 (qs ++ q.0 ∷ []) u good
      (All-push (IsParameter u.structs) qs q.0 (params-kept s.structs u.structs r.structs qs h) i))

  pub constant-does : (e : Expr) (s : State) → Good s → Does Quiet (constant e) s (λ u c. Unit {0})
  constant-does (tree.integer n t) s g = ends Quiet _ s s Nothing g (quiet-same s) tt
  constant-does (tree.character c) s g = ends Quiet _ s s Nothing g (quiet-same s) tt
  constant-does (tree.name n) s g =
      given-then Quiet (entity_of s.scopes n) _ s Nothing (λ e f.
      given-ends Quiet (constant_of e) s Nothing g (quiet-same s) (λ c h. tt))
  constant-does (tree.paren e) s g = constant-does e s g
  constant-does (tree.unary op e) s g =
      quietly s (constant-does e s g) (λ c t good q h. given-ends Quiet (unary op c) t Nothing good (quiet-same t) (λ d f. tt))
  constant-does (tree.size_of_type x d) s g =
      quietly s (specified-does x s g) (λ b t good q h.
      quietly t (declared-does d (whole b) [] t good (base-derived t.structs b h)) (λ y u fine r i.
      given-then Quiet (whole_type y.derived) _ u _ (λ ty e.
      given-then Quiet (measured u.structs ty) _ u _ (λ k m. ends Quiet _ u u Nothing fine (quiet-same u) tt))))
  constant-does (tree.cast x d e) s g =
      quietly s (specified-does x s g) (λ b t good q h.
      quietly t (declared-does d (whole b) [] t good (base-derived t.structs b h)) (λ y u fine r i.
      given-then Quiet (whole_type y.derived) _ u _ (λ ty f.
      given-then Quiet (integer_type ty) _ u _ (λ w j.
      quietly u (constant-does e u fine) (λ c v fair z k. ends Quiet _ v v Nothing fair (quiet-same v) tt)))))
  constant-does (tree.between (Binary op) a b) s g =
      quietly s (constant-does a s g) (λ c t good q h.
      quietly t (constant-does b t good) (λ d u fine r i. ends Quiet _ u u Nothing fine (quiet-same u) tt))
  constant-does (tree.choice c a b) s g =
      quietly s (constant-does c s g) (λ x t good q h.
      quietly t (constant-does a t good) (λ y u fine r i.
      quietly u (constant-does b u fine) (λ z v fair w j. ends Quiet _ v v Nothing fair (quiet-same v) tt)))
  constant-does e s g = λ c t f. let q : None ≡ Some (c, t) = f in absurd (cc)

pub type_name-does : (x : SpecifierNode) (d : Declarator) (s : State) → Good s → Does Quiet (type_name x d) s (λ u t. IsType u.structs t)
type_name-does x d s g =
    quietly s (specified-does x s g) (λ b t good q h.
    quietly t (declared-does d (whole b) [] t good (base-derived t.structs b h)) (λ y u fine r i.
    given-ends Quiet (whole_type y.derived) u (λ v ty. IsType v.structs ty) fine (quiet-same u)
    (λ ty e. (whole-is u.structs y.derived y.params ty i e).0)))
