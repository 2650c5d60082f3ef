-- Names, members, unary operators and operators between two operands give forms of which is known what has to be.
use Rattle.std.proofs.Common.{◌≡◌, ◌∙◌, sym, ap, subst, refl, ℕ, ◌+◌, ◌-◌, ◌==◌, ◌^◌, ◌<◌, Bool, true, false, List, [], ◌∷◌, length, slice_get, Option, Some, None, if◌then◌else◌, arith}
use Rattle.std.specs.Prelude.{ℤ, pos, negsuc}
use Rattle.std.proofs.lemmas.Option.{none-some, slice_get-map}
use Rattle.std.specs.Option.{option_map}
use Rattle.std.proofs.lemmas.List.{append-nil}
use Rattle.std.proofs.lemmas.List.Elements.{All-nil}
use Rattle.std.specs.List.{All}
use Rattle.c_types.specs.declared.integers.IntType.{IntType}
use Rattle.c_types.specs.declared.integers.IntType.TheVariants.{Int, UnsignedInt, LongLong}
use Rattle.c_types.specs.Integers.{bits, promoted}
use Rattle.c_types.specs.Layout.{Layout, layout_at, members_in, members_of}
use Rattle.c_types.specs.Types.{Ty, void, integer, struct, pointer, array, function, is_function}
use Rattle.c_token.specs.declared.word.IntegerType.{IntegerType}
use Rattle.c_token.specs.declared.word.IntegerType.TheVariants as constants
use Rattle.ms_num.specs.Integers.{signed, wrapped}
use Rattle.c_tree.specs.declared.operators.Access.{Access}
use Rattle.c_tree.specs.declared.operators.Access.TheVariants as accesses
use Rattle.c_typed.specs.declared.ops.UnaryOp.{UnaryOp}
use Rattle.c_typed.specs.declared.ops.Variable.TheVariants as variables
use Rattle.c_typed.specs.Tree as to
use Rattle.c_typed.specs.Tree.{Place, Function, Made}
use Rattle.c_check_types.specs.declared.entity.Entity.{Entity}
use Rattle.c_check_types.specs.declared.entity.Entity.TheVariants as entities
use Rattle.c_check_types.specs.declared.operators.Operator.{Operator}
use Rattle.c_check_types.specs.declared.operators.Operator.TheVariants.{And, Or, Equality, Order, Arithmetic, Shift, Plus, Minus}
use Rattle.c_check_types.specs.declared.prelude.LibraryName.{LibraryName}
use Rattle.c_check_types.specs.declared.prelude.LibraryName.TheVariants as prelude
use Rattle.c_check_types.specs.State.{Scope, State, Rule, followed, number_of, pure, and_then}
use Rattle.c_check_types.specs.Scopes.{named_entity, entity_in, or_else, entity_of}
use Rattle.c_check_types.specs.Constants.{constant_type, constant_bits, character_bits}
use Rattle.c_check_types.specs.Types.{measured}
use Rattle.c_conversions.specs.Conversions as form
use Rattle.c_conversions.specs.Conversions.{Form, place, value, designator, text, zero, allocation, operand, at_type}
use Rattle.c_typed.specs.Forms.{promoted_value, arithmetic, shift}
use Rattle.c_operators.specs.Operations.{order, equality}
use Rattle.c_check_exprs.specs.Expressions.{function_type, entity_form, name_form, operating, led_to, deref, address, plus, signed as sign_of, negated, size, size_of_value, unevaluated, member_named, member_in, member, element, constant_form}
use Rattle.c_typed.specs.refinement.Types.{MayBeLedTo, IsType, IsObject}
use Rattle.c_typed.specs.refinement.Expressions.{IsPlace, IsMember, is_visible}
use Rattle.c_check.proofs.States.{context, visible_in, IsKnown, AreKnown, Good, IsDeclared, IsText, Quiet, Does}
use Rattle.c_check.proofs.Extension.{quiet-same}
use Rattle.c_check.proofs.Visibility.{in-left}
use Rattle.c_check.proofs.Rules.{ends, given-then, given-ends, quietly}
use Rattle.c_check.proofs.Sizes.{small_if_measured}
use Rattle.c_check.proofs.Integers.{promoted-twice, zero-fits}
use Rattle.c_check.proofs.Conversions.{IsInteger, IsPointer, IsForm, none-does, sized, sized-led_to, at_type-is, operand-does, value_of-does, integer_of-does, pointer_of-does, place_of-does, condition_of-does}
use Rattle.c_check.proofs.Operations.{promoted_value-is, arithmetic-is, shift-is, sum-does, minus-does, order-is, equality-is}
use Rattle.c_check.proofs.Uses.{place-stays, form-stays, condition-stays, typed-stays, integer-stays, all-get, GivesForms, an_operand-by, a_value-by, an_integer-by, a_condition-by}

-- ---- constants (6.4.4)

constant-fits : (t : IntegerType) (n : ℕ) → constant_bits (constant_type t) n < 2 ^ bits (constant_type t)
constant-fits constants.Int n = omega arith
constant-fits constants.UnsignedInt n = omega arith
constant-fits constants.Long n = omega arith
constant-fits constants.UnsignedLong n = omega arith
constant-fits constants.LongLong n = omega arith
constant-fits constants.UnsignedLongLong n = omega arith

pub constant-is : (t : IntegerType) (n : ℕ) (s : State) → IsForm s (constant_form (constant_bits (constant_type t) n) (constant_type t))
constant-is t n s = behind (constant_bits (constant_type t) n == 0) where
  u : IntType
  u = constant_type t

  behind : (b : Bool) → IsForm s (if b then zero (constant_type t) else value (to.number (constant_type t) (constant_bits (constant_type t) n)) (integer (constant_type t)))
  behind true = tt
  behind false = (tt, tt, (refl, constant-fits t n))

wrapped-fits : (z : ℤ) → wrapped 32 z < 2 ^ 32
wrapped-fits (pos n) = omega arith
wrapped-fits (negsuc n) = omega arith

pub character-fits : (byte : ℕ) → character_bits byte < 2 ^ 32
character-fits byte = wrapped-fits (signed 8 byte)

-- ---- names (6.5.1)

-- of the type of a function
abbrev IsOfFunction : ℕ → State → Ty → Type 0
IsOfFunction n s t =
    IsType s.structs t × (is_function t ≡ true) × (slice_get (context s).functions n ≡ Some t)

function_type-does : (n : ℕ) (s : State) → Good s → Does Quiet (function_type n) s (IsOfFunction n)
function_type-does n s g =
    given-then Quiet (slice_get s.functions n) _ s (IsOfFunction n)
    (λ f e. let d = all-get (IsDeclared s.structs) s.functions n f g.functions e in
    let ty = λ (f : Function). f.ty in
    ends Quiet f.ty s s (IsOfFunction n) g (quiet-same s)
    (d.3, ap (λ t. is_function t) d.2, slice_get-map ty s.functions n ∙ ap (λ o. option_map ty o) e))

pub entity-does : (e : Entity) (s : State) → Good s → IsKnown (visible_in s.scopes) e → Does Quiet (entity_form e) s IsForm
entity-does (entities.Local n) s g k =
    given-then Quiet (slice_get s.slots n) _ s IsForm
    (λ t e. let o = all-get (IsObject s.structs) s.slots n t g.slots e in
    let l = sized-led_to s.structs t o.1.0 in
    ends Quiet (place (to.of (variables.Local n)) t) s s IsForm g (quiet-same s) (o.0, l.0, l.1, (e, k)))
entity-does (entities.Global n) s g k =
    given-then Quiet (slice_get s.globals n) _ s IsForm
    (λ t e. let o = all-get (IsObject s.structs) s.globals n t g.globals e in
    let l = sized-led_to s.structs t o.1.0 in
    ends Quiet (place (to.of (variables.Global n)) t) s s IsForm g (quiet-same s) (o.0, l.0, l.1, e))
entity-does (entities.Function n) s g k =
    quietly s (function_type-does n s g)
    (λ t u good r p. ends Quiet (designator (to.function n) t) u u IsForm good (quiet-same u) (p.0, p.1, (t, refl, p.2)))
entity-does (entities.Constant n) s g k =
    ends Quiet (value (to.number Int n) (integer Int)) s s IsForm g (quiet-same s) (tt, tt, (refl, k))

-- what a name stands for is known
known-more : (xs ys : List ℕ) → ((n : ℕ) → is_visible xs n ≡ true → is_visible ys n ≡ true) → (e : Entity) → IsKnown xs e → IsKnown ys e
known-more xs ys f (entities.Local n) h = f n h
known-more xs ys f (entities.Global n) h = tt
known-more xs ys f (entities.Function n) h = tt
known-more xs ys f (entities.Constant n) h = h

in-scope : (scope : Scope) (name : List ℕ) (e : Entity) (xs : List ℕ) → All (IsKnown xs) scope.entities → entity_in scope name ≡ Some e → IsKnown xs e
in-scope scope name e xs h is = by (number_of scope.names name) refl where
  by : (o : Option ℕ) → number_of scope.names name ≡ o → IsKnown xs e
  by None f =
      let q : None ≡ Some e = subst (λ o. and_then o (λ n. slice_get scope.entities n) ≡ Some e) f is in absurd (cc)
  by (Some n) f =
      all-get (IsKnown xs) scope.entities n e h (subst (λ o. and_then o (λ n. slice_get scope.entities n) ≡ Some e) f is)

pub entity-known : (scopes : List Scope) (name : List ℕ) (e : Entity) → AreKnown scopes → entity_of scopes name ≡ Some e → IsKnown (visible_in scopes) e
entity-known [] name e h is = let q : None ≡ Some e = is in absurd (cc)
entity-known (scope ∷ scopes) name e h is = by (entity_in scope name) refl (λ q. entity-known scopes name e h.1 q) where
  by : (o : Option Entity) → entity_in scope name ≡ o → (entity_of scopes name ≡ Some e → IsKnown (visible_in scopes) e) → IsKnown (visible_in (scope ∷ scopes)) e
  by None f outer =
      let q : entity_of scopes name ≡ Some e = subst (λ o. or_else o (entity_of scopes name) ≡ Some e) f is in
      known-more (visible_in scopes) (visible_in (scope ∷ scopes)) (λ n k. in-left (visible_in scopes) scope.slots n k) e (outer q)
  by (Some d) f outer =
      let q : Some d ≡ Some e = subst (λ o. or_else o (entity_of scopes name) ≡ Some e) f is in
      in-scope scope name e (visible_in (scope ∷ scopes)) h.0 (f ∙ q)

named-does : (name : List ℕ) (s : State) → Good s → Does Quiet (named_entity name) s (λ t e. IsKnown (visible_in t.scopes) e)
named-does name s g =
    given-ends Quiet (entity_of s.scopes name) s (λ t e. IsKnown (visible_in t.scopes) e) g (quiet-same s) (λ e is. entity-known s.scopes name e g.known is)

pub name-does : (name : List ℕ) (l : Option LibraryName) (s : State) → Good s → Does Quiet (name_form name l) s IsForm
name-does name (Some prelude.Null) s g = ends Quiet form.null s s IsForm g (quiet-same s) tt
name-does name (Some prelude.Eof) s g =
    ends Quiet (value (to.number Int (2 ^ 32 - 1)) (integer Int)) s s IsForm g (quiet-same s) (tt, tt, (refl, omega arith))
name-does name (Some l) s g = none-does s IsForm
name-does name None s g = quietly s (named-does name s g) (λ e t good r p. entity-does e t good p)

-- ---- operators between two operands, the left one first

pub operating-does : (op : Operator) (x : Form) (right : Rule Form) (s : State) → Good s → IsForm s x → GivesForms right → Does Quiet (operating op x right) s IsForm
operating-does And x right s g h d =
    quietly s (condition_of-does x s g h)
    (λ a t good r p. quietly t (a_condition-by right d t good)
    (λ b u fine q k. let i = condition-stays t u q a p in
    ends Quiet (value (to.and a b) (integer Int)) u u IsForm fine (quiet-same u) (tt, tt, (i.0, k.0, refl, i.1, k.1, i.2, k.2))))
operating-does Or x right s g h d =
    quietly s (condition_of-does x s g h)
    (λ a t good r p. quietly t (a_condition-by right d t good)
    (λ b u fine q k. let i = condition-stays t u q a p in
    ends Quiet (value (to.or a b) (integer Int)) u u IsForm fine (quiet-same u) (tt, tt, (i.0, k.0, refl, i.1, k.1, i.2, k.2))))
operating-does (Equality op) x right s g h d =
    quietly s (operand-does x s g h)
    (λ a t good r p. quietly t (an_operand-by right d t good)
    (λ b u fine q k. given-ends Quiet (equality op a b) u IsForm fine (quiet-same u) (λ f e. equality-is op a b u (form-stays t u q a p) k f e)))
operating-does (Order op) x right s g h d =
    quietly s (value_of-does x s g h)
    (λ a t good r p. quietly t (a_value-by right d t good)
    (λ b u fine q k. given-ends Quiet (order op a b) u IsForm fine (quiet-same u) (λ f e. order-is op a b u (typed-stays t u q a p) k f e)))
operating-does (Arithmetic op) x right s g h d =
    quietly s (integer_of-does x s g h)
    (λ a t good r p. quietly t (an_integer-by right d t good)
    (λ b u fine q k. ends Quiet (arithmetic op a b) u u IsForm fine (quiet-same u) (arithmetic-is op a b u (integer-stays t u q a p) k)))
operating-does (Shift op) x right s g h d =
    quietly s (integer_of-does x s g h)
    (λ a t good r p. quietly t (an_integer-by right d t good)
    (λ b u fine q k. ends Quiet (shift op a b) u u IsForm fine (quiet-same u) (shift-is op a b u (integer-stays t u q a p) k)))
operating-does Plus x right s g h d =
    quietly s (value_of-does x s g h)
    (λ a t good r p. quietly t (a_value-by right d t good)
    (λ b u fine q k. sum-does a b u fine (typed-stays t u q a p) k))
operating-does Minus x right s g h d =
    quietly s (value_of-does x s g h)
    (λ a t good r p. quietly t (a_value-by right d t good)
    (λ b u fine q k. minus-does a b u fine (typed-stays t u q a p) k))

-- ---- unary operators (6.5.3)

led_to-is : (e : to.Expr) (t : Ty) (s : State) → IsPointer s (e, t) → IsForm s (led_to e t)
led_to-is e void s h = absurd h.0.0
led_to-is e (integer t) s h = (h.0.1, tt, refl, (refl, h.1))
led_to-is e (struct n) s h = (h.0.1, tt, refl, (refl, h.1))
led_to-is e (pointer t) s h = (h.0.1, tt, refl, (refl, h.1))
led_to-is e (array t n) s h = (h.0.1, tt, refl, (refl, h.1))
led_to-is e (function r ps) s h = (h.0.1, refl, h.1)

pub deref-does : (f : Form) (s : State) → Good s → IsForm s f → Does Quiet (deref f) s IsForm
deref-does f s g h =
    quietly s (pointer_of-does f s g h)
    (λ v t good r p. ends Quiet (led_to v.0 v.1) t t IsForm good (quiet-same t) (led_to-is v.0 v.1 t p))

function-led_to : (t : Ty) → is_function t ≡ true → MayBeLedTo t
function-led_to void e = let q : false ≡ true = e in absurd (cc)
function-led_to t e = tt

pub address-does : (f : Form) (s : State) → Good s → IsForm s f → Does Quiet (address f) s IsForm
address-does (place p t) s g h =
    ends Quiet (value (to.address p) (pointer t)) s s IsForm g (quiet-same s) ((h.1, h.0), tt, (t, refl, h.3))
address-does (designator e t) s g h =
    ends Quiet (value e (pointer t)) s s IsForm g (quiet-same s) ((function-led_to t h.1, h.0), tt, h.2)
address-does f s g h = none-does s IsForm

pub plus-does : (f : Form) (s : State) → Good s → IsForm s f → Does Quiet (plus f) s IsForm
plus-does f s g h =
    quietly s (integer_of-does f s g h)
    (λ v t good r p. ends Quiet (value (promoted_value v) (integer (promoted v.1))) t t IsForm good (quiet-same t) (tt, tt, promoted_value-is v t p))

pub signed-does : (op : UnaryOp) (f : Form) (s : State) → Good s → IsForm s f → Does Quiet (sign_of op f) s IsForm
signed-does op f s g h =
    quietly s (integer_of-does f s g h)
    (λ v t good r p. ends Quiet (value (to.unary op (promoted v.1) (promoted_value v)) (integer (promoted v.1))) t t IsForm good (quiet-same t)
    (tt, tt, (refl, promoted-twice v.1, promoted_value-is v t p)))

pub negated-does : (f : Form) (s : State) → Good s → IsForm s f → Does Quiet (negated f) s IsForm
negated-does f s g h =
    quietly s (condition_of-does f s g h)
    (λ c t good r p. ends Quiet (value (to.not c) (integer Int)) t t IsForm good (quiet-same t) (tt, tt, (p.0, refl, p.1, p.2)))

-- ---- sizeof (6.5.3.4), in which other literals are made

abbrev pub counted : State → List Made → ℕ → State
counted s ms k = record s { made = ms; literals = k }

-- whatever literals there are
abbrev pub IsSized : State → Form → Type 0
IsSized s f = (ms : List Made) (k : ℕ) → IsForm (counted s ms k) f

pub size-does : (f : Form) (s : State) → Good s → IsForm s f → Does Quiet (size f) s IsSized
size-does (place p t) s g h =
    given-then Quiet (measured s.structs t) _ s IsSized
    (λ n e. let m = small_if_measured s.structs t n e in
    ends Quiet (value (to.size_of_place n p) (integer UnsignedInt)) s s IsSized g (quiet-same s) (λ ms k. (tt, tt, (t, s.literals, refl, m.0, m.1, h.3))))
size-does (value v t) s g h =
    given-then Quiet (measured s.structs t) _ s IsSized
    (λ n e. let m = small_if_measured s.structs t n e in
    ends Quiet (value (to.size_of_value n v) (integer UnsignedInt)) s s IsSized g (quiet-same s) (λ ms k. (tt, tt, (t, s.literals, refl, m.0, m.1, h.2))))
size-does (text bytes) s g h =
    ends Quiet (value (to.size_of_type (length bytes + 1)) (integer UnsignedInt)) s s IsSized g (quiet-same s) (λ ms k. (tt, tt, refl))
size-does (zero t) s g h =
    given-then Quiet (measured s.structs (integer t)) (λ n. pure (value (to.size_of_value n (to.number t 0)) (integer UnsignedInt))) s IsSized
    (λ n e. let m = small_if_measured s.structs (integer t) n e in
    ends Quiet (value (to.size_of_value n (to.number t 0)) (integer UnsignedInt)) s s IsSized g (quiet-same s)
    (λ ms k. (tt, tt, (integer t, s.literals, refl, m.0, m.1, (refl, zero-fits t)))))
size-does f s g h = none-does s IsSized

counted-good : (s : State) (ms : List Made) (k : ℕ) → Good s → Good (counted s ms k)
counted-good s ms k g =
    record { tags = g.tags; laid_out = g.laid_out; structs = g.structs; names = g.names; globals = g.globals; functions = g.functions; named = g.named; slots = g.slots; scoped = g.scoped; known = g.known; opened = g.opened }

-- from a state to what is left of one that began with no literals
forgotten : (s t : State) → Quiet (counted s [] 0) t → Quiet s (counted t s.made s.literals)
forgotten s t q =
    record {
      structs = q.structs;
      globals = q.globals;
      functions = q.functions;
      outer = q.outer;
      front = q.front;
      slots = q.slots;
      made = ([], sym (append-nil s.made), All-nil IsText, omega arith);
    }

pub unevaluated-does : (rule : Rule Form) → GivesForms rule → GivesForms (unevaluated (size_of_value rule))
unevaluated-does rule d s g f u e =
    behind (size_of_value rule (counted s [] 0)) refl e where
      start : Good (counted s [] 0)
      start = counted-good s [] 0 g

      sizes : Does Quiet (size_of_value rule) (counted s [] 0) IsSized
      sizes =
          quietly (counted s [] 0) (d (counted s [] 0) start) (λ x t good r p. size-does x t good p)

      behind : (o : Option (Form × State)) → size_of_value rule (counted s [] 0) ≡ o
          → followed o (λ a after. Some (a, counted after s.made s.literals)) ≡ Some (f, u) → Good u × Quiet s u × IsForm u f
      behind None is q = absurd (none-some (f, u) q)
      behind (Some (a, t)) is q =
          let k = sizes a t is in
          ends Quiet a s (counted t s.made s.literals) IsForm (counted-good t s.made s.literals k.0) (forgotten s t k.1) (k.2 s.made s.literals) f u q

-- ---- members and elements (6.5.2.1, 6.5.2.3)

-- the number and the type of a struct's member
abbrev IsMemberOf : ℕ → State → ℕ × Ty → Type 0
IsMemberOf n s m = IsObject s.structs m.1 × IsMember s.structs n m.0 m.1

member-object : (s : State) → Good s → (n m : ℕ) (t : Ty) → IsMember s.structs n m t → IsObject s.structs t
member-object s g n m t h = behind (layout_at s.structs n) refl h where
  behind : (o : Option Layout) → layout_at s.structs n ≡ o → slice_get (members_in o) m ≡ Some t → IsObject s.structs t
  behind None is e = let q : None ≡ Some t = e in absurd (none-some t q)
  behind (Some l) is e = all-get (IsObject s.structs) l.members m t (g.structs n l is).1 e

member_named-does : (n : ℕ) (name : List ℕ) (s : State) → Good s → Does Quiet (member_named n name) s (IsMemberOf n)
member_named-does n name s g =
    given-then Quiet (slice_get s.members n) _ s (IsMemberOf n)
    (λ names a. given-then Quiet (number_of names name) _ s (IsMemberOf n)
    (λ m b. given-then Quiet (slice_get (members_of s.structs (struct n)) m) _ s (IsMemberOf n)
    (λ t e. ends Quiet (m, t) s s (IsMemberOf n) g (quiet-same s) (member-object s g n m t e, e))))

-- in a place of the type
member_in-does : (p : Place) (t : Ty) (name : List ℕ) (s : State) → Good s → IsPlace (context s) p t → Does Quiet (member_in p t name) s IsForm
member_in-does p (struct n) name s g h =
    quietly s (member_named-does n name s g)
    (λ m t good r k. let l = sized-led_to t.structs m.1 k.0.1.0 in
    ends Quiet (place (to.member p n m.0) m.1) t t IsForm good (quiet-same t) (k.0.0, l.0, l.1, (place-stays s t r p (struct n) h, k.1)))
member_in-does p t name s g h = none-does s IsForm

-- no member is in what is no struct
arrow-does : (e : to.Expr) (t : Ty) (name : List ℕ) (s : State) → Good s → IsPointer s (e, t) → Does Quiet (member_in (to.deref e) t name) s IsForm
arrow-does e (struct n) name s g h =
    member_in-does (to.deref e) (struct n) name s g (refl, h.1)
arrow-does e t name s g h = none-does s IsForm

pub member-does : (a : Access) (f : Form) (name : List ℕ) (s : State) → Good s → IsForm s f → Does Quiet (member a f name) s IsForm
member-does accesses.Dot f name s g h =
    quietly s (place_of-does f s g h) (λ p t good r k. member_in-does p.0 p.1 name t good k.3)
member-does accesses.Arrow f name s g h =
    quietly s (pointer_of-does f s g h) (λ v t good r k. arrow-does v.0 v.1 name t good k)

pub element-does : (v : to.Expr × Ty) (w : to.Expr × IntType) (s : State) → Good s → IsPointer s v → IsInteger s w → Does Quiet (element v w) s IsForm
element-does (p, t) (i, u) s g h k =
    sized t (λ n. pure (place (to.deref (to.move t false p (at_type u LongLong i))) t)) s IsForm
    (λ n small q. let l = sized-led_to s.structs t small.0 in
    ends Quiet (place (to.deref (to.move t false p (at_type u LongLong i))) t) s s IsForm g (quiet-same s)
    (h.0.1, l.0, l.1, (l.1, (refl, small, h.1, at_type-is (context s) u LongLong i k))))
