-- What is known of a form, and that the uses of one make what has a type.
use Rattle.std.proofs.Common.{◌≡◌, sym, subst, refl, ℕ, ◌+◌, nat_le, Bool, true, false, List, [], ◌∷◌, ◌++◌, Some, None, if◌then◌else◌, arith}
use Rattle.std.proofs.lemmas.Option.{none-some, same_Some}
use Rattle.std.proofs.lemmas.List.Elements.{All-nil, All-cons}
use Rattle.c_types.specs.declared.integers.IntType.{IntType}
use Rattle.c_types.specs.declared.integers.IntType.TheVariants.{Char, Int, UnsignedInt}
use Rattle.c_types.specs.declared.types.Scalar.TheVariants as scalars
use Rattle.c_types.specs.Integers.{bits}
use Rattle.c_types.specs.Layout.{Table, HasSize, IsSmall}
use Rattle.c_types.specs.Types.{Ty, void, integer, struct, pointer, array, function, is_function}
use Rattle.c_typed.specs.Tree as to
use Rattle.c_typed.specs.Tree.{Expr, Place}
use Rattle.c_check_types.specs.State.{State, Rule, none, given, pure, ◌>>=◌}
use Rattle.c_check_types.specs.TypeEquality.{same_integer, same_type}
use Rattle.c_check_types.specs.Types.{measured, size_of}
use Rattle.c_conversions.specs.Conversions as form
use Rattle.c_conversions.specs.Conversions.{Amount, bytes, product, Form, place, value, designator, text, zero, allocation, allocation_of, operand, read_place, literal_pointer, plain, value_of, as_integer, integer_of, as_pointer, pointer_of, as_place, place_of, at_type, condition, condition_of, null_of, to_integer, to_pointer, allocated, assigned_to, thrown_away}
use Rattle.c_typed.specs.refinement.Types.{IsScalar, IsValue, MayBeLedTo, IsType}
use Rattle.c_typed.specs.refinement.Expressions.{Context, HasType, IsPlace, IsCondition}
use Rattle.c_typed.specs.Statements.{IsDone}
use Rattle.c_check.proofs.States.{context, Good, Quiet, IsText, Grows, Does, bind}
use Rattle.c_check.proofs.Extension.{extends-same, quiet-same, quiet-onward, type-kept}
use Rattle.c_check.proofs.Growth.{expr-grown, place-grown}
use Rattle.c_check.proofs.Rules.{ends, given-then, given-ends}
use Rattle.c_check.proofs.Sizes.{small_if_measured}
use Rattle.c_check.proofs.Integers.{same-integer, same-type, zero-fits, narrow}

-- ---- what is known

-- of an expression and its type, where it may stand as a value
abbrev pub IsTyped : State → Expr × Ty → Type 0
IsTyped s v = IsType s.structs v.1 × IsValue v.1 × HasType (context s) v.0 v.1

abbrev pub IsInteger : State → Expr × IntType → Type 0
IsInteger s v = HasType (context s) v.0 (integer v.1)

-- of a pointer, and what it leads to
abbrev pub IsPointer : State → Expr × Ty → Type 0
IsPointer s v = IsType s.structs (pointer v.1) × HasType (context s) v.0 (pointer v.1)

-- of a place, and the type of what stands there
abbrev pub IsPlaced : State → Place × Ty → Type 0
IsPlaced s p =
    IsType s.structs p.1 × MayBeLedTo p.1 × (is_function p.1 ≡ false) × IsPlace (context s) p.0 p.1

-- of what is allocated
abbrev pub IsAmount : Context → Amount → Type 0
IsAmount c (bytes e) = HasType c e (integer UnsignedInt)
IsAmount c (product n e) = HasType c n (integer UnsignedInt) × HasType c e (integer UnsignedInt)

amount-grown : (c d : Context) → Grows c d → (a : Amount) → IsAmount c a → IsAmount d a
amount-grown c d g (bytes e) h = expr-grown c d g e (integer UnsignedInt) h
amount-grown c d g (product n e) h =
    (expr-grown c d g n (integer UnsignedInt) h.0, expr-grown c d g e (integer UnsignedInt) h.1)

abbrev pub IsForm : State → Form → Type 0
IsForm s (place p t) = IsPlaced s (p, t)
IsForm s (value e t) = IsTyped s (e, t)
IsForm s (designator e t) =
    IsType s.structs t × (is_function t ≡ true) × HasType (context s) e (pointer t)
IsForm s (text b) = Unit {0}
IsForm s (zero t) = Unit {0}
IsForm s form.null = Unit {0}
IsForm s (allocation a) = IsAmount (context s) a

-- as if it had been assigned to a type
abbrev pub IsAssigned : Ty → State → Expr → Type 0
IsAssigned t s e = IsScalar t × HasType (context s) e t

pub form-grown : (s t : State) → Grows (context s) (context t) → (f : Form) → IsForm s f → IsForm t f
form-grown s t g (place p u) h =
    (type-kept s.structs t.structs g.structs u h.0, h.1, h.2, place-grown (context s) (context t) g p u h.3)
form-grown s t g (value e u) h =
    (type-kept s.structs t.structs g.structs u h.0, h.1, expr-grown (context s) (context t) g e u h.2)
form-grown s t g (designator e u) h =
    (type-kept s.structs t.structs g.structs u h.0, h.1, expr-grown (context s) (context t) g e (pointer u) h.2)
form-grown s t g (text b) h = tt
form-grown s t g (zero u) h = tt
form-grown s t g form.null h = tt
form-grown s t g (allocation a) h = amount-grown (context s) (context t) g a h

-- ---- answers

pub none-does : {A : Type 0} (s : State) (P : State → A → Type 0) → Does Quiet (none {A = A}) s P
none-does s P a t e = absurd (none-some (a, t) e)

-- a rule that begins with the size of a type
pub sized : {B : Type 0} (t : Ty) (next : ℕ → Rule B) (s : State) (Q : State → B → Type 0)
    → ((n : ℕ) → IsSmall s.structs t → measured s.structs t ≡ Some n → Does Quiet (next n) s Q) → Does Quiet (size_of t >>= next) s Q
sized t next s Q f =
    given-then Quiet (measured s.structs t) next s Q (λ n e. f n (small_if_measured s.structs t n e).0 e)

-- ---- values (6.3.2.1)

-- what has a size may be led to, and is no function
pub sized-led_to : (x : Table) (t : Ty) → HasSize x t → MayBeLedTo t × (is_function t ≡ false)
sized-led_to x void h = absurd h
sized-led_to x (integer t) h = (tt, refl)
sized-led_to x (struct n) h = (tt, refl)
sized-led_to x (pointer t) h = (tt, refl)
sized-led_to x (array t n) h = (tt, refl)
sized-led_to x (function r ps) h = absurd h

-- with one text more
abbrev with-text : State → List ℕ → State
with-text s b = record s { made = s.made ++ to.text b ∷ []; literals = s.literals + 1 }

text-good : (s : State) (b : List ℕ) → Good s → Good (with-text s b)
text-good s b g =
    record { tags = g.tags; laid_out = g.laid_out; structs = g.structs; names = g.names; globals = g.globals; functions = g.functions; named = g.named; slots = g.slots; scoped = g.scoped; known = g.known; opened = g.opened }

text-more : (s : State) (b : List ℕ) → Quiet s (with-text s b)
text-more s b =
    record {
      structs = extends-same s.structs;
      globals = refl;
      functions = refl;
      outer = refl;
      front = refl;
      slots = refl;
      made = (to.text b ∷ [], refl, All-cons IsText (to.text b) [] tt (All-nil IsText), omega arith);
    }

text-does : (b : List ℕ) (s : State) → Good s → Does Quiet (literal_pointer b) s IsForm
text-does b s g =
    ends Quiet (value (to.literal s.literals) (pointer (integer Char))) s (with-text s b) IsForm (text-good s b g) (text-more s b) ((tt, tt), tt, (refl, omega arith))

read-does : (p : Place) (t : Ty) (s : State) → Good s → IsPlaced s (p, t) → Does Quiet (read_place p t) s IsForm
read-does p void s g h = λ a t e. absurd (none-some (a, t) e)
read-does p (integer t) s g h =
    ends Quiet (value (to.read (scalars.Int t) p) (integer t)) s s IsForm g (quiet-same s) (tt, tt, (refl, h.3))
read-does p (struct n) s g h = λ a t e. absurd (none-some (a, t) e)
read-does p (pointer t) s g h =
    ends Quiet (value (to.read (if is_function t then scalars.Function else scalars.Pointer) p) (pointer t)) s s IsForm g (quiet-same s) (h.0, tt, (refl, h.3))
read-does p (array t n) s g h =
    ends Quiet (value (to.decay t n p) (pointer t)) s s IsForm g (quiet-same s)
    (((sized-led_to s.structs t h.0.1.0.1).0, h.0.0), tt, (refl, h.3))
read-does p (function r ps) s g h = λ a t e. absurd (none-some (a, t) e)

pub operand-does : (f : Form) (s : State) → Good s → IsForm s f → Does Quiet (operand f) s IsForm
operand-does (place p t) s g h = read-does p t s g h
operand-does (value e t) s g h = ends Quiet (value e t) s s IsForm g (quiet-same s) h
operand-does (designator e t) s g h =
    ends Quiet (value e (pointer t)) s s IsForm g (quiet-same s) ((led_to t h.1, h.0), tt, h.2) where
      led_to : (t : Ty) → is_function t ≡ true → MayBeLedTo t
      led_to void e = let q : false ≡ true = e in absurd (cc)
      led_to t e = tt
operand-does (text b) s g h = text-does b s g
operand-does (zero t) s g h = ends Quiet (zero t) s s IsForm g (quiet-same s) h
operand-does form.null s g h = ends Quiet form.null s s IsForm g (quiet-same s) h
operand-does (allocation e) s g h = none-does s IsForm

plain-is : (v : Form) (a : Expr × Ty) (s : State) → IsForm s v → plain v ≡ Some a → IsTyped s a
plain-is (value e t) a s h q = subst (λ x. IsTyped s x) (same_Some (e, t) a q) h
plain-is (zero t) a s h q =
    subst (λ x. IsTyped s x) (same_Some (to.number t 0, integer t) a q) (tt, tt, (refl, zero-fits t))
plain-is v a s h q = absurd (none-some a q)

pub value_of-does : (f : Form) (s : State) → Good s → IsForm s f → Does Quiet (value_of f) s IsTyped
value_of-does f s g h =
    bind Quiet quiet-onward (operand f) (λ v. given (plain v)) s IsForm IsTyped (operand-does f s g h)
    (λ v t good r p. given-ends Quiet (plain v) t IsTyped good (quiet-same t) (λ a e. plain-is v a t p e))

integer-is : (v : Expr × Ty) (a : Expr × IntType) (s : State) → IsTyped s v → as_integer v ≡ Some a → IsInteger s a
integer-is (e, integer t) a s h q = subst (λ x. IsInteger s x) (same_Some (e, t) a q) h.2
integer-is (e, t) a s h q = absurd (none-some a q)

pub integer_of-does : (f : Form) (s : State) → Good s → IsForm s f → Does Quiet (integer_of f) s IsInteger
integer_of-does f s g h =
    bind Quiet quiet-onward (value_of f) (λ v. given (as_integer v)) s IsTyped IsInteger (value_of-does f s g h)
    (λ v t good r p. given-ends Quiet (as_integer v) t IsInteger good (quiet-same t) (λ a e. integer-is v a t p e))

pointer-is : (v a : Expr × Ty) (s : State) → IsTyped s v → as_pointer v ≡ Some a → IsPointer s a
pointer-is (e, pointer t) a s h q = subst (λ x. IsPointer s x) (same_Some (e, t) a q) (h.0, h.2)
pointer-is (e, t) a s h q = absurd (none-some a q)

pub pointer_of-does : (f : Form) (s : State) → Good s → IsForm s f → Does Quiet (pointer_of f) s IsPointer
pointer_of-does f s g h =
    bind Quiet quiet-onward (value_of f) (λ v. given (as_pointer v)) s IsTyped IsPointer (value_of-does f s g h)
    (λ v t good r p. given-ends Quiet (as_pointer v) t IsPointer good (quiet-same t) (λ a e. pointer-is v a t p e))

place-is : (f : Form) (a : Place × Ty) (s : State) → IsForm s f → as_place f ≡ Some a → IsPlaced s a
place-is (place p t) a s h q = subst (λ x. IsPlaced s x) (same_Some (p, t) a q) h
place-is f a s h q = absurd (none-some a q)

pub place_of-does : (f : Form) (s : State) → Good s → IsForm s f → Does Quiet (place_of f) s IsPlaced
place_of-does f s g h =
    given-ends Quiet (as_place f) s IsPlaced g (quiet-same s) (λ a e. place-is f a s h e)

-- ---- conversions (6.3.1)

pub at_type-is : (c : Context) (t u : IntType) (e : Expr) → HasType c e (integer t) → HasType c (at_type t u e) (integer u)
at_type-is c t u e h = behind (same_integer t u) refl where
  behind : (b : Bool) → same_integer t u ≡ b → HasType c (if b then e else to.convert t u e) (integer u)
  behind true q = subst (λ v. HasType c e (integer v)) (same-integer t u q) h
  behind false q = (refl, h)

tested : (c : Context) (t : IntType) (e : Expr) → HasType c e (integer t) → (b : Bool) → nat_le (bits t) 32 ≡ b
    → IsCondition c (if b then e else to.truth (scalars.Int t) e)
tested c t e h true q = (t, narrow t q, h)
tested c t e h false q = (Int, omega arith, (integer t, refl, refl, h))

condition-is : (v : Expr × Ty) (a : Expr) (s : State) → IsTyped s v → condition v ≡ Some a → IsCondition (context s) a
condition-is (e, integer t) a s h q =
    subst (λ x. IsCondition (context s) x) (same_Some (if nat_le (bits t) 32 then e else to.truth (scalars.Int t) e) a q)
    (tested (context s) t e h.2 (nat_le (bits t) 32) refl)
condition-is (e, pointer t) a s h q =
    subst (λ x. IsCondition (context s) x) (same_Some (to.truth (if is_function t then scalars.Function else scalars.Pointer) e) a q)
    (Int, omega arith, (pointer t, refl, refl, h.2))
condition-is (e, t) a s h q = absurd (none-some a q)

pub condition_of-does : (f : Form) (s : State) → Good s → IsForm s f → Does Quiet (condition_of f) s (λ t e. IsCondition (context t) e)
condition_of-does f s g h =
    bind Quiet quiet-onward (value_of f) (λ v. given (condition v)) s IsTyped (λ t e. IsCondition (context t) e) (value_of-does f s g h)
    (λ v t good r p. given-ends Quiet (condition v) t (λ t e. IsCondition (context t) e) good (quiet-same t) (λ a e. condition-is v a t p e))

pub null-is : (c : Context) (t : Ty) → IsType c.structs (pointer t) → HasType c (null_of t) (pointer t)
null-is c t h = behind (is_function t) refl where
  behind : (b : Bool) → is_function t ≡ b → HasType c (if b then to.no_function else to.null) (pointer t)
  behind true q = (t, refl, q, h)
  behind false q = (t, refl, q, h)

-- ---- as if by assignment (6.5.16.1)

to_integer-is : (t : IntType) (v : Form) (a : Expr) (s : State) → IsForm s v → to_integer t v ≡ Some a → HasType (context s) a (integer t)
to_integer-is t (value e (integer u)) a s h q =
    subst (λ x. HasType (context s) x (integer t)) (same_Some (at_type u t e) a q) (at_type-is (context s) u t e h.2)
to_integer-is t (zero u) a s h q =
    subst (λ x. HasType (context s) x (integer t)) (same_Some (at_type u t (to.number u 0)) a q) (at_type-is (context s) u t (to.number u 0) (refl, zero-fits u))
to_integer-is t v a s h q = absurd (none-some a q)

same-pointer : (c : Context) (t u : Ty) (e a : Expr) → HasType c e (pointer u) → (b : Bool) → same_type t u ≡ b → (if b then Some e else None) ≡ Some a
    → HasType c a (pointer t)
same-pointer c t u e a h true p q =
    subst (λ x. HasType c x (pointer t)) (same_Some e a q) (subst (λ v. HasType c e (pointer v)) (sym (same-type t u p)) h)
same-pointer c t u e a h false p q = absurd (none-some a q)

to_pointer-is : (t : Ty) (v : Form) (a : Expr) (s : State) → IsType s.structs (pointer t) → IsForm s v → to_pointer t v ≡ Some a
    → HasType (context s) a (pointer t)
to_pointer-is t (value e (pointer u)) a s i h q =
    same-pointer (context s) t u e a h.2 (same_type t u) refl q
to_pointer-is t (zero u) a s i h q =
    subst (λ x. HasType (context s) x (pointer t)) (same_Some (null_of t) a q) (null-is (context s) t i)
to_pointer-is t form.null a s i h q =
    subst (λ x. HasType (context s) x (pointer t)) (same_Some (null_of t) a q) (null-is (context s) t i)
to_pointer-is t v a s i h q = absurd (none-some a q)

pointer-assigned : (t : Ty) (f : Form) (s : State) → Good s → IsType s.structs (pointer t) → IsForm s f
    → Does Quiet (operand f >>= (λ v. given (to_pointer t v))) s (IsAssigned (pointer t))
pointer-assigned t f s g i h =
    bind Quiet quiet-onward (operand f) (λ v. given (to_pointer t v)) s IsForm (IsAssigned (pointer t)) (operand-does f s g h)
    (λ v u good r p. given-ends Quiet (to_pointer t v) u (IsAssigned (pointer t)) good (quiet-same u)
    (λ a e. (tt, to_pointer-is t v a u (type-kept s.structs u.structs r.structs (pointer t) i) p e)))

allocation-is : (s : State) (t : Ty) (a : Amount) → IsType s.structs t → IsSmall s.structs t → IsAmount (context s) a → HasType (context s) (allocation_of t a) (pointer t)
allocation-is s t (bytes e) i small h = (refl, i, small, h)
allocation-is s t (product n e) i small h = (refl, i, small, h.0, h.1)

allocated-does : (t : Ty) (a : Amount) (s : State) → Good s → IsType s.structs (pointer t) → IsAmount (context s) a
    → Does Quiet (allocated t a) s (IsAssigned (pointer t))
allocated-does t a s g i h =
    sized t (λ n. pure (allocation_of t a)) s (IsAssigned (pointer t))
    (λ n small q. ends Quiet (allocation_of t a) s s (IsAssigned (pointer t)) g (quiet-same s) (tt, allocation-is s t a i.1 small h))

pub assigned_to-does : (t : Ty) (f : Form) (s : State) → Good s → IsType s.structs t → IsForm s f → Does Quiet (assigned_to t f) s (IsAssigned t)
assigned_to-does (pointer t) (allocation a) s g i h = allocated-does t a s g i h
assigned_to-does (pointer t) f s g i h = pointer-assigned t f s g i h
assigned_to-does (integer t) f s g i h =
    bind Quiet quiet-onward (operand f) (λ v. given (to_integer t v)) s IsForm (IsAssigned (integer t)) (operand-does f s g h)
    (λ v u good r p. given-ends Quiet (to_integer t v) u (IsAssigned (integer t)) good (quiet-same u) (λ a e. (tt, to_integer-is t v a u p e)))
assigned_to-does t f s g i h = λ a u e. absurd (none-some (a, u) e)

-- ---- thrown away (6.3.2.2)

abbrev pub IsThrown : State → Expr → Type 0
IsThrown s e = IsDone (context s) e

thrown : (f : Form) (s : State) → Good s → IsForm s f → Does Quiet (value_of f >>= (λ v. pure v.0)) s IsThrown
thrown f s g h =
    bind Quiet quiet-onward (value_of f) (λ v. pure v.0) s IsTyped IsThrown (value_of-does f s g h)
    (λ v t good r p. ends Quiet v.0 t t IsThrown good (quiet-same t) (v.1, p.2))

pub thrown_away-does : (f : Form) (s : State) → Good s → IsForm s f → Does Quiet (thrown_away f) s IsThrown
thrown_away-does (place p (struct n)) s g h =
    sized (struct n) (λ k. pure (to.visit p)) s IsThrown
    (λ k small q. ends Quiet (to.visit p) s s IsThrown g (quiet-same s) (void, (n, refl, small, h.3)))
thrown_away-does f s g h = thrown f s g h
