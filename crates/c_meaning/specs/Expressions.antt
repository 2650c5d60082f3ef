-- What expressions do (C11, 6.5), by recursion on the typed tree. Evaluation goes from left to right.
use Rattle.std.specs.Prelude.{ℕ, ◌*◌, ℤ, pos, negsuc, neg_ℤ, int_div, Bool, true, false, not, ◌==◌, List, [], ◌∷◌, Option, Some, None, if◌then◌else◌, slice_get}
use Rattle.c_types.specs.declared.integers.IntType.TheVariants.{Char, UnsignedChar, UnsignedInt}
use Rattle.c_types.specs.Types.{Ty, struct}
use Rattle.c_types.specs.Layout.{size}
use Rattle.c_typed.specs.declared.ops.RelOp.TheVariants.{Equal, NotEqual}
use Rattle.c_typed.specs.declared.ops.Variable.{Variable}
use Rattle.c_typed.specs.Tree as tree
use Rattle.c_typed.specs.Tree.{Place, of, deref, member, Expr, Exprs, none, more, Typed}
use Rattle.c_meaning.specs.Shapes.{shape}
use Rattle.c_meaning.specs.Values.{Step, to_member, inside, Value, number, null, points, function_at, no_function}
use Rattle.c_meaning.specs.Objects.{moved}
use Rattle.c_meaning.specs.Objects as objects
use Rattle.c_meaning.specs.World.{null_call, lost, abort, Held, plain, object, Does, ◌>>=◌, ◌>>◌, pure, stop, known, look, ask, alter, write_byte, take_byte}
use Rattle.c_meaning.specs.Integers.{bits_of, value_of, wrap, is_zero, from_truth, compared, changed, operated}
use Rattle.c_meaning.specs.Accesses.{held_in, hold, allocate, allocate_product}

-- ---- values

abbrev pub as_number : Value → Does ℤ
as_number (number z) = pure z
as_number _ = stop lost

-- whether it is neither zero nor null (6.5.3.3, paragraph 5)
abbrev pub is_true : Value → Does Bool
is_true (number z) = pure (not (is_zero z))
is_true null = pure false
is_true no_function = pure false
is_true _ = pure true

abbrev pub truth : Bool → Value
truth b = number (from_truth b)

-- of a void expression
abbrev pub nothing_given : Value
nothing_given = null

-- getchar's byte, or EOF (7.21.7.6)
abbrev pub byte_value : Option ℕ → Value
byte_value None = number (negsuc 0)
byte_value (Some b) = number (pos b)

-- an element of a string (6.4.5, paragraph 6)
abbrev pub char_of : ℕ → Value
char_of b = number (wrap Char (pos b))

abbrev pub back_if : Bool → ℤ → ℤ
back_if back z = if back then neg_ℤ z else z

abbrev pub same_named : Bool → Value → Value → Bool
same_named is (function_at f) (function_at g) = if is then f == g else not (f == g)
same_named is no_function no_function = is
same_named is _ _ = not is

abbrev pub sealed : Value → Value
sealed (points p) = points (record p { sealed = true })
sealed v = v

-- ---- what a place is (6.3.2.1): a variable that is no object, or where a pointer leads

pub data Spot : Type 0 where
  variable : Variable → Spot
  at : Value → Spot

abbrev pub spot_of : Variable → Held → Spot
spot_of v (plain x) = variable v
spot_of v (object n) = at (objects.to_object n)

abbrev pub pointer_in : Spot → Does Value
pointer_in (variable v) = stop lost
pointer_in (at p) = pure p

abbrev pub plain_value : Held → Does Value
plain_value (plain x) = pure x
plain_value (object n) = stop lost

abbrev pub fetch : Spot → Does Value
fetch (variable v) = look (λ w. held_in w v) >>= known >>= plain_value
fetch (at p) = ask (λ os. objects.read os p)

abbrev pub store : Spot → Value → Does (Unit {0})
store (variable v) x = hold v (plain x)
store (at p) x = alter (λ os. objects.write os p x)

abbrev pub further : (ℕ → Step) → Value → Does Value
further f p = ask (λ os. objects.further f os p)

-- the pointer to a place, a number and a condition that are evaluated so
abbrev pub pointer : Does Spot → Does Value
pointer m = m >>= pointer_in

abbrev pub integer : Does Value → Does ℤ
integer m = m >>= as_number

abbrev pub test : Does Value → Does Bool
test m = m >>= is_true

-- how functions are called: by their numbers, with arguments
abbrev pub Calls : Type 0
Calls = (number : ℕ) → List Value → Does Value

module _ (unit : Typed) (calls : Calls) where
  -- a pointer to elements of the type, so many of them further (6.5.6)
  abbrev pub on_by : Ty → ℤ → Value → Value
  on_by t i p = moved (size unit.structs t) i p

  abbrev pub call_value : Value → List Value → Does Value
  call_value (function_at f) vs = calls f vs
  call_value no_function vs = stop null_call
  call_value _ vs = stop lost

  abbrev mutual
    pub place : Place → Does Spot
    place (of v) = look (λ w. held_in w v) >>= known >>= (λ h. pure (spot_of v h))
    -- 6.5.3.2, paragraph 4
    place (deref e) = expr e >>= (λ p. pure (at p))
    -- 6.5.2.3
    place (member b n m) = pointer (place b) >>= further (λ i. to_member i m) >>= (λ q. pure (at q))

    pub expr : Expr → Does Value
    -- 6.5.1, and what decays (6.3.2.1)
    expr (tree.number t n) = pure (number (value_of t n))
    expr tree.null = pure null
    expr tree.no_function = pure no_function
    expr (tree.function f) = pure (function_at f)
    -- a string's object is an array of one array (6.4.5)
    expr (tree.literal n) = look (λ w. slice_get w.literals n) >>= known >>= (λ o. further inside (sealed (objects.to_object o)))
    expr (tree.decay t n b) = pointer (place b) >>= further inside
    expr (tree.read s b) = place b >>= fetch
    -- 6.5.3
    expr (tree.address b) = pointer (place b)
    expr (tree.truth s a) = test (expr a) >>= (λ x. pure (truth x))
    expr (tree.not a) = test (expr a) >>= (λ x. pure (truth (not x)))
    expr (tree.unary op t a) = integer (expr a) >>= (λ x. pure (number (changed op t x)))
    expr (tree.size_of_place n b) = pure (number (pos n))
    expr (tree.size_of_value n e) = pure (number (pos n))
    expr (tree.size_of_type n) = pure (number (wrap UnsignedInt (pos n)))
    -- 6.3.1.3
    expr (tree.convert t u a) = integer (expr a) >>= (λ x. pure (number (wrap u x)))
    -- 6.5.5 to 6.5.12
    expr (tree.binary op t a b) =
        integer (expr a) >>= (λ x. integer (expr b) >>= (λ y. operated op t x y >>= (λ z. pure (number z))))
    expr (tree.compare op t a b) = integer (expr a) >>= (λ x. integer (expr b) >>= (λ y. pure (truth (compared op x y))))
    -- pointers: sums and differences (6.5.6), order (6.5.8) and equality (6.5.9)
    expr (tree.move t back a b) = expr a >>= (λ p. integer (expr b) >>= (λ i. pure (on_by t (back_if back i) p)))
    expr (tree.move_by t a b) = integer (expr a) >>= (λ i. expr b >>= (λ p. pure (on_by t i p)))
    expr (tree.difference t a b) =
        expr a >>= (λ p. expr b >>= (λ q. ask (λ os. objects.distance os p q) >>= (λ d. pure (number (int_div d (pos (size unit.structs t)))))))
    expr (tree.compare_pointers Equal a b) =
        expr a >>= (λ p. expr b >>= (λ q. ask (λ os. objects.same_place os p q) >>= (λ r. pure (truth r))))
    expr (tree.compare_pointers NotEqual a b) =
        expr a >>= (λ p. expr b >>= (λ q. ask (λ os. objects.same_place os p q) >>= (λ r. pure (truth (not r)))))
    expr (tree.compare_pointers op a b) =
        expr a >>= (λ p. expr b >>= (λ q. ask (λ os. objects.distance os p q) >>= (λ d. pure (truth (compared op d (pos 0))))))
    expr (tree.same_function is a b) = expr a >>= (λ p. expr b >>= (λ q. pure (truth (same_named is p q))))
    -- 6.5.13 to 6.5.15, 6.5.17
    expr (tree.and a b) = test (expr a) >>= (λ x. if x then (test (expr b) >>= (λ y. pure (truth y))) else pure (truth false))
    expr (tree.or a b) = test (expr a) >>= (λ x. if x then pure (truth true) else (test (expr b) >>= (λ y. pure (truth y))))
    expr (tree.choose s c a b) = test (expr c) >>= (λ x. if x then expr a else expr b)
    expr (tree.comma a b) = expr a >> expr b
    -- 6.5.16: the place, the value, the write
    expr (tree.assign s b e) = place b >>= (λ p. expr e >>= (λ v. store p v >> pure v))
    -- 6.5.16.2, 6.5.2.4, 6.5.3.1: the place, its old value, the operand, the write
    expr (tree.update old t op u b e) =
        place b >>= (λ p. fetch p >>= (λ v. as_number v >>= (λ x. integer (expr e) >>= (λ y. operated op u (wrap u x) y >>= (λ z.
        let new = number (wrap t z) in store p new >> pure (if old then v else new))))))
    expr (tree.advance old t back b e) =
        place b >>= (λ p. fetch p >>= (λ v. integer (expr e) >>= (λ i.
        let new = on_by t (back_if back i) v in store p new >> pure (if old then v else new))))
    expr (tree.copy n a b) =
        pointer (place a) >>= (λ p. pointer (place b) >>= (λ q.
        alter (objects.copy (shape unit.structs (struct n)) p q) >> pure nothing_given))
    -- 6.5.2.2: the function, and then the arguments
    expr (tree.call f s es) = exprs es >>= calls f
    expr (tree.call_through t s e es) = expr e >>= (λ f. exprs es >>= call_value f)
    -- 7.21.7.8: the byte that is written is what is given
    expr (tree.putchar e) = integer (expr e) >>= (λ x. let b = bits_of UnsignedChar x in write_byte b >> pure (number (pos b)))
    expr tree.getchar = take_byte >>= (λ b. pure (byte_value b))
    -- 7.22.4.1, 7.22.3
    expr tree.abort = stop abort
    expr (tree.malloc t e) = integer (expr e) >>= (λ x. allocate unit.structs t (bits_of UnsignedInt x))
    expr (tree.calloc t a b) =
        integer (expr a) >>= (λ x. integer (expr b) >>= (λ y.
        allocate_product unit.structs t (bits_of UnsignedInt x * bits_of UnsignedInt y)))
    expr (tree.free e) = expr e >>= (λ p. alter (λ os. objects.free os p)) >> pure nothing_given
    -- what is thrown away (6.3.2.2)
    expr (tree.discard e) = expr e >> pure nothing_given
    expr (tree.visit b) = place b >> pure nothing_given

    pub exprs : Exprs → Does (List Value)
    exprs none = pure []
    exprs (more e es) = expr e >>= (λ v. exprs es >>= (λ vs. pure (v ∷ vs)))
