-- Types of variables of one value, integer types and those of pointers, and what a variable of one begins with: zero, or null.
use Rattle.std.proofs.Common.{◌≡◌, ◌≢◌, ℕ, List, [], ◌∷◌, Bool, true, false, Option, Some, None, refl, sym, ap, ◌∙◌, arith, subst}
use Rattle.std.specs.Prelude.{ℤ, pos, not, cond, slice_get, if◌then◌else◌}
use Rattle.ms_num.specs.Integers.{truth as bit}
use Rattle.ms_operate.specs.Outcomes as operate
use Rattle.ms_handle.specs.declared.handle.Handle.TheVariants.{Null}
use Rattle.ms_linear.specs.declared.value.Value.{Value as Word}
use Rattle.ms_linear.specs.declared.value.Value.TheVariants.{Handle, I32}
use Rattle.ms_linear.specs.Values.{default_of}
use Rattle.ms_machine.specs.Step as step
use Rattle.ms_machine.specs.Step.{act}
use Rattle.ms_module.specs.declared.access.Segment.TheVariants as segment
use Rattle.ms_module.specs.declared.instr.Instr.TheVariants.{Segment}
use Rattle.ms_machine.specs.Segments.{is_null as is_no_handle}
use Rattle.ms_module.specs.declared.numeric.Width.{Width}
use Rattle.ms_module.specs.declared.numeric.Width.TheVariants.{W32, W64}
use Rattle.ms_task.specs.Thread.{thread}
use Rattle.c_typed.specs.refinement.Types.{AreParameters, IsObject}
use Rattle.c_types.specs.Layout.{IsLaidOut, IsSmall, Layout, Table, layout_at}
use Rattle.c_types.specs.declared.integers.IntType.{IntType}
use Rattle.c_types.specs.declared.integers.IntType.TheVariants.{Char, SignedChar, UnsignedChar, Short, UnsignedShort, Int, UnsignedInt, Long, UnsignedLong, LongLong, UnsignedLongLong}
use Rattle.c_types.specs.declared.types.Scalar.{Scalar}
use Rattle.c_types.specs.declared.types.Scalar.TheVariants as scalars
use Rattle.c_types.specs.Types.{Ty, void, integer, pointer, struct, array, function, is_function, scalar_of, Tys, no_types, types}
use Rattle.c_typed.specs.Objects.{is_object}
use Rattle.c_typed.specs.Tree.{Stmt}
use Rattle.c_meaning.specs.Values.{Value, Pointer, null, no_function, zero_value}
use Rattle.c_meaning.specs.Integers.{from_truth}
use Rattle.c_meaning.specs.Objects.{Span}
use Rattle.c_meaning.specs.Expressions as meaning
use Rattle.c_meaning.specs.Expressions.{is_true}
use Rattle.c_meaning.specs.World.{Does, ◌>>=◌, pure}
use Rattle.ms_emit.specs.Codes.{Code, one, ◌⨾◌}
use Rattle.c_code.specs.Functions.{held_as, val_or_handle}
use Rattle.c_code.specs.Operations.{eqz, integer_type, truth, val_type, width_of}
use Rattle.c_numbers.specs.Operands.{IsIn, carried, operand, word}
use Rattle.ms_relate.specs.refinement.Homes as homes
use Rattle.ms_relate.specs.refinement.Homes.{Home, IsScalar, handle, handle_in, handle_to, is_no_function, is_null, span_of}
use Rattle.ms_relate.proofs.Acts.{act_gives}
use Rattle.ms_relate.proofs.Shapes.{shape_good}
use Rattle.c_typing.proofs.Sound.{sized_is}
use Rattle.c_runs.proofs.Goes as goes
use Rattle.c_runs.proofs.Goes.{one_here}
use Rattle.c_runs.proofs.Values.{IsOf, IsValueOf, word_of}
use Rattle.c_runs.proofs.Related.{Env, IsSlot, IsValue, frame_of, pushes}
use Rattle.c_runs.proofs.Ops.{OpIn, op_any, op_assoc, op_carried, op_then_in, same}
use Rattle.c_runs.proofs.Nodes.{Leaves}
use Rattle.c_runs.proofs.Operations.{truth_in}
use Rattle.c_runs.specs.Words.{pushed}
use Rattle.c_runs.proofs.Cells.{pointer_word}

abbrev pub IsData : Ty → Type 0
IsData (integer u) = Unit {0}
IsData (pointer t) = Unit {0}
IsData _ = ⊥

abbrev pub AreData : Tys → Type 0
AreData no_types = Unit {0}
AreData (types t ts) = IsData t × AreData ts

-- parameters of a function are of one value each
pub parameters_data : (table : Table) (ps : Tys) → AreParameters table ps → AreData ps
parameters_data table no_types h = tt
parameters_data table (types (integer u) ts) h = (tt, parameters_data table ts h.2)
parameters_data table (types (pointer t) ts) h = (tt, parameters_data table ts h.2)
parameters_data table (types _ ts) h = absurd h.0

-- a variable that is an array or a struct is an object
abbrev pub IsVariable : Ty → Type 0
IsVariable (array t n) = Unit {0}
IsVariable (struct n) = Unit {0}
IsVariable t = IsData t

pub variable_type : (table : Table) (t : Ty) → IsObject table t → IsVariable t
variable_type table (integer u) h = tt
variable_type table (pointer t) h = tt
variable_type table (array t n) h = tt
variable_type table (struct n) h = tt
variable_type table void h = absurd h.1.0
variable_type table (function r ps) h = absurd h.1.0

-- one that is no object is of one value
pub plain_data : (s : Stmt) (n : ℕ) (t : Ty) → IsVariable t → is_object s n t ≡ false → IsData t
plain_data s n (integer u) v e = tt
plain_data s n (pointer t) v e = v
plain_data s n (array t k) v e = absurd cc
plain_data s n (struct k) v e = absurd cc
plain_data s n void v e = absurd v
plain_data s n (function r ps) v e = absurd v

pub data_scalar : (t : Ty) → IsData t → IsScalar t
data_scalar (integer u) d = tt
data_scalar (pointer t) d = tt
data_scalar void d = absurd d
data_scalar (struct n) d = absurd d
data_scalar (array t n) d = absurd d
data_scalar (function r ps) d = absurd d

-- a type with a scalar is of one value
pub scalar_type : (t : Ty) (s : Scalar) → scalar_of t ≡ Some s → IsScalar t
scalar_type (integer u) s e = tt
scalar_type (pointer t) s e = tt
scalar_type void s e = absurd cc
scalar_type (struct n) s e = absurd cc
scalar_type (array t n) s e = absurd cc
scalar_type (function r ps) s e = absurd cc

-- ---- objects

pub small_slot : (table : Table) → IsLaidOut table → ((n : ℕ) (l : Layout) → layout_at table n ≡ Some l → l.members ≢ []) → (t : Ty) → IsSmall table t → IsSlot table t
small_slot table laid some t h =
    let g = shape_good table laid some t h.0 in
    record { is_data = sized_is table t h.0; fits = g.fits; sized = g.sized; small = let e = g.sized in let le = h.1 in omega (arith, e, le) }

-- ---- zeros

pub zero_in : (u : IntType) → IsIn u (pos 0)
zero_in Char = refl
zero_in SignedChar = refl
zero_in UnsignedChar = refl
zero_in Short = refl
zero_in UnsignedShort = refl
zero_in Int = refl
zero_in UnsignedInt = refl
zero_in Long = refl
zero_in UnsignedLong = refl
zero_in LongLong = refl
zero_in UnsignedLongLong = refl

zero_number : (w : Width) → default_of (integer_type w) ≡ operand w (pos 0)
zero_number W32 = refl
zero_number W64 = refl

-- the local of a plain variable begins so
pub zero_word : (places : Ty → ℕ → ℕ) (t : Ty) → IsData t → (hs : List Home) → default_of (held_as false t) ≡ word_of places t hs (zero_value t)
zero_word places (integer u) d hs = zero_number (width_of u)
zero_word places (pointer t) d hs = by (is_function t) where
  zero : Bool → Value
  zero b = if b then no_function else null

  by : (b : Bool) → default_of (val_or_handle (Some (val_type (if b then scalars.Function else scalars.Pointer)))) ≡ cond (cond b false true) (Handle (handle hs (zero b))) (I32 (homes.word places (pointer t) (zero b)))
  by true = refl
  by false = refl
zero_word places void d hs = absurd d
zero_word places (struct n) d hs = absurd d
zero_word places (array t n) d hs = absurd d
zero_word places (function r ps) d hs = absurd d

pub zero_held : (table : Table) (places : Ty → ℕ → ℕ) (t : Ty) → IsData t → (hs : List Home) → IsValueOf table places t hs (zero_value t)
zero_held table places (integer u) d hs = zero_in u
zero_held table places (pointer t) d hs = by (is_function t) refl where
  by : (b : Bool) → is_function t ≡ b → homes.IsOf table places hs (pointer t) (if b then no_function else null)
  by true e = is_no_function e
  by false e = is_null e
zero_held table places void d hs = absurd d
zero_held table places (struct n) d hs = absurd d
zero_held table places (array t n) d hs = absurd d
zero_held table places (function r ps) d hs = absurd d

-- ---- the null pointer

module _ (E : Env) (t : Ty) (data_is : is_function t ≡ false) where
  pub null_runs : OpIn E [] (one (Segment segment.Null)) same (pushes E (pointer t)) (IsValue E (pointer t)) (pure null)
  null_runs n has now le vs r dep w m k ag = (
    m,
    (is_null data_is, k),
    one_here E.site w m m (Segment segment.Null) (frame_of E m w) vs r (thread (frame_of E m w) (pushes E (pointer t) m.homes null vs) r)
        (act_gives (goes.store E.site m) (frame_of E m w) r segment.Null vs (Handle Null ∷ vs) m.segments None refl
        ∙ ap (λ (v : Word). step.Next (goes.store E.site m) (thread (frame_of E m w) (v ∷ vs) r) None) (sym (pointer_word E t m.homes null data_is))),
  )

-- ---- a pointer as a condition

-- the scalar of a type of pointers, by where they lead
abbrev pub pointer_by : Bool → Scalar
pointer_by b = if b then scalars.Function else scalars.Pointer

-- a type whose scalar is that of functions is one of pointers to functions
pub function_type : (t : Ty) → scalar_of t ≡ Some scalars.Function → (u : Ty) × (t ≡ pointer u) × (is_function u ≡ true)
function_type (pointer u) e = (u, refl, by (is_function u) e) where
  by : (b : Bool) → Some (pointer_by b) ≡ Some scalars.Function → b ≡ true
  by true f = refl
  by false f = absurd cc
function_type (integer v) e = absurd cc
function_type void e = absurd cc
function_type (struct n) e = absurd cc
function_type (array v n) e = absurd cc
function_type (function r ps) e = absurd cc

pub pointer_type : (t : Ty) → scalar_of t ≡ Some scalars.Pointer → (u : Ty) × (t ≡ pointer u) × (is_function u ≡ false)
pointer_type (pointer u) e = (u, refl, by (is_function u) e) where
  by : (b : Bool) → Some (if b then scalars.Function else scalars.Pointer) ≡ Some scalars.Pointer → b ≡ false
  by true f = absurd cc
  by false f = refl
pointer_type (integer v) e = absurd cc
pointer_type void e = absurd cc
pointer_type (struct n) e = absurd cc
pointer_type (array v n) e = absurd cc
pointer_type (function r ps) e = absurd cc

-- a pointer to an object has no null handle
leads_on : (sealed : Bool) (id : ℕ) (o : Option Span) (i : ℤ) → is_no_handle (handle_to sealed id o i) ≡ false
leads_on sealed id None i = refl
leads_on sealed id (Some s) i = refl

pub no_null : (o : Option Home) (p : Pointer) → is_no_handle (handle_in o p) ≡ false
no_null None p = refl
no_null (Some h) p = leads_on p.sealed h.id (span_of h p.path) p.index

abbrev IsTrue : List Home → Value → Type 0
IsTrue hs v = (b : Bool) × (is_no_handle (handle hs v) ≡ not b) × (is_true v ≡ pure b)

pointer_truth : (table : Table) (places : Ty → ℕ → ℕ) (hs : List Home) (t : Ty) (v : Value) → is_function t ≡ false → homes.IsOf table places hs (pointer t) v → IsTrue hs v
pointer_truth table places hs t v d (is_null e) = (false, refl, refl)
pointer_truth table places hs t v d (homes.is_invalid e) = (true, refl, refl)
pointer_truth table places hs t v d (homes.is_pointer {p = p} h s e at span shape near) = (true, no_null (slice_get hs p.object) p, refl)
pointer_truth table places hs t v d (homes.is_named e lt) = absurd (let z : false ≡ true = sym d ∙ e in cc)
pointer_truth table places hs t v d (homes.is_no_function e) = absurd (let z : false ≡ true = sym d ∙ e in cc)

flipped : (b : Bool) (vs : List Word) → carried eqz (I32 (bit (not b)) ∷ vs) ≡ operate.Gives (word Int (from_truth b) ∷ vs)
flipped true vs = refl
flipped false vs = refl

module _ (E : Env) (t : Ty) (data_is : is_function t ≡ false) where
  pub tests : (gs : List Home) (v : Value) (b : Bool) → is_no_handle (handle gs v) ≡ b → OpIn E gs (one (Segment segment.IsNull)) (pushes E (pointer t) gs v) (λ hs u vs. I32 (bit b) ∷ vs) (λ hs u. Unit {0}) (pure (tt {0}))
  tests gs v b e n has now le vs r dep w m k ag = (
    m,
    (tt, k),
    one_here E.site w m m (Segment segment.IsNull) (frame_of E m w) (pushes E (pointer t) gs v vs) r (thread (frame_of E m w) (I32 (bit b) ∷ vs) r)
        (ap (λ (x : Word). act (goes.store E.site m) (Segment segment.IsNull) (thread (frame_of E m w) (x ∷ vs) r)) (pointer_word E t gs v data_is)
        ∙ act_gives (goes.store E.site m) (frame_of E m w) r segment.IsNull (Handle (handle gs v) ∷ vs) (I32 (bit (is_no_handle (handle gs v))) ∷ vs) m.segments None refl
        ∙ ap (λ (c : Bool). step.Next (goes.store E.site m) (thread (frame_of E m w) (I32 (bit c) ∷ vs) r) None) e),
  )

  pub truth_pointer : (c : Code) (x : Does Value) → Leaves E c (pointer t) x → Leaves E (c ⨾ truth scalars.Pointer) (integer Int) (meaning.test x >>= (λ b. pure (meaning.truth b)))
  truth_pointer c x h =
      op_assoc E (c ⨾ truth scalars.Pointer) same (pushed (integer Int)) (IsOf (integer Int)) x is_true (λ b. pure (meaning.truth b))
      (op_then_in E [] c (truth scalars.Pointer) same (pushes E (pointer t)) (λ hs. pushed (integer Int)) (IsValue E (pointer t)) (λ hs. IsOf (integer Int)) x (λ v. is_true v >>= (λ b. pure (meaning.truth b))) h
      (λ gs grown v ok. by gs v (pointer_truth E.unit.structs E.places gs t v data_is ok)))
    where
      by : (gs : List Home) (v : Value) → IsTrue gs v → OpIn E gs (truth scalars.Pointer) (pushes E (pointer t) gs v) (λ hs. pushed (integer Int)) (λ hs. IsOf (integer Int)) (is_true v >>= (λ b. pure (meaning.truth b)))
      by gs v q =
          subst (λ (y : Does Bool). OpIn E gs (truth scalars.Pointer) (pushes E (pointer t) gs v) (λ hs. pushed (integer Int)) (λ hs. IsOf (integer Int)) (y >>= (λ b. pure (meaning.truth b)))) (sym q.2)
          (op_then_in E gs (one (Segment segment.IsNull)) (one eqz) (pushes E (pointer t) gs v) (λ hs u vs. I32 (bit (not q.0)) ∷ vs) (λ hs. pushed (integer Int)) (λ hs u. Unit {0}) (λ hs. IsOf (integer Int)) (pure (tt {0})) (λ u. pure (meaning.truth q.0)) (tests gs v (not q.0) q.1)
          (λ hs grown u ok.
          op_any E hs (one eqz) (λ vs. I32 (bit (not q.0)) ∷ vs) (λ js. pushed (integer Int)) (λ js. IsOf (integer Int)) (pure (meaning.truth q.0))
          (op_carried E eqz (λ vs. I32 (bit (not q.0)) ∷ vs) (pushed (integer Int)) (IsOf (integer Int)) (meaning.truth q.0) (truth_in q.0) (λ vs. flipped q.0 vs))))
