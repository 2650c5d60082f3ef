-- Expressions do what is meant.
use Rattle.std.proofs.Common.{◌≡◌, ℕ, zero, suc, ◌+◌, ◌*◌, ◌^◌, ◌<◌, ◌≤◌, List, [], ◌∷◌, ◌++◌, Bool, true, false, Option, Some, None, refl, sym, ap, ◌∙◌, arith, subst}
use Rattle.std.specs.Prelude.{ℤ, pos, get_or, not, slice_get, if◌then◌else◌}
use Rattle.ms_linear.specs.declared.value.Value.{Value as Word}
use Rattle.ms_types.specs.declared.types.ValType.TheVariants as vals
use Rattle.ms_module.specs.declared.access.Segment.TheVariants as segment
use Rattle.ms_module.specs.declared.instr.Instr.TheVariants.{Call, Drop, GlobalGet, I32Const, Segment, CallIndirect, LocalGet, LocalSet}
use Rattle.ms_num.specs.Integers.{signed, wrapped}
use Rattle.ms_module.specs.declared.instr.Instr.{Instr}
use Rattle.ms_module.specs.declared.numeric.Width.TheVariants.{W32}
use Rattle.c_types.specs.declared.integers.IntType.{IntType}
use Rattle.c_types.specs.declared.integers.IntType.TheVariants.{Char, SignedChar, UnsignedChar, Short, UnsignedShort, Int, UnsignedInt, Long, UnsignedLong, LongLong, UnsignedLongLong}
use Rattle.c_types.specs.declared.types.Scalar.{Scalar}
use Rattle.c_types.specs.declared.types.Scalar.TheVariants as scalars
use Rattle.c_types.specs.Layout.{IsSmall, Table, most_bytes, size as type_size, members_of, offset}
use Rattle.c_types.specs.Types.{Ty, is_function, void, integer, pointer, struct, array, function, Tys, no_types, scalar_of}
use Rattle.c_types.specs.Types as ty
use Rattle.c_typed.specs.declared.ops.BinaryOp.{BinaryOp}
use Rattle.c_typed.specs.declared.ops.UnaryOp.TheVariants as signs
use Rattle.c_typed.specs.declared.ops.Variable.{Variable}
use Rattle.c_typed.specs.declared.ops.Variable.TheVariants.{Local, Global}
use Rattle.c_typed.specs.Tree as tree
use Rattle.c_typed.specs.Tree.{Place, of, deref, member, Expr, Exprs, none, more}
use Rattle.c_typed.specs.refinement.Expressions as well
use Rattle.c_typed.specs.refinement.Expressions.{HasType, HaveTypes, IsNarrow, IsPlace, is_visible, IsMember}
use Rattle.c_typed.specs.declared.ops.RelOp.{RelOp}
use Rattle.c_typed.specs.declared.ops.RelOp.TheVariants as relations
use Rattle.c_meaning.specs.Shapes.{shape, size}
use Rattle.c_meaning.specs.Objects.{same_place, distance}
use Rattle.c_meaning.specs.Objects as objects
use Rattle.c_meaning.specs.Values.{Value, null, number, inside}
use Rattle.c_meaning.specs.World.{World, Result, gives, ends, Does, after, ask, ◌>>=◌, ◌>>◌, pure, stop, abort}
use Rattle.c_meaning.specs.Integers as meant
use Rattle.c_meaning.specs.Integers.{value_of, wrap}
use Rattle.c_meaning.specs.Expressions as meaning
use Rattle.c_meaning.specs.Expressions.{as_number, expr, exprs, is_true, place, store}
use Rattle.ms_emit.specs.Codes.{Code, plain, one, ◌⨾◌, choice}
use Rattle.c_code.specs.Expressions as code
use Rattle.c_code.specs.Expressions.{allocated, as_bit, begun, bytes_in, converted, ended, fetched, int, is_bit, is_null, left, number_in, of_type, product_allocated, updated, moved, decayed, is_deref}
use Rattle.c_code.specs.Operations.{constant, convert, eqz, i32, operated, truth, val_option, width_of, compared, i64, slice}
use Rattle.c_code.specs.Targets.{get, plain_in, scratch_i64, waiting}
use Rattle.c_code.specs.Uses as uses
use Rattle.c_code.specs.Uses.{copies}
use Rattle.c_numbers.proofs.Ranges.{value_in, wrap_in}
use Rattle.c_typing.proofs.Sound.{AreSound, AreSoundNames, Sound, sound_expr, sound_place}
use Rattle.c_runs.specs.Words.{pushed}
use Rattle.ms_relate.specs.refinement.Homes.{Home, IsScalar}
use Rattle.ms_relate.proofs.Growing.{Extends}
use Rattle.c_runs.proofs.Values.{IsOf, pushed_is, value_still, word_of, word_still}
use Rattle.c_runs.proofs.Related.{AreOf, Env, IsSlot, IsValue, piled, pushes, beside}
use Rattle.c_runs.proofs.Ops.{AllGiven, OpIn, op_any, op_assoc, op_given, op_look, op_look_in, op_none_in, op_over_in, op_then_in, same, Stack}
use Rattle.c_runs.proofs.Nodes.{Carries, Leaves, PlainAt, assign_runs, chosen_runs, constant_runs, behind_place, gone, left_runs, remains, slot_plain}
use Rattle.c_runs.proofs.Operations.{AtHome, Linked, abort_runs, binary_runs, compare_runs, complement_runs, convert_runs, getchar_runs, narrow_truth_runs, negate_runs, not_runs, putchar_runs, truth_in, truth_runs, update_runs, Reaches, call_is}
use Rattle.c_runs.proofs.Cells.{Leads, address_runs, assign_there, deref_leads, read_there}
use Rattle.c_runs.proofs.Globals.{NamesOf, global_all, global_plain, literal_runs}
use Rattle.c_runs.proofs.Members.{IsLaid, LeadsAll, Slices, decay_all, decay_slice, laid_member, leads_all, member_all, member_slices, slice_runs, variable_all, visit_runs}
use Rattle.c_runs.proofs.Scalars.{IsData, function_type, null_runs, pointer_type, scalar_type, small_slot, truth_pointer}
use Rattle.c_runs.proofs.Entries.{types_of}
use Rattle.c_runs.proofs.Functions.{function_runs, no_function_runs, same_function_runs, truth_function}
use Rattle.c_runs.proofs.Equal.{equal_runs, unequal_runs}
use Rattle.c_runs.proofs.Updates.{update_there}
use Rattle.c_runs.proofs.Allocating.{calloc_runs, known_bytes, malloc_runs}
use Rattle.c_runs.proofs.Freeing.{free_runs}
use Rattle.c_runs.proofs.StructCopies.{copy_runs}
use Rattle.c_runs.proofs.Moves.{by_size, bytes, move_by_runs, move_runs}
use Rattle.c_runs.proofs.Advances.{advance_plain, advance_there}
use Rattle.c_runs.proofs.Orders.{difference_runs, order_runs}
use Rattle.c_runs.proofs.Ready.{IsCallable}
use Rattle.c_runs.proofs.Rooms.{IsReady, addressed, behind_use, called, either, in_expr_of, in_exprs_of, in_place_of, parts, taken, through_parts}
use Rattle.c_runs.proofs.Through.{through_runs}
use Rattle.c_runs.proofs.Whole.{whole_as_bit, whole_expr, whole_plain}

-- ---- types

-- one of at most 32 bits is an i32
pub narrow_width : (u : IntType) → IsNarrow u → width_of u ≡ W32
narrow_width Char h = refl
narrow_width SignedChar h = refl
narrow_width UnsignedChar h = refl
narrow_width Short h = refl
narrow_width UnsignedShort h = refl
narrow_width Int h = refl
narrow_width UnsignedInt h = refl
narrow_width Long h = refl
narrow_width UnsignedLong h = refl
narrow_width LongLong h = absurd (omega (arith, h))
narrow_width UnsignedLongLong h = absurd (omega (arith, h))

-- a type whose scalar is a number is an integer type
pub number_type : (t : Ty) (u : IntType) → scalar_of t ≡ Some (scalars.Int u) → (v : IntType) × (t ≡ integer v) × (scalars.Int u ≡ scalars.Int v)
number_type t u e = by t e where
  int_or : IntType → Option Scalar → IntType
  int_or v (Some (scalars.Int w)) = w
  int_or v _ = v

  by : (t : Ty) → scalar_of t ≡ Some (scalars.Int u) → (v : IntType) × (t ≡ integer v) × (scalars.Int u ≡ scalars.Int v)
  by (integer v) e = (v, refl, ap (λ (o : Option Scalar). scalars.Int (int_or v o)) (sym e))
  by void e = absurd cc
  by (struct n) e = absurd cc
  by (pointer (function r ps)) e = absurd cc
  by (pointer void) e = absurd cc
  by (pointer (integer v)) e = absurd cc
  by (pointer (struct n)) e = absurd cc
  by (pointer (pointer v)) e = absurd cc
  by (pointer (array v n)) e = absurd cc
  by (array v n) e = absurd cc
  by (function r ps) e = absurd cc

-- ---- conditions that give 0 or 1

abbrev IsBit : Value → Type 0
IsBit v = (b : Bool) × (v ≡ meaning.truth b)

given_after : {A B : Type 0} (E : Env) (P : B → Type 0) (y : Result A) (f : A → World → Result B) → ((a : A) (w : World) → AllGiven E P (f a w)) → AllGiven E P (after y f)
given_after E P (gives a w) f h = h a w
given_after E P (ends e w) f h = tt

module _ (E : Env) where
  abbrev value : Expr → Does Value
  value e = expr E.unit E.calls e

  if_given : (x : Bool) (m n : Does Value) → ((w : World) → AllGiven E IsBit (m w)) → ((w : World) → AllGiven E IsBit (n w)) → (w : World) → AllGiven E IsBit ((if x then m else n) w)
  if_given true m n a b = a
  if_given false m n a b = b

  order_given : (o : RelOp) (a b : Expr) (w : World) → AllGiven E IsBit ((value a >>= (λ p. value b >>= (λ q. ask (λ os. distance os p q) >>= (λ d. pure (meaning.truth (meant.compared o d (pos 0))))))) w)
  order_given o a b w =
      given_after E IsBit (value a w) _ (λ p w1. given_after E IsBit (value b w1) _ (λ q w2. given_after E IsBit (ask (λ os. distance os p q) w2) _ (λ d w3. (meant.compared o d (pos 0), refl))))

  bit_given : (e : Expr) → is_bit e ≡ true → (w : World) → AllGiven E IsBit (value e w)
  bit_given (tree.truth s a) b w = given_after E IsBit (meaning.test (value a) w) _ (λ x w1. (x, refl))
  bit_given (tree.not a) b w = given_after E IsBit (meaning.test (value a) w) _ (λ x w1. (not x, refl))
  bit_given (tree.compare o t x y) b w = given_after E IsBit (meaning.integer (value x) w) _ (λ p w1. given_after E IsBit (meaning.integer (value y) w1) _ (λ q w2. (meant.compared o p q, refl)))
  bit_given (tree.compare_pointers relations.Equal x y) b w =
      given_after E IsBit (value x w) _ (λ p w1. given_after E IsBit (value y w1) _ (λ q w2. given_after E IsBit (ask (λ os. same_place os p q) w2) _ (λ r w3. (r, refl))))
  bit_given (tree.compare_pointers relations.NotEqual x y) b w =
      given_after E IsBit (value x w) _ (λ p w1. given_after E IsBit (value y w1) _ (λ q w2. given_after E IsBit (ask (λ os. same_place os p q) w2) _ (λ r w3. (not r, refl))))
  bit_given (tree.compare_pointers relations.Less x y) b w = order_given relations.Less x y w
  bit_given (tree.compare_pointers relations.LessEqual x y) b w = order_given relations.LessEqual x y w
  bit_given (tree.compare_pointers relations.Greater x y) b w = order_given relations.Greater x y w
  bit_given (tree.compare_pointers relations.GreaterEqual x y) b w = order_given relations.GreaterEqual x y w
  bit_given (tree.same_function alike x y) b w = given_after E IsBit (value x w) _ (λ p w1. given_after E IsBit (value y w1) _ (λ q w2. (meaning.same_named alike p q, refl)))
  bit_given (tree.and x y) b w =
      given_after E IsBit (meaning.test (value x) w) _
      (λ p. if_given p (meaning.test (value y) >>= (λ q. pure (meaning.truth q))) (pure (meaning.truth false)) (λ w1. given_after E IsBit (meaning.test (value y) w1) _ (λ q w2. (q, refl))) (λ w1. (false, refl)))
  bit_given (tree.or x y) b w =
      given_after E IsBit (meaning.test (value x) w) _
      (λ p. if_given p (pure (meaning.truth true)) (meaning.test (value y) >>= (λ q. pure (meaning.truth q))) (λ w1. (true, refl)) (λ w1. given_after E IsBit (meaning.test (value y) w1) _ (λ q w2. (q, refl))))
  bit_given _ b w = absurd cc

  truth_again : (b : Bool) → (is_true (meaning.truth b) >>= (λ q. pure (meaning.truth q))) ≡ pure (meaning.truth b)
  truth_again true = refl
  truth_again false = refl

  -- the value that is 0 or 1 is its truth
  bit_runs : (c : Code) (x : Does Value) → ((w : World) → AllGiven E IsBit (x w)) → Leaves E c (integer Int) x → Leaves E c (integer Int) (meaning.test x >>= (λ q. pure (meaning.truth q)))
  bit_runs c x all h =
      op_assoc E c same (pushed (integer Int)) (IsOf (integer Int)) x is_true (λ q. pure (meaning.truth q))
      (op_look E c same (pushed (integer Int)) (pushed (integer Int)) (λ v. IsOf (integer Int) v × IsBit v) (IsOf (integer Int)) x (λ v. is_true v >>= (λ q. pure (meaning.truth q)))
      (op_given E c same (pushed (integer Int)) (IsOf (integer Int)) IsBit x all h)
      (λ v ok. (v, ap (λ (u : Value). is_true u >>= (λ q. pure (meaning.truth q))) ok.1.1 ∙ truth_again ok.1.0 ∙ ap (λ (u : Value). pure u) (sym ok.1.1), refl, ok.0)))

  bit_type : (k : well.Context) (e : Expr) (t : Ty) → is_bit e ≡ true → HasType k e t → t ≡ integer Int
  bit_type k (tree.truth s a) t b ty = ty.1
  bit_type k (tree.not a) t b ty = ty.1
  bit_type k (tree.compare o u x y) t b ty = ty.0
  bit_type k (tree.compare_pointers o x y) t b ty = ty.1
  bit_type k (tree.same_function alike x y) t b ty = ty.1
  bit_type k (tree.and x y) t b ty = ty.2
  bit_type k (tree.or x y) t b ty = ty.2
  bit_type k _ t b ty = absurd cc

  as_bit_runs : (k : well.Context) (e : Expr) (u : IntType) (c : Code) (b : Bool) → is_bit e ≡ b → width_of u ≡ W32 → HasType k e (integer u) → Leaves E c (integer u) (value e)
      → Leaves E (as_bit b c) (integer Int) (meaning.test (value e) >>= (λ q. pure (meaning.truth q)))
  as_bit_runs k e u c true is n ty r = bit_runs c (value e) (bit_given e is) (subst (λ (t : Ty). Leaves E c t (value e)) (bit_type k e (integer u) is ty) r)
  as_bit_runs k e u c false is n ty r = narrow_truth_runs E u c (value e) n r

  null_is : (a : Expr) → is_null a ≡ true → value a ≡ pure null
  null_is tree.null e = refl
  null_is _ e = absurd cc

  -- ---- a number that is known

  number_is : (a : Expr) (z : ℤ) → number_in a ≡ Some z → value a ≡ pure (number z)
  number_is (tree.number t n) z e = ap (λ (o : Option ℤ). pure (number (or o))) e where
    or : Option ℤ → ℤ
    or (Some y) = y
    or None = z
  number_is _ z e = absurd cc

  converted_runs : (u v : IntType) (a : Expr) (c : Code) (o : Option ℤ) → number_in a ≡ o → Leaves E c (integer u) (value a) → Leaves E (converted u v o c) (integer v) (meaning.integer (value a) >>= (λ z. pure (number (wrap v z))))
  converted_runs u v a c None e h = convert_runs E u v c (value a) h
  converted_runs u v a c (Some z) e h =
      subst (λ (y : Does Value). Leaves E (one (constant (width_of v) (wrap v z))) (integer v) (meaning.integer y >>= (λ q. pure (number (wrap v q))))) (sym (number_is a z e)) (constant_runs E v (wrap v z) (wrap_in v z))

-- ---- all expressions

module _ (E : Env) (L : Linked E.site) (home : AtHome E) (k : well.Context) (slots_are : k.slots ≡ E.slots) where
  -- a call does what is meant, from this function
  abbrev pub CallsRun : Type 0
  CallsRun =
      E.may_call ≡ true → (d f : ℕ) (t : Ty) (ps : Tys) → slice_get k.functions f ≡ Some (function t ps) → IsCallable E.unit f → (i : Instr) (above : Stack) → Reaches E i above (E.target.index f) → (hs : List Home) (us : List Value) → AreOf E ps hs us
      → OpIn (beside d E) hs (one i) (λ vs. above (piled E ps hs us vs)) (pushes E t) (IsValue E t) (E.calls f us)

  abbrev pub AreScalars : Tys → Type 0
  AreScalars no_types = Unit {0}
  AreScalars (ty.types t ts) = IsScalar t × AreScalars ts

  -- the arguments of a call through a pointer, which waits beside d other values
  abbrev pub ArgsRun : Type 0
  ArgsRun =
      (d : ℕ) → E.pending ≤ d → (es : Exprs) (ts : Tys) → IsReady E.may_call E.target.is_object E.unit (suc d) (suc d) E.waits (uses.in_exprs es) (in_exprs_of es) → HaveTypes k es ts → AreScalars ts
      → OpIn (beside (suc d) E) [] (code.exprs E.target (suc d) es) same (λ hs us vs. piled E ts hs us vs) (λ hs us. AreOf E ts hs us) (exprs E.unit E.calls es)

  pub sound_scalars : (ts : Tys) → AreSound ts → AreScalars ts
  sound_scalars no_types h = tt
  sound_scalars (ty.types t ts) h = (scalar_type t h.0.0 h.0.1, sound_scalars ts h.2)

  abbrev pub code_of : Bool → ℕ → Expr → Code
  code_of kept d e = code.expr E.target kept d e

  abbrev pub value_in_E : Expr → Does Value
  value_in_E e = expr E.unit E.calls e

  as_type : (kept : Bool) (c : Code) (t : Ty) (u : IntType) (x : Does Value) → t ≡ integer u → Carries E kept c (integer u) x → Carries E kept c t x
  as_type kept c t u x e h = subst (λ (s : Ty). Carries E kept c s x) (sym e) h

  left_int : (kept : Bool) (c : Code) (t : Ty) (u : IntType) (x : Does Value) → t ≡ integer u → Leaves E c (integer u) x → Carries E kept (left kept (of_type u) c) t x
  left_int kept c t u x e h = as_type kept (left kept (of_type u) c) t u x e (left_runs E kept (of_type u) (integer u) c x refl h)

  module _ (calls_run : CallsRun) (args_run : ArgsRun) (scalars_are : (f : ℕ) (t : Ty) (ps : Tys) → slice_get k.functions f ≡ Some (function t ps) → AreScalars ps)
      (slots_data : (x : ℕ) (t : Ty) → slice_get k.slots x ≡ Some t → E.target.is_object (Local x) ≡ false → IsData t) (visible_are : k.visible ≡ E.visible) (structs_same : k.structs ≡ E.unit.structs) (functions_are : k.functions ≡ types_of E.unit) (sound : AreSoundNames k.structs k.globals k.slots k.functions)
      (names : NamesOf E.unit.structs E.files E.reached E.target k.globals k.literals) where
    -- a type with a size
    sized : (t : Ty) → IsSmall k.structs t → IsSlot E.unit.structs t
    sized t h = small_slot E.unit.structs E.laid_out E.has_members t (subst (λ (table : Table). IsSmall table t) structs_same h)

    size_is : (t : Ty) → IsSmall k.structs t → type_size E.target.structs t ≡ size (shape E.unit.structs t)
    size_is t h = ap (λ (table : Table). type_size table t) E.structs_are ∙ sym (sized t h).sized

    -- a slot, by whether it is an object
    kind_at : (x : ℕ) (t : Ty) → slice_get k.slots x ≡ Some t → (b : Bool) → E.target.is_object (Local x) ≡ b → slice_get E.kinds x ≡ Some (t, b)
    kind_at x t e b q = E.kinds_are x t (subst (λ (ts : List Ty). slice_get ts x ≡ Some t) slots_are e) ∙ ap (λ (c : Bool). Some (t, c)) q

    seen_at : (x : ℕ) (t : Ty) → IsPlace k (of (Local x)) t → is_visible E.visible x ≡ true
    seen_at x t h = ap (λ (vs : List ℕ). is_visible vs x) (sym visible_are) ∙ h.1

    abbrev variable_in : Bool → Variable → Option Variable
    variable_in b x = if b then None else Some x

    -- a variable at file scope
    file_at : (x : ℕ) (t : Ty) → slice_get k.globals x ≡ Some t → (b : Bool) → E.target.is_object (Global x) ≡ b → slice_get E.files x ≡ Some (t, b)
    file_at x t e b q = names.kinds x t e ∙ ap (λ (c : Bool). Some (t, c)) q

    -- one that is no object is read and written without a handle
    plain_at : (x : Variable) (t : Ty) → IsScalar t → IsPlace k (of x) t → E.target.is_object x ≡ false → PlainAt E x t
    plain_at (Local x) t sc h q = slot_plain E x t sc (kind_at x t h.0 false q)
    plain_at (Global x) t sc h q = global_plain E L home x t sc (file_at x t h false q)

    -- the handle of one that is an object leads to all of it
    all_at : (x : Variable) (t : Ty) → IsPlace k (of x) t → E.target.is_object x ≡ true → LeadsAll E (one (get E.target x)) t (place E.unit E.calls (of x))
    all_at (Local x) t h q = variable_all E x t (kind_at x t h.0 true q) (seen_at x t h)
    all_at (Global x) t h q = global_all E L home x t (file_at x t h true q) (names.seen x t h) (small_slot E.unit.structs E.laid_out E.has_members t (names.sizes x t h))

    -- a place that is no plain variable's
    abbrev IsCell : Place → Type 0
    IsCell (of x) = E.target.is_object x ≡ true
    IsCell _ = Unit {0}

    -- its handle is left
    abbrev LeadsIn : ℕ → Place → Ty → Type 0
    LeadsIn d p t = IsCell p → Leads E (code.place E.target d p) t (place E.unit E.calls p)

    is_data : (p : Place) (t : Ty) → IsPlace k p t → is_function t ≡ false
    is_data p t h = (sound_place k sound p t h).0

    variable_data : (x : Variable) (t : Ty) → IsPlace k (of x) t → E.target.is_object x ≡ false → IsData t
    variable_data (Local x) t h q = slots_data x t h.0 q
    variable_data (Global x) t h q = names.data_are x t h q

    -- an array or a struct is an object
    whole_slot : (x : Variable) (t : Ty) → (IsData t → ⊥) → IsPlace k (of x) t → E.target.is_object x ≡ true
    whole_slot x t never h = by (E.target.is_object x) refl where
      by : (b : Bool) → E.target.is_object x ≡ b → b ≡ true
      by true q = refl
      by false q = absurd (never (variable_data x t h q))

    whole_cell : (p : Place) (t : Ty) → (IsData t → ⊥) → IsPlace k p t → IsCell p
    whole_cell (of x) t never h = whole_slot x t never h
    whole_cell (deref a) t never h = tt
    whole_cell (member p n m) t never h = tt

    -- ---- members

    laid : (n m : ℕ) (t : Ty) → IsMember k.structs n m t → IsLaid E.unit.structs n m t
    laid n m t h = laid_member E.unit.structs E.laid_out E.has_members n m t (subst (λ (table : Table). IsMember table n m t) structs_same h)

    offset_is : (n m : ℕ) → offset E.target.structs (struct n) m ≡ offset E.unit.structs (struct n) m
    offset_is n m = ap (λ (table : Table). offset table (struct n) m) E.structs_are

    member_size_is : (n m : ℕ) (t : Ty) → IsMember k.structs n m t → code.member_size E.target n m ≡ size (shape E.unit.structs t)
    member_size_is n m t h = ap (λ (table : Table). type_size table (get_or (members_of table (struct n)) m void)) E.structs_are ∙ (laid n m t h).sized

    some_there : (n m : ℕ) (t : Ty) → IsMember k.structs n m t → 0 < code.member_size E.target n m
    some_there n m t h = let e = member_size_is n m t h in let some = (laid n m t h).some in omega (arith, e, some)

    within_there : (n m : ℕ) (t : Ty) → IsMember k.structs n m t → offset E.target.structs (struct n) m + code.member_size E.target n m ≤ size (shape E.unit.structs (struct n))
    within_there n m t h = let o = offset_is n m in let e = member_size_is n m t h in let within = (laid n m t h).within in omega (arith, o, e, within)

    abbrev SlicesIn : (d : ℕ) → Place → (n from len : ℕ) → Type 0
    SlicesIn d p n from len = Slices E (code.part E.target d p from len) (struct n) from len (place E.unit E.calls p)

    member_leads : (d : ℕ) (p : Place) (n m : ℕ) (t : Ty) → IsMember k.structs n m t → SlicesIn d p n (offset E.target.structs (struct n) m) (code.member_size E.target n m)
        → LeadsAll E (code.place E.target d (member p n m)) t (place E.unit E.calls (member p n m))
    member_leads d p n m t h s =
        let c = code.place E.target d (member p n m) in
        let x = place E.unit E.calls p in
        member_all E n m t (laid n m t h) c x
        (subst (λ (o : ℕ). Slices E c (struct n) o (size (shape E.unit.structs t)) x) (offset_is n m) (subst (λ (l : ℕ). Slices E c (struct n) (offset E.target.structs (struct n) m) l x) (member_size_is n m t h) s))

    abbrev pub decaying : Place → Does Value
    decaying p = meaning.pointer (place E.unit E.calls p) >>= meaning.further inside

    abbrev pub DecaysTo : (d : ℕ) → Place → Ty → (n : ℕ) → Type 0
    DecaysTo d p u n = Leaves E (decayed (is_deref p) (n * type_size E.target.structs u) (code.place E.target d p)) (pointer u) (decaying p)

    pointer_scalar : (t : Ty) → is_function t ≡ false → scalar_of (pointer t) ≡ Some scalars.Pointer
    pointer_scalar t e = ap (λ (b : Bool). Some (if b then scalars.Function else scalars.Pointer)) e

    read_runs : (d : ℕ) (s : Scalar) (p : Place) (t : Ty) → IsScalar t → scalar_of t ≡ Some s → IsPlace k p t → LeadsIn d p t → Leaves E (fetched E.target (plain_in E.target p) (code.place E.target d p) s) t (place E.unit E.calls p >>= meaning.fetch)
    read_runs d s (of x) t sc e h leads = by (E.target.is_object x) refl where
      by : (b : Bool) → E.target.is_object x ≡ b → Leaves E (fetched E.target (variable_in b x) (one (get E.target x)) s) t (place E.unit E.calls (of x) >>= meaning.fetch)
      by true q = read_there E t s sc e (one (get E.target x)) (place E.unit E.calls (of x)) (leads q)
      by false q = let p = plain_at x t sc h q in behind_place E x t p (one (get E.target x)) same (pushes E t) (IsValue E t) meaning.fetch p.fetches
    read_runs d s (deref a) t sc e h leads = read_there E t s sc e (code.place E.target d (deref a)) (place E.unit E.calls (deref a)) (leads tt)
    read_runs d s (member p n m) t sc e h leads = read_there E t s sc e (code.place E.target d (member p n m)) (place E.unit E.calls (member p n m)) (leads tt)

    assigned : (kept : Bool) (d : ℕ) (s : Scalar) (p : Place) (t : Ty) → IsScalar t → (c : Code) (y : Does Value) → scalar_of t ≡ Some s → IsPlace k p t → LeadsIn d p t → Leaves E c t y
        → Carries E kept (begun E.target (plain_in E.target p) (code.place E.target d p) ⨾ c ⨾ ended E.target kept (plain_in E.target p) s) t (place E.unit E.calls p >>= (λ q. y >>= (λ v. store q v >> pure v)))
    assigned kept d s (of x) t sc c y e h leads r = by (E.target.is_object x) refl where
      by : (b : Bool) → E.target.is_object x ≡ b
          → Carries E kept (begun E.target (variable_in b x) (one (get E.target x)) ⨾ c ⨾ ended E.target kept (variable_in b x) s) t (place E.unit E.calls (of x) >>= (λ q. y >>= (λ v. store q v >> pure v)))
      by true q = assign_there E t s sc e kept (one (get E.target x)) c (place E.unit E.calls (of x)) y (leads q) r
      by false q = assign_runs E x t (plain_at x t sc h q) kept s c y r
    assigned kept d s (deref a) t sc c y e h leads r = assign_there E t s sc e kept (code.place E.target d (deref a)) c (place E.unit E.calls (deref a)) y (leads tt) r
    assigned kept d s (member p n m) t sc c y e h leads r = assign_there E t s sc e kept (code.place E.target d (member p n m)) c (place E.unit E.calls (member p n m)) y (leads tt) r

    abbrev updating : Bool → (u v : IntType) → BinaryOp → Place → Does Value → Does Value
    updating old u v o p y =
        place E.unit E.calls p >>= (λ q. meaning.fetch q >>= (λ w0. as_number w0 >>= (λ z. meaning.integer y >>= (λ q'. meant.operated o v (wrap v z) q' >>= (λ p'.
        let new = number (wrap u p') in store q new >> pure (if old then w0 else new))))))

    updates : (kept old : Bool) (d : ℕ) (u v : IntType) (o : BinaryOp) (p : Place) (c : Code) (y : Does Value) → well.IsPromoted v → IsPlace k p (integer u) → LeadsIn d p (integer u) → Leaves E c (integer v) y
        → Carries E kept (updated E.target kept old (plain_in E.target p) (code.place E.target d p) (scalars.Int u) (convert u v ⨾ c ⨾ one (operated o v) ⨾ convert v u)) (integer u)
        (updating old u v o p y)
    updates kept old d u v o (of x) c y pr h leads r = by (E.target.is_object x) refl where
      by : (b : Bool) → E.target.is_object x ≡ b
          → Carries E kept (updated E.target kept old (variable_in b x) (one (get E.target x)) (scalars.Int u) (convert u v ⨾ c ⨾ one (operated o v) ⨾ convert v u)) (integer u) (updating old u v o (of x) y)
      by true q = update_there E o u v (one (get E.target x)) (place E.unit E.calls (of x)) (leads q) c y pr r kept old
      by false q = update_runs E o u v x (plain_at x (integer u) tt h q) c y pr r kept old (one (get E.target x)) (scalars.Int u)
    updates kept old d u v o (deref e) c y pr h leads r = update_there E o u v (code.place E.target d (deref e)) (place E.unit E.calls (deref e)) (leads tt) c y pr r kept old
    updates kept old d u v o (member p n m) c y pr h leads r = update_there E o u v (code.place E.target d (member p n m)) (place E.unit E.calls (member p n m)) (leads tt) c y pr r kept old

    abbrev advancing : Bool → ℕ → Bool → Place → Does Value → Does Value
    advancing old n back p y =
        place E.unit E.calls p >>= (λ q. meaning.fetch q >>= (λ v. meaning.integer y >>= (λ i.
        let new = objects.moved n (meaning.back_if back i) v in store q new >> pure (if old then v else new))))

    advances : (kept old : Bool) (d : ℕ) (u : Ty) (back : Bool) (p : Place) (c : Code) (y : Does Value) (slot : IsSlot E.unit.structs u) → IsPlace k p (pointer u) → LeadsIn d p (pointer u) → Leaves E c (integer LongLong) y
        → Carries E kept (updated E.target kept old (plain_in E.target p) (code.place E.target d p) scalars.Pointer (moved (bytes E u slot) back c)) (pointer u) (advancing old (bytes E u slot) back p y)
    advances kept old d u back (of x) c y slot h leads r = by (E.target.is_object x) refl where
      by : (b : Bool) → E.target.is_object x ≡ b
          → Carries E kept (updated E.target kept old (variable_in b x) (one (get E.target x)) scalars.Pointer (moved (bytes E u slot) back c)) (pointer u) (advancing old (bytes E u slot) back (of x) y)
      by true q = advance_there E u slot back c y r (one (get E.target x)) (place E.unit E.calls (of x)) (leads q) kept old
      by false q = advance_plain E u slot back c y r x (plain_at x (pointer u) tt h q) kept old (one (get E.target x))
    advances kept old d u back (deref e) c y slot h leads r = advance_there E u slot back c y r (code.place E.target d (deref e)) (place E.unit E.calls (deref e)) (leads tt) kept old
    advances kept old d u back (member p n m) c y slot h leads r = advance_there E u slot back c y r (code.place E.target d (member p n m)) (place E.unit E.calls (member p n m)) (leads tt) kept old

    -- a pointer is left
    left_pointer : (kept : Bool) (c : Code) (t u : Ty) (x : Does Value) → t ≡ pointer u → is_function u ≡ false → Leaves E c (pointer u) x → Carries E kept (left kept code.pointer c) t x
    left_pointer kept c t u x e plain_type h = subst (λ (r : Ty). Carries E kept (left kept code.pointer c) r x) (sym e) (left_runs E kept code.pointer (pointer u) c x (pointer_scalar u plain_type) h)

    -- a pointer to a function is left
    left_function : (kept : Bool) (c : Code) (t u : Ty) (x : Does Value) → t ≡ pointer u → is_function u ≡ true → Leaves E c (pointer u) x → Carries E kept (left kept code.function c) t x
    left_function kept c t u x e is h =
        subst (λ (r : Ty). Carries E kept (left kept code.function c) r x) (sym e) (left_runs E kept code.function (pointer u) c x (ap (λ (b : Bool). Some (if b then scalars.Function else scalars.Pointer)) is) h)

    -- two pointers by their order
    ordered : (kept : Bool) (o : RelOp) (a b : Code) (x y : Does Value) (t u : Ty) → t ≡ integer Int → is_function u ≡ false → Leaves E a (pointer u) x → Leaves E b (pointer u) y
        → Carries E kept (left kept int (a ⨾ b ⨾ plain (Segment segment.Diff ∷ i64 0 ∷ compared o LongLong ∷ []))) t (x >>= (λ p. y >>= (λ q. ask (λ os. distance os p q) >>= (λ z. pure (meaning.truth (meant.compared o z (pos 0)))))))
    ordered kept o a b x y t u e plain_type ra rb = left_int kept _ t Int _ e (order_runs E u plain_type a b x y ra rb o)

    size_runs : (kept : Bool) (n : ℕ) (t : Ty) → t ≡ integer UnsignedInt → n < 2 ^ 32 → Carries E kept (left kept (of_type UnsignedInt) (one (i32 n))) t (pure (number (pos n)))
    size_runs kept n t e lt = left_int kept (one (i32 n)) t UnsignedInt (pure (number (pos n))) e (constant_runs E UnsignedInt (pos n) (value_in UnsignedInt n lt))

    -- modulo 2^32
    once_more : (n : ℕ) → wrapped 32 (pos (wrapped 32 (pos n))) ≡ wrapped 32 (pos n)
    once_more n = omega arith

    size_type_runs : (kept : Bool) (n : ℕ) (t : Ty) → t ≡ integer UnsignedInt → Carries E kept (left kept (of_type UnsignedInt) (one (i32 n))) t (pure (number (wrap UnsignedInt (pos n))))
    size_type_runs kept n t e =
        left_int kept (one (i32 n)) t UnsignedInt (pure (number (wrap UnsignedInt (pos n)))) e
        (subst (λ (k : ℕ). Leaves E (one (I32Const (signed 32 k))) (integer UnsignedInt) (pure (number (wrap UnsignedInt (pos n))))) (once_more n) (constant_runs E UnsignedInt (wrap UnsignedInt (pos n)) (wrap_in UnsignedInt (pos n))))

    small_size : (n m : ℕ) → n ≡ m → m ≤ most_bytes → n < 2 ^ 32
    small_size n m e le = omega (arith, e, le)

    void_left : (kept : Bool) (v : Value) (hs : List Home) (vs : List Word) → gone E v vs ≡ remains E kept void hs meaning.nothing_given vs
    void_left true v hs vs = refl
    void_left false v hs vs = refl

    -- an argument as it is where more objects have homes
    arg_is : (t : Ty) → IsScalar t → (gs hs : List Home) → Extends gs hs → (v : Value) (vs : List Word) → IsValue E t gs v → pushes E t gs v vs ≡ word_of E.places t hs v ∷ vs
    arg_is t sc gs hs grown v vs ok = pushed_is E.unit.structs E.places gs t v vs sc ∙ ap (λ (u : Word). u ∷ vs) (sym (word_still E.unit.structs E.places gs hs grown t v ok))

    -- what an address is taken of
    cell : (d : ℕ) (p : Place) → IsReady E.may_call E.target.is_object E.unit E.pending d E.waits (uses.in_place p) (in_expr_of (tree.address p)) → IsCell p
    cell d (of (Local x)) i = taken E.may_call E.target.is_object E.unit E.pending d E.waits [] (Local x) i
    cell d (of (Global x)) i = taken E.may_call E.target.is_object E.unit E.pending d E.waits [] (Global x) i
    cell d (deref a) i = tt
    cell d (member p n m) i = tt

    mutual
      leads_run : (d : ℕ) (p : Place) (t : Ty) → IsReady E.may_call E.target.is_object E.unit E.pending d E.waits (uses.in_place p) (in_place_of p) → IsPlace k p t → LeadsIn d p t
      leads_run d (of x) t i h q = leads_all E (one (get E.target x)) t (place E.unit E.calls (of x)) (all_at x t h q)
      leads_run d (deref a) t i h q = deref_leads E (code_of true d a) t (value_in_E a) h.0 (expr_runs true d a (pointer t) i h.1)
      leads_run d (member p n m) t i h q =
          leads_all E (code.place E.target d (member p n m)) t (place E.unit E.calls (member p n m))
          (member_leads d p n m t h.1 (slices_run d p n (offset E.target.structs (struct n) m) (code.member_size E.target n m) i h.0 (some_there n m t h.1) (within_there n m t h.1)))

      -- a part of a struct
      slices_run : (d : ℕ) (p : Place) (n from len : ℕ) → IsReady E.may_call E.target.is_object E.unit E.pending d E.waits (uses.in_place p) (in_place_of p) → IsPlace k p (struct n) → 0 < len → from + len ≤ size (shape E.unit.structs (struct n)) → SlicesIn d p n from len
      slices_run d (of x) n from len i h some within =
          let c = one (get E.target x) in
          let y = place E.unit E.calls (of x) in
          slice_runs E c (struct n) from len y (leads_all E c (struct n) y (all_at x (struct n) h (whole_slot x (struct n) (λ never. never) h)))
      slices_run d (deref a) n from len i h some within =
          slice_runs E (code_of true d a) (struct n) from len (place E.unit E.calls (deref a)) (deref_leads E (code_of true d a) (struct n) (value_in_E a) h.0 (expr_runs true d a (pointer (struct n)) i h.1))
      slices_run d (member p n' m) n from len i h some within =
          let o = offset E.target.structs (struct n') m in
          let is = offset_is n' m in
          let l = laid n' m (struct n) h.1 in
          let end = l.within in
          let c = code.part E.target d p (o + from) len in
          let x = place E.unit E.calls p in
          member_slices E n' m (struct n) l c x from len some within
          (subst (λ (q : ℕ). Slices E c (struct n') (q + from) len x) is (slices_run d p n' (o + from) len i h.0 some (omega (arith, is, end, within))))

      pub decays_run : (d : ℕ) (p : Place) (u : Ty) (n : ℕ) → IsReady E.may_call E.target.is_object E.unit E.pending d E.waits (uses.in_place p) (in_place_of p) → IsPlace k p (array u n) → DecaysTo d p u n
      decays_run d (of x) u n i h =
          decay_all E u n (sound_place k sound (of x) (array u n) h).1.0 (one (get E.target x)) (place E.unit E.calls (of x)) (all_at x (array u n) h (whole_slot x (array u n) (λ never. never) h))
      decays_run d (deref a) u n i h =
          let len = n * type_size E.target.structs u in
          let c = code_of true d a in
          let x = place E.unit E.calls (deref a) in
          decay_slice E u n (sound_place k sound (deref a) (array u n) h).1.0 (c ⨾ slice 0 len) x
          (subst (λ (table : Table). Slices E (c ⨾ slice 0 len) (array u n) 0 (n * type_size table u) x) E.structs_are
          (slice_runs E c (array u n) 0 len x (deref_leads E c (array u n) (value_in_E a) h.0 (expr_runs true d a (pointer (array u n)) i h.1))))
      decays_run d (member p n' m) u n i h =
          decay_all E u n (sound_place k sound (member p n' m) (array u n) h).1.0 (code.place E.target d (member p n' m)) (place E.unit E.calls (member p n' m))
          (member_leads d p n' m (array u n) h.1 (slices_run d p n' (offset E.target.structs (struct n') m) (code.member_size E.target n' m) i h.0 (some_there n' m (array u n) h.1) (within_there n' m (array u n) h.1)))

      pub expr_runs : (kept : Bool) (d : ℕ) (e : Expr) (t : Ty) → IsReady E.may_call E.target.is_object E.unit E.pending d E.waits (uses.in_expr e) (in_expr_of e) → HasType k e t → Carries E kept (code_of kept d e) t (value_in_E e)
      expr_runs kept d (tree.number u n) t x h = left_int kept (one (constant (width_of u) (value_of u n))) t u (value_in_E (tree.number u n)) h.0 (constant_runs E u (value_of u n) (value_in u n h.1))
      expr_runs kept d tree.null t x h =
          subst (λ (r : Ty). Carries E kept (left kept (Some scalars.Pointer) (one (Segment segment.Null))) r (value_in_E tree.null)) (sym h.1)
          (left_runs E kept (Some scalars.Pointer) (pointer h.0) (one (Segment segment.Null)) (value_in_E tree.null) (pointer_scalar h.0 h.2) (null_runs E h.0 h.2))
      expr_runs kept d (tree.literal n) t x h =
          let few = h.1 in
          let all = names.texts in
          let c = plain (GlobalGet (E.target.globals + n) ∷ Segment segment.Seal ∷ []) in
          subst (λ (r : Ty). Carries E kept (left kept (Some scalars.Pointer) c) r (value_in_E (tree.literal n))) (sym h.0)
          (left_runs E kept (Some scalars.Pointer) (pointer (integer Char)) c (value_in_E (tree.literal n)) refl (literal_runs E L home n (omega (arith, few, all)) names.behind))
      expr_runs kept d tree.no_function t x h = left_function kept (one (i32 0)) t h.0 (value_in_E tree.no_function) h.1 h.2 (no_function_runs E h.0 h.2)
      expr_runs kept d (tree.function n) t x h =
          let is = (sound.function n h.0 h.2).0 in
          left_function kept (one (i32 (E.target.entry n))) t h.0 (value_in_E (tree.function n)) h.1 is (function_runs E h.0 is n (subst (λ (ts : List Ty). slice_get ts n ≡ Some h.0) functions_are h.2) x.known.0)
      expr_runs kept d (tree.read s p) t x h =
          left_runs E kept (Some s) t (fetched E.target (plain_in E.target p) (code.place E.target d p) s) (value_in_E (tree.read s p)) h.0
          (read_runs d s p t (scalar_type t s h.0) h.0 h.1 (leads_run d p t x h.1))
      expr_runs kept d (tree.decay u n p) t x h =
          let c = decayed (is_deref p) (n * type_size E.target.structs u) (code.place E.target d p) in
          subst (λ (r : Ty). Carries E kept (left kept (Some scalars.Pointer) c) r (value_in_E (tree.decay u n p))) (sym h.0)
          (left_runs E kept (Some scalars.Pointer) (pointer u) c (value_in_E (tree.decay u n p)) (pointer_scalar u (sound_place k sound p (array u n) h.1).1.0) (decays_run d p u n x h.1))
      expr_runs kept d (tree.address p) t x h =
          let i = addressed E.may_call E.target.is_object E.unit E.pending d E.waits (uses.in_place p) p x in
          let plain_type = is_data p h.0 h.2 in
          subst (λ (r : Ty). Carries E kept (left kept (Some scalars.Pointer) (code.place E.target d p)) r (value_in_E (tree.address p))) (sym h.1)
          (left_runs E kept (Some scalars.Pointer) (pointer h.0) (code.place E.target d p) (value_in_E (tree.address p)) (pointer_scalar h.0 plain_type)
          (address_runs E (code.place E.target d p) h.0 (place E.unit E.calls p) plain_type (leads_run d p h.0 i h.2 (cell d p x))))
      expr_runs kept d (tree.convert u v a) t x h =
          left_int kept (converted u v (number_in a) (code_of true d a)) t v (value_in_E (tree.convert u v a)) h.0 (converted_runs E u v a (code_of true d a) (number_in a) refl (expr_runs true d a (integer u) x h.1))
      expr_runs kept d (tree.truth (scalars.Int u) a) t x h =
          let n = number_type h.0 u h.2 in
          subst (λ (r : Scalar). Carries E kept (left kept int (code_of true d a ⨾ truth r)) t (value_in_E (tree.truth r a))) (sym n.2)
          (left_int kept (code_of true d a ⨾ truth (scalars.Int n.0)) t Int (value_in_E (tree.truth (scalars.Int n.0) a)) h.1
          (truth_runs E n.0 (code_of true d a) (value_in_E a) (subst (λ (r : Ty). Leaves E (code_of true d a) r (value_in_E a)) n.1 (expr_runs true d a h.0 x h.3))))
      expr_runs kept d (tree.truth scalars.Pointer a) t x h =
          let n = pointer_type h.0 h.2 in
          left_int kept (code_of true d a ⨾ truth scalars.Pointer) t Int (value_in_E (tree.truth scalars.Pointer a)) h.1
          (truth_pointer E n.0 n.2 (code_of true d a) (value_in_E a) (subst (λ (r : Ty). Leaves E (code_of true d a) r (value_in_E a)) n.1 (expr_runs true d a h.0 x h.3)))
      expr_runs kept d (tree.truth scalars.Function a) t x h =
          let n = function_type h.0 h.2 in
          left_int kept (code_of true d a ⨾ truth scalars.Function) t Int (value_in_E (tree.truth scalars.Function a)) h.1
          (truth_function E n.0 n.2 (code_of true d a) (value_in_E a) (subst (λ (r : Ty). Leaves E (code_of true d a) r (value_in_E a)) n.1 (expr_runs true d a h.0 x h.3)))
      expr_runs kept d (tree.not a) t x h =
          left_int kept (code_of true d a ⨾ one eqz) t Int (value_in_E (tree.not a)) h.1 (not_runs E h.0 (code_of true d a) (value_in_E a) (narrow_width h.0 h.2) (expr_runs true d a (integer h.0) x h.3))
      expr_runs kept d (tree.unary signs.Negate u a) t x h = left_int kept _ t u (value_in_E (tree.unary signs.Negate u a)) h.0 (negate_runs E u (code_of true d a) (value_in_E a) h.1 (expr_runs true d a (integer u) x h.2))
      expr_runs kept d (tree.unary signs.Complement u a) t x h = left_int kept _ t u (value_in_E (tree.unary signs.Complement u a)) h.0 (complement_runs E u (code_of true d a) (value_in_E a) h.1 (expr_runs true d a (integer u) x h.2))
      expr_runs kept d (tree.binary o u a b) t x h =
          let q = parts E.may_call E.target.is_object E.unit E.pending d E.waits (uses.in_expr a) (uses.in_expr b) (in_expr_of a) (in_expr_of b) x in
          left_int kept _ t u (value_in_E (tree.binary o u a b)) h.0 (binary_runs E o u (code_of true d a) (code_of true d b) (value_in_E a) (value_in_E b) h.1 (expr_runs true d a (integer u) q.0 h.2) (expr_runs true d b (integer u) q.1 h.3))
      expr_runs kept d (tree.compare o u a b) t x h =
          let q = parts E.may_call E.target.is_object E.unit E.pending d E.waits (uses.in_expr a) (uses.in_expr b) (in_expr_of a) (in_expr_of b) x in
          left_int kept _ t Int (value_in_E (tree.compare o u a b)) h.0 (compare_runs E o u (code_of true d a) (code_of true d b) (value_in_E a) (value_in_E b) h.1 (expr_runs true d a (integer u) q.0 h.2) (expr_runs true d b (integer u) q.1 h.3))
      expr_runs kept d (tree.compare_pointers relations.Equal a b) t x h =
          let q = parts E.may_call E.target.is_object E.unit E.pending d E.waits (uses.in_expr a) (uses.in_expr b) (in_expr_of a) (in_expr_of b) x in
          left_int kept _ t Int (value_in_E (tree.compare_pointers relations.Equal a b)) h.1
          (equal_runs E h.0 h.2 (is_null b) (code_of true d a) (code_of true d b) (value_in_E a) (value_in_E b) (null_is E b) (expr_runs true d a (pointer h.0) q.0 h.3) (expr_runs true d b (pointer h.0) q.1 h.4))
      expr_runs kept d (tree.compare_pointers relations.NotEqual a b) t x h =
          let q = parts E.may_call E.target.is_object E.unit E.pending d E.waits (uses.in_expr a) (uses.in_expr b) (in_expr_of a) (in_expr_of b) x in
          left_int kept _ t Int (value_in_E (tree.compare_pointers relations.NotEqual a b)) h.1
          (unequal_runs E h.0 h.2 (is_null b) (code_of true d a) (code_of true d b) (value_in_E a) (value_in_E b) (null_is E b) (expr_runs true d a (pointer h.0) q.0 h.3) (expr_runs true d b (pointer h.0) q.1 h.4))
      expr_runs kept d (tree.compare_pointers relations.Less a b) t x h =
          let q = parts E.may_call E.target.is_object E.unit E.pending d E.waits (uses.in_expr a) (uses.in_expr b) (in_expr_of a) (in_expr_of b) x in
          ordered kept relations.Less (code_of true d a) (code_of true d b) (value_in_E a) (value_in_E b) t h.0 h.1 h.2 (expr_runs true d a (pointer h.0) q.0 h.3) (expr_runs true d b (pointer h.0) q.1 h.4)
      expr_runs kept d (tree.compare_pointers relations.LessEqual a b) t x h =
          let q = parts E.may_call E.target.is_object E.unit E.pending d E.waits (uses.in_expr a) (uses.in_expr b) (in_expr_of a) (in_expr_of b) x in
          ordered kept relations.LessEqual (code_of true d a) (code_of true d b) (value_in_E a) (value_in_E b) t h.0 h.1 h.2 (expr_runs true d a (pointer h.0) q.0 h.3) (expr_runs true d b (pointer h.0) q.1 h.4)
      expr_runs kept d (tree.compare_pointers relations.Greater a b) t x h =
          let q = parts E.may_call E.target.is_object E.unit E.pending d E.waits (uses.in_expr a) (uses.in_expr b) (in_expr_of a) (in_expr_of b) x in
          ordered kept relations.Greater (code_of true d a) (code_of true d b) (value_in_E a) (value_in_E b) t h.0 h.1 h.2 (expr_runs true d a (pointer h.0) q.0 h.3) (expr_runs true d b (pointer h.0) q.1 h.4)
      expr_runs kept d (tree.compare_pointers relations.GreaterEqual a b) t x h =
          let q = parts E.may_call E.target.is_object E.unit E.pending d E.waits (uses.in_expr a) (uses.in_expr b) (in_expr_of a) (in_expr_of b) x in
          ordered kept relations.GreaterEqual (code_of true d a) (code_of true d b) (value_in_E a) (value_in_E b) t h.0 h.1 h.2 (expr_runs true d a (pointer h.0) q.0 h.3) (expr_runs true d b (pointer h.0) q.1 h.4)
      expr_runs kept d (tree.same_function alike a b) t x h =
          let q = parts E.may_call E.target.is_object E.unit E.pending d E.waits (uses.in_expr a) (uses.in_expr b) (in_expr_of a) (in_expr_of b) x in
          left_int kept _ t Int (value_in_E (tree.same_function alike a b)) h.1
          (same_function_runs E h.0 h.2 alike (code_of true d a) (code_of true d b) (value_in_E a) (value_in_E b) (expr_runs true d a (pointer h.0) q.0 h.3) (expr_runs true d b (pointer h.0) q.1 h.4))
      expr_runs kept d (tree.difference u a b) t x h =
          let q = parts E.may_call E.target.is_object E.unit E.pending d E.waits (uses.in_expr a) (uses.in_expr b) (in_expr_of a) (in_expr_of b) x in
          left_int kept _ t LongLong (value_in_E (tree.difference u a b)) h.0
          (difference_runs E u (sized u h.1) (code_of true d a) (code_of true d b) (value_in_E a) (value_in_E b) (expr_runs true d a (pointer u) q.0 h.2) (expr_runs true d b (pointer u) q.1 h.3))
      expr_runs kept d (tree.move u back a b) t x h =
          let q = parts E.may_call E.target.is_object E.unit E.pending d E.waits (uses.in_expr a) (uses.in_expr b) (in_expr_of a) (in_expr_of b) x in
          let slot = sized u h.1 in
          left_pointer kept _ t u (value_in_E (tree.move u back a b)) h.0 slot.is_data
          (move_runs E u slot back (code_of true d a) (code_of true d b) (value_in_E a) (value_in_E b) (expr_runs true d a (pointer u) q.0 h.2) (expr_runs true d b (integer LongLong) q.1 h.3))
      expr_runs kept d (tree.move_by u a b) t x h =
          let q = parts E.may_call E.target.is_object E.unit E.pending d E.waits (uses.in_expr a) (uses.in_expr b) (in_expr_of a) (in_expr_of b) x in
          let slot = sized u h.1 in
          left_pointer kept _ t u (value_in_E (tree.move_by u a b)) h.0 slot.is_data
          (move_by_runs E u slot (code_of true d a) (code_of true d b) (value_in_E a) (value_in_E b) (expr_runs true d a (integer LongLong) q.0 h.2) (expr_runs true d b (pointer u) q.1 h.3))
      expr_runs kept d (tree.and a b) t x h =
          let q = parts E.may_call E.target.is_object E.unit E.pending d E.waits (uses.in_expr a) (uses.in_expr b) (in_expr_of a) (in_expr_of b) x in
          let y = as_bit (is_bit b) (code_of true d b) in
          left_int kept (code_of true d a ⨾ choice (Some vals.I32) y (one (i32 0))) t Int (value_in_E (tree.and a b)) h.2
          (chosen_runs E h.0 (code_of true d a) y (one (i32 0)) (Some vals.I32) (value_in_E a) (meaning.test (value_in_E b) >>= (λ p. pure (meaning.truth p))) (pure (meaning.truth false)) (pushes E (integer Int)) (IsValue E (integer Int)) (narrow_width h.0 h.3) (whole_plain _)
          (expr_runs true d a (integer h.0) q.0 h.5)
          (as_bit_runs E k b h.1 (code_of true d b) (is_bit b) refl (narrow_width h.1 h.4) h.6 (expr_runs true d b (integer h.1) q.1 h.6))
          (constant_runs E Int (pos 0) (truth_in false)))
      expr_runs kept d (tree.or a b) t x h =
          let q = parts E.may_call E.target.is_object E.unit E.pending d E.waits (uses.in_expr a) (uses.in_expr b) (in_expr_of a) (in_expr_of b) x in
          let y = as_bit (is_bit b) (code_of true d b) in
          left_int kept (code_of true d a ⨾ choice (Some vals.I32) (one (i32 1)) y) t Int (value_in_E (tree.or a b)) h.2
          (chosen_runs E h.0 (code_of true d a) (one (i32 1)) y (Some vals.I32) (value_in_E a) (pure (meaning.truth true)) (meaning.test (value_in_E b) >>= (λ p. pure (meaning.truth p))) (pushes E (integer Int)) (IsValue E (integer Int)) (narrow_width h.0 h.3)
          (whole_as_bit (is_bit b) (code_of true d b) (whole_expr E.target true d b))
          (expr_runs true d a (integer h.0) q.0 h.5)
          (constant_runs E Int (pos 1) (truth_in true))
          (as_bit_runs E k b h.1 (code_of true d b) (is_bit b) refl (narrow_width h.1 h.4) h.6 (expr_runs true d b (integer h.1) q.1 h.6)))
      expr_runs kept d (tree.choose s e a b) t x h =
          let p = parts E.may_call E.target.is_object E.unit E.pending d E.waits (uses.in_expr e) (uses.in_expr a ++ uses.in_expr b) (in_expr_of e) (either (in_expr_of a) (in_expr_of b)) x in
          let r = parts E.may_call E.target.is_object E.unit E.pending d E.waits (uses.in_expr a) (uses.in_expr b) (in_expr_of a) (in_expr_of b) p.1 in
          left_runs E kept s t (code_of true d e ⨾ choice (val_option s) (code_of true d a) (code_of true d b)) (value_in_E (tree.choose s e a b)) h.1
          (chosen_runs E h.0 (code_of true d e) (code_of true d a) (code_of true d b) (val_option s) (value_in_E e) (value_in_E a) (value_in_E b) (pushes E t) (IsValue E t) (narrow_width h.0 h.2) (whole_expr E.target true d b)
          (expr_runs true d e (integer h.0) p.0 h.3) (expr_runs true d a t r.0 h.4) (expr_runs true d b t r.1 h.5))
      expr_runs kept d (tree.comma a b) t x h =
          let q = parts E.may_call E.target.is_object E.unit E.pending d E.waits (uses.in_expr a) (uses.in_expr b) (in_expr_of a) (in_expr_of b) x in
          op_then_in E [] (code_of false d a) (code_of kept d b) same (λ hs. gone E) (remains E kept t) (IsValue E h.0) (IsValue E t) (value_in_E a) (λ v. value_in_E b) (expr_runs false d a h.0 q.0 h.1)
          (λ gs grown v ok. op_any E gs (code_of kept d b) same (remains E kept t) (IsValue E t) (value_in_E b) (expr_runs kept d b t q.1 h.2))
      expr_runs kept d (tree.assign s p e) t x h =
          let q = parts E.may_call E.target.is_object E.unit E.pending d E.waits (uses.in_place p) (uses.in_expr e) (in_place_of p) (in_expr_of e) x in
          assigned kept d s p t (scalar_type t s h.0) (code_of true d e) (value_in_E e) h.0 h.1 (leads_run d p t q.0 h.1) (expr_runs true d e t q.1 h.2)
      expr_runs kept d (tree.update old u o v p e) t x h =
          let q = parts E.may_call E.target.is_object E.unit E.pending d E.waits (uses.in_place p) (uses.in_expr e) (in_place_of p) (in_expr_of e) x in
          as_type kept (code_of kept d (tree.update old u o v p e)) t u (value_in_E (tree.update old u o v p e)) h.0 (updates kept old d u v o p (code_of true d e) (value_in_E e) h.1 h.2 (leads_run d p (integer u) q.0 h.2) (expr_runs true d e (integer v) q.1 h.3))
      expr_runs kept d (tree.advance old u back p e) t x h =
          let q = parts E.may_call E.target.is_object E.unit E.pending d E.waits (uses.in_place p) (uses.in_expr e) (in_place_of p) (in_expr_of e) x in
          let slot = sized u h.1 in
          subst (λ (r : Ty). Carries E kept (code_of kept d (tree.advance old u back p e)) r (value_in_E (tree.advance old u back p e))) (sym h.0)
          (by_size E u slot (λ c m. Carries E kept (updated E.target kept old (plain_in E.target p) (code.place E.target d p) scalars.Pointer (moved c back (code_of true d e))) (pointer u) (advancing old m back p (value_in_E e)))
          (advances kept old d u back p (code_of true d e) (value_in_E e) slot h.2 (leads_run d p (pointer u) q.0 h.2) (expr_runs true d e (integer LongLong) q.1 h.3)))
      expr_runs kept d (tree.copy n p q) t x h =
          let both = behind_use E.may_call E.target.is_object E.unit E.pending d E.waits (copies n) (uses.in_place p ++ uses.in_place q) (either (in_place_of p) (in_place_of q)) x in
          let r = parts E.may_call E.target.is_object E.unit E.pending d E.waits (uses.in_place p) (uses.in_place q) (in_place_of p) (in_place_of q) both in
          subst (λ (s : Ty). Carries E kept (code_of kept d (tree.copy n p q)) s (value_in_E (tree.copy n p q))) (sym h.0)
          (copy_runs E n (sized (struct n) h.1) kept (code.place E.target d p) (code.place E.target d q) (place E.unit E.calls p) (place E.unit E.calls q)
          (leads_run d p (struct n) r.0 h.2 (whole_cell p (struct n) (λ never. never) h.2)) (leads_run d q (struct n) r.1 h.3 (whole_cell q (struct n) (λ never. never) h.3)))
      expr_runs kept d (tree.call f s es) t x h =
          let c = called E.may_call E.target.is_object E.unit E.pending d E.waits f (uses.in_exprs es) (in_exprs_of es) x in
          left_runs E kept s t (code.exprs E.target d es ⨾ one (Call (E.target.index f))) (value_in_E (tree.call f s es)) h.2
          (op_then_in E [] (code.exprs E.target d es) (one (Call (E.target.index f))) same (λ hs us vs. piled E h.0 hs us vs) (pushes E t) (λ hs us. AreOf E h.0 hs us) (IsValue E t) (exprs E.unit E.calls es) (E.calls f) (exprs_run d es h.0 c.1 h.3 (scalars_are f t h.0 h.1))
          (λ gs grown us ok. calls_run c.0.0 E.pending f t h.0 h.1 c.0.1 (Call (E.target.index f)) same (λ lt m w vs r. call_is E L home m w (E.target.index f) vs r lt) gs us ok))
      expr_runs kept d (tree.call_through f s e es) t x h =
          let q = through_parts E.may_call E.target.is_object E.unit E.pending d E.waits f (uses.in_expr e) (uses.in_exprs es) (in_expr_of e) (in_exprs_of es) x in
          let room = q.2.room in
          let c = code.exprs E.target (suc d) es in
          let y = exprs E.unit E.calls es in
          left_runs E kept s t (code_of true d e ⨾ one (LocalSet (waiting E.target d)) ⨾ c ⨾ plain (LocalGet (waiting E.target d) ∷ CallIndirect (E.target.sig f) ∷ [])) (value_in_E (tree.call_through f s e es)) h.2
          (through_runs E home f q.0.1 t h.0 h.1 d q.1.before (omega (arith, room))
          (λ n at is i above reach hs us ok. calls_run q.0.0 (suc d) n t h.0 (subst (λ (ts : List Ty). slice_get ts n ≡ Some (function t h.0)) (sym functions_are) at) is i above reach hs us ok)
          c y (args_run d q.1.before es h.0 q.2 h.4 (sound_scalars h.0 (subst (λ (g : Ty). Sound g) h.1 (sound_expr k sound e (pointer f) h.3)).1)) (code_of true d e) (value_in_E e) (expr_runs true d e (pointer f) q.1 h.3))
      expr_runs kept d (tree.putchar e) t x h =
          left_int kept (code_of true d e ⨾ one (Call 0)) t Int (value_in_E (tree.putchar e)) h.0 (putchar_runs E L home (code_of true d e) (value_in_E e) (expr_runs true d e (integer Int) x h.1))
      expr_runs kept d tree.getchar t x h = left_int kept (one (Call 1)) t Int (value_in_E tree.getchar) h (getchar_runs E L home)
      expr_runs kept d tree.abort t x h = subst (λ (q : Ty). Carries E kept (one (Call 2)) q (stop abort)) (sym h) (abort_runs E L home (remains E kept void))
      expr_runs kept d (tree.malloc u e) t x h =
          let slot = sized u h.2 in
          let c = allocated (type_size E.target.structs u) (bytes_in e) (code_of true d e) in
          subst (λ (r : Ty). Carries E kept (left kept (Some scalars.Pointer) c) r (value_in_E (tree.malloc u e))) (sym h.0)
          (left_runs E kept (Some scalars.Pointer) (pointer u) c (value_in_E (tree.malloc u e)) (pointer_scalar u slot.is_data)
          (malloc_runs E u slot (type_size E.target.structs u) (size_is u h.2) (bytes_in e) (code_of true d e) (value_in_E e) (λ b q. known_bytes E k e b q h.3) (expr_runs true d e (integer UnsignedInt) x h.3)))
      expr_runs kept d (tree.calloc u a b) t x h =
          let q = parts E.may_call E.target.is_object E.unit E.pending d E.waits (uses.in_expr a) (uses.in_expr b) (in_expr_of a) (in_expr_of b) x in
          let slot = sized u h.2 in
          let c = product_allocated (scratch_i64 E.target) (type_size E.target.structs u) (code_of true d a) (code_of true d b) in
          subst (λ (r : Ty). Carries E kept (left kept (Some scalars.Pointer) c) r (value_in_E (tree.calloc u a b))) (sym h.0)
          (left_runs E kept (Some scalars.Pointer) (pointer u) c (value_in_E (tree.calloc u a b)) (pointer_scalar u slot.is_data)
          (calloc_runs E u slot (type_size E.target.structs u) (size_is u h.2) (code_of true d a) (code_of true d b) (value_in_E a) (value_in_E b) (expr_runs true d a (integer UnsignedInt) q.0 h.3) (expr_runs true d b (integer UnsignedInt) q.1 h.4)))
      expr_runs kept d (tree.free e) t x h =
          subst (λ (q : Ty). Carries E kept (code_of kept d (tree.free e)) q (value_in_E (tree.free e))) (sym h.1)
          (free_runs E h.0 h.2 kept (code_of true d e) (value_in_E e) (expr_runs true d e (pointer h.0) x h.3))
      expr_runs kept d (tree.discard e) t x h =
          subst (λ (q : Ty). Carries E kept (code_of false d e) q (value_in_E (tree.discard e))) (sym h.1)
          (op_look_in E [] (code_of false d e) same (λ hs. gone E) (remains E kept void) (IsValue E h.0) (IsValue E void) (value_in_E e) (λ v. pure meaning.nothing_given) (expr_runs false d e h.0 x h.2)
          (λ gs grown v ok. (meaning.nothing_given, refl, λ vs. void_left kept v gs vs, tt)))
      expr_runs kept d (tree.visit p) t x h =
          subst (λ (q : Ty). Carries E kept (code.place E.target d p ⨾ one Drop) q (value_in_E (tree.visit p))) (sym h.1)
          (visit_runs E kept (code.place E.target d p) (struct h.0) (place E.unit E.calls p) (leads_run d p (struct h.0) x h.3 (whole_cell p (struct h.0) (λ never. never) h.3)))
      expr_runs kept d (tree.size_of_place n p) t x h = size_runs kept n t h.2 (small_size n _ h.4 h.3.1)
      expr_runs kept d (tree.size_of_value n e) t x h = size_runs kept n t h.2 (small_size n _ h.4 h.3.1)
      expr_runs kept d (tree.size_of_type n) t x h = size_type_runs kept n t h

      pub exprs_run : (d : ℕ) (es : Exprs) (ts : Tys) → IsReady E.may_call E.target.is_object E.unit E.pending d E.waits (uses.in_exprs es) (in_exprs_of es) → HaveTypes k es ts → AreScalars ts
          → OpIn E [] (code.exprs E.target d es) same (λ hs us vs. piled E ts hs us vs) (λ hs us. AreOf E ts hs us) (exprs E.unit E.calls es)
      exprs_run d none no_types x h i = op_none_in E [] same (λ hs us vs. piled E no_types hs us vs) (λ hs us. AreOf E no_types hs us) [] (λ gs grown. tt) (λ gs vs grown. refl)
      exprs_run d (more e es) (ty.types t ts) x h i =
          let q = parts E.may_call E.target.is_object E.unit E.pending d E.waits (uses.in_expr e) (uses.in_exprs es) (in_expr_of e) (in_exprs_of es) x in
          let all = λ (hs : List Home) (us : List Value) (vs : List Word). piled E (ty.types t ts) hs us vs in
          op_then_in E [] (code_of true d e) (code.exprs E.target d es) same (pushes E t) all (IsValue E t) (λ hs us. AreOf E (ty.types t ts) hs us) (value_in_E e) (λ v. exprs E.unit E.calls es >>= (λ vs. pure (v ∷ vs))) (expr_runs true d e t q.0 h.0)
          (λ gs grown v ok.
          op_look_in E gs (code.exprs E.target d es) (pushes E t gs v) (λ hs us vs. piled E ts hs us (pushes E t gs v vs)) all (λ hs us. AreOf E ts hs us) (λ hs us. AreOf E (ty.types t ts) hs us) (exprs E.unit E.calls es) (λ us. pure (v ∷ us))
          (op_over_in E gs (code.exprs E.target d es) same (pushes E t gs v) (λ hs us vs. piled E ts hs us vs) (λ hs us. AreOf E ts hs us) (exprs E.unit E.calls es)
          (op_any E gs (code.exprs E.target d es) same (λ hs us vs. piled E ts hs us vs) (λ hs us. AreOf E ts hs us) (exprs E.unit E.calls es) (exprs_run d es ts q.1 h.1 i.1)))
          (λ hs grown us oks. (v ∷ us, refl, λ vs. ap (piled E ts hs us) (arg_is t i.0 gs hs grown v vs ok), (value_still E.unit.structs E.places gs hs grown t v ok, oks))))
      exprs_run d none (ty.types t ts) x h i = absurd h
      exprs_run d (more e es) no_types x h i = absurd h

-- ---- arguments, by how many values may still wait

pub args_all : (n : ℕ) (E : Env) (L : Linked E.site) (home : AtHome E) (k : well.Context) (slots_are : k.slots ≡ E.slots) (calls_run : CallsRun E L home k slots_are)
    → ((f : ℕ) (t : Ty) (ps : Tys) → slice_get k.functions f ≡ Some (function t ps) → AreScalars E L home k slots_are ps) → ((x : ℕ) (t : Ty) → slice_get k.slots x ≡ Some t → E.target.is_object (Local x) ≡ false → IsData t)
    → k.visible ≡ E.visible → k.structs ≡ E.unit.structs → k.functions ≡ types_of E.unit → AreSoundNames k.structs k.globals k.slots k.functions → NamesOf E.unit.structs E.files E.reached E.target k.globals k.literals → E.waits ≤ E.pending + n → ArgsRun E L home k slots_are
args_all zero E L home k slots_are calls_run scalars_are slots_data visible_are structs_same functions_are sound names most d before es ts x h i = absurd (let room = x.room in omega (arith, most, before, room))
args_all (suc n) E L home k slots_are calls_run scalars_are slots_data visible_are structs_same functions_are sound names most d before es ts x h i =
    let Ed = beside (suc d) E in
    exprs_run Ed L home k slots_are calls_run
    (args_all n Ed L home k slots_are calls_run scalars_are slots_data visible_are structs_same functions_are sound names (omega (arith, most, before)))
    scalars_are slots_data visible_are structs_same functions_are sound names (suc d) es ts x h i
