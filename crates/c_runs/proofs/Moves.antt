-- Pointers that are moved by a number of elements (C11, 6.5.6).
use Rattle.std.proofs.Common.{◌≡◌, ◌⊎◌, inl, inr, ℕ, zero, suc, ◌<◌, ◌≤◌, List, [], ◌∷◌, length, Bool, true, false, Some, None, refl, sym, ap, ◌∙◌, arith, subst}
use Rattle.std.specs.Prelude.{ℤ, pos, negsuc, neg_ℤ, slice_get}
use Rattle.std.proofs.lemmas.Bool.{cases_lt}
use Rattle.ms_linear.specs.declared.value.Value.{Value as Word}
use Rattle.ms_linear.specs.declared.value.Value.TheVariants.{Handle, I64}
use Rattle.ms_machine.specs.Step as step
use Rattle.ms_machine.specs.Step.{act}
use Rattle.ms_module.specs.declared.access.Segment.TheVariants as segment
use Rattle.ms_module.specs.declared.instr.Instr.TheVariants.{LocalGet, LocalSet, Segment}
use Rattle.ms_module.specs.declared.numeric.BinOp.TheVariants as bins
use Rattle.ms_module.specs.declared.numeric.Width.TheVariants.{W64}
use Rattle.ms_num.specs.Integers.{wrapped}
use Rattle.ms_task.specs.Thread.{Do, Frame, Item, thread}
use Rattle.c_types.specs.declared.integers.IntType.TheVariants.{LongLong}
use Rattle.c_types.specs.Layout.{Table, size as type_size}
use Rattle.c_types.specs.Types.{Ty, integer, pointer, is_function}
use Rattle.c_meaning.specs.Integers.{wrap}
use Rattle.c_meaning.specs.Shapes.{shape, size}
use Rattle.c_meaning.specs.Values.{Value}
use Rattle.c_meaning.specs.Objects as objects
use Rattle.c_meaning.specs.World.{gives, Does, ◌>>=◌, pure}
use Rattle.c_meaning.specs.Expressions as meaning
use Rattle.c_meaning.specs.Expressions.{back_if}
use Rattle.ms_emit.specs.Codes.{Code, plain, one, ◌⨾◌}
use Rattle.c_code.specs.Expressions.{moved, moved_by}
use Rattle.c_code.specs.Operations.{i64, op}
use Rattle.c_code.specs.Targets.{scratch_handle, scratch_i64}
use Rattle.c_numbers.specs.Operands.{IsIn, operand}
use Rattle.c_numbers.proofs.Conversions.{constant_is}
use Rattle.c_numbers.proofs.Operators.{negation}
use Rattle.c_numbers.proofs.Ranges.{wrap_in}
use Rattle.c_numbers.proofs.Wrapping.{high_is, in_negative, in_positive, negative_range, positive_range}
use Rattle.ms_relate.specs.refinement.Homes as homes
use Rattle.ms_relate.specs.refinement.Homes.{Home, handle}
use Rattle.ms_relate.proofs.Acts.{act_gives, add_acts}
use Rattle.ms_relate.proofs.Distances.{farthest_back}
use Rattle.ms_relate.proofs.Growing.{Extends}
use Rattle.ms_relate.proofs.Laid.{size-positive}
use Rattle.ms_relate.proofs.Moving.{moved_is_of}
use Rattle.c_runs.proofs.Goes as goes
use Rattle.c_runs.proofs.Goes.{Goes, Mem, Runs, RunsTo, behind_goes, goes_on, one_here}
use Rattle.c_runs.proofs.Held.{set_elsewhere, set_there}
use Rattle.c_runs.proofs.Values.{value_still, word_of, word_still}
use Rattle.c_runs.proofs.Related.{Env, IsSlot, IsValue, Kept, extends_trans, frame_of, pushes}
use Rattle.c_runs.proofs.Ops.{OpIn, Stack, at_work, op_any, op_carried, op_over_in, op_seen_in, op_then_in, same}
use Rattle.c_runs.proofs.Nodes.{Always, Leaves, Num, op_integer}
use Rattle.c_runs.proofs.Switches.{IsTemp, get_temp, set_goes, set_stays, with_temp}
use Rattle.c_runs.proofs.Cells.{pointer_word}

-- ---- so many elements back, where the number is negated in 64 bits

abbrev IsBack : ℕ → Value → ℤ → Type 0
IsBack n v i = objects.moved n (wrap LongLong (neg_ℤ i)) v ≡ objects.moved n (neg_ℤ i) v

-- the least number is its own negation
least_negated : wrap LongLong (pos 9223372036854775808) ≡ negsuc 9223372036854775807
least_negated = high_is W64 9223372036854775808 (omega arith) (omega arith)

module _ (table : Table) (places : Ty → ℕ → ℕ) (hs : List Home) (t : Ty) (v : Value) (data_is : is_function t ≡ false) (some : 0 < size (shape table t)) (of : homes.IsOf table places hs (pointer t) v) where
  abbrev n : ℕ
  n = size (shape table t)

  in_range_back : (i : ℤ) → IsIn LongLong (neg_ℤ i) → IsBack n v i
  in_range_back i is = ap (λ (d : ℤ). objects.moved n d v) is

  farthest : IsBack n v (negsuc 9223372036854775807)
  farthest = ap (λ (d : ℤ). objects.moved n d v) least_negated ∙ farthest_back table places hs t v data_is some of

  moved_back : (i : ℤ) → IsIn LongLong i → IsBack n v i
  moved_back (pos zero) is = refl
  moved_back (pos (suc k)) is = in_range_back (pos (suc k)) (in_negative W64 k (let h = positive_range W64 (suc k) is in omega (arith, h)))
  moved_back (negsuc k) is = by (cases_lt (suc k) 9223372036854775808) where
    by : (suc k < 9223372036854775808) ⊎ (9223372036854775808 ≤ suc k) → IsBack n v (negsuc k)
    by (inl less) = in_range_back (negsuc k) (in_positive W64 (suc k) less)
    by (inr past) = let h = negative_range W64 k is in let e : 9223372036854775807 ≡ k = omega (arith, past, h) in subst (λ (j : ℕ). IsBack n v (negsuc j)) e farthest

module _ (E : Env) (t : Ty) (slot : IsSlot E.unit.structs t) where
  abbrev pub bytes : ℕ
  bytes = size (shape E.unit.structs t)

  abbrev P : List Home → Value → Stack
  P = pushes E (pointer t)

  abbrev Is : List Home → Value → Type 0
  Is = IsValue E (pointer t)

  pub some_bytes : 0 < bytes
  some_bytes = size-positive (shape E.unit.structs t) slot.fits

  -- the type's size, in code and in the meaning
  pub by_size : (Q : (code meant : ℕ) → Type 0) → Q bytes bytes → Q (type_size E.target.structs t) (type_size E.unit.structs t)
  by_size Q h =
      let meant : type_size E.unit.structs t ≡ bytes = sym slot.sized in
      let code : type_size E.target.structs t ≡ bytes = ap (λ (table : Table). type_size table t) E.structs_are ∙ meant in
      subst (λ (c : ℕ). Q c (type_size E.unit.structs t)) (sym code) (subst (λ (m : ℕ). Q bytes m) (sym meant) h)

  -- ---- one step

  add_act : (m : Mem) (d : ℤ) (p : Value) → IsIn LongLong d → Is m.homes p → (fr : Frame) (vs : List Word) (r : List Item)
      → act (goes.store E.site m) (Segment (segment.Add bytes)) (thread fr (Num E LongLong d (Handle (handle m.homes p) ∷ vs)) r) ≡ step.Next (goes.store E.site m) (thread fr (P m.homes (objects.moved bytes d p) vs) r) None
  add_act m d p is ok fr vs r =
      let q = objects.moved bytes d p in
      act_gives (goes.store E.site m) fr r (segment.Add bytes) (Num E LongLong d (Handle (handle m.homes p) ∷ vs)) (Handle (handle m.homes q) ∷ vs) m.segments None (add_acts E.unit.structs E.places m.homes m.segments vs t d p is ok slot.is_data some_bytes)
      ∙ ap (λ (x : Word). step.Next (goes.store E.site m) (thread fr (x ∷ vs) r) None) (sym (pointer_word E t m.homes q slot.is_data))

  -- a pointer as a handle where more objects have homes
  handle_word : (gs hs : List Home) → Extends gs hs → (p : Value) → Is gs p → word_of E.places (pointer t) gs p ≡ Handle (handle hs p)
  handle_word gs hs grown p ok = sym (word_still E.unit.structs E.places gs hs grown (pointer t) p ok) ∙ pointer_word E t hs p slot.is_data

  add_step : (gs hs : List Home) → Extends gs hs → (p : Value) → Is gs p → (d : ℤ) → IsIn LongLong d → OpIn E hs (one (Segment (segment.Add bytes))) (λ vs. Num E LongLong d (P gs p vs)) P Is (pure (objects.moved bytes d p))
  add_step gs hs grown p okp d is n has now le vs r dep w m k ag =
      let far = extends_trans gs hs m.homes grown (extends_trans hs now.homes m.homes le.grown k.grown) in
      let p' = value_still E.unit.structs E.places gs m.homes far (pointer t) p okp in
      let fr = frame_of E m w in
      let q = objects.moved bytes d p in
      let i = Segment (segment.Add bytes) in (
        m,
        (moved_is_of E.unit.structs E.places m.homes t d p p' slot.is_data, k),
        one_here E.site w m m i fr (Num E LongLong d (P gs p vs)) r (thread fr (P m.homes q vs) r)
            (ap (λ (x : Word). act (goes.store E.site m) i (thread fr (Num E LongLong d (x ∷ vs)) r)) (handle_word gs m.homes far p okp) ∙ add_act m d p is p' fr vs r),
      )

  -- ---- a number behind the pointer

  module _ (b : Code) (y : Does Value) (rb : Leaves E b (integer LongLong) y) (gs : List Home) (p : Value) (okp : Is gs p) where
    abbrev pub goes_by : Bool → Does Value
    goes_by back = meaning.integer y >>= (λ i. pure (objects.moved bytes (back_if back i) p))

    -- the number over other operands
    number_over : (hs : List Home) (under : Stack) → OpIn E hs b under (λ js i vs. Num E LongLong i (under vs)) (λ js. IsIn LongLong) (meaning.integer y)
    number_over hs under =
        op_over_in E hs b same under (λ js. Num E LongLong) (λ js. IsIn LongLong) (meaning.integer y) (op_any E hs b same (λ js. Num E LongLong) (λ js. IsIn LongLong) (meaning.integer y) (op_integer E LongLong b y rb))

    on_runs : OpIn E gs (moved bytes false b) (P gs p) P Is (goes_by false)
    on_runs =
        op_then_in E gs b (one (Segment (segment.Add bytes))) (P gs p) (λ hs i vs. Num E LongLong i (P gs p vs)) P (λ hs. IsIn LongLong) Is (meaning.integer y) (λ i. pure (objects.moved bytes i p)) (number_over gs (P gs p))
        (λ hs grown i is. add_step gs hs grown p okp i is)

    abbrev Zero : Stack
    Zero vs = operand W64 (pos 0) ∷ P gs p vs

    -- the number is negated, and the pointer moved by that
    negated_runs : (hs : List Home) → Extends gs hs → (i : ℤ) → IsIn LongLong i → OpIn E hs (plain (op W64 bins.Sub ∷ Segment (segment.Add bytes) ∷ [])) (λ vs. Num E LongLong i (Zero vs)) P Is (pure (objects.moved bytes (neg_ℤ i) p))
    negated_runs hs grown i is =
        let d = wrap LongLong (neg_ℤ i) in
        let sub = one (op W64 bins.Sub) in
        let add = one (Segment (segment.Add bytes)) in
        op_seen_in E hs (sub ⨾ add) (λ vs. Num E LongLong i (Zero vs)) P Is (pure d >>= (λ e. pure (objects.moved bytes e p))) (pure (objects.moved bytes (neg_ℤ i) p))
        (λ w. ap (λ (q : Value). gives q w) (moved_back E.unit.structs E.places gs t p slot.is_data some_bytes okp i is))
        (op_then_in E hs sub add (λ vs. Num E LongLong i (Zero vs)) (λ js e vs. Num E LongLong e (P gs p vs)) P (λ js. IsIn LongLong) Is (pure d) (λ e. pure (objects.moved bytes e p))
        (op_any E hs sub (λ vs. Num E LongLong i (Zero vs)) (λ js e vs. Num E LongLong e (P gs p vs)) (λ js. IsIn LongLong) (pure d)
        (op_carried E (op W64 bins.Sub) (λ vs. Num E LongLong i (Zero vs)) (λ e vs. Num E LongLong e (P gs p vs)) (IsIn LongLong) d (wrap_in LongLong (neg_ℤ i)) (λ vs. negation LongLong refl i (P gs p vs))))
        (λ js grown' e ie. add_step gs js (extends_trans gs hs js grown grown') p okp e ie))

    back_runs : OpIn E gs (moved bytes true b) (P gs p) P Is (goes_by true)
    back_runs =
        let nought = one (i64 0) in
        let rest = plain (op W64 bins.Sub ∷ Segment (segment.Add bytes) ∷ []) in
        op_then_in E gs nought (b ⨾ rest) (P gs p) (λ hs u. Zero) P (λ hs. Always E) Is (pure tt) (λ u. goes_by true)
        (op_any E gs nought (P gs p) (λ hs u. Zero) (λ hs. Always E) (pure tt) (op_carried E (i64 0) (P gs p) (λ u. Zero) (Always E) tt tt (λ vs. constant_is W64 (pos 0) (P gs p vs))))
        (λ hs grown u ok.
        op_then_in E hs b rest Zero (λ js i vs. Num E LongLong i (Zero vs)) P (λ js. IsIn LongLong) Is (meaning.integer y) (λ i. pure (objects.moved bytes (neg_ℤ i) p)) (number_over hs Zero)
        (λ js grown' i is. negated_runs js (extends_trans gs hs js grown grown') i is))

    pub goes_by_runs : (back : Bool) → OpIn E gs (moved bytes back b) (P gs p) P Is (goes_by back)
    goes_by_runs true = back_runs
    goes_by_runs false = on_runs

  pub move_runs : (back : Bool) (a b : Code) (x y : Does Value) → Leaves E a (pointer t) x → Leaves E b (integer LongLong) y
      → Leaves E (a ⨾ moved (type_size E.target.structs t) back b) (pointer t) (x >>= (λ p. meaning.integer y >>= (λ i. pure (objects.moved (type_size E.unit.structs t) (back_if back i) p))))
  move_runs back a b x y ra rb =
      by_size (λ c m. Leaves E (a ⨾ moved c back b) (pointer t) (x >>= (λ p. meaning.integer y >>= (λ i. pure (objects.moved m (back_if back i) p)))))
      (op_then_in E [] a (moved bytes back b) same P P Is Is x (λ p. meaning.integer y >>= (λ i. pure (objects.moved bytes (back_if back i) p))) ra
      (λ gs grown p okp. goes_by_runs b y rb gs p okp back))

  -- ---- a number in front of the pointer: the two change places by way of scratch locals

  is_number : IsTemp E (scratch_i64 E.target) 1
  is_number = let e = E.scratch_is in omega (arith, e)

  is_handle : IsTemp E (scratch_handle E.target) 2
  is_handle = let e = E.scratch_is in omega (arith, e)

  abbrev swaps : Code
  swaps = plain (LocalSet (scratch_handle E.target) ∷ LocalSet (scratch_i64 E.target) ∷ LocalGet (scratch_handle E.target) ∷ LocalGet (scratch_i64 E.target) ∷ Segment (segment.Add bytes) ∷ [])

  module _ (i : ℤ) (is : IsIn LongLong i) (hs : List Home) (p : Value) (okp : Is hs p) where
    swapped : OpIn E hs swaps (λ vs. P hs p (Num E LongLong i vs)) P Is (pure (objects.moved bytes i p))
    swapped n has now le vs r dep w m k ag =
        let more = extends_trans hs now.homes m.homes le.grown k.grown in
        let p' = value_still E.unit.structs E.places hs m.homes more (pointer t) p okp in
        let q = objects.moved bytes i p in
        let xh = scratch_handle E.target in
        let xi = scratch_i64 E.target in
        let H = Handle (handle m.homes p) in
        let N = I64 (wrapped 64 i) in
        let m1 = with_temp E m 2 H in
        let m2 = with_temp E m1 1 N in
        let long = k.temps.long in
        let in2 : 2 < length m.temps = omega (arith, long) in
        let k1 : Kept E now w m1 = set_stays E now w.objects w m 2 H (λ j lt e. omega (arith, e)) k in
        let long1 = k1.temps.long in
        let in1 : 1 < length m1.temps = omega (arith, long1) in
        let k2 : Kept E now w m2 = set_stays E now w.objects w m1 1 N (λ j lt e. omega (arith, e)) k1 in
        let at_h : slice_get m2.temps 2 ≡ Some H = set_elsewhere m1.temps 1 2 N (λ e. omega (arith, e)) ∙ set_there m.temps 2 H in2 in
        let at_i : slice_get m2.temps 1 ≡ Some N = set_there m1.temps 1 N in1 in
        let r4 = Do (Segment (segment.Add bytes)) ∷ r in
        let r3 = Do (LocalGet xi) ∷ r4 in
        let r2 = Do (LocalGet xh) ∷ r3 in
        let r1 = Do (LocalSet xi) ∷ r2 in
        let r0 = Do (LocalSet xh) ∷ r1 in
        let fr = frame_of E m2 w in (
          m2,
          (moved_is_of E.unit.structs E.places m.homes t i p p' slot.is_data, k2),
          subst (λ (x : Word). Goes E.site 5 w w m (at_work E m w (x ∷ N ∷ vs) r0) m2 (at_work E m2 w (P m.homes q vs) r)) (sym (handle_word hs m.homes more p okp))
              (goes_on E.site 1 4 w w w m m1 m2 (at_work E m w (H ∷ N ∷ vs) r0) (at_work E m1 w (N ∷ vs) r1) (at_work E m2 w (P m.homes q vs) r)
              (set_goes E w m k.held xh 2 is_handle in2 H (N ∷ vs) r1)
              (goes_on E.site 1 3 w w w m1 m2 m2 (at_work E m1 w (N ∷ vs) r1) (at_work E m2 w vs r2) (at_work E m2 w (P m.homes q vs) r)
              (set_goes E w m1 k1.held xi 1 is_number in1 N vs r2)
              (goes_on E.site 1 2 w w w m2 m2 m2 (at_work E m2 w vs r2) (at_work E m2 w (H ∷ vs) r3) (at_work E m2 w (P m.homes q vs) r)
              (one_here E.site w m2 m2 (LocalGet xh) fr vs r3 (thread fr (H ∷ vs) r3) (get_temp E w m2 k2.held xh 2 is_handle H at_h vs r3))
              (goes_on E.site 1 1 w w w m2 m2 m2 (at_work E m2 w (H ∷ vs) r3) (at_work E m2 w (N ∷ H ∷ vs) r4) (at_work E m2 w (P m.homes q vs) r)
              (one_here E.site w m2 m2 (LocalGet xi) fr (H ∷ vs) r4 (thread fr (N ∷ H ∷ vs) r4) (get_temp E w m2 k2.held xi 1 is_number N at_i (H ∷ vs) r4))
              (one_here E.site w m2 m2 (Segment (segment.Add bytes)) fr (N ∷ H ∷ vs) r (thread fr (P m.homes q vs) r) (add_act m2 i p is p' fr vs r)))))),
        )

  pub move_by_runs : (a b : Code) (x y : Does Value) → Leaves E a (integer LongLong) x → Leaves E b (pointer t) y
      → Leaves E (moved_by E.target (type_size E.target.structs t) a b) (pointer t) (meaning.integer x >>= (λ i. y >>= (λ p. pure (objects.moved (type_size E.unit.structs t) i p))))
  move_by_runs a b x y ra rb =
      by_size (λ c m. Leaves E (moved_by E.target c a b) (pointer t) (meaning.integer x >>= (λ i. y >>= (λ p. pure (objects.moved m i p)))))
      (op_then_in E [] a (b ⨾ swaps) same (λ hs. Num E LongLong) P (λ hs. IsIn LongLong) Is (meaning.integer x) (λ i. y >>= (λ p. pure (objects.moved bytes i p))) (op_integer E LongLong a x ra)
      (λ gs grown i is.
      op_then_in E gs b swaps (Num E LongLong i) (λ hs p vs. P hs p (Num E LongLong i vs)) P Is Is y (λ p. pure (objects.moved bytes i p)) (op_over_in E gs b same (Num E LongLong i) P Is y (op_any E gs b same P Is y rb))
      (λ hs grown' p okp. swapped i is hs p okp)))
