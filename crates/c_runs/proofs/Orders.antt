-- How far apart two pointers are, and which of them comes first (C11, 6.5.6 and 6.5.8).
use Rattle.std.proofs.Common.{◌≡◌, ℕ, zero, suc, ◌/◌, ◌<◌, ◌≤◌, ◌≤ℤ◌, List, [], ◌∷◌, Bool, false, None, refl, sym, ap, ◌∙◌, arith, subst, div-le_self}
use Rattle.std.specs.Prelude.{ℤ, pos, negsuc, neg_ℤ, int_div, int_le, if◌then◌else◌}
use Rattle.std.proofs.lemmas.Int.{ints}
use Rattle.ms_linear.specs.declared.value.Value.{Value as Word}
use Rattle.ms_linear.specs.declared.value.Value.TheVariants.{Handle, I64}
use Rattle.ms_machine.specs.Segments.{segment_on}
use Rattle.ms_module.specs.declared.access.Segment.TheVariants as segment
use Rattle.ms_module.specs.declared.instr.Instr.TheVariants.{Segment}
use Rattle.ms_module.specs.declared.numeric.BinOp.TheVariants as bins
use Rattle.ms_module.specs.declared.numeric.Width.TheVariants.{W64}
use Rattle.ms_num.specs.Integers.{wrapped}
use Rattle.ms_task.specs.Thread.{Do, Item, thread}
use Rattle.c_types.specs.declared.integers.IntType.TheVariants.{Int, LongLong}
use Rattle.c_types.specs.Layout.{size as type_size}
use Rattle.c_types.specs.Types.{Ty, integer, pointer, is_function}
use Rattle.c_typed.specs.declared.ops.BinaryOp.TheVariants as ops
use Rattle.c_typed.specs.declared.ops.RelOp.{RelOp}
use Rattle.c_meaning.specs.Integers.{compared, is_past, operated, wrap}
use Rattle.c_meaning.specs.Values.{Value, number}
use Rattle.c_meaning.specs.Objects as objects
use Rattle.c_meaning.specs.Objects.{Outcome, distance}
use Rattle.c_meaning.specs.Expressions as meaning
use Rattle.c_meaning.specs.World.{unsafe, overflow, World, Does, after, ask, as_done, ◌>>=◌, pure, stop}
use Rattle.ms_emit.specs.Codes.{Code, plain, one, ◌⨾◌}
use Rattle.c_code.specs.Operations as code
use Rattle.c_code.specs.Operations.{i64, op}
use Rattle.c_numbers.specs.Operands.{IsIn, operand}
use Rattle.c_numbers.proofs.Conversions.{constant_is}
use Rattle.c_numbers.proofs.Operators.{comparison, operation}
use Rattle.c_numbers.proofs.Wrapping.{in_negative, in_positive}
use Rattle.ms_relate.specs.refinement.Acts.{DiffActs, diff_gives, diff_traps}
use Rattle.ms_relate.specs.refinement.Homes.{Home, handle}
use Rattle.ms_relate.proofs.Acts.{act_gives, act_traps, diff_acts}
use Rattle.ms_relate.proofs.Distances.{IsShort, distance_short}
use Rattle.ms_relate.proofs.Growing.{Extends}
use Rattle.c_runs.specs.Words.{pushed}
use Rattle.c_runs.proofs.Goes as goes
use Rattle.c_runs.proofs.Goes.{Mem, RunsTo, one_here, trapped}
use Rattle.c_runs.proofs.Values.{IsOf, value_still, word_of, word_still}
use Rattle.c_runs.proofs.Related.{Env, IsSlot, IsValue, Kept, Now, extends_trans, frame_of, pushes}
use Rattle.c_runs.proofs.Ops.{GoodIn, Op, OpIn, Stack, ToIn, at_work, op_agree, op_any, op_carried, op_look, op_over_in, op_seen, op_then, op_then_in, same}
use Rattle.c_runs.proofs.Nodes.{Always, Leaves, Num}
use Rattle.c_runs.proofs.Operations.{truth_in}
use Rattle.c_runs.proofs.Steps.{trap_is}
use Rattle.c_runs.proofs.Cells.{pointer_word}
use Rattle.c_runs.proofs.Moves.{by_size, bytes, some_bytes}

-- ---- distances are numbers of 64 bits

short_long : (z : ℤ) → IsShort z → IsIn LongLong z
short_long (pos n) short = let h = short.most in in_positive W64 n (omega (arith, ints, h))
short_long (negsuc n) short = let h = short.least in in_negative W64 n (omega (arith, ints, h))

short_positive : (n : ℕ) → n ≤ 4398046511104 → IsShort (pos n)
short_positive n le = record { least = omega (arith, ints); most = omega (arith, ints, le) }

short_negative : (n : ℕ) → n ≤ 4398046511104 → IsShort (neg_ℤ (pos n))
short_negative zero le = record { least = omega (arith, ints); most = omega (arith, ints) }
short_negative (suc n) le = record { least = omega (arith, ints, le); most = omega (arith, ints) }

short_quotient : (z : ℤ) (n : ℕ) → IsShort z → IsShort (int_div z (pos n))
short_quotient (pos a) n short = let h = short.most in let le = div-le_self a n in short_positive (a / n) (omega (arith, ints, h, le))
short_quotient (negsuc a) n short = let h = short.least in let le = div-le_self (suc a) n in short_negative (suc a / n) (omega (arith, ints, h, le))

not_past : (z : ℤ) → IsShort z → is_past LongLong z ≡ false
not_past z short = let h = short.most in by z h where
  by : (z : ℤ) → z ≤ℤ pos 4398046511104 → int_le (pos 9223372036854775808) z ≡ false
  by z h = grind (arith, ints)

-- a distance as a number of elements
divided : (z : ℤ) (n : ℕ) → 0 < n → IsShort z → operated ops.Div LongLong z (pos n) ≡ pure (int_div z (pos n))
divided z zero some short = absurd (omega (arith, some))
divided z (suc n) some short =
    let q = int_div z (pos (suc n)) in
    let fits = short_quotient z (suc n) short in
    ap (λ (b : Bool). if b then stop overflow else pure (wrap LongLong q)) (not_past q fits) ∙ ap (λ (y : ℤ). pure y) (short_long q fits)

module _ (E : Env) (t : Ty) (data_is : is_function t ≡ false) where
  abbrev P : List Home → Value → Stack
  P = pushes E (pointer t)

  abbrev Is : List Home → Value → Type 0
  Is = IsValue E (pointer t)

  abbrev Two : List Home → List Home → Value → Value → Stack
  Two gs hs p q vs = P hs q (P gs p vs)

  abbrev Far : List Home → ℤ → Type 0
  Far hs = IsShort

  -- ---- one step

  abbrev handles : List Home → Value → Value → List Word → List Word
  handles hs p q vs = Handle (handle hs q) ∷ Handle (handle hs p) ∷ vs

  diff_by : (now : Now) (vs : List Word) (r : List Item) (w : World) (m : Mem) → Kept E now w m → (p q : Value) (o : Outcome ℤ) → ((z : ℤ) → o ≡ objects.gives z → IsShort z)
      → DiffActs m.segments (λ rest. segment_on segment.Diff m.segments (handles m.homes p q rest)) o
      → RunsTo E.site 1 m (at_work E m w (handles m.homes p q vs) (Do (Segment segment.Diff) ∷ r)) w (ToIn E (λ js. Num E LongLong) vs r) (GoodIn E Far now) (as_done o w)
  diff_by now vs r w m k p q (objects.gives z) short (diff_gives is) =
      let fr = frame_of E m w in (
        m,
        (short z refl, k),
        one_here E.site w m m (Segment segment.Diff) fr (handles m.homes p q vs) r (thread fr (I64 (wrapped 64 z) ∷ vs) r)
            (act_gives (goes.store E.site m) fr r segment.Diff (handles m.homes p q vs) (I64 (wrapped 64 z) ∷ vs) m.segments None (is vs)),
      )
  diff_by now vs r w m k p q (objects.stops u) short (diff_traps {k = kind} traps is) =
      let fr = frame_of E m w in
      trapped E.site w m (Segment segment.Diff) fr (handles m.homes p q vs) r kind (unsafe u)
      (act_traps (goes.store E.site m) fr r segment.Diff (handles m.homes p q vs) kind (is vs)) tt (trap_is u kind traps) tt
  diff_by now vs r w m k p q objects.lost short x = elim x [ ]

  diff_step : (gs hs : List Home) → Extends gs hs → (p q : Value) → Is gs p → Is hs q → OpIn E hs (one (Segment segment.Diff)) (Two gs hs p q) (λ js. Num E LongLong) Far (ask (λ os. distance os p q))
  diff_step gs hs grown p q okp okq n has now le vs r dep w m k ag =
      let more = extends_trans hs now.homes m.homes le.grown k.grown in
      let far = extends_trans gs hs m.homes grown more in
      let p' = value_still E.unit.structs E.places gs m.homes far (pointer t) p okp in
      let q' = value_still E.unit.structs E.places hs m.homes more (pointer t) q okq in
      let p_is : word_of E.places (pointer t) gs p ≡ Handle (handle m.homes p) = sym (word_still E.unit.structs E.places gs m.homes far (pointer t) p okp) ∙ pointer_word E t m.homes p data_is in
      let q_is : word_of E.places (pointer t) hs q ≡ Handle (handle m.homes q) = sym (word_still E.unit.structs E.places hs m.homes more (pointer t) q okq) ∙ pointer_word E t m.homes q data_is in
      subst (λ (us : List Word). RunsTo E.site 1 m (at_work E m w us (Do (Segment segment.Diff) ∷ r)) w (ToIn E (λ js. Num E LongLong) vs r) (GoodIn E Far now) (as_done (distance w.objects p q) w))
      (sym (ap (λ (x : Word). x ∷ word_of E.places (pointer t) gs p ∷ vs) q_is ∙ ap (λ (x : Word). Handle (handle m.homes q) ∷ x ∷ vs) p_is))
      (diff_by now vs r w m k p q (distance w.objects p q) (distance_short E.unit.structs E.places m.homes w.objects m.segments t t p q k.related data_is data_is p' q')
      (diff_acts E.unit.structs E.places m.homes m.segments w.objects t t p q k.related data_is data_is p' q'))

  -- ---- the distance of two pointers, and what is done with it

  module _ (a b : Code) (x y : Does Value) (ra : Leaves E a (pointer t) x) (rb : Leaves E b (pointer t) y) where
    distance_then : (c : Code) (f : ℤ → Does Value) (post : Value → Stack) (Ok : Value → Type 0) → ((z : ℤ) → IsShort z → Op E c (Num E LongLong z) post Ok (f z))
        → OpIn E [] (a ⨾ (b ⨾ (one (Segment segment.Diff) ⨾ c))) same (λ hs. post) (λ hs. Ok) (x >>= (λ p. y >>= (λ q. ask (λ os. distance os p q) >>= f)))
    distance_then c f post Ok g =
        let diff = one (Segment segment.Diff) in
        op_then_in E [] a (b ⨾ (diff ⨾ c)) same P (λ hs. post) Is (λ hs. Ok) x (λ p. y >>= (λ q. ask (λ os. distance os p q) >>= f)) ra
        (λ gs grown p okp.
        op_then_in E gs b (diff ⨾ c) (P gs p) (λ hs q. Two gs hs p q) (λ hs. post) Is (λ hs. Ok) y (λ q. ask (λ os. distance os p q) >>= f)
        (op_over_in E gs b same (P gs p) P Is y (op_any E gs b same P Is y rb))
        (λ hs grown' q okq.
        op_then_in E hs diff c (Two gs hs p q) (λ js. Num E LongLong) (λ js. post) Far (λ js. Ok) (ask (λ os. distance os p q)) f (diff_step gs hs grown' p q okp okq)
        (λ js grown'' z short. op_any E js c (Num E LongLong z) (λ ks. post) (λ ks. Ok) (f z) (g z short))))

    -- ---- order

    abbrev Below : ℕ → ℤ → Stack
    Below n z vs = operand W64 (pos n) ∷ Num E LongLong z vs

    nought : (n : ℕ) (z : ℤ) → Op E (one (i64 n)) (Num E LongLong z) (λ u. Below n z) (Always E) (pure tt)
    nought n z = op_carried E (i64 n) (Num E LongLong z) (λ u. Below n z) (Always E) tt tt (λ vs. constant_is W64 (pos n) (Num E LongLong z vs))

    order_at : (o : RelOp) (z : ℤ) → IsShort z → Op E (plain (i64 0 ∷ code.compared o LongLong ∷ [])) (Num E LongLong z) (pushed (integer Int)) (IsOf (integer Int)) (pure (meaning.truth (compared o z (pos 0))))
    order_at o z short =
        op_then E (one (i64 0)) (one (code.compared o LongLong)) (Num E LongLong z) (λ u. Below 0 z) (pushed (integer Int)) (Always E) (IsOf (integer Int)) (pure tt) (λ u. pure (meaning.truth (compared o z (pos 0)))) (nought 0 z)
        (λ u ok.
        op_carried E (code.compared o LongLong) (Below 0 z) (pushed (integer Int)) (IsOf (integer Int)) (meaning.truth (compared o z (pos 0))) (truth_in (compared o z (pos 0)))
        (λ vs. comparison o LongLong refl z (pos 0) vs (short_long z short) refl))

    pub order_runs : (o : RelOp) → Leaves E (a ⨾ b ⨾ plain (Segment segment.Diff ∷ i64 0 ∷ code.compared o LongLong ∷ [])) (integer Int) (x >>= (λ p. y >>= (λ q. ask (λ os. distance os p q) >>= (λ d. pure (meaning.truth (compared o d (pos 0)))))))
    order_runs o = distance_then (plain (i64 0 ∷ code.compared o LongLong ∷ [])) (λ d. pure (meaning.truth (compared o d (pos 0)))) (pushed (integer Int)) (IsOf (integer Int)) (order_at o)

    -- ---- the difference in elements

    module _ (n : ℕ) (some : 0 < n) (small : n < 4294967296) where
      abbrev in_elements : ℤ → Value
      in_elements d = number (int_div d (pos n))

      difference_at : (z : ℤ) → IsShort z → Op E (plain (i64 n ∷ op W64 bins.DivS ∷ [])) (Num E LongLong z) (pushed (integer LongLong)) (IsOf (integer LongLong)) (pure (in_elements z))
      difference_at z short =
          let i = code.operated ops.Div LongLong in
          op_then E (one (i64 n)) (one i) (Num E LongLong z) (λ u. Below n z) (pushed (integer LongLong)) (Always E) (IsOf (integer LongLong)) (pure tt) (λ u. pure (in_elements z)) (nought n z)
          (λ u ok.
          op_seen E (one i) (Below n z) (pushed (integer LongLong)) (IsOf (integer LongLong)) (operated ops.Div LongLong z (pos n) >>= (λ q. pure (number q))) (pure (in_elements z))
          (λ w. ap (λ (d : Does ℤ). after (d w) (λ q. pure (number q))) (divided z n some short))
          (op_look E (one i) (Below n z) (Num E LongLong) (pushed (integer LongLong)) (IsIn LongLong) (IsOf (integer LongLong)) (operated ops.Div LongLong z (pos n)) (λ q. pure (number q))
          (op_agree E i (Below n z) LongLong (operated ops.Div LongLong z (pos n)) (λ vs. operation ops.Div LongLong refl z (pos n) vs (short_long z short) (in_positive W64 n (omega (arith, small)))))
          (λ q iq. (number q, refl, refl, iq))))

      difference_of : Leaves E (a ⨾ b ⨾ plain (Segment segment.Diff ∷ i64 n ∷ op W64 bins.DivS ∷ [])) (integer LongLong) (x >>= (λ p. y >>= (λ q. ask (λ os. distance os p q) >>= (λ d. pure (in_elements d)))))
      difference_of = distance_then (plain (i64 n ∷ op W64 bins.DivS ∷ [])) (λ d. pure (in_elements d)) (pushed (integer LongLong)) (IsOf (integer LongLong)) difference_at

module _ (E : Env) (t : Ty) (slot : IsSlot E.unit.structs t) where
  pub difference_runs : (a b : Code) (x y : Does Value) → Leaves E a (pointer t) x → Leaves E b (pointer t) y
      → Leaves E (a ⨾ b ⨾ plain (Segment segment.Diff ∷ i64 (type_size E.target.structs t) ∷ op W64 bins.DivS ∷ [])) (integer LongLong) (x >>= (λ p. y >>= (λ q. ask (λ os. distance os p q) >>= (λ d. pure (number (int_div d (pos (type_size E.unit.structs t))))))))
  difference_runs a b x y ra rb =
      by_size E t slot (λ c m. Leaves E (a ⨾ b ⨾ plain (Segment segment.Diff ∷ i64 c ∷ op W64 bins.DivS ∷ [])) (integer LongLong) (x >>= (λ p. y >>= (λ q. ask (λ os. distance os p q) >>= (λ d. pure (number (int_div d (pos m))))))))
      (difference_of E t slot.is_data a b x y ra rb (bytes E t slot) (some_bytes E t slot) (let h = slot.small in omega (arith, h)))
