-- Operators, conversions, assignments with an operator, and calls of the host, on the values of their parts.
use Rattle.std.proofs.Common.{◌≡◌, ◌⊎◌, inl, inr, ℕ, ◌%◌, ◌^◌, ◌<◌, ◌≤◌, List, [], ◌∷◌, ◌++◌, length, append-nil, Bool, true, false, Option, Some, None, refl, sym, ap, ◌∙◌, arith, subst}
use Rattle.std.specs.Prelude.{ℤ, pos, negsuc, neg_ℤ, ◌-ℤ◌, not, slice_get, if◌then◌else◌}
use Rattle.std.proofs.lemmas.Bool.{lt-ltb}
use Rattle.ms_host.specs.declared.host.Host.TheVariants as hosts
use Rattle.ms_host.specs.declared.trap.TrapKind.TheVariants as traps
use Rattle.ms_linear.specs.declared.value.Value.{Value as Word}
use Rattle.ms_linear.specs.declared.value.Value.TheVariants.{I32}
use Rattle.ms_machine.specs.Running.{AreBytes}
use Rattle.ms_machine.specs.Hosting as hosting
use Rattle.ms_machine.specs.Hosting.{host_on}
use Rattle.ms_machine.specs.Moves.{first_of, rest_of}
use Rattle.ms_machine.specs.Step as step
use Rattle.ms_machine.specs.Step.{act, called, host_in}
use Rattle.ms_machine.specs.Store.{at, func_address, number_of_instance}
use Rattle.ms_machine.specs.declared.store.Instance.{Instance}
use Rattle.ms_module.specs.declared.instr.Instr.TheVariants.{Call}
use Rattle.ms_module.specs.declared.numeric.BinOp.TheVariants as bins
use Rattle.ms_module.specs.declared.numeric.RelOp.TheVariants as rels
use Rattle.ms_module.specs.declared.numeric.Width.{Width}
use Rattle.ms_module.specs.declared.numeric.Width.TheVariants.{W32}
use Rattle.ms_num.specs.Integers.{signed, wrapped}
use Rattle.ms_operate.specs.Outcomes as operate
use Rattle.ms_task.specs.Thread.{Do, Item, Thread, thread}
use Rattle.c_types.specs.declared.integers.IntType.{IntType}
use Rattle.c_types.specs.declared.integers.IntType.TheVariants.{Int, UnsignedChar}
use Rattle.c_types.specs.declared.types.Scalar.{Scalar}
use Rattle.c_types.specs.declared.types.Scalar.TheVariants as scalars
use Rattle.c_types.specs.Types.{void, integer}
use Rattle.c_typed.specs.declared.ops.BinaryOp.{BinaryOp}
use Rattle.c_typed.specs.declared.ops.RelOp.{RelOp}
use Rattle.c_typed.specs.declared.ops.UnaryOp.TheVariants.{Negate, Complement}
use Rattle.c_typed.specs.declared.ops.Variable.{Variable}
use Rattle.c_typed.specs.refinement.Expressions.{IsPromoted}
use Rattle.c_meaning.specs.Values.{Value, number}
use Rattle.c_meaning.specs.Accesses.{hold}
use Rattle.c_meaning.specs.World.{abort, plain, World, Result, gives, ends, Does, after, ◌>>=◌, ◌>>◌, pure, stop, take_byte, took, write_byte}
use Rattle.c_meaning.specs.Integers.{bits_of, changed, compared, from_truth, is_zero, operated, wrap}
use Rattle.c_meaning.specs.Expressions as meaning
use Rattle.c_meaning.specs.Expressions.{as_number, byte_value, fetch, is_true, store, variable}
use Rattle.ms_emit.specs.Codes.{Code, plain as bare, one, no_code, ◌⨾◌}
use Rattle.c_code.specs.Expressions.{begun_over_old, ended, put, updated}
use Rattle.c_code.specs.Operations as code
use Rattle.c_code.specs.Operations.{constant, convert, eqz, op, rel, truth, width_of}
use Rattle.c_code.specs.Targets.{get}
use Rattle.c_numbers.specs.Operands.{IsIn, all_carried, operand, then_on, word}
use Rattle.c_numbers.proofs.Conversions.{constant_is, convert_is, not_is, truth_is}
use Rattle.c_numbers.proofs.Operators.{comparison, complement, negation, operation}
use Rattle.c_numbers.proofs.Ranges.{wrap_in}
use Rattle.c_runs.proofs.Goes as goes
use Rattle.c_runs.proofs.Goes.{Mem, Site, after_after, puts_one, takes_one, tells_nothing}
use Rattle.ms_machine.specs.Crews.{Input}
use Rattle.c_runs.specs.Words.{pushed}
use Rattle.ms_relate.specs.refinement.Homes.{Home}
use Rattle.c_runs.proofs.Values.{IsOf}
use Rattle.c_runs.proofs.Related.{Env, IsValue, Kept, Now, frame_of, kept_world}
use Rattle.c_runs.proofs.Ops.{Good, Op, OpIn, Stack, To_, at_work, op_agree, op_assoc, op_bare, op_carried, op_look, op_over, op_seen, op_then, op_trap_in, same}
use Rattle.c_runs.proofs.Nodes.{Always, Leaves, Num, PlainAt, Spot_of, behind_place, gone, of_number, op_integer, op_integer_then, op_number_then, remains, set_gives, two_run, write_runs}
use Rattle.c_runs.proofs.Whole.{bare_convert}
use Rattle.ms_module.specs.declared.instr.Instr.{Instr}

-- ---- one instance, in which each function has its address as its index; the first three are the host's

pub record Linked (S : Site) : Type 0 where
  pub inst : Instance
  pub alone : S.instances ≡ inst ∷ []
  pub all : (x : ℕ) → x < length S.funcs → slice_get inst.funcs x ≡ Some x
  pub shared : (x : ℕ) → x < S.shared → slice_get inst.globals x ≡ Some x
  pub three : 3 ≤ length S.funcs
  pub putchar : host_in (slice_get S.funcs 0) ≡ Some hosts.Putchar
  pub getchar : host_in (slice_get S.funcs 1) ≡ Some hosts.Getchar
  pub abort : host_in (slice_get S.funcs 2) ≡ Some hosts.Abort

abbrev pub AtHome : Env → Type 0
AtHome E = number_of_instance (slice_get E.site.funcs E.fn) ≡ Some 0

pub truth_in : (t : Bool) → IsIn Int (from_truth t)
truth_in true = refl
truth_in false = refl

-- ---- bytes

byte_bits : (x : ℤ) → wrapped 32 x % 2 ^ 8 ≡ wrapped 8 x
byte_bits (pos n) = omega arith
byte_bits (negsuc n) = omega arith

byte_below : (x : ℤ) → wrapped 8 x < 2 ^ 8
byte_below (pos n) = omega arith
byte_below (negsuc n) = omega arith

small_same : (n : ℕ) → n < 2 ^ 8 → wrapped 32 (pos n) ≡ n
small_same n lt = omega arith

small_is : (n : ℕ) → n < 2 ^ 8 → IsIn Int (pos n)
small_is n lt = ap (signed 32) (small_same n lt) ∙ ap (λ (b : Bool). if b then pos n else pos n -ℤ pos (2 ^ 32)) (lt-ltb n (2 ^ 31) (omega (arith, lt)))

pub after_same : {A B : Type 0} (y : Result A) (f g : A → World → Result B) → ((a : A) (w : World) → f a w ≡ g a w) → after y f ≡ after y g
after_same (gives a w) f g e = e a w
after_same (ends q w) f g e = refl

module _ (E : Env) where
  -- ---- operators on two numbers

  pub binary_runs : (o : BinaryOp) (u : IntType) (a b : Code) (x y : Does Value) → IsPromoted u → Leaves E a (integer u) x → Leaves E b (integer u) y
      → Leaves E (a ⨾ b ⨾ one (code.operated o u)) (integer u) (meaning.integer x >>= (λ p. meaning.integer y >>= (λ q. operated o u p q >>= (λ z. pure (number z)))))
  binary_runs o u a b x y pr ra rb =
      two_run E u (code.operated o u) u (λ p q. operated o u p q >>= (λ z. pure (number z))) a b x y ra rb
      (λ p q ip iq.
      op_look E (one (code.operated o u)) (λ vs. Num E u q (Num E u p vs)) (Num E u) (pushed (integer u)) (IsIn u) (IsOf (integer u)) (operated o u p q) (λ z. pure (number z))
      (op_agree E (code.operated o u) (λ vs. Num E u q (Num E u p vs)) u (operated o u p q) (λ vs. operation o u pr p q vs ip iq))
      (λ z i. (number z, refl, refl, i)))

  pub compare_runs : (o : RelOp) (u : IntType) (a b : Code) (x y : Does Value) → IsPromoted u → Leaves E a (integer u) x → Leaves E b (integer u) y
      → Leaves E (a ⨾ b ⨾ one (code.compared o u)) (integer Int) (meaning.integer x >>= (λ p. meaning.integer y >>= (λ q. pure (meaning.truth (compared o p q)))))
  compare_runs o u a b x y pr ra rb =
      two_run E u (code.compared o u) Int (λ p q. pure (meaning.truth (compared o p q))) a b x y ra rb
      (λ p q ip iq.
      op_carried E (code.compared o u) (λ vs. Num E u q (Num E u p vs)) (pushed (integer Int)) (IsOf (integer Int)) (meaning.truth (compared o p q)) (truth_in (compared o p q)) (λ vs. comparison o u pr p q vs ip iq))

  -- ---- operators on one

  pub negate_runs : (u : IntType) (a : Code) (x : Does Value) → IsPromoted u → Leaves E a (integer u) x
      → Leaves E (one (constant (width_of u) (pos 0)) ⨾ a ⨾ one (op (width_of u) bins.Sub)) (integer u) (meaning.integer x >>= (λ z. pure (number (changed Negate u z))))
  negate_runs u a x pr h =
      let below : Stack = λ vs. operand (width_of u) (pos 0) ∷ vs in
      let i = op (width_of u) bins.Sub in
      op_then E (one (constant (width_of u) (pos 0))) (a ⨾ one i) same (λ q. below) (pushed (integer u)) (Always E) (IsOf (integer u)) (pure tt) (λ q. meaning.integer x >>= (λ z. pure (number (changed Negate u z))))
      (op_carried E (constant (width_of u) (pos 0)) same (λ q. below) (Always E) tt tt (λ vs. constant_is (width_of u) (pos 0) vs))
      (λ q ok.
      op_then E a (one i) below (λ z vs. Num E u z (below vs)) (pushed (integer u)) (IsIn u) (IsOf (integer u)) (meaning.integer x) (λ z. pure (number (changed Negate u z))) (op_over E a same below (Num E u) (IsIn u) (meaning.integer x) (op_integer E u a x h))
      (λ z iz. op_carried E i (λ vs. Num E u z (below vs)) (pushed (integer u)) (IsOf (integer u)) (number (changed Negate u z)) (wrap_in u (neg_ℤ z)) (λ vs. negation u pr z vs)))

  pub complement_runs : (u : IntType) (a : Code) (x : Does Value) → IsPromoted u → Leaves E a (integer u) x
      → Leaves E (a ⨾ bare (constant (width_of u) (negsuc 0) ∷ op (width_of u) bins.Xor ∷ [])) (integer u) (meaning.integer x >>= (λ z. pure (number (changed Complement u z))))
  complement_runs u a x pr h =
      let is = constant (width_of u) (negsuc 0) ∷ op (width_of u) bins.Xor ∷ [] in
      op_integer_then E u a (bare is) x (λ z. pure (number (changed Complement u z))) (pushed (integer u)) (IsOf (integer u)) h
      (λ z iz.
      op_bare E (bare is) (Num E u z) (pushed (integer u)) (IsOf (integer u)) (number (changed Complement u z)) (λ n. refl) (wrap_in u _)
      (λ n vs.
      ap (λ (o : operate.Outcome). then_on o (all_carried (op (width_of u) bins.Xor ∷ []))) (constant_is (width_of u) (negsuc 0) (Num E u z vs))
      ∙ ap (λ (o : operate.Outcome). then_on o (all_carried [])) (complement u pr z vs)))

  -- a number of one type as one of another
  pub convert_at : (u v : IntType) (z : ℤ) → IsIn u z → Op E (convert u v) (Num E u z) (Num E v) (IsIn v) (pure (wrap v z))
  convert_at u v z i = op_bare E (convert u v) (Num E u z) (Num E v) (IsIn v) (wrap v z) (bare_convert u v) (wrap_in v z) (λ n vs. convert_is u v z n vs i)

  pub convert_runs : (u v : IntType) (a : Code) (x : Does Value) → Leaves E a (integer u) x → Leaves E (a ⨾ convert u v) (integer v) (meaning.integer x >>= (λ z. pure (number (wrap v z))))
  convert_runs u v a x h =
      op_integer_then E u a (convert u v) x (λ z. pure (number (wrap v z))) (pushed (integer v)) (IsOf (integer v)) h
      (λ z i. op_bare E (convert u v) (Num E u z) (pushed (integer v)) (IsOf (integer v)) (number (wrap v z)) (bare_convert u v) (wrap_in v z) (λ n vs. convert_is u v z n vs i))

  -- ---- conditions as values

  pub truth_runs : (u : IntType) (a : Code) (x : Does Value) → Leaves E a (integer u) x → Leaves E (a ⨾ truth (scalars.Int u)) (integer Int) (meaning.test x >>= (λ t. pure (meaning.truth t)))
  truth_runs u a x h =
      op_assoc E (a ⨾ truth (scalars.Int u)) same (pushed (integer Int)) (IsOf (integer Int)) x is_true (λ t. pure (meaning.truth t))
      (op_number_then E u a (truth (scalars.Int u)) x (λ v. is_true v >>= (λ t. pure (meaning.truth t))) (pushed (integer Int)) (IsOf (integer Int)) h
      (λ z i. op_bare E (truth (scalars.Int u)) (Num E u z) (pushed (integer Int)) (IsOf (integer Int)) (meaning.truth (not (is_zero z))) (λ n. refl) (truth_in (not (is_zero z))) (λ n vs. truth_is u z vs n i)))

  -- of a type as wide as int
  pub narrow_truth_runs : (u : IntType) (a : Code) (x : Does Value) → width_of u ≡ W32 → Leaves E a (integer u) x → Leaves E (a ⨾ truth (scalars.Int Int)) (integer Int) (meaning.test x >>= (λ t. pure (meaning.truth t)))
  narrow_truth_runs u a x e h =
      subst (λ (w : Width). Leaves E (a ⨾ bare (constant w (pos 0) ∷ rel w rels.Ne ∷ [])) (integer Int) (meaning.test x >>= (λ t. pure (meaning.truth t)))) e (truth_runs u a x h)

  twice_not : (b : Bool) → not (not b) ≡ b
  twice_not true = refl
  twice_not false = refl

  pub not_runs : (u : IntType) (a : Code) (x : Does Value) → width_of u ≡ W32 → Leaves E a (integer u) x → Leaves E (a ⨾ one eqz) (integer Int) (meaning.test x >>= (λ t. pure (meaning.truth (not t))))
  not_runs u a x e h =
      op_assoc E (a ⨾ one eqz) same (pushed (integer Int)) (IsOf (integer Int)) x is_true (λ t. pure (meaning.truth (not t)))
      (op_number_then E u a (one eqz) x (λ v. is_true v >>= (λ t. pure (meaning.truth (not t)))) (pushed (integer Int)) (IsOf (integer Int)) h
      (λ z i. op_carried E eqz (Num E u z) (pushed (integer Int)) (IsOf (integer Int)) (meaning.truth (not (not (is_zero z)))) (truth_in (not (not (is_zero z))))
      (λ vs. not_is u z vs e i ∙ ap (λ (b : Bool). operate.Gives (word Int (from_truth b) ∷ vs)) (sym (twice_not (is_zero z))))))

  -- ---- assignments with an operator

  abbrev pub changes : BinaryOp → IntType → IntType → Does Value → ℤ → Does ℤ
  changes o u v y z = meaning.integer y >>= (λ q. operated o v (wrap v z) q >>= (λ p. pure (wrap u p)))

  pub change_runs : (o : BinaryOp) (u v : IntType) (c : Code) (y : Does Value) → IsPromoted v → Leaves E c (integer v) y → (z : ℤ) → IsIn u z
      → Op E (convert u v ⨾ c ⨾ one (code.operated o v) ⨾ convert v u) (Num E u z) (Num E u) (IsIn u) (changes o u v y z)
  change_runs o u v c y pr h z i =
      let z' = wrap v z in
      let f = λ (q : ℤ). operated o v z' q >>= (λ p. pure (wrap u p)) in
      let i' = one (code.operated o v) in
      op_then E (convert u v) (c ⨾ i' ⨾ convert v u) (Num E u z) (λ (q : Unit {0}). Num E v z') (Num E u) (Always E) (IsIn u) (pure tt) (λ q. changes o u v y z)
      (op_bare E (convert u v) (Num E u z) (λ (q : Unit {0}). Num E v z') (Always E) tt (bare_convert u v) tt (λ n vs. convert_is u v z n vs i))
      (λ q ok.
      op_then E c (i' ⨾ convert v u) (Num E v z') (λ q vs. Num E v q (Num E v z' vs)) (Num E u) (IsIn v) (IsIn u) (meaning.integer y) f (op_over E c same (Num E v z') (Num E v) (IsIn v) (meaning.integer y) (op_integer E v c y h))
      (λ q iq.
      op_then E i' (convert v u) (λ vs. Num E v q (Num E v z' vs)) (Num E v) (Num E u) (IsIn v) (IsIn u) (operated o v z' q) (λ p. pure (wrap u p))
      (op_agree E (code.operated o v) (λ vs. Num E v q (Num E v z' vs)) v (operated o v z' q) (λ vs. operation o v pr z' q vs (wrap_in v z) iq))
      (λ p ip. convert_at v u p ip)))

  module _ (o : BinaryOp) (u v : IntType) (x : Variable) (at_x : PlainAt E x (integer u)) (c : Code) (y : Does Value) (pr : IsPromoted v) (h : Leaves E c (integer v) y) where
    abbrev change : Code
    change = convert u v ⨾ c ⨾ one (code.operated o v) ⨾ convert v u

    -- the new value is written, and one of the two is given
    abbrev puts : Bool → ℤ → ℤ → Does Value
    puts old z p = store (variable x) (number p) >> pure (if old then number z else number p)

    abbrev behind_old : Bool → Value → Does Value
    behind_old old w0 = as_number w0 >>= (λ z. meaning.integer y >>= (λ q. operated o v (wrap v z) q >>= (λ p. let new = number (wrap u p) in store (variable x) new >> pure (if old then w0 else new))))

    same_meaning : (old : Bool) (z : ℤ) (w : World) → (changes o u v y z >>= puts old z) w ≡ behind_old old (number z) w
    same_meaning old z w =
        after_after (meaning.integer y w) (λ q. operated o v (wrap v z) q >>= (λ p. pure (wrap u p))) (puts old z)
        ∙ after_same (meaning.integer y w) _ _ (λ q w1. after_after (operated o v (wrap v z) q w1) (λ p. pure (wrap u p)) (puts old z))

    -- what remains of it
    abbrev keeps : Bool → Value → Stack
    keeps true = pushed (integer u)
    keeps false = gone E

    -- behind the old value, where one of the two may remain
    abbrev End_runs : (d : Code) (k old : Bool) → Type 0
    End_runs d k old = (z p : ℤ) → IsIn u z → IsIn u p → Op E d (Num E u p) (keeps k) (IsOf (integer u)) (puts old z p)

    end_runs : (k old : Bool) (s : Scalar) → (k ≡ false) ⊎ (old ≡ false) → End_runs (ended E.target k (Some x) s) k old
    end_runs true true s (inl e) z p iz ip = absurd cc
    end_runs true true s (inr e) z p iz ip = absurd cc
    end_runs true false s e z p iz ip = write_runs E x (integer u) at_x [] (number p) ip true s
    end_runs false false s e z p iz ip = write_runs E x (integer u) at_x [] (number p) ip false s
    end_runs false true s e z p iz ip = set_gives E x (integer u) at_x [] (number p) ip (number z) iz

    one_value : (k old : Bool) (d : Code) → End_runs d k old
        → Op E (one (get E.target x) ⨾ change ⨾ d) same (keeps k) (IsOf (integer u)) (Spot_of E x >>= (λ q. fetch q >>= (λ w0. as_number w0 >>= (λ z. meaning.integer y >>= (λ q'. operated o v (wrap v z) q' >>= (λ p. let new = number (wrap u p) in store q new >> pure (if old then w0 else new)))))))
    one_value k old d e =
        let g = one (get E.target x) in
        behind_place E x (integer u) at_x (g ⨾ change ⨾ d) same (λ hs. keeps k) (λ hs. IsOf (integer u)) _
        (op_then E g (change ⨾ d) same (pushed (integer u)) (keeps k) (IsOf (integer u)) (IsOf (integer u)) (fetch (variable x)) (behind_old old) at_x.fetches
        (λ w0 ok.
        of_number E u (λ w0. Op E (change ⨾ d) (pushed (integer u) w0) (keeps k) (IsOf (integer u)) (behind_old old w0))
        (λ z iz.
        op_seen E (change ⨾ d) (Num E u z) (keeps k) (IsOf (integer u)) (changes o u v y z >>= puts old z) (behind_old old (number z)) (same_meaning old z)
        (op_then E change d (Num E u z) (Num E u) (keeps k) (IsIn u) (IsOf (integer u)) (changes o u v y z) (puts old z) (change_runs o u v c y pr h z iz) (λ p ip. e z p iz ip)))
        w0 ok))

    -- the old value remains below
    two_values : (s : Scalar)
        → Op E (begun_over_old E.target (Some x) no_code s ⨾ change ⨾ put E.target (Some x) s) same (pushed (integer u)) (IsOf (integer u)) (Spot_of E x >>= (λ q. fetch q >>= (λ w0. as_number w0 >>= (λ z. meaning.integer y >>= (λ q'. operated o v (wrap v z) q' >>= (λ p. let new = number (wrap u p) in store q new >> pure w0))))))
    two_values s =
        let g = begun_over_old E.target (Some x) no_code s in
        let d = put E.target (Some x) s in
        behind_place E x (integer u) at_x (g ⨾ change ⨾ d) same (λ hs. pushed (integer u)) (λ hs. IsOf (integer u)) _
        (op_then E g (change ⨾ d) same (λ w0 vs. pushed (integer u) w0 (pushed (integer u) w0 vs)) (pushed (integer u)) (IsOf (integer u)) (IsOf (integer u)) (fetch (variable x)) (behind_old true) at_x.fetches_twice
        (λ w0 ok.
        of_number E u (λ w0. Op E (change ⨾ d) (λ vs. pushed (integer u) w0 (pushed (integer u) w0 vs)) (pushed (integer u)) (IsOf (integer u)) (behind_old true w0))
        (λ z iz.
        op_seen E (change ⨾ d) (λ vs. Num E u z (Num E u z vs)) (pushed (integer u)) (IsOf (integer u)) (changes o u v y z >>= puts true z) (behind_old true (number z)) (same_meaning true z)
        (op_then E change d (λ vs. Num E u z (Num E u z vs)) (λ p vs. Num E u p (Num E u z vs)) (pushed (integer u)) (IsIn u) (IsOf (integer u)) (changes o u v y z) (puts true z)
        (op_over E change (Num E u z) (Num E u z) (Num E u) (IsIn u) (changes o u v y z) (change_runs o u v c y pr h z iz))
        (λ p ip.
        op_look E d (λ vs. Num E u p (Num E u z vs)) (λ q vs. Num E u z vs) (pushed (integer u)) (Always E) (IsOf (integer u)) (hold x (plain (number p))) (λ q. pure (number z))
        (op_over E d (Num E u p) (Num E u z) (gone E) (Always E) (hold x (plain (number p))) (at_x.sets [] (number p) ip))
        (λ q ok'. (number z, refl, refl, iz)))))
        w0 ok))

    pub update_runs : (k old : Bool) (pl : Code) (s : Scalar)
        → OpIn E [] (updated E.target k old (Some x) pl s change) same (remains E k (integer u)) (IsValue E (integer u)) (Spot_of E x >>= (λ q. fetch q >>= (λ w0. as_number w0 >>= (λ z. meaning.integer y >>= (λ q'. operated o v (wrap v z) q' >>= (λ p. let new = number (wrap u p) in store q new >> pure (if old then w0 else new)))))))
    update_runs true true pl s = two_values s
    update_runs true false pl s = one_value true false (ended E.target true (Some x) s) (end_runs true false s (inr refl))
    update_runs false true pl s = one_value false true (ended E.target false (Some x) s) (end_runs false true s (inl refl))
    update_runs false false pl s = one_value false false (ended E.target false (Some x) s) (end_runs false false s (inl refl))

  -- ---- calls

  -- an instruction that calls the function of this index, with what is above its arguments
  abbrev pub Reaches : Instr → Stack → ℕ → Type 0
  Reaches i above x =
      x < length E.site.funcs → (m : Mem) (w : World) (vs : List Word) (r : List Item)
      → act (goes.store E.site m) i (thread (frame_of E m w) (above vs) r) ≡ called (goes.store E.site m) x (thread (frame_of E m w) vs r) (host_in (slice_get E.site.funcs x))

  -- ---- the host

  module _ (L : Linked E.site) (home : AtHome E) where
    pub call_is : (m : Mem) (w : World) (x : ℕ) (vs : List Word) (r : List Item) → x < length E.site.funcs
        → act (goes.store E.site m) (Call x) (thread (frame_of E m w) vs r) ≡ called (goes.store E.site m) x (thread (frame_of E m w) vs r) (host_in (slice_get E.site.funcs x))
    call_is m w x vs r lt =
        let s = goes.store E.site m in
        let t : Thread = thread (frame_of E m w) vs r in
        ap (λ (o : Option ℕ). step.call s t (func_address (at E.site.instances o) x)) home
        ∙ ap (λ (is : List Instance). step.call s t (func_address (slice_get is 0) x)) L.alone
        ∙ ap (λ (o : Option ℕ). step.call s t o) (L.all x lt)

    pub putchar_at : (z : ℤ) → IsIn Int z → Op E (one (Call 0)) (Num E Int z) (pushed (integer Int)) (IsOf (integer Int)) (write_byte (bits_of UnsignedChar z) >> pure (number (pos (bits_of UnsignedChar z))))
    putchar_at z i n has now le vs r dep w m k ag =
        let b = bits_of UnsignedChar z in
        let w' : World = record w { output = w.output ++ b ∷ [] } in
        let byte : wrapped 32 z % 256 ≡ b = byte_bits z in
        let lt : b < 2 ^ 8 = byte_below z in
        let room : 0 < length E.site.funcs = let t = L.three in omega (arith, t) in (
          m,
          (small_is b lt, kept_world E now w.objects w w' m refl refl refl refl refl k.less k.bytes k),
          puts_one E.site w w' m (Call 0) (frame_of E m w) (I32 (wrapped 32 z) ∷ vs) (I32 (wrapped 32 (pos b)) ∷ vs) r hosts.Putchar b
              (call_is m w 0 (I32 (wrapped 32 z) ∷ vs) r room ∙ ap (called (goes.store E.site m) 0 (thread (frame_of E m w) (I32 (wrapped 32 z) ∷ vs) r)) L.putchar)
              (ap (λ (q : ℕ). hosting.Gives (I32 q ∷ vs) (Some q)) byte ∙ ap (λ (q : ℕ). hosting.Gives (I32 q ∷ vs) (Some b)) (sym (small_same b lt))) refl refl refl
              (record { output = refl; sizes = sym (append-nil w.sizes); grants = refl }),
        )

    pub putchar_runs : (c : Code) (x : Does Value) → Leaves E c (integer Int) x
        → Leaves E (c ⨾ one (Call 0)) (integer Int) (meaning.integer x >>= (λ z. let b = bits_of UnsignedChar z in write_byte b >> pure (number (pos b))))
    putchar_runs c x h = op_integer_then E Int c (one (Call 0)) x _ (pushed (integer Int)) (IsOf (integer Int)) h putchar_at

    getchar_by : (now : Now) (vs : List Word) (r : List Item) (w : World) (m : Mem) → Kept E now w m → (input : Input) → w.input ≡ input
        → goes.RunsTo E.site 1 m (at_work E m w vs (Do (Call 1) ∷ r)) w (To_ E (pushed (integer Int)) vs r) (Good E (IsOf (integer Int)) now) (after (took input w) (λ b. pure (byte_value b)))
    getchar_by now vs r w m k [] e =
        let room : 1 < length E.site.funcs = let t = L.three in omega (arith, t) in (
          m,
          (refl, k),
          takes_one E.site w w m (Call 1) (frame_of E m w) vs (I32 4294967295 ∷ vs) r hosts.Getchar
              (call_is m w 1 vs r room ∙ ap (called (goes.store E.site m) 1 (thread (frame_of E m w) vs r)) L.getchar)
              (ap (λ (l : Input). host_on hosts.Getchar (first_of l) vs) e) refl
              (ap (rest_of true) e ∙ sym e) (tells_nothing w w refl refl refl),
        )
    getchar_by now vs r w m k (None ∷ bs) e =
        let room : 1 < length E.site.funcs = let t = L.three in omega (arith, t) in
        let bytes : AreBytes (None ∷ bs) = subst AreBytes e k.bytes in
        let w' : World = record w { input = bs } in (
          m,
          (refl, kept_world E now w.objects w w' m refl refl refl refl refl k.less bytes.1 k),
          takes_one E.site w w' m (Call 1) (frame_of E m w) vs (I32 4294967295 ∷ vs) r hosts.Getchar
              (call_is m w 1 vs r room ∙ ap (called (goes.store E.site m) 1 (thread (frame_of E m w) vs r)) L.getchar)
              (ap (λ (l : Input). host_on hosts.Getchar (first_of l) vs) e) refl
              (ap (rest_of true) e) (tells_nothing w w' refl refl refl),
        )
    getchar_by now vs r w m k (Some b ∷ bs) e =
        let room : 1 < length E.site.funcs = let t = L.three in omega (arith, t) in
        let bytes : AreBytes (Some b ∷ bs) = subst AreBytes e k.bytes in
        let lt : b < 256 = bytes.0 in
        let w' : World = record w { input = bs } in (
          m,
          (small_is b lt, kept_world E now w.objects w w' m refl refl refl refl refl k.less bytes.1 k),
          takes_one E.site w w' m (Call 1) (frame_of E m w) vs (I32 (wrapped 32 (pos b)) ∷ vs) r hosts.Getchar
              (call_is m w 1 vs r room ∙ ap (called (goes.store E.site m) 1 (thread (frame_of E m w) vs r)) L.getchar)
              (ap (λ (l : Input). host_on hosts.Getchar (first_of l) vs) e ∙ ap (λ (q : ℕ). hosting.Gives (I32 q ∷ vs) None) (sym (small_same b lt))) refl
              (ap (rest_of true) e) (tells_nothing w w' refl refl refl),
        )

    pub getchar_runs : Leaves E (one (Call 1)) (integer Int) (take_byte >>= (λ b. pure (byte_value b)))
    getchar_runs n has now le vs r dep w m k ag = getchar_by now vs r w m k w.input refl

    pub abort_runs : (post : List Home → Value → Stack) → OpIn E [] (one (Call 2)) same post (IsValue E void) (stop abort)
    abort_runs post =
        op_trap_in E [] (Call 2) same post (IsValue E void) traps.Abort abort (λ w. tt) refl (λ m t w. tt)
        (λ m w vs r. call_is m w 2 vs r L.three ∙ ap (called (goes.store E.site m) 2 (thread (frame_of E m w) vs r)) L.abort)
