-- The code of nodes by the codes of their parts: what is left, numbers, variables, conditions.
use Rattle.std.proofs.Common.{◌≡◌, ℕ, zero, suc, ◌+◌, ◌<◌, List, [], ◌∷◌, ◌++◌, length, length-append, Bool, true, false, Option, Some, None, refl, sym, ap, ◌∙◌, arith, subst, cond}
use Rattle.std.specs.Prelude.{ℤ, not, ◌==◌, slice_get, slice_set, if◌then◌else◌}
use Rattle.std.proofs.lemmas.Bool.{lt-ltb, ne_eqb}
use Rattle.std.proofs.lemmas.Option.{slice_get_within}
use Rattle.ms_linear.specs.declared.value.Value.{Value as Word}
use Rattle.ms_linear.specs.declared.value.Value.TheVariants.{I32}
use Rattle.ms_machine.specs.Step as step
use Rattle.ms_module.specs.Accesses as machine
use Rattle.ms_module.specs.declared.instr.Instr.{Instr}
use Rattle.ms_module.specs.declared.instr.Instr.TheVariants.{Drop, LocalGet, LocalSet, LocalTee}
use Rattle.ms_module.specs.declared.numeric.Width.{Width}
use Rattle.ms_module.specs.declared.numeric.Width.TheVariants.{W32}
use Rattle.ms_num.specs.Integers.{wrapped}
use Rattle.ms_task.specs.Thread.{Item, thread}
use Rattle.c_types.specs.declared.integers.IntType.{IntType}
use Rattle.c_types.specs.declared.types.Scalar.{Scalar}
use Rattle.c_types.specs.Types.{Ty, void, integer, pointer, struct, array, function, scalar_of}
use Rattle.c_typed.specs.declared.ops.Variable.{Variable}
use Rattle.c_typed.specs.declared.ops.Variable.TheVariants.{Local}
use Rattle.c_typed.specs.Tree.{of}
use Rattle.c_meaning.specs.Values.{Value, number}
use Rattle.c_meaning.specs.World.{Held, plain, World, Result, gives, Does, after, ◌>>=◌, ◌>>◌, pure, known}
use Rattle.c_meaning.specs.Integers.{is_zero}
use Rattle.c_meaning.specs.Accesses.{hold, with_held}
use Rattle.c_meaning.specs.Expressions as meaning
use Rattle.c_meaning.specs.Expressions.{Spot, variable, as_number, fetch, is_true, place, plain_value, spot_of, store}
use Rattle.ms_emit.specs.Codes.{Code, plain as bare, one, no_code, ◌⨾◌, choice, size_of}
use Rattle.c_code.specs.Expressions.{ended, left}
use Rattle.c_code.specs.Operations.{constant, width_of}
use Rattle.c_code.specs.Targets.{get, set, tee}
use Rattle.c_numbers.specs.Operands.{IsIn, operand, word}
use Rattle.c_numbers.proofs.Conversions.{constant_is}
use Rattle.c_numbers.proofs.Ranges.{is_zero_of}
use Rattle.c_runs.proofs.Goes as goes
use Rattle.c_runs.proofs.Goes.{Mem, Runs, RunsTo, after_after, goes_on, here, one as one_step, one_here, tells_nothing}
use Rattle.c_runs.specs.Words.{pushed}
use Rattle.ms_relate.specs.refinement.Homes.{Home, IsScalar}
use Rattle.ms_relate.proofs.Growing.{Extends}
use Rattle.c_runs.proofs.Held.{AreHeld, Found, Slot, apart_plain, found, get_behind, held_set, held_word, length_words, open_plain, own_plain, set_behind, words_set}
use Rattle.c_runs.proofs.Values.{IsOf, pushed_is, value_still, word_of, word_still}
use Rattle.c_runs.proofs.Related.{Env, IsValue, Kept, Now, Starts, extends_trans, frame_of, front, get_in, locals_of, pushes, set_in}
use Rattle.c_runs.proofs.Ops.{GoodIn, IsTest, Op, OpIn, Stack, ToIn, at_work, is_no, is_yes, op_after_in, op_any, op_assoc_in, op_carried, op_choice_in, op_look, op_look_in, op_none, op_over, op_post_in, op_then, op_then_in, same}
use Rattle.c_runs.proofs.Whole.{IsWhole}

module _ (E : Env) where
  -- code leaves the value of an expression of the type
  abbrev pub Leaves : Code → Ty → Does Value → Type 0
  Leaves c t x = OpIn E [] c same (pushes E t) (IsValue E t) x

  abbrev pub gone : {A : Type 0} → A → Stack
  gone v vs = vs

  -- what remains of it, where it is kept or not
  abbrev pub remains : Bool → Ty → List Home → Value → Stack
  remains true t hs = pushes E t hs
  remains false t hs = gone

  abbrev pub Carries : Bool → Code → Ty → Does Value → Type 0
  Carries k c t x = OpIn E [] c same (remains k t) (IsValue E t) x

  abbrev pub Always : Unit {0} → Type 0
  Always u = Unit {0}

  abbrev pub Num : IntType → ℤ → Stack
  Num u z vs = word u z ∷ vs

  -- ---- what is left

  left_scalar : (s : Scalar) (t : Ty) (c : Code) (x : Does Value) → ((hs : List Home) (v : Value) (vs : List Word) → IsValue E t hs v → pushes E t hs v vs ≡ word_of E.places t hs v ∷ vs) → Leaves c t x → Carries false (c ⨾ one Drop) t x
  left_scalar s t c x is h =
      op_after_in E [] c (one Drop) same (λ hs v vs. word_of E.places t hs v ∷ vs) (λ hs. gone) (IsValue E t) (IsValue E t) x (op_post_in E [] c same (pushes E t) (λ hs v vs. word_of E.places t hs v ∷ vs) (IsValue E t) x h (λ hs v vs ok. is hs v vs ok))
      (λ gs more v ok n has now le vs r dep w m k ag. (
        m,
        (value_still E.unit.structs E.places gs m.homes (extends_trans gs now.homes m.homes le.grown k.grown) t v ok, k),
        one_here E.site w m m Drop (frame_of E m w) (word_of E.places t gs v ∷ vs) r (Rattle.ms_task.specs.Thread.thread (frame_of E m w) vs r) refl,
      ))

  left_never : (t : Ty) (c : Code) (x : Does Value) → ((hs : List Home) (v : Value) → IsValue E t hs v → ⊥) → Leaves c t x → Carries false c t x
  left_never t c x never h = op_post_in E [] c same (pushes E t) (λ hs. gone) (IsValue E t) x h (λ hs v vs ok. absurd (never hs v ok))

  some_scalar : (u : Ty) → scalar_of (pointer u) ≡ None → ⊥
  some_scalar (function r ps) e = absurd cc
  some_scalar void e = absurd cc
  some_scalar (integer v) e = absurd cc
  some_scalar (struct n) e = absurd cc
  some_scalar (pointer v) e = absurd cc
  some_scalar (array v n) e = absurd cc

  pub left_runs : (k : Bool) (s : Option Scalar) (t : Ty) (c : Code) (x : Does Value) → scalar_of t ≡ s → Leaves c t x → Carries k (left k s c) t x
  left_runs true s t c x e h = h
  left_runs false s void c x e h = subst (λ (o : Option Scalar). Carries false (left false o c) void x) e h
  left_runs false None (integer u) c x e h = absurd cc
  left_runs false (Some s) (integer u) c x e h = left_scalar s (integer u) c x (λ hs v vs ok. refl) h
  left_runs false None (pointer u) c x e h = absurd (some_scalar u e)
  left_runs false (Some s) (pointer u) c x e h = left_scalar s (pointer u) c x (λ hs v vs ok. refl) h
  left_runs false s (struct n) c x e h = subst (λ (o : Option Scalar). Carries false (left false o c) (struct n) x) e (left_never (struct n) c x (λ hs v ok. ok) h)
  left_runs false s (array u n) c x e h = subst (λ (o : Option Scalar). Carries false (left false o c) (array u n) x) e (left_never (array u n) c x (λ hs v ok. ok) h)
  left_runs false s (function r ps) c x e h = subst (λ (o : Option Scalar). Carries false (left false o c) (function r ps) x) e (left_never (function r ps) c x (λ hs v ok. ok) h)

  -- ---- numbers

  pub of_number : (u : IntType) (P : Value → Type 0) → ((z : ℤ) → IsIn u z → P (number z)) → (v : Value) → IsOf (integer u) v → P v
  of_number u P f (number z) h = f z h
  of_number u P f _ h = absurd h

  pub op_integer : (u : IntType) (c : Code) (x : Does Value) → Leaves c (integer u) x → Op E c same (Num u) (IsIn u) (meaning.integer x)
  op_integer u c x h =
      op_look E c same (pushed (integer u)) (Num u) (IsOf (integer u)) (IsIn u) x as_number h
      (λ v ok. of_number u (λ v. (z : ℤ) × (as_number v ≡ pure z) × (pushed (integer u) v ≡ Num u z) × IsIn u z) (λ z i. (z, refl, refl, i)) v ok)

  -- a number, and what is done with it
  pub op_number_then : {B : Type 0} (u : IntType) (c d : Code) (x : Does Value) (f : Value → Does B) (post : B → Stack) (Fit : B → Type 0) → Leaves c (integer u) x
      → ((z : ℤ) → IsIn u z → Op E d (Num u z) post Fit (f (number z))) → Op E (c ⨾ d) same post Fit (x >>= f)
  op_number_then u c d x f post Fit h g =
      op_then E c d same (pushed (integer u)) post (IsOf (integer u)) Fit x f h (λ v ok. of_number u (λ v. Op E d (pushed (integer u) v) post Fit (f v)) g v ok)

  pub op_integer_then : {B : Type 0} (u : IntType) (c d : Code) (x : Does Value) (f : ℤ → Does B) (post : B → Stack) (Fit : B → Type 0) → Leaves c (integer u) x
      → ((z : ℤ) → IsIn u z → Op E d (Num u z) post Fit (f z)) → Op E (c ⨾ d) same post Fit (meaning.integer x >>= f)
  op_integer_then u c d x f post Fit h g = op_then E c d same (Num u) post (IsIn u) Fit (meaning.integer x) f (op_integer u c x h) g

  pub constant_runs : (u : IntType) (z : ℤ) → IsIn u z → Leaves (one (constant (width_of u) z)) (integer u) (pure (number z))
  constant_runs u z i = op_carried E (constant (width_of u) z) same (pushed (integer u)) (IsOf (integer u)) (number z) i (λ vs. constant_is (width_of u) z vs)

  -- two operands
  pub two_run : (u : IntType) (i : Instr) (t : IntType) (f : ℤ → ℤ → Does Value) (a b : Code) (x y : Does Value) → Leaves a (integer u) x → Leaves b (integer u) y
      → ((p q : ℤ) → IsIn u p → IsIn u q → Op E (one i) (λ vs. Num u q (Num u p vs)) (pushed (integer t)) (IsOf (integer t)) (f p q))
      → Leaves (a ⨾ b ⨾ one i) (integer t) (meaning.integer x >>= (λ p. meaning.integer y >>= (λ q. f p q)))
  two_run u i t f a b x y ra rb g =
      op_integer_then u a (b ⨾ one i) x (λ p. meaning.integer y >>= (λ q. f p q)) (pushed (integer t)) (IsOf (integer t)) ra
      (λ p ip.
      op_then E b (one i) (Num u p) (λ q vs. Num u q (Num u p vs)) (pushed (integer t)) (IsIn u) (IsOf (integer t)) (meaning.integer y) (λ q. f p q) (op_over E b same (Num u p) (Num u) (IsIn u) (meaning.integer y) (op_integer u b y rb))
      (λ q iq. g p q ip iq))

  -- ---- a slot

  module _ (x : ℕ) (k : Slot) (at_x : slice_get E.kinds x ≡ Some k) where
    abbrev pub local_of_x : ℕ
    local_of_x = E.target.first + x

    there : (w : World) (m : Mem) → AreHeld E.unit.structs E.places E.kinds m.homes w.locals → x < length (locals_of E m w)
    there w m held = let a = length_words E.unit.structs E.places E.kinds m.homes w.locals held in let b = slice_get_within E.kinds x k at_x in omega (arith, a, b)

    pub get_slot : (w : World) (m : Mem) (v : Word) (vs : List Word) (r : List Item) → slice_get (locals_of E m w) x ≡ Some v
        → step.act (goes.store E.site m) (LocalGet local_of_x) (thread (frame_of E m w) vs r) ≡ step.Next (goes.store E.site m) (thread (frame_of E m w) (v ∷ vs) r) None
    get_slot w m v vs r e =
        ap (λ (o : Option Word). step.pushed (goes.store E.site m) (thread (frame_of E m w) vs r) o)
        (ap (λ (q : ℕ). slice_get (E.args ++ (locals_of E m w ++ m.temps)) (q + x)) E.first_is ∙ get_behind E.args (locals_of E m w ++ m.temps) x ∙ get_in (locals_of E m w) m.temps x v e)

    pub set_slot : (w : World) (m : Mem) → AreHeld E.unit.structs E.places E.kinds m.homes w.locals → (h : Held) (us vs : List Word) (r : List Item)
        → step.set_local (goes.store E.site m) (thread (frame_of E m w) us r) local_of_x (held_word E.places k m.homes h) vs ≡ step.Next (goes.store E.site m) (thread (frame_of E m (with_held (Local x) h w)) vs r) None
    set_slot w m held h us vs r =
        let ws = locals_of E m w in
        let v = held_word E.places k m.homes h in
        let lt = there w m held in
        let first = E.first_is in
        let a = length-append E.args (ws ++ m.temps) in
        let b = length-append ws m.temps in
        let go : List Word → step.Outcome = λ ls. step.Next (goes.store E.site m) (thread (record { function = E.fn; locals = ls }) vs r) None in
        ap (λ (q : Bool). cond q (go (slice_set (E.args ++ (ws ++ m.temps)) local_of_x v)) step.Stuck) (lt-ltb local_of_x (length (E.args ++ (ws ++ m.temps))) (omega (arith, first, a, b, lt)))
        ∙ ap go
        (ap (λ (q : ℕ). slice_set (E.args ++ (ws ++ m.temps)) (q + x) v) E.first_is ∙ set_behind E.args (ws ++ m.temps) x v
        ∙ ap (λ (l : List Word). E.args ++ l) (set_in ws m.temps x v lt)
        ∙ ap (λ (l : List Word). E.args ++ (l ++ m.temps)) (sym (words_set E.places E.kinds m.homes w.locals x k h at_x)))

  -- ---- a plain variable, of a scalar type

  module _ (x : ℕ) (t : Ty) (scalar : IsScalar t) (at_x : slice_get E.kinds x ≡ Some (t, false)) where
    abbrev pub Spot_of_x : Does Spot
    Spot_of_x = place E.unit E.calls (of (Local x))

    abbrev found_in : (w : World) (m : Mem) → AreHeld E.unit.structs E.places E.kinds m.homes w.locals → Found E.unit.structs E.places E.kinds m.homes w.locals x t
    found_in w m a = found E.unit.structs E.places E.kinds m.homes w.locals x t a at_x

    place_is : (w : World) (m : Mem) → AreHeld E.unit.structs E.places E.kinds m.homes w.locals → Spot_of_x w ≡ gives (variable (Local x)) w
    place_is w m a = let f = found_in w m a in ap (λ (o : Option Held). after (known o w) (λ h. pure (spot_of (Local x) h))) f.is

    fetch_is : (w : World) (m : Mem) (f : Found E.unit.structs E.places E.kinds m.homes w.locals x t) → fetch (variable (Local x)) w ≡ gives f.value w
    fetch_is w m f = ap (λ (o : Option Held). after (known o w) plain_value) f.is

    pub fetch_runs : Leaves (one (get E.target (Local x))) t (fetch (variable (Local x)))
    fetch_runs n has now le vs r dep w m k ag =
        let f = found_in w m k.held in
        let i = LocalGet (local_of_x x (t, false) at_x) in
        let v = word_of E.places t m.homes f.value in
        subst (λ (y : Result Value). RunsTo E.site 1 m (at_work E m w vs (front (i ∷ []) r)) w (ToIn E (pushes E t) vs r) (GoodIn E (IsValue E t) now) y) (sym (fetch_is w m f)) (
          m,
          (f.is_value, k),
          subst (λ (us : List Word). goes.Goes E.site 1 w w m (at_work E m w vs (front (i ∷ []) r)) m (at_work E m w us r)) (sym (pushed_is E.unit.structs E.places m.homes t f.value vs scalar))
              (one_here E.site w m m i (frame_of E m w) vs r (thread (frame_of E m w) (v ∷ vs) r) (get_slot x (t, false) at_x w m v vs r f.word_is)),
        )

    -- its value, twice
    pub fetch_twice_runs : OpIn E [] (bare (get E.target (Local x) ∷ get E.target (Local x) ∷ [])) same (λ hs v vs. pushes E t hs v (pushes E t hs v vs)) (IsValue E t) (fetch (variable (Local x)))
    fetch_twice_runs n has now le vs r dep w m k ag =
        let f = found_in w m k.held in
        let i = LocalGet (local_of_x x (t, false) at_x) in
        let v = word_of E.places t m.homes f.value in
        let is = pushed_is E.unit.structs E.places m.homes t f.value in
        let t0 = thread (frame_of E m w) vs (front (i ∷ i ∷ []) r) in
        subst (λ (y : Result Value). RunsTo E.site 2 m t0 w (ToIn E (λ hs v us. pushes E t hs v (pushes E t hs v us)) vs r) (GoodIn E (IsValue E t) now) y) (sym (fetch_is w m f)) (
          m,
          (f.is_value, k),
          subst (λ (us : List Word). goes.Goes E.site 2 w w m t0 m (at_work E m w us r)) (sym (is (pushes E t m.homes f.value vs) scalar ∙ ap (λ (us : List Word). v ∷ us) (is vs scalar)))
              (goes_on E.site 1 1 w w w m m m t0 (thread (frame_of E m w) (v ∷ vs) (front (i ∷ []) r)) (at_work E m w (v ∷ v ∷ vs) r)
              (one_here E.site w m m i (frame_of E m w) vs (front (i ∷ []) r) (thread (frame_of E m w) (v ∷ vs) (front (i ∷ []) r)) (get_slot x (t, false) at_x w m v vs (front (i ∷ []) r) f.word_is))
              (one_here E.site w m m i (frame_of E m w) (v ∷ vs) r (thread (frame_of E m w) (v ∷ v ∷ vs) r) (get_slot x (t, false) at_x w m v (v ∷ vs) r f.word_is))),
        )

    module _ (hs : List Home) (v : Value) (i : IsValue E t hs v) where
      abbrev written : World → World
      written w = with_held (Local x) (plain v) w

      abbrev Top : Stack
      Top vs = word_of E.places t hs v ∷ vs

      still : (now : Now) (w : World) (m : Mem) → Starts E hs now → Kept E now w m → Extends hs m.homes
      still now w m le k = extends_trans hs now.homes m.homes le.grown k.grown

      is_there : (now : Now) (w : World) (m : Mem) → Starts E hs now → Kept E now w m → IsValue E t m.homes v
      is_there now w m le k = value_still E.unit.structs E.places hs m.homes (still now w m le k) t v i

      kept_written : (now : Now) (w : World) (m : Mem) → IsValue E t m.homes v → Kept E now w m → Kept E now (written w) m
      kept_written now w m i' k = record {
        held = held_set E.unit.structs E.places E.kinds m.homes w.locals x (t, false) (plain v) at_x k.held i';
        deep = k.deep;
        less = k.less;
        bytes = k.bytes;
        temps = k.temps;
        grown = k.grown;
        related = k.related;
        open' = open_plain E.kinds now.visible w.objects w.locals x t v at_x k.open';
        apart = apart_plain w.locals x v k.apart;
        own = own_plain (length now.objects) w.locals x v k.own;
        lasts = k.lasts;
        file = k.file;
      }

      set_step : (now : Now) (w : World) (m : Mem) → Starts E hs now → Kept E now w m → (us vs : List Word) (r : List Item)
          → step.set_local (goes.store E.site m) (thread (frame_of E m w) us r) (local_of_x x (t, false) at_x) (word_of E.places t hs v) vs ≡ step.Next (goes.store E.site m) (thread (frame_of E m (written w)) vs r) None
      set_step now w m le k us vs r =
          ap (λ (u : Word). step.set_local (goes.store E.site m) (thread (frame_of E m w) us r) (local_of_x x (t, false) at_x) u vs) (sym (word_still E.unit.structs E.places hs m.homes (still now w m le k) t v i))
          ∙ set_slot x (t, false) at_x w m k.held (plain v) us vs r

      pub set_runs : OpIn E hs (one (set E.target (Local x))) Top (λ gs. gone) (λ gs. Always) (hold (Local x) (plain v))
      set_runs n has now le vs r dep w m k ag = (
        m,
        (tt, kept_written now w m (is_there now w m le k) k),
        one_step E.site w (written w) m m (LocalSet (local_of_x x (t, false) at_x)) (frame_of E m w) (Top vs) r (thread (frame_of E m (written w)) vs r) refl refl (tells_nothing w (written w) refl refl refl) (set_step now w m le k (Top vs) vs r),
      )

      tee_runs : OpIn E hs (one (LocalTee (local_of_x x (t, false) at_x))) Top (pushes E t) (IsValue E t) (store (variable (Local x)) v >> pure v)
      tee_runs n has now le vs r dep w m k ag = (
        m,
        (is_there now w m le k, kept_written now w m (is_there now w m le k) k),
        subst (λ (us : List Word). goes.Goes E.site 1 w (written w) m (at_work E m w (Top vs) (front (LocalTee (local_of_x x (t, false) at_x) ∷ []) r)) m (at_work E m (written w) us r))
            (sym (pushed_is E.unit.structs E.places m.homes t v vs scalar ∙ ap (λ (u : Word). u ∷ vs) (word_still E.unit.structs E.places hs m.homes (still now w m le k) t v i)))
            (one_step E.site w (written w) m m (LocalTee (local_of_x x (t, false) at_x)) (frame_of E m w) (Top vs) r (thread (frame_of E m (written w)) (Top vs) r) refl refl (tells_nothing w (written w) refl refl refl) (set_step now w m le k (Top vs) (Top vs) r)),
      )

  -- ---- any plain variable, of a scalar type

  abbrev pub Spot_of : Variable → Does Spot
  Spot_of v = place E.unit E.calls (of v)

  -- what its code does
  pub record PlainAt (v : Variable) (t : Ty) : Type 0 where
    pub scalar : IsScalar t
    pub is_here : (now : Now) (w : World) (m : Mem) → Kept E now w m → Spot_of v w ≡ gives (variable v) w
    pub fetches : Leaves (one (get E.target v)) t (fetch (variable v))
    pub fetches_twice : OpIn E [] (bare (get E.target v ∷ get E.target v ∷ [])) same (λ hs x vs. pushes E t hs x (pushes E t hs x vs)) (IsValue E t) (fetch (variable v))
    pub sets : (hs : List Home) (x : Value) → IsValue E t hs x → OpIn E hs (one (set E.target v)) (λ vs. word_of E.places t hs x ∷ vs) (λ gs. gone) (λ gs. Always) (hold v (plain x))
    pub tees : (hs : List Home) (x : Value) → IsValue E t hs x → OpIn E hs (tee E.target v) (λ vs. word_of E.places t hs x ∷ vs) (pushes E t) (IsValue E t) (store (variable v) x >> pure x)

  pub slot_plain : (x : ℕ) (t : Ty) → IsScalar t → slice_get E.kinds x ≡ Some (t, false) → PlainAt (Local x) t
  slot_plain x t scalar at_x = record {
    scalar = scalar;
    is_here = λ now w m k. place_is x t scalar at_x w m k.held;
    fetches = fetch_runs x t scalar at_x;
    fetches_twice = fetch_twice_runs x t scalar at_x;
    sets = λ hs v i. set_runs x t scalar at_x hs v i;
    tees = λ hs v i. tee_runs x t scalar at_x hs v i;
  }

  module _ (v : Variable) (t : Ty) (p : PlainAt v t) where
    -- the place, which needs no code
    pub behind_place : {B : Type 0} (c : Code) (pre : Stack) (post : List Home → B → Stack) (Fit : List Home → B → Type 0) (f : Spot → Does B) → OpIn E [] c pre post Fit (f (variable v)) → OpIn E [] c pre post Fit (Spot_of v >>= f)
    behind_place {B = B} c pre post Fit f h n has now le vs r dep w m k =
        subst (λ (y : Result Spot). Runs E.site (size_of (c n)) m (at_work E m w (pre vs) (front (c n).instrs r)) w (ToIn E post vs r) (GoodIn E Fit now) (after y f)) (sym (p.is_here now w m k))
        (h n has now le vs r dep w m k)

    module _ (hs : List Home) (x : Value) (i : IsValue E t hs x) where
      abbrev Top_of : Stack
      Top_of vs = word_of E.places t hs x ∷ vs

      -- it is set, and a value that is known is given
      pub set_gives : (x' : Value) → IsValue E t hs x' → OpIn E hs (one (set E.target v)) Top_of (λ gs. gone) (IsValue E t) (store (variable v) x >> pure x')
      set_gives x' ok =
          op_look_in E hs (one (set E.target v)) Top_of (λ gs. gone) (λ gs. gone) (λ gs. Always) (IsValue E t) (hold v (plain x)) (λ q. pure x') (p.sets hs x i)
          (λ gs more q ok'. (x', refl, λ vs. refl, value_still E.unit.structs E.places hs gs more t x' ok))

      pub write_runs : (k : Bool) (s : Scalar) → OpIn E hs (ended E.target k (Some v) s) Top_of (remains k t) (IsValue E t) (store (variable v) x >> pure x)
      write_runs true s = p.tees hs x i
      write_runs false s = set_gives x i

    pub assign_runs : (k : Bool) (s : Scalar) (c : Code) (y : Does Value) → Leaves c t y
        → OpIn E [] (no_code ⨾ c ⨾ ended E.target k (Some v) s) same (remains k t) (IsValue E t) (Spot_of v >>= (λ q. y >>= (λ x. store q x >> pure x)))
    assign_runs k s c y h =
        let d = ended E.target k (Some v) s in
        let f = λ (x : Value). store (variable v) x >> pure x in
        behind_place (no_code ⨾ c ⨾ d) same (remains k t) (IsValue E t) (λ q. y >>= (λ x. store q x >> pure x))
        (op_then_in E [] no_code (c ⨾ d) same (λ gs. gone) (remains k t) (λ gs. Always) (IsValue E t) (pure tt) (λ q. y >>= f) (op_none E same gone Always tt tt (λ vs. refl))
        (λ gs more q ok.
        op_any E gs (c ⨾ d) same (remains k t) (IsValue E t) (y >>= f)
        (op_then_in E [] c d same (pushes E t) (remains k t) (IsValue E t) (IsValue E t) y f h
        (λ gs' more' x ok'. pre_scalar gs' d x (remains k t) (f x) (write_runs gs' x ok' k s)))))
      where
        pre_scalar : (gs : List Home) (d : Code) (x : Value) (post : List Home → Value → Stack) (z : Does Value) → OpIn E gs d (λ vs. word_of E.places t gs x ∷ vs) post (IsValue E t) z → OpIn E gs d (pushes E t gs x) post (IsValue E t) z
        pre_scalar gs d x post z h = subst (λ (st : Stack). OpIn E gs d st post (IsValue E t) z) (λ j vs. sym (pushed_is E.unit.structs E.places gs t x vs p.scalar) j) h

  -- ---- conditions

  zero_test : (n : ℕ) (b : Bool) → (n == 0) ≡ b → IsTest E n (not b)
  zero_test zero b e = is_no refl (ap not (sym e))
  zero_test (suc k) b e = is_yes k refl (ap not (sym e ∙ ne_eqb (suc k) 0 (λ p. omega (arith, p))))

  pub test_is : (u : IntType) (z : ℤ) → width_of u ≡ W32 → IsIn u z → IsTest E (wrapped 32 z) (not (is_zero z))
  test_is u z e i = zero_test (wrapped 32 z) (is_zero z) (sym (ap (λ (w : Width). wrapped (machine.bits w) z == 0) e) ∙ is_zero_of u z i)

  pub tests : {B : Type 0} (u : IntType) (c d : Code) (x : Does Value) (f : Bool → Does B) (post : List Home → B → Stack) (Fit : List Home → B → Type 0) → width_of u ≡ W32 → Leaves c (integer u) x
      → ((gs : List Home) (n : ℕ) (t : Bool) → IsTest E n t → OpIn E gs d (λ vs. I32 n ∷ vs) post Fit (f t)) → OpIn E [] (c ⨾ d) same post Fit (meaning.test x >>= f)
  tests u c d x f post Fit e h g =
      op_assoc_in E [] (c ⨾ d) same post Fit x is_true f
      (op_then_in E [] c d same (pushes E (integer u)) post (IsValue E (integer u)) Fit x (λ v. is_true v >>= f) h
      (λ gs more v ok.
      of_number u (λ v. OpIn E gs d (pushes E (integer u) gs v) post Fit (is_true v >>= f))
      (λ z i. subst (λ (w : Width). OpIn E gs d (λ vs. operand w z ∷ vs) post Fit (f (not (is_zero z)))) (sym e) (g gs (wrapped 32 z) (not (is_zero z)) (test_is u z e i))) v ok))

  pub chosen_runs : {A : Type 0} (u : IntType) (c a b : Code) (ty : Option Rattle.ms_types.specs.declared.types.ValType.ValType) (x : Does Value) (y z : Does A) (post : List Home → A → Stack) (Fit : List Home → A → Type 0) → width_of u ≡ W32 → IsWhole b
      → Leaves c (integer u) x → OpIn E [] a same post Fit y → OpIn E [] b same post Fit z → OpIn E [] (c ⨾ choice ty a b) same post Fit (meaning.test x >>= (λ t. if t then y else z))
  chosen_runs u c a b ty x y z post Fit e whole rc ra rb =
      tests u c (choice ty a b) x (λ t. if t then y else z) post Fit e rc
      (λ gs n t is. op_choice_in E gs ty a b n t post Fit y z whole is (op_any E gs a same post Fit y ra) (op_any E gs b same post Fit z rb))
