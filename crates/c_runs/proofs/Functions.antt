-- Pointers to functions are the numbers of their entries: null, functions that are values, their truth, and whether two are the same.
use Rattle.std.proofs.Common.{◌≡◌, ◌≢◌, ℕ, suc, ◌<◌, ◌≤◌, List, [], ◌∷◌, Bool, true, false, Some, refl, sym, ap, ◌∙◌, arith, subst, cond}
use Rattle.std.specs.Prelude.{pos, int_le, nat_le, not, slice_get, ◌==◌, ◌&&◌, if◌then◌else◌}
use Rattle.std.specs.List.{list_any}
use Rattle.std.proofs.lemmas.Bool.{le-leb}
use Rattle.ms_linear.specs.declared.value.Value.{Value as Word}
use Rattle.ms_linear.specs.declared.value.Value.TheVariants.{Handle, I32}
use Rattle.ms_module.specs.declared.numeric.RelOp.TheVariants as rels
use Rattle.ms_module.specs.declared.numeric.Width.TheVariants.{W32}
use Rattle.ms_num.specs.Integers.{wrapped}
use Rattle.ms_operate.specs.Outcomes as operate
use Rattle.ms_task.specs.Thread.{thread}
use Rattle.c_types.specs.declared.integers.IntType.TheVariants.{Int, UnsignedInt}
use Rattle.c_types.specs.declared.types.Scalar.TheVariants as scalars
use Rattle.c_types.specs.Layout.{Table}
use Rattle.c_types.specs.Types.{Ty, integer, pointer, is_function}
use Rattle.c_typed.specs.declared.ops.RelOp.TheVariants.{Equal, NotEqual}
use Rattle.c_meaning.specs.Values.{Value, function_at, no_function}
use Rattle.c_meaning.specs.Integers.{is_zero}
use Rattle.c_meaning.specs.Expressions as meaning
use Rattle.c_meaning.specs.Expressions.{is_true, same_named}
use Rattle.c_meaning.specs.World.{Does, ◌>>=◌, pure}
use Rattle.ms_emit.specs.Codes.{Code, one, ◌⨾◌}
use Rattle.c_code.specs.Modules.{is_name_of, named, rank_in}
use Rattle.c_code.specs.Operations.{i32, rel, truth}
use Rattle.c_code.specs.Uses.{uses}
use Rattle.c_numbers.specs.Operands.{IsIn, word}
use Rattle.c_numbers.proofs.Conversions.{constant_is, truth_is}
use Rattle.c_numbers.proofs.Operators.{comparison}
use Rattle.c_numbers.proofs.Ranges.{value_in}
use Rattle.ms_relate.specs.refinement.Homes as homes
use Rattle.ms_relate.specs.refinement.Homes.{Home, handle, is_named, is_no_function}
use Rattle.c_runs.specs.Words.{pushed}
use Rattle.c_runs.proofs.Entries.{apart_entries, named_entry, rank_below, small_entry, types_of}
use Rattle.c_runs.proofs.Goes.{one_here}
use Rattle.c_runs.proofs.Values.{IsOf, word_of}
use Rattle.c_runs.proofs.Related.{Env, IsValue, frame_of, pushes}
use Rattle.c_runs.proofs.Ops.{Op, Stack, carried_is, op_any, op_assoc, op_bare, op_carried, op_over_in, op_post_in, op_then_in, same}
use Rattle.c_runs.proofs.Nodes.{Leaves, Num}
use Rattle.c_runs.proofs.Operations.{truth_in}

-- ---- the number of the entry

-- of what a pointer to a function of this type is
abbrev pub entry : Env → Ty → Value → ℕ
entry E t v = homes.word E.places (pointer t) v

small_in : (table : Table) (places : Ty → ℕ → ℕ) (hs : List Home) (t : Ty) (v : Value) → is_function t ≡ true → homes.IsOf table places hs (pointer t) v → homes.word places (pointer t) v < 4294967296
small_in table places hs t v d (is_named e lt) = lt
small_in table places hs t v d (is_no_function e) = omega arith
small_in table places hs t v d (homes.is_null e) = absurd (let z : true ≡ false = sym d ∙ e in cc)
small_in table places hs t v d (homes.is_invalid e) = absurd (let z : true ≡ false = sym d ∙ e in cc)
small_in table places hs t v d (homes.is_pointer h s e at span shape near) = absurd (let z : true ≡ false = sym d ∙ e in cc)

truth_by : (table : Table) (places : Ty → ℕ → ℕ) (hs : List Home) (t : Ty) (v : Value) → is_function t ≡ true → homes.IsOf table places hs (pointer t) v → is_true v ≡ pure (not (is_zero (pos (homes.word places (pointer t) v))))
truth_by table places hs t v d (is_named e lt) = refl
truth_by table places hs t v d (is_no_function e) = refl
truth_by table places hs t v d (homes.is_null e) = absurd (let z : true ≡ false = sym d ∙ e in cc)
truth_by table places hs t v d (homes.is_invalid e) = absurd (let z : true ≡ false = sym d ∙ e in cc)
truth_by table places hs t v d (homes.is_pointer h s e at span shape near) = absurd (let z : true ≡ false = sym d ∙ e in cc)

-- ---- equal numbers

abbrev are_equal : ℕ → ℕ → Bool
are_equal a b = int_le (pos a) (pos b) && int_le (pos b) (pos a)

itself : (a : ℕ) → are_equal a a ≡ true
itself a = let e = le-leb a a (omega arith) in ap (λ (b : Bool). b && b) e

equal_is_one : (a b : ℕ) → a ≡ b → are_equal a b ≡ true
equal_is_one a b e = ap (λ (c : ℕ). are_equal a c) (sym e) ∙ itself a

at_most : (a b : ℕ) → nat_le a b ≡ true → a ≤ b
at_most a b e = grind (arith, e)

unequal_are_two : (a b : ℕ) → a ≢ b → are_equal a b ≡ false
unequal_are_two a b d = by (nat_le a b) refl (nat_le b a) refl where
  by : (x : Bool) → nat_le a b ≡ x → (y : Bool) → nat_le b a ≡ y → are_equal a b ≡ false
  by true e true f = absurd (d (let p = at_most a b e in let q = at_most b a f in let z : a ≡ b = omega (arith, p, q) in z))
  by true e false f = ap (λ (x : Bool). x && nat_le b a) e ∙ f
  by false e y f = ap (λ (x : Bool). x && nat_le b a) e

-- ---- values of a type of pointers to functions

module _ (E : Env) (t : Ty) (is : is_function t ≡ true) where
  pub function_word : (hs : List Home) (v : Value) → word_of E.places (pointer t) hs v ≡ I32 (entry E t v)
  function_word hs v = ap (λ (b : Bool). cond (cond b false true) (Handle (handle hs v)) (I32 (homes.word E.places (pointer t) v))) is

  small : (hs : List Home) (v : Value) → IsValue E (pointer t) hs v → entry E t v < 4294967296
  small hs v ok = small_in E.unit.structs E.places hs t v is ok

  in_range : (hs : List Home) (v : Value) → IsValue E (pointer t) hs v → IsIn UnsignedInt (pos (entry E t v))
  in_range hs v ok = let lt = small hs v ok in value_in UnsignedInt (entry E t v) (omega (arith, lt))

  same_number : (n : ℕ) → n < 4294967296 → I32 n ≡ word UnsignedInt (pos n)
  same_number n lt = ap I32 (let z : n ≡ wrapped 32 (pos n) = omega (arith, lt) in z)

  abbrev as_number : List Home → Value → Stack
  as_number hs v = Num E UnsignedInt (pos (entry E t v))

  number_is : (hs : List Home) (v : Value) (vs : List Word) → IsValue E (pointer t) hs v → pushes E (pointer t) hs v vs ≡ as_number hs v vs
  number_is hs v vs ok = ap (λ (x : Word). x ∷ vs) (function_word hs v ∙ same_number (entry E t v) (small hs v ok))

  -- ---- a function, and none

  entry_runs : (k : ℕ) (v : Value) → entry E t v ≡ k → ((hs : List Home) → IsValue E (pointer t) hs v) → Leaves E (one (i32 k)) (pointer t) (pure v)
  entry_runs k v e ok n has now le vs r dep w m kept ag =
      let fr = frame_of E m w in
      let top = number_is m.homes v vs (ok m.homes) ∙ ap (λ (j : ℕ). Num E UnsignedInt (pos j) vs) e in (
        m,
        (ok m.homes, kept),
        one_here E.site w m m (i32 k) fr vs r (thread fr (pushes E (pointer t) m.homes v vs) r)
            (carried_is E (i32 k) m fr vs (pushes E (pointer t) m.homes v vs) r (constant_is W32 (pos k) vs ∙ ap (λ (us : List Word). operate.Gives us) (sym top))),
      )

  pub no_function_runs : Leaves E (one (i32 0)) (pointer t) (pure no_function)
  no_function_runs = entry_runs 0 no_function refl (λ hs. is_no_function is)

  pub function_runs : (n : ℕ) → slice_get (types_of E.unit) n ≡ Some t → list_any (is_name_of n) (uses E.unit) ≡ true → Leaves E (one (i32 (E.target.entry n))) (pointer t) (pure (function_at n))
  function_runs n at used =
      let e = named_entry E.unit t n at used in
      let few = E.table.few in
      let below = rank_below E.unit t n e in
      let place : E.places (pointer t) n ≡ rank_in (named E.unit) n = ap (λ (p : Ty → ℕ → ℕ). p (pointer t) n) E.places_are ∙ e.place in
      let own : E.target.entry n ≡ suc (rank_in (named E.unit) n) = ap (λ (p : ℕ → ℕ). p n) E.entries_are in
      entry_runs (E.target.entry n) (function_at n) (ap suc place ∙ sym own) (λ hs. is_named is (omega (arith, few, below, place)))

  -- ---- as a condition

  pub truth_function : (c : Code) (x : Does Value) → Leaves E c (pointer t) x → Leaves E (c ⨾ truth scalars.Function) (integer Int) (meaning.test x >>= (λ b. pure (meaning.truth b)))
  truth_function c x h =
      op_assoc E (c ⨾ truth scalars.Function) same (pushed (integer Int)) (IsOf (integer Int)) x is_true (λ b. pure (meaning.truth b))
      (op_then_in E [] c (truth scalars.Function) same as_number (λ hs. pushed (integer Int)) (IsValue E (pointer t)) (λ hs. IsOf (integer Int)) x (λ v. is_true v >>= (λ b. pure (meaning.truth b)))
      (op_post_in E [] c same (pushes E (pointer t)) as_number (IsValue E (pointer t)) x h (λ gs v vs ok. number_is gs v vs ok))
      (λ gs grown v ok. op_any E gs (truth scalars.Function) (as_number gs v) (λ hs. pushed (integer Int)) (λ hs. IsOf (integer Int)) (is_true v >>= (λ b. pure (meaning.truth b))) (by gs v ok)))
    where
      by : (gs : List Home) (v : Value) → IsValue E (pointer t) gs v → Op E (truth scalars.Function) (as_number gs v) (pushed (integer Int)) (IsOf (integer Int)) (is_true v >>= (λ b. pure (meaning.truth b)))
      by gs v ok =
          let z = pos (entry E t v) in
          subst (λ (y : Does Bool). Op E (truth scalars.Function) (as_number gs v) (pushed (integer Int)) (IsOf (integer Int)) (y >>= (λ b. pure (meaning.truth b)))) (sym (truth_by E.unit.structs E.places gs t v is ok))
          (op_bare E (truth scalars.Function) (as_number gs v) (pushed (integer Int)) (IsOf (integer Int)) (meaning.truth (not (is_zero z))) (λ n. refl) (truth_in (not (is_zero z))) (λ n vs. truth_is UnsignedInt z vs n (in_range gs v ok)))

  -- ---- two of them

  one_function : (m n : ℕ) → suc (E.places (pointer t) m) < 4294967296 → suc (E.places (pointer t) n) < 4294967296 → E.places (pointer t) m ≡ E.places (pointer t) n → m ≡ n
  one_function m n lt lt' e =
      let at = λ (k : ℕ). ap (λ (p : Ty → ℕ → ℕ). p (pointer t) k) E.places_are in
      let here = λ (k : ℕ) (l : suc (E.places (pointer t) k) < 4294967296). small_entry E.unit t k (let z = at k in omega (arith, l, z)) in
      apart_entries E.unit t m n (here m lt) (here n lt') (sym (at m) ∙ e ∙ at n)

  same_functions : (m n : ℕ) → suc (E.places (pointer t) m) < 4294967296 → suc (E.places (pointer t) n) < 4294967296 → are_equal (suc (E.places (pointer t) m)) (suc (E.places (pointer t) n)) ≡ (m == n)
  same_functions m n lt lt' = by (m == n) refl where
    by : (b : Bool) → (m == n) ≡ b → are_equal (suc (E.places (pointer t) m)) (suc (E.places (pointer t) n)) ≡ (m == n)
    by true e = equal_is_one (suc (E.places (pointer t) m)) (suc (E.places (pointer t) n)) (ap (λ (k : ℕ). suc (E.places (pointer t) k)) (let z : m ≡ n = grind (arith, e) in z)) ∙ sym e
    by false e =
        unequal_are_two (suc (E.places (pointer t) m)) (suc (E.places (pointer t) n))
        (λ q. let z = one_function m n lt lt' (let p : E.places (pointer t) m ≡ E.places (pointer t) n = omega (arith, q) in p) in absurd (grind (arith, e, z)))
        ∙ sym e

  same_entries : (gs hs : List Home) (p q : Value) → IsValue E (pointer t) gs p → IsValue E (pointer t) hs q → are_equal (entry E t p) (entry E t q) ≡ same_named true p q
  same_entries gs hs p q (is_named {n = m} e lt) (is_named {n = n} e' lt') = same_functions m n lt lt'
  same_entries gs hs p q (is_named {n = m} e lt) (is_no_function e') = unequal_are_two (suc (E.places (pointer t) m)) 0 (λ z. absurd (omega (arith, z)))
  same_entries gs hs p q (is_no_function e) (is_named {n = n} e' lt') = unequal_are_two 0 (suc (E.places (pointer t) n)) (λ z. absurd (omega (arith, z)))
  same_entries gs hs p q (is_no_function e) (is_no_function e') = refl
  same_entries gs hs p q (homes.is_null e) o = absurd (let z : true ≡ false = sym is ∙ e in cc)
  same_entries gs hs p q (homes.is_invalid e) o = absurd (let z : true ≡ false = sym is ∙ e in cc)
  same_entries gs hs p q (homes.is_pointer h s e at span shape near) o = absurd (let z : true ≡ false = sym is ∙ e in cc)
  same_entries gs hs p q o (homes.is_null e) = absurd (let z : true ≡ false = sym is ∙ e in cc)
  same_entries gs hs p q o (homes.is_invalid e) = absurd (let z : true ≡ false = sym is ∙ e in cc)
  same_entries gs hs p q o (homes.is_pointer h s e at span shape near) = absurd (let z : true ≡ false = sym is ∙ e in cc)

  -- the other test says the opposite
  other_test : (p q : Value) → not (same_named true p q) ≡ same_named false p q
  other_test (function_at m) (function_at n) = refl
  other_test no_function no_function = refl
  other_test p q = refl

  abbrev two : Value → Value → Stack
  two p q vs = Num E UnsignedInt (pos (entry E t q)) (Num E UnsignedInt (pos (entry E t p)) vs)

  test_runs : (alike : Bool) (gs hs : List Home) (p q : Value) → IsValue E (pointer t) gs p → IsValue E (pointer t) hs q
      → Op E (one (rel W32 (if alike then rels.Eq else rels.Ne))) (two p q) (pushed (integer Int)) (IsOf (integer Int)) (pure (meaning.truth (same_named alike p q)))
  test_runs true gs hs p q okp okq =
      op_carried E (rel W32 rels.Eq) (two p q) (pushed (integer Int)) (IsOf (integer Int)) (meaning.truth (same_named true p q)) (truth_in (same_named true p q))
      (λ vs. comparison Equal UnsignedInt refl (pos (entry E t p)) (pos (entry E t q)) vs (in_range gs p okp) (in_range hs q okq) ∙ ap (λ (b : Bool). operate.Gives (pushed (integer Int) (meaning.truth b) vs)) (same_entries gs hs p q okp okq))
  test_runs false gs hs p q okp okq =
      op_carried E (rel W32 rels.Ne) (two p q) (pushed (integer Int)) (IsOf (integer Int)) (meaning.truth (same_named false p q)) (truth_in (same_named false p q))
      (λ vs. comparison NotEqual UnsignedInt refl (pos (entry E t p)) (pos (entry E t q)) vs (in_range gs p okp) (in_range hs q okq)
      ∙ ap (λ (b : Bool). operate.Gives (pushed (integer Int) (meaning.truth b) vs)) (ap not (same_entries gs hs p q okp okq) ∙ other_test p q))

  pub same_function_runs : (alike : Bool) (a b : Code) (x y : Does Value) → Leaves E a (pointer t) x → Leaves E b (pointer t) y
      → Leaves E (a ⨾ b ⨾ one (rel W32 (if alike then rels.Eq else rels.Ne))) (integer Int) (x >>= (λ p. y >>= (λ q. pure (meaning.truth (same_named alike p q)))))
  same_function_runs alike a b x y ra rb =
      let i = one (rel W32 (if alike then rels.Eq else rels.Ne)) in
      op_then_in E [] a (b ⨾ i) same as_number (λ hs. pushed (integer Int)) (IsValue E (pointer t)) (λ hs. IsOf (integer Int)) x (λ p. y >>= (λ q. pure (meaning.truth (same_named alike p q))))
      (op_post_in E [] a same (pushes E (pointer t)) as_number (IsValue E (pointer t)) x ra (λ gs v vs ok. number_is gs v vs ok))
      (λ gs grown p okp.
      op_then_in E gs b i (as_number gs p) (λ hs q. two p q) (λ hs. pushed (integer Int)) (IsValue E (pointer t)) (λ hs. IsOf (integer Int)) y (λ q. pure (meaning.truth (same_named alike p q)))
      (op_over_in E gs b same (as_number gs p) as_number (IsValue E (pointer t)) y
      (op_any E gs b same as_number (IsValue E (pointer t)) y (op_post_in E [] b same (pushes E (pointer t)) as_number (IsValue E (pointer t)) y rb (λ hs v vs ok. number_is hs v vs ok))))
      (λ hs grown' q okq. op_any E hs i (two p q) (λ js. pushed (integer Int)) (λ js. IsOf (integer Int)) (pure (meaning.truth (same_named alike p q))) (test_runs alike gs hs p q okp okq)))
