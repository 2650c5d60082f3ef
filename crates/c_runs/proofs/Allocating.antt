-- Objects of the heap are made (C11, 7.22.3.2, 7.22.3.4): as many elements as the bytes hold. Where one is refused the pointer is null.
use Rattle.std.proofs.Common.{◌≡◌, ⊎_elim, ℕ, ◌*◌, ◌/◌, ◌%◌, ◌^◌, ◌<◌, ◌≤◌, List, [], ◌∷◌, length, Bool, true, false, Option, Some, None, refl, sym, ap, ◌∙◌, arith, subst, div-mul-le_self, mod-eq_of_lt, mul-le-mul_right}
use Rattle.std.specs.Prelude.{pos, nat_lt, Ok, Err, if◌then◌else◌}
use Rattle.std.proofs.lemmas.Bool.{cases_lt, le-ltb, lt-ltb, ne_eqb}
use Rattle.ms_handle.specs.declared.handle.Kind.TheVariants as kinds
use Rattle.ms_linear.specs.declared.value.Value.{Value as Word}
use Rattle.ms_linear.specs.declared.value.Value.TheVariants.{I32, I64}
use Rattle.ms_module.specs.declared.access.Segment.TheVariants as segment
use Rattle.ms_module.specs.declared.instr.Instr.{Instr}
use Rattle.ms_module.specs.declared.instr.Instr.TheVariants.{LocalGet, LocalTee, Numeric, Segment}
use Rattle.ms_module.specs.declared.numeric.BinOp.TheVariants as bins
use Rattle.ms_module.specs.declared.numeric.Numeric.TheVariants.{ExtendU, Wrap}
use Rattle.ms_module.specs.declared.numeric.RelOp.TheVariants as rels
use Rattle.ms_module.specs.declared.numeric.Width.TheVariants.{W32, W64}
use Rattle.ms_num.specs.Integers.{truth}
use Rattle.ms_num.specs.declared.arith.Arith.TheVariants.{ZeroDivide}
use Rattle.ms_operate.specs.Numbers.{given}
use Rattle.ms_operate.specs.Outcomes as operate
use Rattle.ms_task.specs.Thread.{Do, Item, Thread}
use Rattle.ms_types.specs.declared.types.ValType.TheVariants as vals
use Rattle.c_types.specs.declared.integers.IntType.{IntType}
use Rattle.c_types.specs.declared.integers.IntType.TheVariants.{UnsignedInt}
use Rattle.c_types.specs.Integers.{bits}
use Rattle.c_types.specs.Types.{Ty, integer, pointer}
use Rattle.c_typed.specs.Tree as tree
use Rattle.c_typed.specs.Tree.{Expr}
use Rattle.c_typed.specs.refinement.Expressions as well
use Rattle.c_typed.specs.refinement.Expressions.{HasType}
use Rattle.c_meaning.specs.Shapes.{Shape, shape, size}
use Rattle.c_meaning.specs.Values.{Value, null, number}
use Rattle.c_meaning.specs.Objects.{heap, to_object, whole_of}
use Rattle.c_meaning.specs.World.{ungranted, World, Result, Does, ◌>>=◌, pure}
use Rattle.c_meaning.specs.Integers.{bits_of, value_of, wrap}
use Rattle.c_meaning.specs.Accesses.{allocate, allocate_product, make, pointer_to}
use Rattle.c_meaning.specs.Expressions as meaning
use Rattle.ms_emit.specs.Codes.{Code, plain, one, ◌⨾◌, choice}
use Rattle.c_code.specs.Expressions.{allocated, bytes_in, product_allocated}
use Rattle.c_code.specs.Operations.{i32, i64, new_heap, op, rel}
use Rattle.c_code.specs.Targets.{scratch_i64}
use Rattle.c_numbers.specs.Operands.{IsIn, all_carried, then_on}
use Rattle.c_numbers.proofs.Conversions.{constant_is}
use Rattle.c_numbers.proofs.Ranges.{bits_below}
use Rattle.ms_relate.specs.refinement.Homes.{is_null, is_pointer}
use Rattle.ms_relate.proofs.Near.{first_near}
use Rattle.ms_relate.proofs.Laid.{size-positive}
use Rattle.c_runs.proofs.Goes.{Goes, Mem, RunsTo, Stops}
use Rattle.c_runs.proofs.Held.{some_is}
use Rattle.c_runs.proofs.Related.{Env, IsSlot, IsValue, Kept, Now, kept_world, pushes}
use Rattle.c_runs.proofs.Ops.{GoodIn, OpIn, Stack, ToIn, at_work, carried_is, op_any, op_bare, op_carried, op_over_in, op_then_in, same}
use Rattle.c_runs.proofs.Nodes.{Always, Leaves, Num, op_integer}
use Rattle.c_runs.proofs.Makes.{wrapped_small}
use Rattle.c_runs.proofs.Creating.{NewGoes, granted, made_world, new_goes, refused', refused_world, unasked}
use Rattle.c_runs.proofs.Switches.{IsTemp}
use Rattle.c_runs.proofs.Cells.{pointer_word}
use Rattle.c_runs.proofs.Scalars.{null_runs}
use Rattle.c_runs.proofs.Updates.{code_assoc}
use Rattle.c_runs.proofs.Tested.{Changes, bit_test, op_tested, with_taken, with_unused}

-- ---- numbers

-- of so many bytes, those of whole elements
whole_below : (b n : ℕ) → b < 2 ^ 32 → b / n * n < 2 ^ 32
whole_below b n lt = let le = div-mul-le_self b n in omega (arith, le, lt)

abbrev rounds : ℕ → List Instr
rounds n = i32 n ∷ op W32 bins.DivU ∷ i32 n ∷ op W32 bins.Mul ∷ []

rounds_is : (n b : ℕ) (vs : List Word) → 0 < n → n < 2 ^ 32 → b < 2 ^ 32 → all_carried (rounds n) (I32 b ∷ vs) ≡ operate.Gives (I32 (b / n * n) ∷ vs)
rounds_is n b vs some small lt =
    ap (λ (o : operate.Outcome). then_on o (all_carried (op W32 bins.DivU ∷ i32 n ∷ op W32 bins.Mul ∷ []))) (constant_is W32 (pos n) (I32 b ∷ vs))
    ∙ ap (λ (k : ℕ). all_carried (op W32 bins.DivU ∷ i32 n ∷ op W32 bins.Mul ∷ []) (I32 k ∷ I32 b ∷ vs)) (wrapped_small n small)
    ∙ ap (λ (z : Bool). then_on (given W32 vs (if z then Err ZeroDivide else Ok (b / n))) (all_carried (i32 n ∷ op W32 bins.Mul ∷ []))) (ne_eqb n 0 (λ e. omega (arith, e, some)))
    ∙ ap (λ (o : operate.Outcome). then_on o (all_carried (op W32 bins.Mul ∷ []))) (constant_is W32 (pos n) (I32 (b / n) ∷ vs))
    ∙ ap (λ (k : ℕ). all_carried (op W32 bins.Mul ∷ []) (I32 k ∷ I32 (b / n) ∷ vs)) (wrapped_small n small)
    ∙ ap (λ (k : ℕ). operate.Gives (I32 k ∷ vs)) (mod-eq_of_lt (whole_below b n lt))

product_below : (p q : ℕ) → p < 2 ^ 32 → q < 2 ^ 32 → p * q < 2 ^ 64
product_below p q lp lq = let l : p ≤ 4294967295 = omega (arith, lp) in let le = mul-le-mul_right q l in omega (arith, le, lq)

-- ---- a number of bytes that is known

known_type : (t : IntType) → integer UnsignedInt ≡ integer t → UnsignedInt ≡ t
known_type t e = ap or e where
  or : Ty → IntType
  or (integer v) = v
  or _ = UnsignedInt

-- its value, which is no greater than an unsigned int
abbrev IsKnown : Does Value → ℕ → Type 0
IsKnown x b = (x ≡ pure (number (pos b))) × (b < 2 ^ 32)

pub known_bytes : (E : Env) (k : well.Context) (e : Expr) (b : ℕ) → bytes_in e ≡ Some b → HasType k e (integer UnsignedInt) → IsKnown (meaning.expr E.unit E.calls e) b
known_bytes E k (tree.number t n) b e h = subst (λ (c : ℕ). IsKnown (pure (number (value_of t n))) c) (some_is n b e) (by t (known_type t h.0) h.1) where
  by : (u : IntType) → UnsignedInt ≡ u → n < 2 ^ bits u → IsKnown (pure (number (value_of u n))) n
  by u q lt = subst (λ (v : IntType). n < 2 ^ bits v → IsKnown (pure (number (value_of v n))) n) q (λ l. (refl, l)) lt
known_bytes E k (tree.size_of_place n p) b e h = subst (λ (c : ℕ). IsKnown (pure (number (pos n))) c) (some_is n b e) (refl, let is = h.4 in let le = h.3.1 in omega (arith, is, le))
known_bytes E k (tree.size_of_value n a) b e h = subst (λ (c : ℕ). IsKnown (pure (number (pos n))) c) (some_is n b e) (refl, let is = h.4 in let le = h.3.1 in omega (arith, is, le))
known_bytes E k (tree.size_of_type n) b e h = subst (λ (c : ℕ). IsKnown (pure (number (wrap UnsignedInt (pos n)))) c) (some_is (bits_of UnsignedInt (pos n)) b e) (refl, bits_below UnsignedInt (pos n))
known_bytes E k _ b e h = absurd cc

module _ (E : Env) (u : Ty) (slot : IsSlot E.unit.structs u) where
  abbrev s : Shape
  s = shape E.unit.structs u

  abbrev P : Ty
  P = pointer u

  abbrev news : Instr
  news = Segment (segment.New kinds.Heap)

  -- ---- the object

  module _ (count : ℕ) (low : count * size s < 2 ^ 32) where
    abbrev meant : Does Value
    meant = make heap s count >>= (λ o. pure (pointer_to o))

    module _ (now : Now) (vs : List Word) (r : List Item) (w : World) (m : Mem) (k : Kept E now w m) where
      abbrev t0 : Thread
      t0 = at_work E m w (I32 (count * size s) ∷ vs) (Do news ∷ r)

      abbrev Goal : Result Value → Type 0
      Goal y = RunsTo E.site 1 m t0 w (ToIn E (pushes E P) vs r) (GoodIn E (IsValue E P) now) y

      with_grants : (gs : List Bool) → w.grants ≡ gs → w ≡ record w { grants = gs }
      with_grants gs e = ap (λ (g : List Bool). record w { grants = g }) e

      new_by : NewGoes E now heap s count slot.fits vs r w m k → Goal (meant w)
      new_by (granted gs e M) =
          let w1 = made_world E now heap s count slot.fits vs r w m k gs in
          let p = to_object (length w.objects) in
          let all : M.home.count * size M.home.shape ≡ count * size s = ap (λ (n : ℕ). n * size M.home.shape) M.count_is ∙ ap (λ (q : Shape). count * size q) M.shape_is in
          subst Goal (sym (ap meant (with_grants (true ∷ gs) e))) (
            M.mem,
            (is_pointer M.home (whole_of M.home.shape M.home.count) slot.is_data M.at refl M.shape_is (first_near (length w.objects) [] false (whole_of M.home.shape M.home.count) (omega (arith, all, low)) (subst (λ (q : Shape). size q < 4294967296) (sym M.shape_is) slot.small)), M.keeps),
            subst (λ (x : Word). Goes E.site 1 w w1 m t0 M.mem (at_work E M.mem w1 (x ∷ vs) r)) (sym (pointer_word E u M.mem.homes p slot.is_data)) M.goes,
          )
      new_by (refused' gs e g) =
          let w1 = refused_world E now heap s count slot.fits vs r w m k gs in
          subst Goal (sym (ap meant (with_grants (false ∷ gs) e))) (
            m,
            (is_null slot.is_data, kept_world E now w.objects w w1 m refl refl refl refl refl k.less k.bytes k),
            subst (λ (x : Word). Goes E.site 1 w w1 m t0 m (at_work E m w1 (x ∷ vs) r)) (sym (pointer_word E u m.homes null slot.is_data)) g,
          )
      new_by (unasked e st) =
          subst Goal (sym (ap meant (with_grants [] e)))
          (subst (λ (w0 : World). Stops E.site 1 w w0 m t0 ungranted) (with_grants [] e) st)

    op_new : OpIn E [] (one news) (λ vs. I32 (count * size s) ∷ vs) (pushes E P) (IsValue E P) meant
    op_new n has now le vs r dep w m k ag = new_by now vs r w m k (new_goes E now heap s count slot.fits vs r w m k ag)

  -- ---- of so many bytes, as many elements as they hold

  some : 0 < size s
  some = size-positive s slot.fits

  rounded_runs : (b : ℕ) → b < 2 ^ 32 → OpIn E [] (new_heap (size s)) (λ vs. I32 b ∷ vs) (pushes E P) (IsValue E P) (allocate E.unit.structs u b)
  rounded_runs b lt =
      let mid : Unit {0} → Stack = λ q vs. I32 (b / size s * size s) ∷ vs in
      op_then_in E [] (plain (rounds (size s))) (one news) (λ vs. I32 b ∷ vs) (λ hs. mid) (pushes E P) (λ hs. Always E) (IsValue E P) (pure tt) (λ q. allocate E.unit.structs u b)
      (op_bare E (plain (rounds (size s))) (λ vs. I32 b ∷ vs) mid (Always E) tt (λ j. refl) tt (λ j vs. rounds_is (size s) b vs some slot.small lt))
      (λ gs grown q ok. op_any E gs (one news) (mid tt) (pushes E P) (IsValue E P) (allocate E.unit.structs u b) (op_new (b / size s) (whole_below b (size s) lt)))

  -- a number that is known
  constant_runs : (b : ℕ) → b < 2 ^ 32 → Leaves E (plain (i32 (b / size s * size s) ∷ news ∷ [])) P (allocate E.unit.structs u b)
  constant_runs b lt =
      let size' = b / size s * size s in
      let mid : Unit {0} → Stack = λ q vs. I32 size' ∷ vs in
      op_then_in E [] (one (i32 size')) (one news) same (λ hs. mid) (pushes E P) (λ hs. Always E) (IsValue E P) (pure tt) (λ q. allocate E.unit.structs u b)
      (op_carried E (i32 size') same mid (Always E) tt tt (λ vs. constant_is W32 (pos size') vs ∙ ap (λ (k : ℕ). operate.Gives (I32 k ∷ vs)) (wrapped_small size' (whole_below b (size s) lt))))
      (λ gs grown q ok. op_any E gs (one news) (mid tt) (pushes E P) (IsValue E P) (allocate E.unit.structs u b) (op_new (b / size s) (whole_below b (size s) lt)))

  -- ---- malloc

  abbrev allocates : Does Value → Does Value
  allocates x = meaning.integer x >>= (λ z. allocate E.unit.structs u (bits_of UnsignedInt z))

  malloc_by : (o : Option ℕ) (c : Code) (x : Does Value) → ((b : ℕ) → o ≡ Some b → IsKnown x b) → Leaves E c (integer UnsignedInt) x → Leaves E (allocated (size s) o c) P (allocates x)
  malloc_by None c x known h =
      op_then_in E [] c (new_heap (size s)) same (λ hs. Num E UnsignedInt) (pushes E P) (λ hs. IsIn UnsignedInt) (IsValue E P) (meaning.integer x) (λ z. allocate E.unit.structs u (bits_of UnsignedInt z)) (op_integer E UnsignedInt c x h)
      (λ gs grown z iz. op_any E gs (new_heap (size s)) (Num E UnsignedInt z) (pushes E P) (IsValue E P) (allocate E.unit.structs u (bits_of UnsignedInt z)) (rounded_runs (bits_of UnsignedInt z) (bits_below UnsignedInt z)))
  malloc_by (Some b) c x known h =
      let q = known b refl in
      subst (λ (y : Does Value). Leaves E (plain (i32 (b / size s * size s) ∷ news ∷ [])) P (allocates y)) (sym q.0)
      (subst (λ (k : ℕ). Leaves E (plain (i32 (b / size s * size s) ∷ news ∷ [])) P (allocate E.unit.structs u k)) (sym (wrapped_small b q.1)) (constant_runs b q.1))

  pub malloc_runs : (n : ℕ) → n ≡ size s → (o : Option ℕ) (c : Code) (x : Does Value) → ((b : ℕ) → o ≡ Some b → IsKnown x b) → Leaves E c (integer UnsignedInt) x → Leaves E (allocated n o c) P (allocates x)
  malloc_runs n is o c x known h = subst (λ (k : ℕ). Leaves E (allocated k o c) P (allocates x)) (sym is) (malloc_by o c x known h)

  -- ---- calloc

  abbrev local : ℕ
  local = scratch_i64 E.target

  is_local : IsTemp E local 1
  is_local = let e = E.scratch_is in omega (arith, e)

  few : 1 < 4
  few = omega arith

  abbrev most : ℕ
  most = 4294967295

  abbrev arm : Code
  arm = plain (LocalGet local ∷ Numeric Wrap ∷ []) ⨾ new_heap (size s)

  abbrev chosen : Code
  chosen = choice (Some vals.Handle) (one (Segment segment.Null)) arm

  pushes_most : (p : ℕ) → Changes E (i64 most) (λ vs. I64 p ∷ vs) (λ vs. I64 most ∷ I64 p ∷ vs)
  pushes_most p m fr vs r = carried_is E (i64 most) m fr (I64 p ∷ vs) (I64 most ∷ I64 p ∷ vs) r (constant_is W64 (pos most) (I64 p ∷ vs))

  compares : (p : ℕ) → Changes E (rel W64 rels.GtU) (λ vs. I64 most ∷ I64 p ∷ vs) (λ vs. I32 (truth (nat_lt most p)) ∷ vs)
  compares p m fr vs r = carried_is E (rel W64 rels.GtU) m fr (I64 most ∷ I64 p ∷ vs) (I32 (truth (nat_lt most p)) ∷ vs) r refl

  -- the product, modulo 2^32
  wrapped_runs : (p : ℕ) → OpIn E [] (one (Numeric Wrap) ⨾ new_heap (size s)) (λ vs. I64 p ∷ vs) (pushes E P) (IsValue E P) (allocate E.unit.structs u (p % 2 ^ 32))
  wrapped_runs p =
      let mid : Unit {0} → Stack = λ q vs. I32 (p % 2 ^ 32) ∷ vs in
      op_then_in E [] (one (Numeric Wrap)) (new_heap (size s)) (λ vs. I64 p ∷ vs) (λ hs. mid) (pushes E P) (λ hs. Always E) (IsValue E P) (pure tt) (λ q. allocate E.unit.structs u (p % 2 ^ 32))
      (op_carried E (Numeric Wrap) (λ vs. I64 p ∷ vs) mid (Always E) tt tt (λ vs. refl))
      (λ gs grown q ok. op_any E gs (new_heap (size s)) (mid tt) (pushes E P) (IsValue E P) (allocate E.unit.structs u (p % 2 ^ 32)) (rounded_runs (p % 2 ^ 32) (omega arith)))

  fits_or_null : (p : ℕ) → (if nat_lt most p then pure null else allocate E.unit.structs u (p % 2 ^ 32)) ≡ allocate_product E.unit.structs u p
  fits_or_null p = ⊎_elim
      (λ lt.
      ap (λ (b : Bool). if b then pure null else allocate E.unit.structs u (p % 2 ^ 32)) (le-ltb most p (omega (arith, lt)))
      ∙ ap (λ (k : ℕ). allocate E.unit.structs u k) (mod-eq_of_lt lt)
      ∙ sym (ap (λ (b : Bool). if b then allocate E.unit.structs u p else pure null) (lt-ltb p 4294967296 lt)))
      (λ le.
      ap (λ (b : Bool). if b then pure null else allocate E.unit.structs u (p % 2 ^ 32)) (lt-ltb most p (omega (arith, le)))
      ∙ sym (ap (λ (b : Bool). if b then allocate E.unit.structs u p else pure null) (le-ltb p 4294967296 le)))
      (cases_lt p 4294967296)

  product_runs : (p : ℕ) → OpIn E [] (plain (LocalTee local ∷ i64 most ∷ rel W64 rels.GtU ∷ []) ⨾ chosen) (λ vs. I64 p ∷ vs) (pushes E P) (IsValue E P) (allocate_product E.unit.structs u p)
  product_runs p =
      subst (λ (y : Does Value). OpIn E [] (plain (LocalTee local ∷ i64 most ∷ rel W64 rels.GtU ∷ []) ⨾ chosen) (λ vs. I64 p ∷ vs) (pushes E P) (IsValue E P) y) (fits_or_null p)
      (op_tested E [] local 1 is_local few (I64 p) (i64 most) (rel W64 rels.GtU) (λ vs. I64 most ∷ I64 p ∷ vs) (truth (nat_lt most p)) (nat_lt most p) (Some vals.Handle) (one (Segment segment.Null)) arm (pushes E P) (IsValue E P) (pure null) (allocate E.unit.structs u (p % 2 ^ 32)) (λ n e. refl) (bit_test E (nat_lt most p))
      (pushes_most p) (compares p)
      (with_unused E [] local 1 is_local few (I64 p) (one (Segment segment.Null)) (pushes E P) (IsValue E P) (pure null) (null_runs E u slot.is_data))
      (with_taken E [] local 1 is_local few (I64 p) (one (Numeric Wrap) ⨾ new_heap (size s)) (pushes E P) (IsValue E P) (allocate E.unit.structs u (p % 2 ^ 32)) (wrapped_runs p)))

  abbrev widens : List Instr
  widens = Numeric ExtendU ∷ op W64 bins.Mul ∷ []

  abbrev behind : Code
  behind = plain (Numeric ExtendU ∷ op W64 bins.Mul ∷ LocalTee local ∷ i64 most ∷ rel W64 rels.GtU ∷ []) ⨾ chosen

  -- two factors, of which the first is wide
  factors_run : (p q : ℕ) → p < 2 ^ 32 → q < 2 ^ 32 → OpIn E [] behind (λ vs. I32 q ∷ I64 p ∷ vs) (pushes E P) (IsValue E P) (allocate_product E.unit.structs u (p * q))
  factors_run p q lp lq =
      let tests = plain (LocalTee local ∷ i64 most ∷ rel W64 rels.GtU ∷ []) in
      let mid : Unit {0} → Stack = λ e vs. I64 (p * q) ∷ vs in
      subst (λ (c : Code). OpIn E [] c (λ vs. I32 q ∷ I64 p ∷ vs) (pushes E P) (IsValue E P) (allocate_product E.unit.structs u (p * q))) (sym (code_assoc (plain widens) tests chosen))
      (op_then_in E [] (plain widens) (tests ⨾ chosen) (λ vs. I32 q ∷ I64 p ∷ vs) (λ hs. mid) (pushes E P) (λ hs. Always E) (IsValue E P) (pure tt) (λ e. allocate_product E.unit.structs u (p * q))
      (op_bare E (plain widens) (λ vs. I32 q ∷ I64 p ∷ vs) mid (Always E) tt (λ j. refl) tt (λ j vs. ap (λ (k : ℕ). operate.Gives (I64 k ∷ vs)) (mod-eq_of_lt (product_below p q lp lq))))
      (λ gs grown e ok. op_any E gs (tests ⨾ chosen) (mid tt) (pushes E P) (IsValue E P) (allocate_product E.unit.structs u (p * q)) (product_runs (p * q))))

  abbrev allocates_product : Does Value → Does Value → Does Value
  allocates_product x y = meaning.integer x >>= (λ p. meaning.integer y >>= (λ q. allocate_product E.unit.structs u (bits_of UnsignedInt p * bits_of UnsignedInt q)))

  calloc_by : (a b : Code) (x y : Does Value) → Leaves E a (integer UnsignedInt) x → Leaves E b (integer UnsignedInt) y → Leaves E (product_allocated local (size s) a b) P (allocates_product x y)
  calloc_by a b x y ra rb =
      let extends = one (Numeric ExtendU) in
      let product : ℕ → ℕ → Does Value = λ p q. allocate_product E.unit.structs u (p * q) in
      op_then_in E [] a (extends ⨾ (b ⨾ behind)) same (λ hs. Num E UnsignedInt) (pushes E P) (λ hs. IsIn UnsignedInt) (IsValue E P) (meaning.integer x) (λ p. meaning.integer y >>= (λ q. product (bits_of UnsignedInt p) (bits_of UnsignedInt q))) (op_integer E UnsignedInt a x ra)
      (λ gs grown p ip.
      let wide : Stack = λ vs. I64 (bits_of UnsignedInt p) ∷ vs in
      let rest : Does Value = meaning.integer y >>= (λ q. product (bits_of UnsignedInt p) (bits_of UnsignedInt q)) in
      op_any E gs (extends ⨾ (b ⨾ behind)) (Num E UnsignedInt p) (pushes E P) (IsValue E P) rest
      (op_then_in E [] extends (b ⨾ behind) (Num E UnsignedInt p) (λ hs e. wide) (pushes E P) (λ hs. Always E) (IsValue E P) (pure tt) (λ e. rest)
      (op_carried E (Numeric ExtendU) (Num E UnsignedInt p) (λ e. wide) (Always E) tt tt (λ vs. refl))
      (λ hs more e ok.
      op_any E hs (b ⨾ behind) wide (pushes E P) (IsValue E P) rest
      (op_then_in E [] b behind wide (λ js q vs. Num E UnsignedInt q (wide vs)) (pushes E P) (λ js. IsIn UnsignedInt) (IsValue E P) (meaning.integer y) (λ q. product (bits_of UnsignedInt p) (bits_of UnsignedInt q))
      (op_over_in E [] b same wide (λ js. Num E UnsignedInt) (λ js. IsIn UnsignedInt) (meaning.integer y) (op_integer E UnsignedInt b y rb))
      (λ js more' q iq.
      op_any E js behind (λ vs. Num E UnsignedInt q (wide vs)) (pushes E P) (IsValue E P) (product (bits_of UnsignedInt p) (bits_of UnsignedInt q))
      (factors_run (bits_of UnsignedInt p) (bits_of UnsignedInt q) (bits_below UnsignedInt p) (bits_below UnsignedInt q)))))))

  pub calloc_runs : (n : ℕ) → n ≡ size s → (a b : Code) (x y : Does Value) → Leaves E a (integer UnsignedInt) x → Leaves E b (integer UnsignedInt) y → Leaves E (product_allocated local n a b) P (allocates_product x y)
  calloc_runs n is a b x y ra rb = subst (λ (k : ℕ). Leaves E (product_allocated local k a b) P (allocates_product x y)) (sym is) (calloc_by a b x y ra rb)
