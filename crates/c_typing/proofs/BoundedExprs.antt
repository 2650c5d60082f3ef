-- How deep blocks nest in the code of expressions and places, and what it calls.
use Rattle.std.proofs.Common.{ℕ, zero, suc, ◌+◌, ◌≤◌, List, [], ◌∷◌, ◌++◌, Bool, true, false, Option, Some, None, arith}
use Rattle.std.specs.Prelude.{ℤ, pos, negsuc, cond, max, nat_lt}
use Rattle.ms_handle.specs.declared.handle.Kind.TheVariants as kinds
use Rattle.ms_module.specs.declared.access.Segment.TheVariants as segment
use Rattle.ms_module.specs.declared.instr.Instr.{Instr}
use Rattle.ms_module.specs.declared.instr.Instr.TheVariants.{LocalGet, LocalSet, LocalTee, Numeric, Segment}
use Rattle.ms_module.specs.declared.numeric.BinOp.TheVariants as bins
use Rattle.ms_module.specs.declared.numeric.RelOp.TheVariants as rels
use Rattle.ms_module.specs.declared.numeric.Numeric.TheVariants.{ExtendU, Wrap}
use Rattle.ms_module.specs.declared.numeric.Width.{Width}
use Rattle.ms_module.specs.declared.numeric.Width.TheVariants.{W32, W64}
use Rattle.c_types.specs.declared.integers.IntType.{IntType}
use Rattle.c_types.specs.declared.types.Scalar.{Scalar}
use Rattle.c_types.specs.declared.types.Scalar.TheVariants as scalars
use Rattle.c_types.specs.Integers.{bits, is_signed}
use Rattle.c_types.specs.Layout.{size}
use Rattle.c_types.specs.Types.{scalar_of}
use Rattle.c_typed.specs.declared.ops.RelOp.{RelOp}
use Rattle.c_typed.specs.declared.ops.RelOp.TheVariants as relations
use Rattle.c_typed.specs.declared.ops.UnaryOp.TheVariants.{Negate, Complement}
use Rattle.c_typed.specs.declared.ops.Variable.{Variable}
use Rattle.c_typed.specs.declared.ops.Variable.TheVariants.{Local, Global}
use Rattle.c_typed.specs.refinement.Nesting.{expr_nesting, exprs_nesting, place_nesting}
use Rattle.c_typed.specs.Tree as tree
use Rattle.c_typed.specs.Tree.{Place, of, deref, member, Expr, Exprs, more}
use Rattle.c_meaning.specs.Integers.{value_of}
use Rattle.ms_emit.specs.Codes.{Code, no_code}
use Rattle.c_code.specs.Expressions.{allocated, as_bit, begun, begun_over_old, begun_with_old, bytes_in, converted, copied, decayed, ended, expr, exprs, fetched, freed, is_bit, is_deref, is_null, leaf_copied, leaf_handle, leaves_copied, left, moved, moved_by, number_in, part, place, pointers_compared, product_allocated, put, updated, written}
use Rattle.c_code.specs.Leaves.{Leaf, leaves}
use Rattle.c_code.specs.Operations.{by_width, constant, convert, eqz, i32, i64, load, narrow, op, operated, rel, slice, store, to_type, truth, width_of, zero_of}
use Rattle.c_code.specs.Targets.{Target, get, plain_in, scratch_handle, scratch_place, set, tee, waiting}
use Rattle.c_code.specs.Uses.{Use, calls, through, in_expr, in_exprs, in_place}
use Rattle.c_typing.proofs.Bounded.{Bounded, IsFlat, flat, in_choice, in_leaf, nothing, ◌▹◌}
use Rattle.c_typing.proofs.Names.{Each, each_back, each_front}

-- what is called is among these, and the host's functions are
abbrev pub Calls : (C D : ℕ → Type 0) → Target → Use → Type 0
Calls C D t (calls n) = C (t.index n)
Calls C D t (through f) = D (t.sig f)
Calls C D t _ = Unit {0}

pub record Host (C : ℕ → Type 0) : Type 0 where
  pub putchar : C 0
  pub getchar : C 1
  pub abort : C 2

module _ (C D : ℕ → Type 0) where
  pub get_flat : (t : Target) (v : Variable) → IsFlat C D (get t v)
  get_flat t (Local n) = tt
  get_flat t (Global n) = tt

  pub set_flat : (t : Target) (v : Variable) → IsFlat C D (set t v)
  set_flat t (Local n) = tt
  set_flat t (Global n) = tt

  pub constant_flat : (w : Width) (z : ℤ) → IsFlat C D (constant w z)
  constant_flat W32 z = tt
  constant_flat W64 z = tt

  load_flat : (s : Scalar) → IsFlat C D (load s)
  load_flat (scalars.Int u) = tt
  load_flat scalars.Pointer = tt
  load_flat scalars.Function = tt

  pub store_flat : (s : Scalar) → IsFlat C D (store s)
  store_flat (scalars.Int u) = tt
  store_flat scalars.Pointer = tt
  store_flat scalars.Function = tt

  pub zero_flat : (s : Scalar) → IsFlat C D (zero_of s)
  zero_flat (scalars.Int u) = constant_flat (width_of u) (pos 0)
  zero_flat scalars.Pointer = tt
  zero_flat scalars.Function = tt

module _ (body : List (List Instr)) (C D : ℕ → Type 0) (h : ℕ) where
  -- without loops, within a depth
  abbrev Q : Code → Type 0
  Q a = Bounded body C D h 0 a

  left_ok : (k : Bool) (s : Option Scalar) {a : Code} → Q a → Q (left k s a)
  left_ok true s g = g
  left_ok false None g = g
  left_ok false (Some s) g = g ▹ flat (tt, tt)

  -- ---- numbers

  truth_ok : (s : Scalar) → Q (truth s)
  truth_ok (scalars.Int u) = flat (constant_flat C D (width_of u) (pos 0), (tt, tt))
  truth_ok scalars.Pointer = flat (tt, (tt, tt))
  truth_ok scalars.Function = flat (tt, (tt, tt))

  narrow_ok : (b : ℕ) (s : Bool) → Q (narrow b s)
  narrow_ok b true = flat (tt, (tt, (tt, (tt, tt))))
  narrow_ok b false = flat (tt, (tt, tt))

  to_type_ok : (t : IntType) → Q (to_type t)
  to_type_ok t = by (nat_lt (bits t) 32) where
    by : (b : Bool) → Bounded body C D h 0 (cond b (narrow (bits t) (is_signed t)) no_code)
    by true = narrow_ok (bits t) (is_signed t)
    by false = nothing

  convert_ok : (t u : IntType) → Q (convert t u)
  convert_ok t u = by (width_of t) (width_of u) where
    by : (v w : Width) → Bounded body C D h 0 (by_width t u v w)
    by W32 W32 = to_type_ok u
    by W32 W64 = flat (tt, tt)
    by W64 W32 = flat {is = Numeric Wrap ∷ []} (tt, tt) ▹ to_type_ok u
    by W64 W64 = nothing

  converted_ok : (t u : IntType) (o : Option ℤ) {a : Code} → Q a → Q (converted t u o a)
  converted_ok t u None g = g ▹ convert_ok t u
  converted_ok t u (Some z) g = flat (constant_flat C D (width_of u) _, tt)

  as_bit_ok : (b : Bool) {a : Code} → Q a → Q (as_bit b a)
  as_bit_ok true g = g
  as_bit_ok false g = g ▹ flat (tt, (tt, tt))

  -- ---- handles

  slice_ok : (from n : ℕ) → Q (slice from n)
  slice_ok from n = flat (tt, (tt, (tt, tt)))

  pub decayed_ok : (b : Bool) (n : ℕ) {p : Code} → Q p → Q (decayed b n p)
  decayed_ok true n g = g ▹ slice_ok 0 n
  decayed_ok false n g = g

  pointers_ok : (o : RelOp) (z : Bool) {a b : Code} → Q a → Q b → Q (pointers_compared o z a b)
  pointers_ok relations.Equal true ga gb = ga ▹ flat (tt, tt)
  pointers_ok relations.Equal false ga gb = ga ▹ gb ▹ flat (tt, tt)
  pointers_ok relations.NotEqual true ga gb = ga ▹ flat (tt, (tt, tt))
  pointers_ok relations.NotEqual false ga gb = ga ▹ gb ▹ flat (tt, (tt, tt))
  pointers_ok relations.Less z ga gb = ga ▹ gb ▹ flat (tt, (tt, (tt, tt)))
  pointers_ok relations.LessEqual z ga gb = ga ▹ gb ▹ flat (tt, (tt, (tt, tt)))
  pointers_ok relations.Greater z ga gb = ga ▹ gb ▹ flat (tt, (tt, (tt, tt)))
  pointers_ok relations.GreaterEqual z ga gb = ga ▹ gb ▹ flat (tt, (tt, (tt, tt)))

  moved_ok : (n : ℕ) (back : Bool) {i : Code} → Q i → Q (moved n back i)
  moved_ok n false g = g ▹ flat (tt, tt)
  moved_ok n true g = flat {is = i64 0 ∷ []} (tt, tt) ▹ g ▹ flat (tt, (tt, tt))

  allocated_ok : (n : ℕ) (o : Option ℕ) {e : Code} → Q e → Q (allocated n o e)
  allocated_ok n None g = g ▹ flat (tt, (tt, (tt, (tt, (tt, tt)))))
  allocated_ok n (Some k) g = flat (tt, (tt, tt))

  product_ok : (x n : ℕ) {a b : Code} → Q a → Q b → Q (product_allocated x n a b)
  product_ok x n ga gb =
      ga ▹ flat {is = Numeric ExtendU ∷ []} (tt, tt) ▹ gb
      ▹ flat {is = Numeric ExtendU ∷ op W64 bins.Mul ∷ LocalTee x ∷ i64 4294967295 ∷ rel W64 rels.GtU ∷ []}
      (tt, (tt, (tt, (tt, (tt, tt)))))
      ▹ in_leaf (Segment segment.Null ∷ [])
      (LocalGet x ∷ Numeric Wrap ∷ i32 n ∷ op W32 bins.DivU ∷ i32 n ∷ op W32 bins.Mul ∷ Segment (segment.New kinds.Heap) ∷ [])
      (tt, tt) (tt, (tt, (tt, (tt, (tt, (tt, (tt, tt)))))))

  module _ (t : Target) where
    -- ---- variables and places

    pub tee_ok : (v : Variable) → Q (tee t v)
    tee_ok (Local n) = flat (tt, tt)
    tee_ok (Global n) = flat (tt, (tt, tt))

    fetched_ok : (o : Option Variable) {p : Code} (s : Scalar) → Q p → Q (fetched t o p s)
    fetched_ok None s g = g ▹ flat (load_flat C D s, tt)
    fetched_ok (Some v) s g = flat (get_flat C D t v, tt)

    begun_ok : (o : Option Variable) {p : Code} → Q p → Q (begun t o p)
    begun_ok None g = g
    begun_ok (Some v) g = nothing

    put_ok : (o : Option Variable) (s : Scalar) → Q (put t o s)
    put_ok None s = flat (store_flat C D s, tt)
    put_ok (Some v) s = flat (set_flat C D t v, tt)

    written_ok : (o : Option Variable) (s : Scalar) → Q (written t o s)
    written_ok None s = flat (tt, (store_flat C D s, (tt, tt)))
    written_ok (Some v) s = tee_ok v

    ended_ok : (k : Bool) (o : Option Variable) (s : Scalar) → Q (ended t k o s)
    ended_ok true o s = written_ok o s
    ended_ok false o s = put_ok o s

    with_old_ok : (o : Option Variable) {p : Code} (s : Scalar) → Q p → Q (begun_with_old t o p s)
    with_old_ok None s g = g ▹ flat (tt, (tt, (load_flat C D s, tt)))
    with_old_ok (Some v) s g = flat (get_flat C D t v, tt)

    over_old_ok : (o : Option Variable) {p : Code} (s : Scalar) → Q p → Q (begun_over_old t o p s)
    over_old_ok None s g = g ▹ flat (tt, (load_flat C D s, (tt, (tt, (tt, tt)))))
    over_old_ok (Some v) s g = flat (get_flat C D t v, (get_flat C D t v, tt))

    updated_ok : (k old : Bool) (o : Option Variable) {p : Code} (s : Scalar) {change : Code} → Q p → Q change
        → Q (updated t k old o p s change)
    updated_ok true true o s gp g = over_old_ok o s gp ▹ g ▹ put_ok o s
    updated_ok true false o s gp g = with_old_ok o s gp ▹ g ▹ ended_ok true o s
    updated_ok false true o s gp g = with_old_ok o s gp ▹ g ▹ ended_ok false o s
    updated_ok false false o s gp g = with_old_ok o s gp ▹ g ▹ ended_ok false o s

    -- ---- structs

    leaf_handle_ok : (x : ℕ) (l : Leaf) (n : ℕ) → Q (leaf_handle t x l n)
    leaf_handle_ok x l n = flat {is = LocalGet x ∷ []} (tt, tt) ▹ slice_ok l.from l.length ▹ flat (tt, (tt, tt))

    leaf_copied_ok : (l : Leaf) (o : Option Scalar) → Q (leaf_copied t l o)
    leaf_copied_ok l None = nothing
    leaf_copied_ok l (Some s) = leaf_handle_ok _ l _ ▹ leaf_handle_ok _ l _ ▹ flat (load_flat C D s, (store_flat C D s, tt))

    leaves_copied_ok : (ls : List Leaf) → Q (leaves_copied t ls)
    leaves_copied_ok [] = nothing
    leaves_copied_ok (l ∷ ls) = leaf_copied_ok l (scalar_of l.ty) ▹ leaves_copied_ok ls

    copied_ok : (n : ℕ) {p q : Code} → Q p → Q q → Q (copied t n p q)
    copied_ok n gp gq = gp ▹ gq ▹ flat {is = LocalSet (scratch_handle t) ∷ LocalSet (scratch_place t) ∷ []} (tt, (tt, tt))
        ▹ leaves_copied_ok (leaves t.structs n)

    -- ---- the others

    moved_by_ok : (n : ℕ) {i p : Code} → Q i → Q p → Q (moved_by t n i p)
    moved_by_ok n gi gp = gi ▹ gp ▹ flat (tt, (tt, (tt, (tt, (tt, tt)))))

    freed_ok : {e : Code} → Q e → Q (freed t e)
    freed_ok g = g ▹ flat {is = LocalTee (scratch_handle t) ∷ Segment segment.IsNull ∷ eqz ∷ []} (tt, (tt, (tt, tt)))
        ▹ in_leaf (LocalGet (scratch_handle t) ∷ Segment (segment.Free kinds.Heap) ∷ []) [] (tt, (tt, tt)) tt

-- ---- what a part needs: blocks nest in it within the depth, and its calls are among these

module _ (C D : ℕ → Type 0) (t : Target) where
  pub record Within (h n : ℕ) (us : List Use) : Type 0 where
    pub depth : n ≤ h
    pub uses : Each (Calls C D t) us

  pub both_first : (h m n : ℕ) (us vs : List Use) → Within h (max m n) (us ++ vs) → Within h m us
  both_first h m n us vs w = record
      { depth = let d = w.depth in omega (arith, d); uses = each_front (Calls C D t) us vs w.uses }

  pub both_second : (h m n : ℕ) (us vs : List Use) → Within h (max m n) (us ++ vs) → Within h n vs
  both_second h m n us vs w = record
      { depth = let d = w.depth in omega (arith, d); uses = each_back (Calls C D t) us vs w.uses }

  -- within a block
  pub inside : (h n : ℕ) (us : List Use) → Within (suc h) (n + 1) us → Within h n us
  inside h n us w = record { depth = let d = w.depth in omega (arith, d); uses = w.uses }

  pub higher : (h n : ℕ) (us : List Use) → Within h n us → Within (suc h) n us
  higher h n us w = record { depth = let d = w.depth in omega (arith, d); uses = w.uses }

  pub not_zero : (n : ℕ) (us : List Use) → Within zero (n + 1) us → ⊥
  not_zero n us w = let d = w.depth in omega (arith, d)

module _ (body : List (List Instr)) (C D : ℕ → Type 0) (host : Host C) (t : Target) where
  abbrev pub E : ℕ → Expr → Type 0
  E h e = Within C D t h (expr_nesting e) (in_expr e)

  abbrev pub P : ℕ → Place → Type 0
  P h p = Within C D t h (place_nesting p) (in_place p)

  abbrev Es : ℕ → Exprs → Type 0
  Es h es = Within C D t h (exprs_nesting es) (in_exprs es)

  abbrev EE : ℕ → Expr → Expr → Type 0
  EE h a b = Within C D t h (max (expr_nesting a) (expr_nesting b)) (in_expr a ++ in_expr b)

  abbrev PE : ℕ → Place → Expr → Type 0
  PE h p e = Within C D t h (max (place_nesting p) (expr_nesting e)) (in_place p ++ in_expr e)

  fst : (h : ℕ) (a b : Expr) → EE h a b → E h a
  fst h a b w = both_first C D t h (expr_nesting a) (expr_nesting b) (in_expr a) (in_expr b) w

  snd : (h : ℕ) (a b : Expr) → EE h a b → E h b
  snd h a b w = both_second C D t h (expr_nesting a) (expr_nesting b) (in_expr a) (in_expr b) w

  fst_place : (h : ℕ) (p : Place) (e : Expr) → PE h p e → P h p
  fst_place h p e w = both_first C D t h (place_nesting p) (expr_nesting e) (in_place p) (in_expr e) w

  snd_place : (h : ℕ) (p : Place) (e : Expr) → PE h p e → E h e
  snd_place h p e w = both_second C D t h (place_nesting p) (expr_nesting e) (in_place p) (in_expr e) w

  mutual
    pub place_ok : (h d : ℕ) (p : Place) → P h p → Bounded body C D h 0 (place t d p)
    place_ok h d (of v) w = flat (get_flat C D t v, tt)
    place_ok h d (deref e) w = expr_ok h true d e w
    place_ok h d (member p n i) w = part_ok h d p w _ _

    part_ok : (h d : ℕ) (p : Place) → P h p → (from n : ℕ) → Bounded body C D h 0 (part t d p from n)
    part_ok h d (of v) w from n = flat {is = get t v ∷ []} (get_flat C D t v, tt) ▹ slice_ok body C D h from n
    part_ok h d (deref e) w from n = expr_ok h true d e w ▹ slice_ok body C D h from n
    part_ok h d (member p j i) w from n = part_ok h d p w _ n

    pub expr_ok : (h : ℕ) (k : Bool) (d : ℕ) (e : Expr) → E h e → Bounded body C D h 0 (expr t k d e)
    expr_ok h k d (tree.number u n) w = left_ok body C D h k _ (flat (constant_flat C D (width_of u) (value_of u n), tt))
    expr_ok h k d tree.null w = left_ok body C D h k _ (flat (tt, tt))
    expr_ok h k d tree.no_function w = left_ok body C D h k _ (flat (tt, tt))
    expr_ok h k d (tree.function n) w = left_ok body C D h k _ (flat (tt, tt))
    expr_ok h k d (tree.literal n) w = left_ok body C D h k _ (flat (tt, (tt, tt)))
    expr_ok h k d (tree.read s p) w = left_ok body C D h k _ (fetched_ok body C D h t (plain_in t p) s (place_ok h d p w))
    expr_ok h k d (tree.decay u n p) w = left_ok body C D h k _ (decayed_ok body C D h (is_deref p) _ (place_ok h d p w))
    expr_ok h k d (tree.address p) w = left_ok body C D h k _ (place_ok h d p w)
    expr_ok h k d (tree.truth s a) w = left_ok body C D h k _ (expr_ok h true d a w ▹ truth_ok body C D h s)
    expr_ok h k d (tree.not a) w = left_ok body C D h k _ (expr_ok h true d a w ▹ flat (tt, tt))
    expr_ok h k d (tree.unary Negate u a) w = left_ok body C D h k _
        (flat {is = constant (width_of u) (pos 0) ∷ []} (constant_flat C D (width_of u) (pos 0), tt)
        ▹ expr_ok h true d a w ▹ flat (tt, tt))
    expr_ok h k d (tree.unary Complement u a) w = left_ok body C D h k _
        (expr_ok h true d a w ▹ flat (constant_flat C D (width_of u) (negsuc 0), (tt, tt)))
    expr_ok h k d (tree.size_of_place n p) w = left_ok body C D h k _ (flat (tt, tt))
    expr_ok h k d (tree.size_of_value n e) w = left_ok body C D h k _ (flat (tt, tt))
    expr_ok h k d (tree.size_of_type n) w = left_ok body C D h k _ (flat (tt, tt))
    expr_ok h k d (tree.convert u v a) w = left_ok body C D h k _
        (converted_ok body C D h u v (number_in a) (expr_ok h true d a w))
    expr_ok h k d (tree.binary o u a b) w = left_ok body C D h k _
        (expr_ok h true d a (fst h a b w) ▹ expr_ok h true d b (snd h a b w) ▹ flat (tt, tt))
    expr_ok h k d (tree.compare o u a b) w = left_ok body C D h k _
        (expr_ok h true d a (fst h a b w) ▹ expr_ok h true d b (snd h a b w) ▹ flat (tt, tt))
    expr_ok h k d (tree.move u back a b) w = left_ok body C D h k _
        (expr_ok h true d a (fst h a b w) ▹ moved_ok body C D h (size t.structs u) back (expr_ok h true d b (snd h a b w)))
    expr_ok h k d (tree.move_by u a b) w = left_ok body C D h k _
        (moved_by_ok body C D h t (size t.structs u) (expr_ok h true d a (fst h a b w)) (expr_ok h true d b (snd h a b w)))
    expr_ok h k d (tree.difference u a b) w = left_ok body C D h k _
        (expr_ok h true d a (fst h a b w) ▹ expr_ok h true d b (snd h a b w) ▹ flat (tt, (tt, (tt, tt))))
    expr_ok h k d (tree.compare_pointers o a b) w = left_ok body C D h k _
        (pointers_ok body C D h o (is_null b) (expr_ok h true d a (fst h a b w)) (expr_ok h true d b (snd h a b w)))
    expr_ok h k d (tree.same_function is a b) w = left_ok body C D h k _
        (expr_ok h true d a (fst h a b w) ▹ expr_ok h true d b (snd h a b w) ▹ flat (tt, tt))
    expr_ok zero k d (tree.and a b) w = absurd (not_zero C D t (max (expr_nesting a) (expr_nesting b)) (in_expr a ++ in_expr b) w)
    expr_ok (suc h) k d (tree.and a b) w =
        let y = inside C D t h (max (expr_nesting a) (expr_nesting b)) (in_expr a ++ in_expr b) w in
        left_ok body C D (suc h) k _ (expr_ok (suc h) true d a (higher C D t h (expr_nesting a) (in_expr a) (fst h a b y))
        ▹ in_choice (as_bit_ok body C D h (is_bit b) (expr_ok h true d b (snd h a b y))) (flat {is = i32 0 ∷ []} (tt, tt)))
    expr_ok zero k d (tree.or a b) w = absurd (not_zero C D t (max (expr_nesting a) (expr_nesting b)) (in_expr a ++ in_expr b) w)
    expr_ok (suc h) k d (tree.or a b) w =
        let y = inside C D t h (max (expr_nesting a) (expr_nesting b)) (in_expr a ++ in_expr b) w in
        left_ok body C D (suc h) k _ (expr_ok (suc h) true d a (higher C D t h (expr_nesting a) (in_expr a) (fst h a b y))
        ▹ in_choice (flat {is = i32 1 ∷ []} (tt, tt)) (as_bit_ok body C D h (is_bit b) (expr_ok h true d b (snd h a b y))))
    expr_ok zero k d (tree.choose s e a b) w = absurd (not_zero C D t
        (max (expr_nesting e) (max (expr_nesting a) (expr_nesting b))) (in_expr e ++ (in_expr a ++ in_expr b)) w)
    expr_ok (suc h) k d (tree.choose s e a b) w =
        let n = max (expr_nesting a) (expr_nesting b) in
        let us = in_expr a ++ in_expr b in
        let y = inside C D t h (max (expr_nesting e) n) (in_expr e ++ us) w in
        let z = both_second C D t h (expr_nesting e) n (in_expr e) us y in
        left_ok body C D (suc h) k _ (expr_ok (suc h) true d e (higher C D t h (expr_nesting e) (in_expr e)
        (both_first C D t h (expr_nesting e) n (in_expr e) us y))
        ▹ in_choice (expr_ok h true d a (fst h a b z)) (expr_ok h true d b (snd h a b z)))
    expr_ok h k d (tree.comma a b) w = expr_ok h false d a (fst h a b w) ▹ expr_ok h k d b (snd h a b w)
    expr_ok h k d (tree.assign s p e) w = begun_ok body C D h t (plain_in t p) (place_ok h d p (fst_place h p e w))
        ▹ expr_ok h true d e (snd_place h p e w) ▹ ended_ok body C D h t k (plain_in t p) s
    expr_ok h k d (tree.update old u o v p e) w = updated_ok body C D h t k old (plain_in t p) (scalars.Int u)
        (place_ok h d p (fst_place h p e w))
        (convert_ok body C D h u v ▹ expr_ok h true d e (snd_place h p e w) ▹ flat {is = operated o v ∷ []} (tt, tt)
        ▹ convert_ok body C D h v u)
    expr_ok h k d (tree.advance old u back p e) w = updated_ok body C D h t k old (plain_in t p) scalars.Pointer
        (place_ok h d p (fst_place h p e w))
        (moved_ok body C D h (size t.structs u) back (expr_ok h true d e (snd_place h p e w)))
    expr_ok h k d (tree.copy n p q) w =
        let us = in_place p in
        let y : Within C D t h (max (place_nesting p) (place_nesting q)) (in_place p ++ in_place q) =
        record { depth = w.depth; uses = w.uses.1 } in
        copied_ok body C D h t n
        (place_ok h d p (both_first C D t h (place_nesting p) (place_nesting q) (in_place p) (in_place q) y))
        (place_ok h d q (both_second C D t h (place_nesting p) (place_nesting q) (in_place p) (in_place q) y))
    expr_ok h k d (tree.call n s es) w = left_ok body C D h k s
        (exprs_ok h d es (record { depth = w.depth; uses = w.uses.1 }) ▹ flat (w.uses.0, tt))
    expr_ok h k d (tree.call_through u s e es) w =
        let y : Within C D t h (max (expr_nesting e) (exprs_nesting es)) (in_expr e ++ in_exprs es) =
        record { depth = w.depth; uses = w.uses.1 } in
        left_ok body C D h k s
        (expr_ok h true d e (both_first C D t h (expr_nesting e) (exprs_nesting es) (in_expr e) (in_exprs es) y)
        ▹ flat {is = LocalSet (waiting t d) ∷ []} (tt, tt)
        ▹ exprs_ok h (suc d) es (both_second C D t h (expr_nesting e) (exprs_nesting es) (in_expr e) (in_exprs es) y)
        ▹ flat (tt, (w.uses.0, tt)))
    expr_ok h k d (tree.putchar e) w = left_ok body C D h k _ (expr_ok h true d e w ▹ flat (host.putchar, tt))
    expr_ok h k d tree.getchar w = left_ok body C D h k _ (flat (host.getchar, tt))
    expr_ok h k d tree.abort w = flat (host.abort, tt)
    expr_ok h k d (tree.malloc u e) w = left_ok body C D h k _
        (allocated_ok body C D h (size t.structs u) (bytes_in e) (expr_ok h true d e w))
    expr_ok h k d (tree.calloc u a b) w = left_ok body C D h k _
        (product_ok body C D h _ (size t.structs u) (expr_ok h true d a (fst h a b w)) (expr_ok h true d b (snd h a b w)))
    expr_ok h k d (tree.free e) w = freed_ok body C D h t (expr_ok h true d e w)
    expr_ok h k d (tree.discard e) w = expr_ok h false d e w
    expr_ok h k d (tree.visit p) w = place_ok h d p w ▹ flat (tt, tt)

    exprs_ok : (h d : ℕ) (es : Exprs) → Es h es → Bounded body C D h 0 (exprs t d es)
    exprs_ok h d tree.none w = nothing
    exprs_ok h d (more e es) w =
        expr_ok h true d e (both_first C D t h (expr_nesting e) (exprs_nesting es) (in_expr e) (in_exprs es) w)
        ▹ exprs_ok h d es (both_second C D t h (expr_nesting e) (exprs_nesting es) (in_expr e) (in_exprs es) w)
