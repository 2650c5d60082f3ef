-- The code of expressions (C11, 6.5). Behind it its value stands on the operands, if it has one that is kept, and all that stood
-- below stays. An expression that is evaluated for its effect keeps none. Where a line looks at a part, it asks for the part's own
-- node alone. `d` values wait.
use Rattle.std.specs.Prelude.{ℕ, suc, ◌+◌, ◌*◌, ◌/◌, ℤ, pos, negsuc, nat_lt, Bool, true, false, List, [], ◌∷◌, Option, Some, None, if◌then◌else◌, get_or}
use Rattle.ms_handle.specs.declared.handle.Kind.TheVariants as kinds
use Rattle.ms_types.specs.declared.types.ValType.TheVariants as vals
use Rattle.ms_module.specs.declared.access.Segment.TheVariants as segment
use Rattle.ms_module.specs.declared.instr.Instr.{Instr}
use Rattle.ms_module.specs.declared.instr.Instr.TheVariants.{Call, CallIndirect, Drop, GlobalGet, LocalGet, LocalSet, LocalTee, Numeric, Segment}
use Rattle.ms_module.specs.declared.numeric.BinOp.TheVariants as bins
use Rattle.ms_module.specs.declared.numeric.RelOp.TheVariants as rels
use Rattle.ms_module.specs.declared.numeric.Numeric.TheVariants.{ExtendU, Wrap}
use Rattle.ms_module.specs.declared.numeric.Width.{Width}
use Rattle.ms_module.specs.declared.numeric.Width.TheVariants.{W32, W64}
use Rattle.c_types.specs.declared.integers.IntType.{IntType}
use Rattle.c_types.specs.declared.integers.IntType.TheVariants.{Int, UnsignedInt, LongLong}
use Rattle.c_types.specs.declared.types.Scalar.{Scalar}
use Rattle.c_types.specs.declared.types.Scalar.TheVariants as scalars
use Rattle.c_types.specs.Types.{Ty, struct, void, scalar_of}
use Rattle.c_types.specs.Layout.{Table, members_of, offset, size}
use Rattle.c_typed.specs.declared.ops.BinaryOp.{BinaryOp}
use Rattle.c_typed.specs.declared.ops.RelOp.{RelOp}
use Rattle.c_typed.specs.declared.ops.RelOp.TheVariants.{Equal, NotEqual}
use Rattle.c_typed.specs.declared.ops.UnaryOp.TheVariants.{Negate, Complement}
use Rattle.c_typed.specs.declared.ops.Variable.{Variable}
use Rattle.c_typed.specs.Tree as tree
use Rattle.c_typed.specs.Tree.{Place, of, deref, member, Expr, Exprs, none, more}
use Rattle.c_meaning.specs.Integers.{bits_of, value_of, wrap}
use Rattle.ms_emit.specs.Codes.{Code, plain, one, no_code, ◌⨾◌, choice}
use Rattle.c_code.specs.Leaves.{Leaf, leaves}
use Rattle.c_code.specs.Operations.{constant, convert, compared, eqz, i32, i64, load, narrow, new_heap, op, operated, rel, relation, slice, store, truth, val_option, width_of}
use Rattle.c_code.specs.Targets.{Target, get, set, tee, plain_in, scratch_handle, scratch_i64, scratch_of, scratch_place, waiting}

-- ---- what an expression leaves: its value, if it has one, where that is kept

abbrev pub left : (kept : Bool) → Option Scalar → Code → Code
left true s c = c
left false None c = c
left false (Some s) c = c ⨾ one Drop

abbrev pub int : Option Scalar
int = Some (scalars.Int Int)

abbrev pub of_type : IntType → Option Scalar
of_type u = Some (scalars.Int u)

abbrev pub pointer : Option Scalar
pointer = Some scalars.Pointer

abbrev pub function : Option Scalar
function = Some scalars.Function

-- ---- what a line asks of a part

abbrev pub number_in : Expr → Option ℤ
number_in (tree.number t n) = Some (value_of t n)
number_in _ = None

-- a number that is known as bits of an unsigned int
abbrev pub bytes_in : Expr → Option ℕ
bytes_in (tree.number t n) = Some n
bytes_in (tree.size_of_place n p) = Some n
bytes_in (tree.size_of_value n e) = Some n
bytes_in (tree.size_of_type n) = Some (bits_of UnsignedInt (pos n))
bytes_in _ = None

abbrev pub is_null : Expr → Bool
is_null tree.null = true
is_null _ = false

-- it gives 0 or 1
abbrev pub is_bit : Expr → Bool
is_bit (tree.truth s a) = true
is_bit (tree.not a) = true
is_bit (tree.compare o t a b) = true
is_bit (tree.compare_pointers o a b) = true
is_bit (tree.same_function is a b) = true
is_bit (tree.and a b) = true
is_bit (tree.or a b) = true
is_bit _ = false

abbrev pub is_deref : Place → Bool
is_deref (deref e) = true
is_deref _ = false

-- ---- nodes by the codes of their parts

-- a number of the first type as one of the second: a constant, where it is known
abbrev pub converted : (t u : IntType) → Option ℤ → Code → Code
converted t u None a = a ⨾ convert t u
converted t u (Some z) a = one (constant (width_of u) (wrap u z))

-- a condition as 0 or 1
abbrev pub as_bit : Bool → Code → Code
as_bit true a = a
as_bit false a = a ⨾ truth (scalars.Int Int)

-- an array's place as the pointer to its first element: behind a pointer it is narrowed to the array
abbrev pub decayed : (is_deref : Bool) → (length : ℕ) → Code → Code
decayed true n p = p ⨾ slice 0 n
decayed false n p = p

-- 6.5.8, 6.5.9
abbrev pub pointers_compared : RelOp → (is_null : Bool) → Code → Code → Code
pointers_compared Equal true a b = a ⨾ one (Segment segment.IsNull)
pointers_compared Equal false a b = a ⨾ b ⨾ one (Segment segment.Eq)
pointers_compared NotEqual true a b = a ⨾ plain (Segment segment.IsNull ∷ eqz ∷ [])
pointers_compared NotEqual false a b = a ⨾ b ⨾ plain (Segment segment.Eq ∷ eqz ∷ [])
pointers_compared r is_null a b = a ⨾ b ⨾ plain (Segment segment.Diff ∷ i64 0 ∷ compared r LongLong ∷ [])

-- a handle on the stack goes on by so many elements of this size, or back
abbrev pub moved : (size : ℕ) → (back : Bool) → Code → Code
moved n false i = i ⨾ one (Segment (segment.Add n))
moved n true i = one (i64 0) ⨾ i ⨾ plain (op W64 bins.Sub ∷ Segment (segment.Add n) ∷ [])

-- so many bytes as elements of this size: a constant, where it is known
abbrev pub allocated : (size : ℕ) → Option ℕ → Code → Code
allocated n None e = e ⨾ new_heap n
allocated n (Some k) e = plain (i32 (k / n * n) ∷ Segment (segment.New kinds.Heap) ∷ [])

-- the product is taken in 64 bits
abbrev pub product_allocated : (scratch size : ℕ) → Code → Code → Code
product_allocated x n a b =
    a ⨾ one (Numeric ExtendU) ⨾ b ⨾ plain (Numeric ExtendU ∷ op W64 bins.Mul ∷ LocalTee x ∷ i64 4294967295 ∷ rel W64 rels.GtU ∷ []) ⨾
    choice (Some vals.Handle) (one (Segment segment.Null)) (plain (LocalGet x ∷ Numeric Wrap ∷ []) ⨾ new_heap n)

module _ (t : Target) where
  -- ---- variables that are written, and places. `p` is the code of the place, where it is no plain variable.

  -- what a place of a scalar holds
  abbrev pub fetched : Option Variable → Code → Scalar → Code
  fetched (Some v) p s = one (get t v)
  fetched None p s = p ⨾ one (load s)

  -- what stands in front of the value that is written
  abbrev pub begun : Option Variable → Code → Code
  begun (Some v) p = no_code
  begun None p = p

  -- the value is written, and stays
  abbrev pub written : Option Variable → Scalar → Code
  written (Some v) s = tee t v
  written None s = let x = scratch_of t s in plain (LocalTee x ∷ store s ∷ LocalGet x ∷ [])

  -- it is written, and gone
  abbrev pub put : Option Variable → Scalar → Code
  put (Some v) s = one (set t v)
  put None s = one (store s)

  -- the place, if it isn't a plain variable, and its old value
  abbrev pub begun_with_old : Option Variable → Code → Scalar → Code
  begun_with_old (Some v) p s = one (get t v)
  begun_with_old None p s = let q = scratch_place t in p ⨾ plain (LocalTee q ∷ LocalGet q ∷ load s ∷ [])

  -- the old value, the place, and the old value
  abbrev pub begun_over_old : Option Variable → Code → Scalar → Code
  begun_over_old (Some v) p s = plain (get t v ∷ get t v ∷ [])
  begun_over_old None p s =
      let q = scratch_place t in let x = scratch_of t s in p ⨾ plain (LocalTee q ∷ load s ∷ LocalTee x ∷ LocalGet q ∷ LocalGet x ∷ [])

  abbrev pub ended : (kept : Bool) → Option Variable → Scalar → Code
  ended true v s = written v s
  ended false v s = put v s

  -- `change` leads from the old value to the new one, of which one may stay (6.5.2.4, 6.5.3.1, 6.5.16.2)
  abbrev pub updated : (kept old : Bool) → Option Variable → Code → Scalar → (change : Code) → Code
  updated true true v p s change = begun_over_old v p s ⨾ change ⨾ put v s
  updated k old v p s change = begun_with_old v p s ⨾ change ⨾ ended k v s

  -- ---- structs (6.5.16.1): the handle of a leaf, and a leaf that is read and then written

  abbrev pub leaf_handle : (handle : ℕ) → Leaf → (size : ℕ) → Code
  leaf_handle h l n = one (LocalGet h) ⨾ slice l.from l.length ⨾ plain (i64 l.index ∷ Segment (segment.Add n) ∷ [])

  abbrev pub leaf_copied : Leaf → Option Scalar → Code
  leaf_copied l None = no_code
  leaf_copied l (Some s) =
      let n = size t.structs l.ty in
      leaf_handle (scratch_place t) l n ⨾ leaf_handle (scratch_handle t) l n ⨾ plain (load s ∷ store s ∷ [])

  abbrev pub leaves_copied : List Leaf → Code
  leaves_copied [] = no_code
  leaves_copied (l ∷ ls) = leaf_copied l (scalar_of l.ty) ⨾ leaves_copied ls

  -- from the second place to the first
  abbrev pub copied : ℕ → Code → Code → Code
  copied n p q = p ⨾ q ⨾ plain (LocalSet (scratch_handle t) ∷ LocalSet (scratch_place t) ∷ []) ⨾ leaves_copied (leaves t.structs n)

  -- ---- free, a null pointer passed over (7.22.3.3)

  abbrev pub freed : Code → Code
  freed e =
      let h = scratch_handle t in
      e ⨾ plain (LocalTee h ∷ Segment segment.IsNull ∷ eqz ∷ []) ⨾ choice None (plain (LocalGet h ∷ Segment (segment.Free kinds.Heap) ∷ [])) no_code

  -- ---- a number in front of a handle (6.5.6)

  abbrev pub moved_by : (size : ℕ) → Code → Code → Code
  moved_by n i p =
      i ⨾ p ⨾ plain (LocalSet (scratch_handle t) ∷ LocalSet (scratch_i64 t) ∷ LocalGet (scratch_handle t) ∷ LocalGet (scratch_i64 t) ∷ Segment (segment.Add n) ∷ [])

  -- ---- members (6.5.2.3)

  abbrev pub member_size : (number index : ℕ) → ℕ
  member_size n m = size t.structs (get_or (members_of t.structs (struct n)) m void)

  abbrev mutual
    -- the handle of a place
    pub place : (d : ℕ) → Place → Code
    place d (of v) = one (get t v)
    place d (deref e) = expr true d e
    place d (member p n m) = part d p (offset t.structs (struct n) m) (member_size n m)

    -- of so many bytes of a place from so many on: a member of a member is one slice
    pub part : (d : ℕ) → Place → (from length : ℕ) → Code
    part d (of v) from n = one (get t v) ⨾ slice from n
    part d (deref e) from n = expr true d e ⨾ slice from n
    part d (member p k m) from n = part d p (offset t.structs (struct k) m + from) n

    pub expr : (kept : Bool) → (d : ℕ) → Expr → Code
    -- 6.5.1, and what decays (6.3.2.1)
    expr k d (tree.number u n) = left k (of_type u) (one (constant (width_of u) (value_of u n)))
    expr k d tree.null = left k pointer (one (Segment segment.Null))
    expr k d tree.no_function = left k function (one (i32 0))
    expr k d (tree.function n) = left k function (one (i32 (t.entry n)))
    -- it is sealed here, since a pointer to it may be formed before its bytes are written
    expr k d (tree.literal n) = left k pointer (plain (GlobalGet (t.globals + n) ∷ Segment segment.Seal ∷ []))
    expr k d (tree.read s p) = left k (Some s) (fetched (plain_in t p) (place d p) s)
    expr k d (tree.decay u n p) = left k pointer (decayed (is_deref p) (n * size t.structs u) (place d p))
    -- 6.5.3
    expr k d (tree.address p) = left k pointer (place d p)
    expr k d (tree.truth s a) = left k int (expr true d a ⨾ truth s)
    expr k d (tree.not a) = left k int (expr true d a ⨾ one eqz)
    expr k d (tree.unary Negate u a) =
        left k (of_type u) (one (constant (width_of u) (pos 0)) ⨾ expr true d a ⨾ one (op (width_of u) bins.Sub))
    expr k d (tree.unary Complement u a) =
        left k (of_type u) (expr true d a ⨾ plain (constant (width_of u) (negsuc 0) ∷ op (width_of u) bins.Xor ∷ []))
    expr k d (tree.size_of_place n p) = left k (of_type UnsignedInt) (one (i32 n))
    expr k d (tree.size_of_value n e) = left k (of_type UnsignedInt) (one (i32 n))
    expr k d (tree.size_of_type n) = left k (of_type UnsignedInt) (one (i32 n))
    -- 6.3.1.3
    expr k d (tree.convert u v a) = left k (of_type v) (converted u v (number_in a) (expr true d a))
    -- 6.5.5 to 6.5.12
    expr k d (tree.binary o u a b) = left k (of_type u) (expr true d a ⨾ expr true d b ⨾ one (operated o u))
    expr k d (tree.compare o u a b) = left k int (expr true d a ⨾ expr true d b ⨾ one (compared o u))
    -- pointers: 6.5.6, 6.5.8, 6.5.9
    expr k d (tree.move u back a b) = left k pointer (expr true d a ⨾ moved (size t.structs u) back (expr true d b))
    expr k d (tree.move_by u a b) = left k pointer (moved_by (size t.structs u) (expr true d a) (expr true d b))
    expr k d (tree.difference u a b) =
        left k (of_type LongLong) (expr true d a ⨾ expr true d b ⨾ plain (Segment segment.Diff ∷ i64 (size t.structs u) ∷ op W64 bins.DivS ∷ []))
    expr k d (tree.compare_pointers o a b) = left k int (pointers_compared o (is_null b) (expr true d a) (expr true d b))
    expr k d (tree.same_function is a b) =
        left k int (expr true d a ⨾ expr true d b ⨾ one (rel W32 (if is then rels.Eq else rels.Ne)))
    -- 6.5.13 to 6.5.15, 6.5.17
    expr k d (tree.and a b) =
        left k int (expr true d a ⨾ choice (Some vals.I32) (as_bit (is_bit b) (expr true d b)) (one (i32 0)))
    expr k d (tree.or a b) =
        left k int (expr true d a ⨾ choice (Some vals.I32) (one (i32 1)) (as_bit (is_bit b) (expr true d b)))
    expr k d (tree.choose s c a b) = left k s (expr true d c ⨾ choice (val_option s) (expr true d a) (expr true d b))
    expr k d (tree.comma a b) = expr false d a ⨾ expr k d b
    -- 6.5.16, 6.5.2.4, 6.5.3.1
    expr k d (tree.assign s p e) = let v = plain_in t p in begun v (place d p) ⨾ expr true d e ⨾ ended k v s
    expr k d (tree.update old u o v p e) =
        updated k old (plain_in t p) (place d p) (scalars.Int u) (convert u v ⨾ expr true d e ⨾ one (operated o v) ⨾ convert v u)
    expr k d (tree.advance old u back p e) =
        updated k old (plain_in t p) (place d p) scalars.Pointer (moved (size t.structs u) back (expr true d e))
    expr k d (tree.copy n p q) = copied n (place d p) (place d q)
    -- 6.5.2.2: the function that is called through a pointer waits while the arguments are evaluated
    expr k d (tree.call n s es) = left k s (exprs d es ⨾ one (Call (t.index n)))
    expr k d (tree.call_through u s e es) =
        left k s (expr true d e ⨾ one (LocalSet (waiting t d)) ⨾ exprs (suc d) es ⨾ plain (LocalGet (waiting t d) ∷ CallIndirect (t.sig u) ∷ []))
    -- the host's functions
    expr k d (tree.putchar e) = left k int (expr true d e ⨾ one (Call 0))
    expr k d tree.getchar = left k int (one (Call 1))
    expr k d tree.abort = one (Call 2)
    -- 7.22.3
    expr k d (tree.malloc u e) = left k pointer (allocated (size t.structs u) (bytes_in e) (expr true d e))
    expr k d (tree.calloc u a b) =
        left k pointer (product_allocated (scratch_i64 t) (size t.structs u) (expr true d a) (expr true d b))
    expr k d (tree.free e) = freed (expr true d e)
    -- what is thrown away (6.3.2.2)
    expr k d (tree.discard e) = expr false d e
    expr k d (tree.visit p) = place d p ⨾ one Drop

    -- the arguments, from left to right
    pub exprs : (d : ℕ) → Exprs → Code
    exprs d none = no_code
    exprs d (more e es) = expr true d e ⨾ exprs d es

-- what is evaluated for its effect (6.8.3)
abbrev pub thrown : Target → (d : ℕ) → Expr → Code
thrown t d e = expr t false d e

-- what is evaluated behind each iteration of a loop
abbrev pub step : Target → (d : ℕ) → Option Expr → Code
step t d None = no_code
step t d (Some e) = thrown t d e
