-- Code without instructions has no sequences: the code of all expressions.
use Rattle.std.proofs.Common.{◌≡◌, ℕ, suc, ◌+◌, List, [], ◌∷◌, ◌++◌, length, Bool, true, false, Option, Some, None, refl, ap, ◌∙◌, cond}
use Rattle.std.specs.Prelude.{ℤ, ◌&&◌, nat_lt}
use Rattle.ms_types.specs.declared.types.ValType.{ValType}
use Rattle.ms_types.specs.declared.types.ValType.TheVariants as vals
use Rattle.ms_module.specs.declared.instr.Instr.{Instr}
use Rattle.ms_module.specs.declared.instr.Instr.TheVariants.{Drop, LocalSet}
use Rattle.ms_module.specs.declared.numeric.Width.{Width}
use Rattle.ms_module.specs.declared.numeric.Width.TheVariants.{W32, W64}
use Rattle.c_types.specs.declared.integers.IntType.{IntType}
use Rattle.c_types.specs.declared.integers.IntType.TheVariants.{Int}
use Rattle.c_types.specs.declared.types.Scalar.{Scalar}
use Rattle.c_types.specs.declared.types.Scalar.TheVariants as scalars
use Rattle.c_types.specs.Integers.{bits, is_signed}
use Rattle.c_types.specs.Layout.{size}
use Rattle.c_typed.specs.declared.ops.RelOp.TheVariants as relations
use Rattle.c_typed.specs.declared.ops.UnaryOp.TheVariants as signs
use Rattle.c_typed.specs.declared.ops.Variable.{Variable}
use Rattle.c_typed.specs.declared.ops.Variable.TheVariants.{Local, Global}
use Rattle.c_typed.specs.Tree as tree
use Rattle.c_typed.specs.Tree.{Place, of, Expr, Exprs, none, more}
use Rattle.ms_emit.specs.Codes.{Code, plain, one, no_code, ◌⨾◌, choice}
use Rattle.c_code.specs.Expressions.{allocated, as_bit, begun, begun_with_old, begun_over_old, bytes_in, converted, copied, ended, expr, exprs, fetched, freed, int, is_bit, is_null, leaves_copied, left, number_in, place, pointers_compared, product_allocated, put, updated, moved, decayed, is_deref, part}
use Rattle.c_code.specs.Operations.{by_width, convert, i32, narrow, to_type, truth, val_option, width_of}
use Rattle.c_code.specs.Leaves.{leaves}
use Rattle.c_code.specs.Targets.{Target, plain_in, scratch_handle, scratch_i64, scratch_place, tee}

-- both of two
pub both : (a b : Bool) → (a && b) ≡ true → (a ≡ true) × (b ≡ true)
both true b e = (refl, e)
both false b e = absurd cc

abbrev pub IsWhole : Code → Type 0
IsWhole b = (n : ℕ) → (b n).instrs ≡ [] → (b n).seqs ≡ []

-- code without a block
abbrev pub IsBare : Code → Type 0
IsBare b = (n : ℕ) → (b n).seqs ≡ []

bare_to_type : (t : IntType) → IsBare (to_type t)
bare_to_type t = by (nat_lt (bits t) 32) where
  narrows : (b : ℕ) (s : Bool) → IsBare (narrow b s)
  narrows b true n = refl
  narrows b false n = refl

  by : (b : Bool) → IsBare (cond b (narrow (bits t) (is_signed t)) no_code)
  by true = narrows (bits t) (is_signed t)
  by false = λ n. refl

pub bare_convert : (t u : IntType) → IsBare (convert t u)
bare_convert t u = by (width_of t) (width_of u) where
  by : (v w : Width) → IsBare (by_width t u v w)
  by W32 W32 = bare_to_type u
  by W32 W64 = λ n. refl
  by W64 W32 = λ n. bare_to_type u (n + 0)
  by W64 W64 = λ n. refl

-- ---- of the combinators

nil_left : (a b : List Instr) → a ++ b ≡ [] → a ≡ []
nil_left [] b e = refl
nil_left (i ∷ a) b e = absurd cc

nil_right : (a b : List Instr) → a ++ b ≡ [] → b ≡ []
nil_right [] b e = e
nil_right (i ∷ a) b e = absurd cc

pub whole_bare : (c : Code) → IsBare c → IsWhole c
whole_bare c b n e = b n

pub whole_plain : (is : List Instr) → IsWhole (plain is)
whole_plain is n e = refl

pub whole_then : (a b : Code) → IsWhole a → IsWhole b → IsWhole (a ⨾ b)
whole_then a b ha hb n e =
    let x = a n in
    let y = b (n + length x.seqs) in
    ap (λ (l : List (List Instr)). l ++ y.seqs) (ha n (nil_left x.instrs y.instrs e)) ∙ hb (n + length x.seqs) (nil_right x.instrs y.instrs e)

pub whole_choice : (k : Option ValType) (a b : Code) → IsWhole (choice k a b)
whole_choice k a b n e = absurd cc

whole_left : (k : Bool) (s : Option Scalar) (c : Code) → IsWhole c → IsWhole (left k s c)
whole_left true s c h = h
whole_left false None c h = h
whole_left false (Some s) c h = whole_then c (one Drop) h (whole_plain _)

whole_converted : (t u : IntType) (o : Option ℤ) (a : Code) → IsWhole a → IsWhole (converted t u o a)
whole_converted t u None a h = whole_then a (convert t u) h (whole_bare (convert t u) (bare_convert t u))
whole_converted t u (Some z) a h = whole_plain _

whole_truth : (s : Scalar) → IsWhole (truth s)
whole_truth (scalars.Int t) = whole_plain _
whole_truth scalars.Pointer = whole_plain _
whole_truth scalars.Function = whole_plain _

pub whole_as_bit : (b : Bool) (a : Code) → IsWhole a → IsWhole (as_bit b a)
whole_as_bit true a h = h
whole_as_bit false a h = whole_then a (truth (scalars.Int Int)) h (whole_plain _)

whole_decayed : (b : Bool) (n : ℕ) (p : Code) → IsWhole p → IsWhole (decayed b n p)
whole_decayed true n p h = whole_then p _ h (whole_plain _)
whole_decayed false n p h = h

whole_equal : (n : Bool) (a b : Code) → IsWhole a → IsWhole b → IsWhole (pointers_compared relations.Equal n a b)
whole_equal true a b ha hb = whole_then a _ ha (whole_plain _)
whole_equal false a b ha hb = whole_then a _ ha (whole_then b _ hb (whole_plain _))

whole_unequal : (n : Bool) (a b : Code) → IsWhole a → IsWhole b → IsWhole (pointers_compared relations.NotEqual n a b)
whole_unequal true a b ha hb = whole_then a _ ha (whole_plain _)
whole_unequal false a b ha hb = whole_then a _ ha (whole_then b _ hb (whole_plain _))

-- ---- objects of the heap

never_empty : (is js : List Instr) (i : Instr) → is ++ i ∷ js ≡ [] → ⊥
never_empty [] js i e = absurd cc
never_empty (j ∷ is) js i e = absurd cc

whole_allocated : (n : ℕ) (o : Option ℕ) (a : Code) → IsWhole (allocated n o a)
whole_allocated n None a j e = absurd (never_empty (a j).instrs _ _ e)
whole_allocated n (Some k) a j e = refl

whole_product : (x n : ℕ) (a b : Code) → IsWhole (product_allocated x n a b)
whole_product x n a b j e = absurd (never_empty (a j).instrs _ _ e)

whole_freed : (t : Target) (a : Code) → IsWhole (freed t a)
whole_freed t a j e = absurd (never_empty (a j).instrs _ _ e)

whole_set : (x : ℕ) (is : List Instr) (c : Code) → IsWhole (plain (LocalSet x ∷ is) ⨾ c)
whole_set x is c n e = absurd (never_empty [] (is ++ (c (n + 0)).instrs) (LocalSet x) e)

whole_moved : (n : ℕ) (back : Bool) (i : Code) → IsWhole i → IsWhole (moved n back i)
whole_moved n true i h = whole_then (one _) _ (whole_plain _) (whole_then i _ h (whole_plain _))
whole_moved n false i h = whole_then i _ h (whole_plain _)

-- code behind that of two pointers
whole_two : (a b : Code) (is : List Instr) → IsWhole a → IsWhole b → IsWhole (a ⨾ b ⨾ plain is)
whole_two a b is ha hb = whole_then a _ ha (whole_then b _ hb (whole_plain is))

module _ (t : Target) where
  whole_fetched : (v : Option Variable) (p : Code) (s : Scalar) → IsWhole p → IsWhole (fetched t v p s)
  whole_fetched (Some v) p s h = whole_plain _
  whole_fetched None p s h = whole_then p _ h (whole_plain _)

  whole_begun : (v : Option Variable) (p : Code) → IsWhole p → IsWhole (begun t v p)
  whole_begun (Some v) p h = whole_plain []
  whole_begun None p h = h

  whole_tee : (v : Variable) → IsWhole (tee t v)
  whole_tee (Local n) = whole_plain _
  whole_tee (Global n) = whole_plain _

  whole_ended : (k : Bool) (v : Option Variable) (s : Scalar) → IsWhole (ended t k v s)
  whole_ended true (Some v) s = whole_tee v
  whole_ended true None s = whole_plain _
  whole_ended false (Some v) s = whole_plain _
  whole_ended false None s = whole_plain _

  whole_with_old : (v : Option Variable) (p : Code) (s : Scalar) → IsWhole p → IsWhole (begun_with_old t v p s)
  whole_with_old (Some v) p s h = whole_plain _
  whole_with_old None p s h = whole_then p _ h (whole_plain _)

  whole_over_old : (v : Option Variable) (p : Code) (s : Scalar) → IsWhole p → IsWhole (begun_over_old t v p s)
  whole_over_old (Some v) p s h = whole_plain _
  whole_over_old None p s h = whole_then p _ h (whole_plain _)

  whole_put : (v : Option Variable) (s : Scalar) → IsWhole (put t v s)
  whole_put (Some v) s = whole_plain _
  whole_put None s = whole_plain _

  whole_updated : (k old : Bool) (v : Option Variable) (p : Code) (s : Scalar) (c : Code) → IsWhole p → IsWhole c → IsWhole (updated t k old v p s c)
  whole_updated true true v p s c hp hc = whole_then (begun_over_old t v p s) _ (whole_over_old v p s hp) (whole_then c _ hc (whole_put v s))
  whole_updated true false v p s c hp hc = whole_then (begun_with_old t v p s) _ (whole_with_old v p s hp) (whole_then c _ hc (whole_ended true v s))
  whole_updated false true v p s c hp hc = whole_then (begun_with_old t v p s) _ (whole_with_old v p s hp) (whole_then c _ hc (whole_ended false v s))
  whole_updated false false v p s c hp hc = whole_then (begun_with_old t v p s) _ (whole_with_old v p s hp) (whole_then c _ hc (whole_ended false v s))

  whole_copied : (n : ℕ) (p q : Code) → IsWhole p → IsWhole q → IsWhole (copied t n p q)
  whole_copied n p q hp hq =
      whole_then p _ hp (whole_then q _ hq (whole_set (scratch_handle t) (LocalSet (scratch_place t) ∷ []) (leaves_copied t (leaves t.structs n))))

  -- ---- of expressions

  mutual
    whole_place : (d : ℕ) (p : Place) → IsWhole (place t d p)
    whole_place d (of (Local n)) = whole_plain _
    whole_place d (of (Global n)) = whole_plain _
    whole_place d (tree.deref a) = whole_expr true d a
    whole_place d (tree.member p n m) = whole_part d p _ _

    whole_part : (d : ℕ) (p : Place) (from n : ℕ) → IsWhole (part t d p from n)
    whole_part d (of (Local v)) from n = whole_then (one _) _ (whole_plain _) (whole_plain _)
    whole_part d (of (Global v)) from n = whole_then (one _) _ (whole_plain _) (whole_plain _)
    whole_part d (tree.deref a) from n = whole_then (expr t true d a) _ (whole_expr true d a) (whole_plain _)
    whole_part d (tree.member p k m) from n = whole_part d p _ n

    pub whole_expr : (k : Bool) (d : ℕ) (e : Expr) → IsWhole (expr t k d e)
    whole_expr k d (tree.number u n) = whole_left k _ _ (whole_plain _)
    whole_expr k d tree.null = whole_left k _ _ (whole_plain _)
    whole_expr k d (tree.literal n) = whole_left k _ _ (whole_plain _)
    whole_expr k d tree.no_function = whole_left k _ _ (whole_plain _)
    whole_expr k d (tree.function n) = whole_left k _ _ (whole_plain _)
    whole_expr k d (tree.same_function is a b) = whole_left k _ _ (whole_two (expr t true d a) (expr t true d b) _ (whole_expr true d a) (whole_expr true d b))
    whole_expr k d (tree.read s p) = whole_left k _ _ (whole_fetched (plain_in t p) (place t d p) s (whole_place d p))
    whole_expr k d (tree.decay u n p) = whole_left k _ _ (whole_decayed (is_deref p) _ (place t d p) (whole_place d p))
    whole_expr k d (tree.address p) = whole_left k _ _ (whole_place d p)
    whole_expr k d (tree.convert u v a) = whole_left k _ _ (whole_converted u v (number_in a) (expr t true d a) (whole_expr true d a))
    whole_expr k d (tree.truth s a) = whole_left k _ _ (whole_then (expr t true d a) (truth s) (whole_expr true d a) (whole_truth s))
    whole_expr k d (tree.not a) = whole_left k _ _ (whole_then (expr t true d a) _ (whole_expr true d a) (whole_plain _))
    whole_expr k d (tree.unary signs.Negate u a) = whole_left k _ _ (whole_then (one _) _ (whole_plain _) (whole_then (expr t true d a) _ (whole_expr true d a) (whole_plain _)))
    whole_expr k d (tree.unary signs.Complement u a) = whole_left k _ _ (whole_then (expr t true d a) _ (whole_expr true d a) (whole_plain _))
    whole_expr k d (tree.binary o u a b) = whole_left k _ _ (whole_then (expr t true d a) _ (whole_expr true d a) (whole_then (expr t true d b) _ (whole_expr true d b) (whole_plain _)))
    whole_expr k d (tree.compare o u a b) = whole_left k _ _ (whole_then (expr t true d a) _ (whole_expr true d a) (whole_then (expr t true d b) _ (whole_expr true d b) (whole_plain _)))
    whole_expr k d (tree.compare_pointers relations.Equal a b) = whole_left k _ _ (whole_equal (is_null b) (expr t true d a) (expr t true d b) (whole_expr true d a) (whole_expr true d b))
    whole_expr k d (tree.compare_pointers relations.NotEqual a b) = whole_left k _ _ (whole_unequal (is_null b) (expr t true d a) (expr t true d b) (whole_expr true d a) (whole_expr true d b))
    whole_expr k d (tree.compare_pointers relations.Less a b) = whole_left k _ _ (whole_two (expr t true d a) (expr t true d b) _ (whole_expr true d a) (whole_expr true d b))
    whole_expr k d (tree.compare_pointers relations.LessEqual a b) = whole_left k _ _ (whole_two (expr t true d a) (expr t true d b) _ (whole_expr true d a) (whole_expr true d b))
    whole_expr k d (tree.compare_pointers relations.Greater a b) = whole_left k _ _ (whole_two (expr t true d a) (expr t true d b) _ (whole_expr true d a) (whole_expr true d b))
    whole_expr k d (tree.compare_pointers relations.GreaterEqual a b) = whole_left k _ _ (whole_two (expr t true d a) (expr t true d b) _ (whole_expr true d a) (whole_expr true d b))
    whole_expr k d (tree.difference u a b) = whole_left k _ _ (whole_two (expr t true d a) (expr t true d b) _ (whole_expr true d a) (whole_expr true d b))
    whole_expr k d (tree.move u back a b) = whole_left k _ _ (whole_then (expr t true d a) _ (whole_expr true d a) (whole_moved _ back (expr t true d b) (whole_expr true d b)))
    whole_expr k d (tree.move_by u a b) = whole_left k _ _ (whole_two (expr t true d a) (expr t true d b) _ (whole_expr true d a) (whole_expr true d b))
    whole_expr k d (tree.and a b) =
        let y = as_bit (is_bit b) (expr t true d b) in let z = one (i32 0) in
        whole_left k int _ (whole_then (expr t true d a) (choice (Some vals.I32) y z) (whole_expr true d a) (whole_choice (Some vals.I32) y z))
    whole_expr k d (tree.or a b) =
        let y = one (i32 1) in let z = as_bit (is_bit b) (expr t true d b) in
        whole_left k int _ (whole_then (expr t true d a) (choice (Some vals.I32) y z) (whole_expr true d a) (whole_choice (Some vals.I32) y z))
    whole_expr k d (tree.choose s c a b) =
        let y = expr t true d a in let z = expr t true d b in
        whole_left k s _ (whole_then (expr t true d c) (choice (val_option s) y z) (whole_expr true d c) (whole_choice (val_option s) y z))
    whole_expr k d (tree.comma a b) = whole_then (expr t false d a) (expr t k d b) (whole_expr false d a) (whole_expr k d b)
    whole_expr k d (tree.assign s p e) =
        whole_then (begun t (plain_in t p) (place t d p)) _ (whole_begun (plain_in t p) (place t d p) (whole_place d p)) (whole_then (expr t true d e) _ (whole_expr true d e) (whole_ended k (plain_in t p) s))
    whole_expr k d (tree.update old u o v p e) =
        whole_updated k old (plain_in t p) (place t d p) (scalars.Int u) _ (whole_place d p)
        (whole_then (convert u v) _ (whole_bare (convert u v) (bare_convert u v)) (whole_then (expr t true d e) _ (whole_expr true d e) (whole_then (one _) (convert v u) (whole_plain _) (whole_bare (convert v u) (bare_convert v u)))))
    whole_expr k d (tree.advance old u back p e) =
        whole_updated k old (plain_in t p) (place t d p) scalars.Pointer _ (whole_place d p) (whole_moved _ back (expr t true d e) (whole_expr true d e))
    whole_expr k d (tree.call n s es) = whole_left k _ _ (whole_then (exprs t d es) _ (whole_exprs d es) (whole_plain _))
    whole_expr k d (tree.call_through u s e es) =
        whole_left k _ _ (whole_then (expr t true d e) _ (whole_expr true d e) (whole_then (one _) _ (whole_plain _) (whole_then (exprs t (suc d) es) _ (whole_exprs (suc d) es) (whole_plain _))))
    whole_expr k d (tree.putchar e) = whole_left k _ _ (whole_then (expr t true d e) _ (whole_expr true d e) (whole_plain _))
    whole_expr k d tree.getchar = whole_left k _ _ (whole_plain _)
    whole_expr k d tree.abort = whole_plain _
    whole_expr k d (tree.malloc u e) = whole_left k _ _ (whole_allocated (size t.structs u) (bytes_in e) (expr t true d e))
    whole_expr k d (tree.calloc u a b) = whole_left k _ _ (whole_product (scratch_i64 t) (size t.structs u) (expr t true d a) (expr t true d b))
    whole_expr k d (tree.free e) = whole_freed t (expr t true d e)
    whole_expr k d (tree.discard e) = whole_expr false d e
    whole_expr k d (tree.copy n p q) = whole_copied n (place t d p) (place t d q) (whole_place d p) (whole_place d q)
    whole_expr k d (tree.visit p) = whole_then (place t d p) _ (whole_place d p) (whole_plain _)
    whole_expr k d (tree.size_of_place n p) = whole_left k _ _ (whole_plain _)
    whole_expr k d (tree.size_of_value n e) = whole_left k _ _ (whole_plain _)
    whole_expr k d (tree.size_of_type n) = whole_left k _ _ (whole_plain _)

    pub whole_exprs : (d : ℕ) (es : Exprs) → IsWhole (exprs t d es)
    whole_exprs d none = whole_plain []
    whole_exprs d (more e es) = whole_then (expr t true d e) _ (whole_expr true d e) (whole_exprs d es)
