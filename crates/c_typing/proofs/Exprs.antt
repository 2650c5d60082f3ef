-- The code of expressions and places is well typed.
use Rattle.std.proofs.Common.{◌≡◌, ℕ, suc, ◌*◌, List, [], ◌∷◌, ◌++◌, reverse, Bool, true, false, Option, Some, None, refl, sym, ap, ◌∙◌, arith, subst, append_assoc, append-nil}
use Rattle.std.proofs.lemmas.List.{reverse-append}
use Rattle.std.specs.Prelude.{pos, negsuc, cond, map, ◌==◌}
use Rattle.ms_types.specs.declared.types.ValType.{ValType}
use Rattle.ms_types.specs.declared.types.ValType.TheVariants as vals
use Rattle.ms_module.specs.declared.access.Segment.TheVariants as segment
use Rattle.ms_module.specs.declared.instr.Instr.{Instr}
use Rattle.ms_module.specs.declared.numeric.Numeric.TheVariants.{Eqz}
use Rattle.ms_module.specs.declared.numeric.Width.{Width}
use Rattle.ms_module.specs.declared.numeric.Width.TheVariants.{W32, W64}
use Rattle.ms_rules.specs.Context.{Context}
use Rattle.ms_rules.specs.Typing.{types}
use Rattle.c_types.specs.declared.integers.IntType.{IntType}
use Rattle.c_types.specs.declared.integers.IntType.TheVariants.{Char, SignedChar, UnsignedChar, Short, UnsignedShort, Int, UnsignedInt, Long, UnsignedLong, LongLong, UnsignedLongLong}
use Rattle.c_types.specs.declared.types.Scalar.{Scalar}
use Rattle.c_types.specs.declared.types.Scalar.TheVariants as scalars
use Rattle.c_types.specs.Layout.{size}
use Rattle.c_types.specs.Types.{Ty, void, integer, struct, pointer, array, function, Tys, no_types, is_function, scalar_of}
use Rattle.c_types.specs.Types as ty
use Rattle.c_typed.specs.declared.ops.UnaryOp.TheVariants.{Negate, Complement}
use Rattle.c_typed.specs.declared.ops.Variable.{Variable}
use Rattle.c_typed.specs.declared.ops.Variable.TheVariants.{Local, Global}
use Rattle.c_typed.specs.Objects as objects
use Rattle.c_typed.specs.Tree as tree
use Rattle.c_typed.specs.Tree.{Place, of, deref, member, Expr, Exprs, more}
use Rattle.c_typed.specs.refinement.Expressions as well
use Rattle.c_typed.specs.refinement.Expressions.{HasType, HaveTypes, IsNarrow, IsPlace, IsVariable}
use Rattle.c_typed.specs.Units.{list_of}
use Rattle.c_meaning.specs.Integers.{value_of}
use Rattle.ms_emit.specs.Codes.{Code}
use Rattle.c_code.specs.Expressions.{bytes_in, expr, exprs, is_bit, is_deref, is_null, number_in, part, place}
use Rattle.c_code.specs.Functions.{held_as, listed, signature, val_or_handle}
use Rattle.c_code.specs.Operations.{integer_type, val_of, val_option, val_type, width_of}
use Rattle.c_code.specs.Targets.{Target, plain_in}
use Rattle.c_code.specs.Uses as uses
use Rattle.c_typing.proofs.Names.{Fits, Holds, Names, Needs, TypeOf, of_expr, of_exprs, of_place, ◌⊕◌, first, second, or_left, or_right, each_front, each_back, IsNamed}
use Rattle.c_typing.proofs.Parts.{Accesses, allocated_goes, as_bit_goes, begun_goes, convert_goes, converted_goes, copied_goes, decayed_goes, ended_goes, fetched_goes, freed_goes, kept_types, leaves_it, moved_by_goes, moved_goes, pointers_compared_goes, product_goes, slice_goes, truth_goes, under, updated_goes}
use Rattle.c_typing.proofs.Sound.{AreSound, AreSoundNames, Sound, sized_is, sound_expr, sound_place}
use Rattle.c_typing.proofs.Steps.{call_indirect_step, call_step, constant_step, drop_step, get_step, global_get, i32_step, i64_step, local_get, local_set, numeric_step, op_step, rel_step, segment_step}
use Rattle.c_typing.proofs.Typing.{Goes, Labels, none, does, end, in_choice, ◌▸◌, ◌▹◌}

-- an integer of at most 32 bits
pub narrow_is : (u : IntType) → IsNarrow u → width_of u ≡ W32
narrow_is LongLong h = absurd (omega (arith, h))
narrow_is UnsignedLongLong h = absurd (omega (arith, h))
narrow_is Char h = refl
narrow_is SignedChar h = refl
narrow_is UnsignedChar h = refl
narrow_is Short h = refl
narrow_is UnsignedShort h = refl
narrow_is Int h = refl
narrow_is UnsignedInt h = refl
narrow_is Long h = refl
narrow_is UnsignedLong h = refl

pub listed_is : (o : Option ValType) → listed o ≡ types o
listed_is None = refl
listed_is (Some v) = refl

equal_itself : (n : ℕ) → n == n ≡ true
equal_itself n = grind arith

same_variable : (v : Variable) → objects.is_variable v v ≡ true
same_variable (Local n) = equal_itself n
same_variable (Global n) = equal_itself n

pointer_is : (t u : Ty) → t ≡ pointer u → is_function u ≡ false → scalar_of t ≡ Some scalars.Pointer
pointer_is t u e f = ap scalar_of e ∙ ap (λ (b : Bool). Some (cond b scalars.Function scalars.Pointer)) f

function_is : (t u : Ty) → t ≡ pointer u → is_function u ≡ true → scalar_of t ≡ Some scalars.Function
function_is t u e f = ap scalar_of e ∙ ap (λ (b : Bool). Some (cond b scalars.Function scalars.Pointer)) f

held_whole : (b : Bool) (t : Ty) → scalar_of t ≡ None → held_as b t ≡ vals.Handle
held_whole true t e = refl
held_whole false t e = ap (λ (o : Option Scalar). val_or_handle (val_option o)) e

module _ {c : Context} {body : List (List Instr)} where
  pub as_narrow : (ls : Labels) {a : Code} {ts : List ValType} (u : IntType) → IsNarrow u
      → Goes c body ls a ts (integer_type (width_of u) ∷ ts) → Goes c body ls a ts (vals.I32 ∷ ts)
  as_narrow ls {a} {ts} u h g = subst (λ (w : Width). Goes c body ls a ts (integer_type w ∷ ts)) (narrow_is u h) g

  pub as_handle : (ls : Labels) {a : Code} {ts : List ValType} (u : Ty) → is_function u ≡ false
      → Goes c body ls a ts (types (val_of (pointer u)) ++ ts) → Goes c body ls a ts (vals.Handle ∷ ts)
  as_handle ls {a} {ts} u h g = subst
      (λ (b : Bool). Goes c body ls a ts (val_type (cond b scalars.Function scalars.Pointer) ∷ ts)) h g

  as_entry : (ls : Labels) {a : Code} {ts : List ValType} (u : Ty) → is_function u ≡ true
      → Goes c body ls a ts (types (val_of (pointer u)) ++ ts) → Goes c body ls a ts (vals.I32 ∷ ts)
  as_entry ls {a} {ts} u h g = subst
      (λ (b : Bool). Goes c body ls a ts (val_type (cond b scalars.Function scalars.Pointer) ∷ ts)) h g

  as_scalar : (ls : Labels) {a : Code} {ts : List ValType} (t : Ty) (s : Scalar) → scalar_of t ≡ Some s
      → Goes c body ls a ts (types (val_of t) ++ ts) → Goes c body ls a ts (val_type s ∷ ts)
  as_scalar ls {a} {ts} t s h g = subst (λ (o : Option Scalar). Goes c body ls a ts (types (val_option o) ++ ts)) h g

  as_option : (ls : Labels) {a : Code} {ts : List ValType} (t : Ty) (s : Option Scalar) → scalar_of t ≡ s
      → Goes c body ls a ts (types (val_of t) ++ ts) → Goes c body ls a ts (types (val_option s) ++ ts)
  as_option ls {a} {ts} t s e g = subst (λ (o : Option Scalar). Goes c body ls a ts (types (val_option o) ++ ts)) e g

  -- in a sequence of its own
  alone : (ls : Labels) {a : Code} (t : Ty) (s : Option Scalar) → scalar_of t ≡ s → Goes c body ls a [] (types (val_of t) ++ [])
      → Goes c body ls a [] (types (val_option s))
  alone ls {a} t s e g = subst (λ (o : Option Scalar). Goes c body ls a [] (types (val_option o))) e
      (subst (λ (l : List ValType). Goes c body ls a [] l) (append-nil (types (val_of t))) g)

  -- what was kept of a scalar
  keeps : (ls : Labels) {a : Code} {ts : List ValType} (kept : Bool) (t : Ty) (s : Scalar) → scalar_of t ≡ Some s
      → Goes c body ls a ts (kept_types kept (Some (val_type s)) ++ ts)
      → Goes c body ls a ts (kept_types kept (val_of t) ++ ts)
  keeps ls {a} {ts} kept t s e g = subst (λ (o : Option Scalar). Goes c body ls a ts (kept_types kept (val_option o) ++ ts))
      (sym e) g

  -- nothing is left of what has no value
  nothing : (ls : Labels) {a : Code} {ts : List ValType} (kept : Bool) (t : Ty) → t ≡ void → Goes c body ls a ts ts
      → Goes c body ls a ts (kept_types kept (val_of t) ++ ts)
  nothing ls {a} {ts} kept t e g = subst (λ (q : Ty). Goes c body ls a ts (kept_types kept (val_of q) ++ ts)) (sym e)
      (by kept) where
        by : (b : Bool) → Goes c body ls a ts (kept_types b None ++ ts)
        by true = g
        by false = g

module _ (c : Context) (t : Target) (k : well.Context) (waits : ℕ) where
  abbrev pub FitsIn : ℕ → Needs → Type 0
  FitsIn d a = Fits c t k.globals k.slots k.functions waits d a

  abbrev pub FitP : ℕ → Place → Type 0
  FitP d p = FitsIn d (of_place p)

  abbrev pub FitE : ℕ → Expr → Type 0
  FitE d e = FitsIn d (of_expr e)

  abbrev pub FitEs : ℕ → Exprs → Type 0
  FitEs d es = FitsIn d (of_exprs es)

module _ (c : Context) (body : List (List Instr)) (t : Target) (k : well.Context) (waits : ℕ)
    (names : Names c t k.globals k.slots k.literals waits) (sound : AreSoundNames k.structs k.globals k.slots k.functions) where
  -- ---- of two parts, each

  abbrev E : ℕ → Expr → Type 0
  E d e = FitE c t k waits d e

  abbrev P : ℕ → Place → Type 0
  P d p = FitP c t k waits d p

  fst : (d : ℕ) (a b : Expr) → FitsIn c t k waits d (of_expr a ⊕ of_expr b) → E d a
  fst d a b x = first (of_expr a) (of_expr b) x

  snd : (d : ℕ) (a b : Expr) → FitsIn c t k waits d (of_expr a ⊕ of_expr b) → E d b
  snd d a b x = second (of_expr a) (of_expr b) x

  fst_place : (d : ℕ) (p : Place) (b : Expr) → FitsIn c t k waits d (of_place p ⊕ of_expr b) → P d p
  fst_place d p b x = first (of_place p) (of_expr b) x

  snd_place : (d : ℕ) (p : Place) (b : Expr) → FitsIn c t k waits d (of_place p ⊕ of_expr b) → E d b
  snd_place d p b x = second (of_place p) (of_expr b) x

  pub type_of : (v : Variable) (u : Ty) → IsVariable k v u → TypeOf k.globals k.slots v u
  type_of (Local n) u h = h.0
  type_of (Global n) u h = h

  -- ---- places

  -- a variable has a handle
  abbrev pub IsMemory : Place → Ty → Type 0
  IsMemory (of v) u = held_as (t.is_object v) u ≡ vals.Handle
  IsMemory _ u = Unit {0}

  pub memory_of : (p : Place) (u : Ty) → scalar_of u ≡ None → IsMemory p u
  memory_of (of v) u e = held_whole (t.is_object v) u e
  memory_of (deref e') u e = tt
  memory_of (member p n m) u e = tt

  addressed : (d : ℕ) (p : Place) (u : Ty) → E d (tree.address p) → IsPlace k p u → IsMemory p u
  addressed d (of v) u x h = ap (λ (b : Bool). held_as b u)
      (x.objects v u (type_of v u h) (or_left (objects.is_variable v v) false (same_variable v)))
  addressed d (deref e) u x h = tt
  addressed d (member p n m) u x h = tt

  in_address : (d : ℕ) (p : Place) → E d (tree.address p) → P d p
  in_address d p x = record {
    uses = x.uses;
    objects = λ v u at e. x.objects v u at
        (or_right (objects.is_of v p) (objects.in_place v p) e);
    least = x.least;
  }

  access : (ls : Labels) (d : ℕ) (p : Place) (u : Ty) (s : Scalar) → IsPlace k p u → scalar_of u ≡ Some s
      → (IsMemory p u → (ts : List ValType) → Goes c body ls (place t d p) ts (vals.Handle ∷ ts))
      → Accesses c body ls t (plain_in t p) (place t d p) (val_type s)
  access ls d (of v) u s h e g = by (t.is_object v) (names.variable v u (type_of v u h)) where
    by : (b : Bool) → Holds c t v (held_as b u) → Accesses c body ls t (cond b None (Some v)) (place t d (of v)) (val_type s)
    by true q = λ ts. does (get_step t v q ▸ end)
    by false q = subst (λ (o : Option Scalar). Holds c t v (val_or_handle (val_option o))) e q
  access ls d (deref e') u s h e g = g tt
  access ls d (member p n m) u s h e g = g tt

  handle_at : (ls : Labels) (v : Variable) (u : Ty) (ts : List ValType) → IsVariable k v u
      → held_as (t.is_object v) u ≡ vals.Handle → Goes c body ls (place t 0 (of v)) ts (vals.Handle ∷ ts)
  handle_at ls v u ts h e = does
      (get_step t v (subst (λ (w : ValType). Holds c t v w) e (names.variable v u (type_of v u h))) ▸ end)

  mutual
    pub place_goes : (ls : Labels) (d : ℕ) (p : Place) (u : Ty) → IsPlace k p u → IsMemory p u → P d p → (ts : List ValType)
        → Goes c body ls (place t d p) ts (vals.Handle ∷ ts)
    place_goes ls d (of v) u h m x ts = handle_at ls v u ts h m
    place_goes ls d (deref e) u h m x ts = as_handle ls u h.0 (expr_goes ls true d e (pointer u) h.1 x ts)
    place_goes ls d (member p n i) u h m x ts = part_goes ls d p n h.0 x _ _ ts

    part_goes : (ls : Labels) (d : ℕ) (p : Place) (n : ℕ) → IsPlace k p (struct n) → P d p → (from len : ℕ) (ts : List ValType)
        → Goes c body ls (part t d p from len) ts (vals.Handle ∷ ts)
    part_goes ls d (of v) n h x from len ts = handle_at ls v (struct n) ts h (held_whole (t.is_object v) (struct n) refl)
        ▹ slice_goes from len ts
    part_goes ls d (deref e) n h x from len ts = as_handle ls (struct n) refl
        (expr_goes ls true d e (pointer (struct n)) h.1 x ts) ▹ slice_goes from len ts
    part_goes ls d (member p j i) n h x from len ts = part_goes ls d p j h.0 x _ len ts

    pub expr_goes : (ls : Labels) (kept : Bool) (d : ℕ) (e : Expr) (u : Ty) → HasType k e u → E d e → (ts : List ValType)
        → Goes c body ls (expr t kept d e) ts (kept_types kept (val_of u) ++ ts)
    expr_goes ls kept d (tree.number i n) u h x ts = leaves_it kept (Some (scalars.Int i)) u (ap scalar_of h.0)
        (does (constant_step (width_of i) (value_of i n) ▸ end))
    expr_goes ls kept d tree.null u h x ts = leaves_it kept (Some scalars.Pointer) u (pointer_is u h.0 h.1 h.2)
        (does (segment_step segment.Null ts ▸ end))
    expr_goes ls kept d tree.no_function u h x ts = leaves_it kept (Some scalars.Function) u (function_is u h.0 h.1 h.2)
        (does (i32_step ▸ end))
    expr_goes ls kept d (tree.function n) u h x ts = leaves_it kept (Some scalars.Function) u
        (function_is u h.0 h.1 ((sound.function n h.0 h.2).0)) (does (i32_step ▸ end))
    expr_goes ls kept d (tree.literal n) u h x ts = leaves_it kept (Some scalars.Pointer) u (ap scalar_of h.0)
        (does (global_get (names.literal n h.1) ▸ segment_step segment.Seal ts ▸ end))
    expr_goes ls kept d (tree.read s p) u h x ts =
        leaves_it kept (Some s) u h.0 (fetched_goes t names (plain_in t p) (place t d p) s ts
        (access ls d p u s h.1 h.0 (λ m us. place_goes ls d p u h.1 m x us)))
    expr_goes ls kept d (tree.decay v n p) u h x ts =
        leaves_it kept (Some scalars.Pointer) u (pointer_is u v h.0 ((sound_place k sound p (array v n) h.1).1.0))
        (decayed_goes (is_deref p) (n * size t.structs v) ts
        (place_goes ls d p (array v n) h.1 (memory_of p (array v n) refl) x ts))
    expr_goes ls kept d (tree.address p) u h x ts =
        leaves_it kept (Some scalars.Pointer) u (pointer_is u h.0 h.1 ((sound_place k sound p h.0 h.2).0))
        (place_goes ls d p h.0 h.2 (addressed d p h.0 x h.2) (in_address d p x) ts)
    expr_goes ls kept d (tree.truth s a) u h x ts = leaves_it kept (Some (scalars.Int Int)) u (ap scalar_of h.1)
        (as_scalar ls h.0 s h.2 (expr_goes ls true d a h.0 h.3 x ts) ▹ truth_goes s)
    expr_goes ls kept d (tree.not a) u h x ts =
        leaves_it kept (Some (scalars.Int Int)) u (ap scalar_of h.1)
        (as_narrow ls h.0 h.2 (expr_goes ls true d a (integer h.0) h.3 x ts) ▹ does (numeric_step (Eqz W32) ts ▸ end))
    expr_goes ls kept d (tree.unary Negate i a) u h x ts =
        leaves_it kept (Some (scalars.Int i)) u (ap scalar_of h.0)
        (does (constant_step (width_of i) (pos 0) ▸ end)
        ▹ expr_goes ls true d a (integer i) h.2 x (integer_type (width_of i) ∷ ts) ▹ does (op_step (width_of i) ▸ end))
    expr_goes ls kept d (tree.unary Complement i a) u h x ts =
        leaves_it kept (Some (scalars.Int i)) u (ap scalar_of h.0)
        (expr_goes ls true d a (integer i) h.2 x ts ▹ does
        (constant_step (width_of i) (negsuc 0) ▸ op_step (width_of i) ▸ end))
    expr_goes ls kept d (tree.convert i j a) u h x ts = leaves_it kept (Some (scalars.Int j)) u (ap scalar_of h.0)
        (converted_goes i j (number_in a) (expr_goes ls true d a (integer i) h.1 x ts))
    expr_goes ls kept d (tree.binary o i a b) u h x ts =
        leaves_it kept (Some (scalars.Int i)) u (ap scalar_of h.0)
        (expr_goes ls true d a (integer i) h.2 (fst d a b x) ts
        ▹ expr_goes ls true d b (integer i) h.3 (snd d a b x) (integer_type (width_of i) ∷ ts)
        ▹ does (op_step (width_of i) ▸ end))
    expr_goes ls kept d (tree.compare o i a b) u h x ts =
        leaves_it kept (Some (scalars.Int Int)) u (ap scalar_of h.0)
        (expr_goes ls true d a (integer i) h.2 (fst d a b x) ts
        ▹ expr_goes ls true d b (integer i) h.3 (snd d a b x) (integer_type (width_of i) ∷ ts)
        ▹ does (rel_step (width_of i) ▸ end))
    expr_goes ls kept d (tree.compare_pointers o a b) u h x ts =
        leaves_it kept (Some (scalars.Int Int)) u (ap scalar_of h.1)
        (pointers_compared_goes o (is_null b) ts (as_handle ls h.0 h.2
        (expr_goes ls true d a (pointer h.0) h.3 (fst d a b x) ts))
        (as_handle ls h.0 h.2 (expr_goes ls true d b (pointer h.0) h.4 (snd d a b x) (vals.Handle ∷ ts))))
    expr_goes ls kept d (tree.same_function is a b) u h x ts =
        leaves_it kept (Some (scalars.Int Int)) u (ap scalar_of h.1)
        (as_entry ls h.0 h.2 (expr_goes ls true d a (pointer h.0) h.3 (fst d a b x) ts)
        ▹ as_entry ls h.0 h.2 (expr_goes ls true d b (pointer h.0) h.4 (snd d a b x) (vals.I32 ∷ ts))
        ▹ does (rel_step W32 ▸ end))
    expr_goes ls kept d (tree.difference v a b) u h x ts =
        let f = sized_is k.structs v h.1.0 in
        leaves_it kept (Some (scalars.Int LongLong)) u (ap scalar_of h.0)
        (as_handle ls v f (expr_goes ls true d a (pointer v) h.2 (fst d a b x) ts)
        ▹ as_handle ls v f (expr_goes ls true d b (pointer v) h.3 (snd d a b x) (vals.Handle ∷ ts))
        ▹ does (segment_step segment.Diff ts ▸ i64_step ▸ op_step W64 ▸ end))
    expr_goes ls kept d (tree.move v back a b) u h x ts =
        let f = sized_is k.structs v h.1.0 in
        leaves_it kept (Some scalars.Pointer) u (pointer_is u v h.0 f)
        (as_handle ls v f (expr_goes ls true d a (pointer v) h.2 (fst d a b x) ts)
        ▹ moved_goes (size t.structs v) back ts (λ us. expr_goes ls true d b (integer LongLong) h.3 (snd d a b x) us))
    expr_goes ls kept d (tree.move_by v a b) u h x ts =
        let f = sized_is k.structs v h.1.0 in
        leaves_it kept (Some scalars.Pointer) u (pointer_is u v h.0 f)
        (moved_by_goes t names (size t.structs v) ts (expr_goes ls true d a (integer LongLong) h.2 (fst d a b x) ts)
        (as_handle ls v f (expr_goes ls true d b (pointer v) h.3 (snd d a b x) (vals.I64 ∷ ts))))
    expr_goes ls kept d (tree.and a b) u h x ts =
        leaves_it kept (Some (scalars.Int Int)) u (ap scalar_of h.2)
        (as_narrow ls h.0 h.3 (expr_goes ls true d a (integer h.0) h.5 (fst d a b x) ts) ▹
        in_choice {k = Some vals.I32} (as_bit_goes (is_bit b)
        (as_narrow (Some vals.I32 ∷ ls) h.1 h.4 (expr_goes (Some vals.I32 ∷ ls) true d b (integer h.1) h.6 (snd d a b x)
        []))) (does (i32_step ▸ end)))
    expr_goes ls kept d (tree.or a b) u h x ts =
        leaves_it kept (Some (scalars.Int Int)) u (ap scalar_of h.2)
        (as_narrow ls h.0 h.3 (expr_goes ls true d a (integer h.0) h.5 (fst d a b x) ts) ▹
        in_choice {k = Some vals.I32} (does (i32_step ▸ end))
        (as_bit_goes (is_bit b) (as_narrow (Some vals.I32 ∷ ls) h.1 h.4
        (expr_goes (Some vals.I32 ∷ ls) true d b (integer h.1) h.6 (snd d a b x) []))))
    expr_goes ls kept d (tree.choose s e a b) u h x ts =
        let q = second (of_expr e) (of_expr a ⊕ of_expr b) x in
        let y = first (of_expr e) (of_expr a ⊕ of_expr b) x in
        leaves_it kept s u h.1 (as_narrow ls h.0 h.2 (expr_goes ls true d e (integer h.0) h.3 y ts) ▹
        in_choice {k = val_option s} (alone (val_option s ∷ ls) u s h.1
        (expr_goes (val_option s ∷ ls) true d a u h.4 (fst d a b q) []))
        (alone (val_option s ∷ ls) u s h.1 (expr_goes (val_option s ∷ ls) true d b u h.5 (snd d a b q) [])))
    expr_goes ls kept d (tree.comma a b) u h x ts = expr_goes ls false d a h.0 h.1 (fst d a b x) ts ▹ expr_goes ls kept d b u h.2
        (snd d a b x) ts
    expr_goes ls kept d (tree.assign s p e) u h x ts =
        let o = plain_in t p in
        let acc = access ls d p u s h.1 h.0 (λ m us. place_goes ls d p u h.1 m (fst_place d p e x) us) in
        keeps ls kept u s h.0 (begun_goes t names o (place t d p) s ts acc ▹ as_scalar ls u s h.0
        (expr_goes ls true d e u h.2 (snd_place d p e x) (under o ts)) ▹ ended_goes t names kept o (place t d p) s ts acc)
    expr_goes ls kept d (tree.update old i o j p e) u h x ts =
        let acc = access ls d p (integer i) (scalars.Int i) h.2 refl
        (λ m us. place_goes ls d p (integer i) h.2 m (fst_place d p e x) us) in
        keeps ls kept u (scalars.Int i) (ap scalar_of h.0) (updated_goes t names kept old (plain_in t p) (place t d p)
        (scalars.Int i) ts acc
        (λ us. convert_goes i j ▹ expr_goes ls true d e (integer j) h.3 (snd_place d p e x) (integer_type (width_of j) ∷ us)
        ▹ does (op_step (width_of j) ▸ end) ▹ convert_goes j i))
    expr_goes ls kept d (tree.advance old v back p e) u h x ts =
        let f = sized_is k.structs v h.1.0 in
        let acc = access ls d p (pointer v) scalars.Pointer h.2 (pointer_is (pointer v) v refl f)
        (λ m us. place_goes ls d p (pointer v) h.2 m (fst_place d p e x) us) in
        keeps ls kept u scalars.Pointer (pointer_is u v h.0 f)
        (updated_goes t names kept old (plain_in t p) (place t d p) scalars.Pointer ts acc
        (λ us. moved_goes (size t.structs v) back us (λ ws. expr_goes ls true d e (integer LongLong) h.3 (snd_place d p e x) ws)))
    expr_goes ls kept d (tree.copy n p q) u h x ts =
        let y = first (of_place p) (of_place q) (record { uses = x.uses.1; objects = x.objects; least = x.least }) in
        let z = second (of_place p) (of_place q) (record { uses = x.uses.1; objects = x.objects; least = x.least }) in
        nothing ls kept u h.0 (copied_goes t names n ts (place_goes ls d p (struct n) h.2 (memory_of p (struct n) refl) y ts)
        (place_goes ls d q (struct n) h.3 (memory_of q (struct n) refl) z (vals.Handle ∷ ts)))
    expr_goes ls kept d (tree.call n s es) u h x ts =
        let ps = map (held_as false) (list_of h.0) in
        let at = x.uses.0 u h.0 h.1 ∙ ap (λ (l : List ValType). Some (Some (record { params = ps; results = l })))
        (listed_is (val_of u)) in
        let y : FitEs c t k waits d es = record { uses = x.uses.1; objects = x.objects; least = x.least } in
        leaves_it kept s u h.2 (as_option ls u s h.2
        (exprs_goes ls d es h.0 h.3 ((sound.function n (function u h.0) h.1).1.1) y ts
        ▹ does (call_step ps (val_of u) ts at ▸ end)))
    expr_goes ls kept d (tree.call_through f s e es) u h x ts =
        let ps = map (held_as false) (list_of h.0) in
        let f_is = h.1 in
        let at = x.uses.0 ∙ ap (λ (q : Ty). Some (signature q)) f_is
        ∙ ap (λ (l : List ValType). Some (record { params = ps; results = l })) (listed_is (val_of u)) in
        let y : E d e = record {
          uses = each_front (IsNamed c t k.functions) (uses.in_expr e) (uses.in_exprs es) x.uses.1;
          objects = λ v w a b. x.objects v w a (or_left (objects.in_expr v e) (objects.in_exprs v es) b);
          least = let l =
              x.least in omega (arith, l);
        } in
        let z : FitEs c t k waits (suc d) es = record {
          uses = each_back (IsNamed c t k.functions) (uses.in_expr e) (uses.in_exprs es) x.uses.1;
          objects = λ v w a b. x.objects v w a (or_right (objects.in_expr v e) (objects.in_exprs v es) b);
          least = let l =
              x.least in omega (arith, l);
        } in
        let w = names.waiting d (let l = x.least in omega (arith, l)) in
        leaves_it kept s u h.2 (as_option ls u s h.2
        (as_entry ls f (ap is_function f_is) (expr_goes ls true d e (pointer f) h.3 y ts) ▹ does (local_set w ▸ end)
        ▹ exprs_goes ls (suc d) es h.0 h.4 ((subst (λ (q : Ty). Sound q) f_is (sound_expr k sound e (pointer f) h.3)).1) z ts
        ▹ does (local_get w ▸ call_indirect_step ps (val_of u) ts names.table at ▸ end)))
    expr_goes ls kept d (tree.putchar e) u h x ts = leaves_it kept (Some (scalars.Int Int)) u (ap scalar_of h.0)
        (expr_goes ls true d e (integer Int) h.1 x ts ▹ does (call_step (vals.I32 ∷ []) (Some vals.I32) ts names.putchar ▸ end))
    expr_goes ls kept d tree.getchar u h x ts = leaves_it kept (Some (scalars.Int Int)) u (ap scalar_of h)
        (does (call_step [] (Some vals.I32) ts names.getchar ▸ end))
    expr_goes ls kept d tree.abort u h x ts = nothing ls kept u h (does (call_step [] None ts names.abort ▸ end))
    expr_goes ls kept d (tree.malloc v e) u h x ts =
        leaves_it kept (Some scalars.Pointer) u (pointer_is u v h.0 (sized_is k.structs v h.2.0))
        (allocated_goes (size t.structs v) (bytes_in e) ts (expr_goes ls true d e (integer UnsignedInt) h.3 x ts))
    expr_goes ls kept d (tree.calloc v a b) u h x ts =
        leaves_it kept (Some scalars.Pointer) u (pointer_is u v h.0 (sized_is k.structs v h.2.0))
        (product_goes t names (size t.structs v) ts (expr_goes ls true d a (integer UnsignedInt) h.3 (fst d a b x) ts)
        (expr_goes ls true d b (integer UnsignedInt) h.4 (snd d a b x) (vals.I64 ∷ ts)))
    expr_goes ls kept d (tree.free e) u h x ts = nothing ls kept u h.1
        (freed_goes t names ts (as_handle ls h.0 h.2 (expr_goes ls true d e (pointer h.0) h.3 x ts)))
    expr_goes ls kept d (tree.discard e) u h x ts = nothing ls kept u h.1 (expr_goes ls false d e h.0 h.2 x ts)
    expr_goes ls kept d (tree.visit p) u h x ts = nothing ls kept u h.1
        (place_goes ls d p (struct h.0) h.3 (memory_of p (struct h.0) refl) x ts ▹ does (drop_step ▸ end))
    expr_goes ls kept d (tree.size_of_place n p) u h x ts =
        leaves_it kept (Some (scalars.Int UnsignedInt)) u (ap scalar_of h.2) (does (i32_step ▸ end))
    expr_goes ls kept d (tree.size_of_value n e) u h x ts =
        leaves_it kept (Some (scalars.Int UnsignedInt)) u (ap scalar_of h.2) (does (i32_step ▸ end))
    expr_goes ls kept d (tree.size_of_type n) u h x ts = leaves_it kept (Some (scalars.Int UnsignedInt)) u (ap scalar_of h)
        (does (i32_step ▸ end))

    exprs_goes : (ls : Labels) (d : ℕ) (es : Exprs) (us : Tys) → HaveTypes k es us → AreSound us → FitEs c t k waits d es
        → (ts : List ValType) → Goes c body ls (exprs t d es) ts (reverse (map (held_as false) (list_of us)) ++ ts)
    exprs_goes ls d tree.none no_types h sc x ts = none
    exprs_goes ls d (more e es) (ty.types u us) h sc x ts =
        let vs = map (held_as false) (list_of us) in
        let v = val_type sc.0.0 in
        let is : held_as false u ∷ vs ≡ v ∷ vs = ap (λ (o : Option Scalar). val_or_handle (val_option o) ∷ vs) sc.0.1 in
        let y = first (of_expr e) (of_exprs es) x in
        let z = second (of_expr e) (of_exprs es) x in
        subst (λ (l : List ValType). Goes c body ls (exprs t d (more e es)) ts (reverse l ++ ts)) (sym is)
        (subst (λ (l : List ValType). Goes c body ls (exprs t d (more e es)) ts l)
        (sym (ap (λ (l : List ValType). l ++ ts) (reverse-append (v ∷ []) vs) ∙ append_assoc (reverse vs) (v ∷ []) ts))
        (as_scalar ls u sc.0.0 sc.0.1 (expr_goes ls true d e u h.0 y ts) ▹ exprs_goes ls d es us h.1 sc.2 z (v ∷ ts)))
    exprs_goes ls d tree.none (ty.types u us) h sc x ts = absurd h
    exprs_goes ls d (more e es) no_types h sc x ts = absurd h
