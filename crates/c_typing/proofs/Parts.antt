-- The parts of code that several nodes share.
use Rattle.std.proofs.Common.{◌≡◌, ℕ, ◌+◌, List, [], ◌∷◌, ◌++◌, Bool, true, false, Option, Some, None, sym, subst}
use Rattle.std.specs.Prelude.{ℤ, pos, slice_get, nat_lt, cond}
use Rattle.ms_handle.specs.declared.handle.Kind.TheVariants as kinds
use Rattle.ms_types.specs.declared.types.ValType.{ValType}
use Rattle.ms_types.specs.declared.types.ValType.TheVariants as vals
use Rattle.ms_module.specs.declared.access.Segment.TheVariants as segment
use Rattle.ms_module.specs.declared.instr.Instr.{Instr}
use Rattle.ms_module.specs.declared.numeric.Numeric.TheVariants.{Eqz, ExtendS, ExtendU, Wrap}
use Rattle.ms_module.specs.declared.numeric.Width.{Width}
use Rattle.ms_module.specs.declared.numeric.Width.TheVariants.{W32, W64}
use Rattle.ms_rules.specs.Context.{Context}
use Rattle.ms_rules.specs.Typing.{types}
use Rattle.c_types.specs.declared.integers.IntType.{IntType}
use Rattle.c_types.specs.declared.types.Scalar.{Scalar}
use Rattle.c_types.specs.declared.types.Scalar.TheVariants as scalars
use Rattle.c_types.specs.Integers.{bits, is_signed}
use Rattle.c_types.specs.Types.{Ty, scalar_of}
use Rattle.c_types.specs.Layout.{size}
use Rattle.c_typed.specs.declared.ops.RelOp.{RelOp}
use Rattle.c_typed.specs.declared.ops.RelOp.TheVariants as relations
use Rattle.c_typed.specs.declared.ops.Variable.{Variable}
use Rattle.ms_emit.specs.Codes.{Code, one, no_code}
use Rattle.c_code.specs.Expressions.{allocated, as_bit, begun, begun_over_old, begun_with_old, converted, copied, decayed, ended, fetched, freed, leaf_copied, leaf_handle, leaves_copied, left, moved, moved_by, pointers_compared, product_allocated, put, updated, written}
use Rattle.c_code.specs.Leaves.{Leaf, leaves}
use Rattle.c_code.specs.Operations.{by_width, convert, integer_type, narrow, new_frame, new_heap, slice, to_type, truth, val_of, val_option, val_type, width_of}
use Rattle.c_code.specs.Targets.{Target, scratch_of, scratch_of_width}
use Rattle.c_typing.proofs.Names.{Names, Holds}
use Rattle.c_typing.proofs.Steps.{constant_step, drop_step, get_step, i32_step, i64_step, load_step, local_get, local_set, local_tee, numeric_step, op_step, rel_step, segment_step, set_step, store_step, tee_goes}
use Rattle.c_typing.proofs.Typing.{Goes, Labels, none, does, end, in_choice, ◌▸◌, ◌▹◌}
use Rattle.ms_module.specs.declared.instr.Instr.TheVariants.{Numeric}

-- what is left of a value
abbrev pub kept_types : (kept : Bool) → Option ValType → List ValType
kept_types true v = types v
kept_types false v = []

module _ {c : Context} {body : List (List Instr)} {ls : Labels} where
  -- with a value of a type: it stays, or it is dropped
  pub leaves_it : (kept : Bool) (s : Option Scalar) (t : Ty) {a : Code} {ts : List ValType} → scalar_of t ≡ s
      → Goes c body ls a ts (types (val_option s) ++ ts)
      → Goes c body ls (left kept s a) ts (kept_types kept (val_of t) ++ ts)
  leaves_it kept s t {a} {ts} e g = subst
      (λ (o : Option Scalar). Goes c body ls (left kept s a) ts (kept_types kept (val_option o) ++ ts)) (sym e)
      (by kept s g) where
        by : (k : Bool) (o : Option Scalar) → Goes c body ls a ts (types (val_option o) ++ ts)
            → Goes c body ls (left k o a) ts (kept_types k (val_option o) ++ ts)
        by true o h = h
        by false None h = h
        by false (Some q) h = h ▹ does (drop_step ▸ end)

  -- ---- numbers

  pub truth_goes : (s : Scalar) {ts : List ValType} → Goes c body ls (truth s) (val_type s ∷ ts) (vals.I32 ∷ ts)
  truth_goes (scalars.Int u) = does (constant_step (width_of u) (pos 0) ▸ rel_step (width_of u) ▸ end)
  truth_goes scalars.Pointer {ts} = does (segment_step segment.IsNull ts ▸ numeric_step (Eqz W32) ts ▸ end)
  truth_goes scalars.Function = does (i32_step ▸ rel_step W32 ▸ end)

  narrow_goes : (b : ℕ) (s : Bool) {ts : List ValType} → Goes c body ls (narrow b s) (vals.I32 ∷ ts) (vals.I32 ∷ ts)
  narrow_goes b true = does (i32_step ▸ op_step W32 ▸ i32_step ▸ op_step W32 ▸ end)
  narrow_goes b false = does (i32_step ▸ op_step W32 ▸ end)

  to_type_goes : (t : IntType) {ts : List ValType} → Goes c body ls (to_type t) (vals.I32 ∷ ts) (vals.I32 ∷ ts)
  to_type_goes t {ts} = by (nat_lt (bits t) 32) where
    by : (b : Bool) → Goes c body ls (cond b (narrow (bits t) (is_signed t)) no_code) (vals.I32 ∷ ts) (vals.I32 ∷ ts)
    by true = narrow_goes (bits t) (is_signed t)
    by false = none

  pub convert_goes : (t u : IntType) {ts : List ValType} → Goes c body ls (convert t u) (integer_type (width_of t) ∷ ts)
      (integer_type (width_of u) ∷ ts)
  convert_goes t u {ts} = by (width_of t) (width_of u) where
    by : (v w : Width) → Goes c body ls (by_width t u v w) (integer_type v ∷ ts) (integer_type w ∷ ts)
    by W32 W32 = to_type_goes u
    by W32 W64 = extends (is_signed t) where
      extends : (b : Bool) → Goes c body ls
          (one (Numeric (cond b ExtendS ExtendU))) (vals.I32 ∷ ts)
          (vals.I64 ∷ ts)
      extends true = does (numeric_step ExtendS ts ▸ end)
      extends false = does (numeric_step ExtendU ts ▸ end)
    by W64 W32 = does (numeric_step Wrap ts ▸ end) ▹ to_type_goes u
    by W64 W64 = none

  pub converted_goes : (t u : IntType) (o : Option ℤ) {a : Code} {ts : List ValType}
      → Goes c body ls a ts (integer_type (width_of t) ∷ ts)
      → Goes c body ls (converted t u o a) ts (integer_type (width_of u) ∷ ts)
  converted_goes t u None g = g ▹ convert_goes t u
  converted_goes t u (Some z) g = does (constant_step (width_of u) _ ▸ end)

  pub as_bit_goes : (b : Bool) {a : Code} {ts : List ValType} → Goes c body ls a ts (vals.I32 ∷ ts)
      → Goes c body ls (as_bit b a) ts (vals.I32 ∷ ts)
  as_bit_goes true g = g
  as_bit_goes false g = g ▹ does (i32_step ▸ rel_step W32 ▸ end)

  -- ---- handles

  pub slice_goes : (from n : ℕ) (ts : List ValType) → Goes c body ls (slice from n) (vals.Handle ∷ ts) (vals.Handle ∷ ts)
  slice_goes from n ts = does (i32_step ▸ i32_step ▸ segment_step segment.Slice ts ▸ end)

  pub decayed_goes : (b : Bool) (n : ℕ) {p : Code} (ts : List ValType) → Goes c body ls p ts (vals.Handle ∷ ts)
      → Goes c body ls (decayed b n p) ts (vals.Handle ∷ ts)
  decayed_goes true n ts g = g ▹ slice_goes 0 n ts
  decayed_goes false n ts g = g

  pub new_frame_goes : (n : ℕ) (ts : List ValType) → Goes c body ls (new_frame n) ts (vals.Handle ∷ ts)
  new_frame_goes n ts = does (i32_step ▸ segment_step (segment.New kinds.Frame) ts ▸ end)

  pub new_heap_goes : (n : ℕ) (ts : List ValType) → Goes c body ls (new_heap n) (vals.I32 ∷ ts) (vals.Handle ∷ ts)
  new_heap_goes n ts = does (i32_step ▸ op_step W32 ▸ i32_step ▸ op_step W32 ▸ segment_step (segment.New kinds.Heap) ts ▸ end)

  pub pointers_compared_goes : (o : RelOp) (z : Bool) {a b : Code} (ts : List ValType) → Goes c body ls a ts (vals.Handle ∷ ts)
      → Goes c body ls b (vals.Handle ∷ ts) (vals.Handle ∷ vals.Handle ∷ ts)
      → Goes c body ls (pointers_compared o z a b) ts (vals.I32 ∷ ts)
  pointers_compared_goes relations.Equal true ts ga gb = ga ▹ does (segment_step segment.IsNull ts ▸ end)
  pointers_compared_goes relations.Equal false ts ga gb = ga ▹ gb ▹ does (segment_step segment.Eq ts ▸ end)
  pointers_compared_goes relations.NotEqual true ts ga gb =
      ga ▹ does (segment_step segment.IsNull ts ▸ numeric_step (Eqz W32) ts ▸ end)
  pointers_compared_goes relations.NotEqual false ts ga gb =
      ga ▹ gb ▹ does (segment_step segment.Eq ts ▸ numeric_step (Eqz W32) ts ▸ end)
  pointers_compared_goes relations.Less z ts ga gb = ga ▹ gb ▹ does (segment_step segment.Diff ts ▸ i64_step ▸ rel_step W64 ▸ end)
  pointers_compared_goes relations.LessEqual z ts ga gb = ga ▹ gb ▹ does
      (segment_step segment.Diff ts ▸ i64_step ▸ rel_step W64 ▸ end)
  pointers_compared_goes relations.Greater z ts ga gb = ga ▹ gb ▹ does
      (segment_step segment.Diff ts ▸ i64_step ▸ rel_step W64 ▸ end)
  pointers_compared_goes relations.GreaterEqual z ts ga gb =
      ga ▹ gb ▹ does (segment_step segment.Diff ts ▸ i64_step ▸ rel_step W64 ▸ end)

  pub moved_goes : (n : ℕ) (back : Bool) {i : Code} (ts : List ValType)
      → ((us : List ValType) → Goes c body ls i us (vals.I64 ∷ us))
      → Goes c body ls (moved n back i) (vals.Handle ∷ ts) (vals.Handle ∷ ts)
  moved_goes n false ts g = g (vals.Handle ∷ ts) ▹ does (segment_step (segment.Add n) ts ▸ end)
  moved_goes n true ts g = does (i64_step ▸ end) ▹ g (vals.I64 ∷ vals.Handle ∷ ts) ▹ does
      (op_step W64 ▸ segment_step (segment.Add n) ts ▸ end)

  pub allocated_goes : (n : ℕ) (o : Option ℕ) {e : Code} (ts : List ValType) → Goes c body ls e ts (vals.I32 ∷ ts)
      → Goes c body ls (allocated n o e) ts (vals.Handle ∷ ts)
  allocated_goes n None ts g = g ▹ new_heap_goes n ts
  allocated_goes n (Some k) ts g = does (i32_step ▸ segment_step (segment.New kinds.Heap) ts ▸ end)

module _ {c : Context} (t : Target) {globals slots : List Ty} {literals waits : ℕ}
    (names : Names c t globals slots literals waits) where
  scratch_is : (s : Scalar) → slice_get c.locals (scratch_of t s) ≡ Some (val_type s)
  scratch_is (scalars.Int u) = by (width_of u) where
    by : (w : Width) → slice_get c.locals (scratch_of_width t w) ≡ Some (integer_type w)
    by W32 = names.i32
    by W64 = names.i64
  scratch_is scalars.Pointer = names.handle
  scratch_is scalars.Function = names.i32

-- what lies below a value that is to be written: the place, if it isn't a plain variable
abbrev pub under : Option Variable → List ValType → List ValType
under None ts = vals.Handle ∷ ts
under (Some v) ts = ts

module _ (c : Context) (body : List (List Instr)) (ls : Labels) (t : Target) where
  -- a place of a value of this type: a plain variable, or code that gives a handle
  abbrev pub Accesses : Option Variable → Code → ValType → Type 0
  Accesses None p w = (ts : List ValType) → Goes c body ls p ts (vals.Handle ∷ ts)
  Accesses (Some v) p w = Holds c t v w

module _ {c : Context} {body : List (List Instr)} {ls : Labels} (t : Target) {globals slots : List Ty} {literals waits : ℕ}
    (names : Names c t globals slots literals waits) where
  pub fetched_goes : (o : Option Variable) (p : Code) (s : Scalar) (ts : List ValType) → Accesses c body ls t o p (val_type s)
      → Goes c body ls (fetched t o p s) ts (val_type s ∷ ts)
  fetched_goes None p s ts h = h ts ▹ does (load_step s ▸ end)
  fetched_goes (Some v) p s ts h = does (get_step t v h ▸ end)

  pub begun_goes : (o : Option Variable) (p : Code) (s : Scalar) (ts : List ValType) → Accesses c body ls t o p (val_type s)
      → Goes c body ls (begun t o p) ts (under o ts)
  begun_goes None p s ts h = h ts
  begun_goes (Some v) p s ts h = none

  put_goes : (o : Option Variable) (p : Code) (s : Scalar) (ts : List ValType) → Accesses c body ls t o p (val_type s)
      → Goes c body ls (put t o s) (val_type s ∷ under o ts) ts
  put_goes None p s ts h = does (store_step s ▸ end)
  put_goes (Some v) p s ts h = does (set_step t v h ▸ end)

  written_goes : (o : Option Variable) (p : Code) (s : Scalar) (ts : List ValType) → Accesses c body ls t o p (val_type s)
      → Goes c body ls (written t o s) (val_type s ∷ under o ts) (val_type s ∷ ts)
  written_goes None p s ts h = does (local_tee (scratch_is t names s) ▸ store_step s ▸ local_get (scratch_is t names s) ▸ end)
  written_goes (Some v) p s ts h = tee_goes t v h

  pub ended_goes : (kept : Bool) (o : Option Variable) (p : Code) (s : Scalar) (ts : List ValType)
      → Accesses c body ls t o p (val_type s)
      → Goes c body ls (ended t kept o s) (val_type s ∷ under o ts) (kept_types kept (Some (val_type s)) ++ ts)
  ended_goes true o p s ts h = written_goes o p s ts h
  ended_goes false o p s ts h = put_goes o p s ts h

  with_old_goes : (o : Option Variable) (p : Code) (s : Scalar) (ts : List ValType) → Accesses c body ls t o p (val_type s)
      → Goes c body ls (begun_with_old t o p s) ts (val_type s ∷ under o ts)
  with_old_goes None p s ts h = h ts ▹ does (local_tee names.place ▸ local_get names.place ▸ load_step s ▸ end)
  with_old_goes (Some v) p s ts h = does (get_step t v h ▸ end)

  over_old_goes : (o : Option Variable) (p : Code) (s : Scalar) (ts : List ValType) → Accesses c body ls t o p (val_type s)
      → Goes c body ls (begun_over_old t o p s) ts (val_type s ∷ under o (val_type s ∷ ts))
  over_old_goes None p s ts h =
      h ts ▹ does (local_tee names.place ▸ load_step s ▸ local_tee (scratch_is t names s) ▸ local_get names.place ▸ local_get
      (scratch_is t names s) ▸ end)
  over_old_goes (Some v) p s ts h = does (get_step t v h ▸ get_step t v h ▸ end)

  pub updated_goes : (kept old : Bool) (o : Option Variable) (p : Code) (s : Scalar) {change : Code} (ts : List ValType)
      → Accesses c body ls t o p (val_type s)
      → ((us : List ValType) → Goes c body ls change (val_type s ∷ us) (val_type s ∷ us))
      → Goes c body ls (updated t kept old o p s change) ts (kept_types kept (Some (val_type s)) ++ ts)
  updated_goes true true o p s ts h g = over_old_goes o p s ts h ▹ g (under o (val_type s ∷ ts)) ▹ put_goes o p s
      (val_type s ∷ ts) h
  updated_goes true false o p s ts h g = with_old_goes o p s ts h ▹ g (under o ts) ▹ ended_goes true o p s ts h
  updated_goes false true o p s ts h g = with_old_goes o p s ts h ▹ g (under o ts) ▹ ended_goes false o p s ts h
  updated_goes false false o p s ts h g = with_old_goes o p s ts h ▹ g (under o ts) ▹ ended_goes false o p s ts h

  -- ---- structs

  leaf_handle_goes : (h : ℕ) (l : Leaf) (n : ℕ) (ts : List ValType) → slice_get c.locals h ≡ Some vals.Handle
      → Goes c body ls (leaf_handle t h l n) ts (vals.Handle ∷ ts)
  leaf_handle_goes h l n ts e = does (local_get e ▸ end) ▹ slice_goes l.from l.length ts ▹ does
      (i64_step ▸ segment_step (segment.Add n) ts ▸ end)

  leaf_copied_goes : (l : Leaf) (o : Option Scalar) (ts : List ValType) → Goes c body ls (leaf_copied t l o) ts ts
  leaf_copied_goes l None ts = none
  leaf_copied_goes l (Some s) ts =
      leaf_handle_goes (t.scratch + 3) l (size t.structs l.ty) ts names.place
      ▹ leaf_handle_goes (t.scratch + 2) l (size t.structs l.ty) (vals.Handle ∷ ts) names.handle
      ▹ does (load_step s ▸ store_step s ▸ end)

  leaves_copied_goes : (k : List Leaf) (ts : List ValType) → Goes c body ls (leaves_copied t k) ts ts
  leaves_copied_goes [] ts = none
  leaves_copied_goes (l ∷ k) ts = leaf_copied_goes l (scalar_of l.ty) ts ▹ leaves_copied_goes k ts

  pub copied_goes : (n : ℕ) {p q : Code} (ts : List ValType) → Goes c body ls p ts (vals.Handle ∷ ts)
      → Goes c body ls q (vals.Handle ∷ ts) (vals.Handle ∷ vals.Handle ∷ ts) → Goes c body ls (copied t n p q) ts ts
  copied_goes n ts gp gq = gp ▹ gq ▹ does (local_set names.handle ▸ local_set names.place ▸ end) ▹ leaves_copied_goes
      (leaves t.structs n) ts

  -- ---- the others

  pub moved_by_goes : (n : ℕ) {i p : Code} (ts : List ValType) → Goes c body ls i ts (vals.I64 ∷ ts)
      → Goes c body ls p (vals.I64 ∷ ts) (vals.Handle ∷ vals.I64 ∷ ts) → Goes c body ls (moved_by t n i p) ts (vals.Handle ∷ ts)
  moved_by_goes n ts gi gp =
      gi ▹ gp ▹ does (local_set names.handle ▸ local_set names.i64 ▸ local_get names.handle ▸ local_get names.i64 ▸ segment_step
      (segment.Add n) ts ▸ end)

  pub product_goes : (n : ℕ) {a b : Code} (ts : List ValType) → Goes c body ls a ts (vals.I32 ∷ ts)
      → Goes c body ls b (vals.I64 ∷ ts) (vals.I32 ∷ vals.I64 ∷ ts)
      → Goes c body ls (product_allocated (t.scratch + 1) n a b) ts (vals.Handle ∷ ts)
  product_goes n ts ga gb =
      ga ▹ does (numeric_step ExtendU ts ▸ end) ▹ gb
      ▹ does (numeric_step ExtendU (vals.I64 ∷ ts) ▸ op_step W64 ▸ local_tee names.i64 ▸ i64_step ▸ rel_step W64 ▸ end)
      ▹ in_choice {k = Some vals.Handle} (does (segment_step segment.Null [] ▸ end))
      (does (local_get names.i64 ▸ numeric_step Wrap [] ▸ end) ▹ new_heap_goes n [])

module _ {c : Context} {body : List (List Instr)} {ls : Labels} (t : Target) {globals slots : List Ty} {literals waits : ℕ}
    (names : Names c t globals slots literals waits) where
  pub freed_goes : {e : Code} (ts : List ValType) → Goes c body ls e ts (vals.Handle ∷ ts) → Goes c body ls (freed t e) ts ts
  freed_goes ts g =
      g ▹ does (local_tee names.handle ▸ segment_step segment.IsNull ts ▸ numeric_step (Eqz W32) ts ▸ end)
      ▹ in_choice {k = None} (does (local_get names.handle ▸ segment_step (segment.Free kinds.Heap) [] ▸ end)) none
