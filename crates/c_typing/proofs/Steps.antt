-- The instructions of code, each from the operands that it takes to those that it leaves.
use Rattle.std.proofs.Common.{◌≡◌, ℕ, ◌<◌, List, ◌∷◌, ◌++◌, length, reverse, Option, Some, None, refl}
use Rattle.std.specs.Prelude.{ℤ, pos, slice_get}
use Rattle.ms_types.specs.declared.types.ValType.{ValType}
use Rattle.ms_types.specs.declared.types.ValType.TheVariants as vals
use Rattle.ms_module.specs.declared.access.Segment.{Segment as SegmentInstr}
use Rattle.ms_module.specs.declared.instr.Instr.{Instr}
use Rattle.ms_module.specs.declared.instr.Instr.TheVariants.{Br, BrIf, Call, CallIndirect, Drop, GlobalGet, GlobalSet, I32Const, I64Const, LocalGet, LocalSet, LocalTee, Numeric, Return, Segment, Select, Unreachable}
use Rattle.ms_module.specs.declared.numeric.BinOp.{BinOp}
use Rattle.ms_module.specs.declared.numeric.RelOp.{RelOp as Relation}
use Rattle.ms_module.specs.declared.numeric.Numeric.{Numeric as NumericInstr}
use Rattle.ms_module.specs.declared.numeric.Width.{Width}
use Rattle.ms_module.specs.declared.numeric.Width.TheVariants.{W32, W64}
use Rattle.ms_rules.specs.Context.{Context}
use Rattle.ms_rules.specs.Instructions.{numeric_type, segment_type}
use Rattle.ms_rules.specs.Typing.{types}
use Rattle.c_types.specs.declared.integers.IntType.TheVariants.{Char, SignedChar, UnsignedChar, Short, UnsignedShort, Int, UnsignedInt, Long, UnsignedLong, LongLong, UnsignedLongLong}
use Rattle.c_types.specs.declared.types.Scalar.{Scalar}
use Rattle.c_types.specs.declared.types.Scalar.TheVariants as scalars
use Rattle.c_typed.specs.declared.ops.Variable.{Variable}
use Rattle.c_typed.specs.declared.ops.Variable.TheVariants.{Local, Global}
use Rattle.c_code.specs.Operations.{constant, integer_type, load, op, rel, store, val_type, width_of, zero_of}
use Rattle.c_code.specs.Targets.{Target, get, set, tee}
use Rattle.c_typing.proofs.Names.{Holds, var}
use Rattle.c_typing.proofs.Typing.{Goes, Labels, Step, does, end, ◌▸◌}

module _ {c : Context} {ls : Labels} where
  pub constant_step : (w : Width) (z : ℤ) {ts : List ValType} → Step c ls (constant w z) ts (integer_type w ∷ ts)
  constant_step W32 z = record { by = λ known. refl }
  constant_step W64 z = record { by = λ known. refl }

  pub i32_step : {z : ℤ} {ts : List ValType} → Step c ls (I32Const z) ts (vals.I32 ∷ ts)
  i32_step = record { by = λ known. refl }

  pub i64_step : {z : ℤ} {ts : List ValType} → Step c ls (I64Const z) ts (vals.I64 ∷ ts)
  i64_step = record { by = λ known. refl }

  pub segment_step : (i : SegmentInstr) (ts : List ValType)
      → Step c ls (Segment i) (reverse (segment_type i).params ++ ts) (types (segment_type i).result ++ ts)
  segment_step i ts = record { by = λ known. (ts, refl, refl) }

  pub numeric_step : (i : NumericInstr) (ts : List ValType)
      → Step c ls (Numeric i) (reverse (numeric_type i).params ++ ts) (types (numeric_type i).result ++ ts)
  numeric_step i ts = record { by = λ known. (ts, refl, refl) }

  pub op_step : (w : Width) {o : BinOp} {ts : List ValType}
      → Step c ls (op w o) (integer_type w ∷ integer_type w ∷ ts) (integer_type w ∷ ts)
  op_step W32 {ts = ts} = record { by = λ known. (ts, refl, refl) }
  op_step W64 {ts = ts} = record { by = λ known. (ts, refl, refl) }

  pub rel_step : (w : Width) {r : Relation} {ts : List ValType}
      → Step c ls (rel w r) (integer_type w ∷ integer_type w ∷ ts) (vals.I32 ∷ ts)
  rel_step W32 {ts = ts} = record { by = λ known. (ts, refl, refl) }
  rel_step W64 {ts = ts} = record { by = λ known. (ts, refl, refl) }

  pub load_step : (s : Scalar) {ts : List ValType} → Step c ls (load s) (vals.Handle ∷ ts) (val_type s ∷ ts)
  load_step (scalars.Int Char) {ts} = record { by = λ known. (ts, refl, refl) }
  load_step (scalars.Int SignedChar) {ts} = record { by = λ known. (ts, refl, refl) }
  load_step (scalars.Int UnsignedChar) {ts} = record { by = λ known. (ts, refl, refl) }
  load_step (scalars.Int Short) {ts} = record { by = λ known. (ts, refl, refl) }
  load_step (scalars.Int UnsignedShort) {ts} = record { by = λ known. (ts, refl, refl) }
  load_step (scalars.Int Int) {ts} = record { by = λ known. (ts, refl, refl) }
  load_step (scalars.Int UnsignedInt) {ts} = record { by = λ known. (ts, refl, refl) }
  load_step (scalars.Int Long) {ts} = record { by = λ known. (ts, refl, refl) }
  load_step (scalars.Int UnsignedLong) {ts} = record { by = λ known. (ts, refl, refl) }
  load_step (scalars.Int LongLong) {ts} = record { by = λ known. (ts, refl, refl) }
  load_step (scalars.Int UnsignedLongLong) {ts} = record { by = λ known. (ts, refl, refl) }
  load_step scalars.Pointer {ts} = record { by = λ known. (ts, refl, refl) }
  load_step scalars.Function {ts} = record { by = λ known. (ts, refl, refl) }

  pub store_step : (s : Scalar) {ts : List ValType} → Step c ls (store s) (val_type s ∷ vals.Handle ∷ ts) ts
  store_step (scalars.Int Char) {ts} = record { by = λ known. (ts, refl, refl) }
  store_step (scalars.Int SignedChar) {ts} = record { by = λ known. (ts, refl, refl) }
  store_step (scalars.Int UnsignedChar) {ts} = record { by = λ known. (ts, refl, refl) }
  store_step (scalars.Int Short) {ts} = record { by = λ known. (ts, refl, refl) }
  store_step (scalars.Int UnsignedShort) {ts} = record { by = λ known. (ts, refl, refl) }
  store_step (scalars.Int Int) {ts} = record { by = λ known. (ts, refl, refl) }
  store_step (scalars.Int UnsignedInt) {ts} = record { by = λ known. (ts, refl, refl) }
  store_step (scalars.Int Long) {ts} = record { by = λ known. (ts, refl, refl) }
  store_step (scalars.Int UnsignedLong) {ts} = record { by = λ known. (ts, refl, refl) }
  store_step (scalars.Int LongLong) {ts} = record { by = λ known. (ts, refl, refl) }
  store_step (scalars.Int UnsignedLongLong) {ts} = record { by = λ known. (ts, refl, refl) }
  store_step scalars.Pointer {ts} = record { by = λ known. (ts, refl, refl) }
  store_step scalars.Function {ts} = record { by = λ known. (ts, refl, refl) }

  pub zero_step : (s : Scalar) {ts : List ValType} → Step c ls (zero_of s) ts (val_type s ∷ ts)
  zero_step (scalars.Int u) = constant_step (width_of u) (pos 0)
  zero_step scalars.Pointer {ts} = record { by = λ known. (ts, refl, refl) }
  zero_step scalars.Function = record { by = λ known. refl }

  pub drop_step : {w : ValType} {ts : List ValType} → Step c ls Drop (w ∷ ts) ts
  drop_step {w} = record { by = λ known. (w, refl) }

  pub select_step : {w : ValType} {ts : List ValType} → Step c ls Select (vals.I32 ∷ w ∷ w ∷ ts) (w ∷ ts)
  select_step {w} {ts} = record { by = λ known. (w, ts, refl, refl) }

  pub unreachable_step : {t1 t2 : List ValType} → Step c ls Unreachable t1 t2
  unreachable_step = record { by = λ known. tt }

  -- ---- locals and globals

  pub local_get : {x : ℕ} {w : ValType} {ts : List ValType} → slice_get c.locals x ≡ Some w → Step c ls (LocalGet x) ts (w ∷ ts)
  local_get {w = w} e = record { by = λ known. (w, e, refl) }

  pub local_set : {x : ℕ} {w : ValType} {ts : List ValType} → slice_get c.locals x ≡ Some w → Step c ls (LocalSet x) (w ∷ ts) ts
  local_set {w = w} e = record { by = λ known. (w, e, refl) }

  pub local_tee : {x : ℕ} {w : ValType} {ts : List ValType} → slice_get c.locals x ≡ Some w
      → Step c ls (LocalTee x) (w ∷ ts) (w ∷ ts)
  local_tee {w = w} {ts = ts} e = record { by = λ known. (w, ts, e, refl, refl) }

  pub global_get : {x : ℕ} {w : ValType} {ts : List ValType} → slice_get c.globals x ≡ Some (var w)
      → Step c ls (GlobalGet x) ts (w ∷ ts)
  global_get {w = w} e = record { by = λ known. (var w, e, refl) }

  pub global_set : {x : ℕ} {w : ValType} {ts : List ValType} → slice_get c.globals x ≡ Some (var w)
      → Step c ls (GlobalSet x) (w ∷ ts) ts
  global_set {w = w} e = record { by = λ known. (var w, e, refl, refl) }

  pub get_step : (t : Target) (v : Variable) {w : ValType} {ts : List ValType} → Holds c t v w → Step c ls (get t v) ts (w ∷ ts)
  get_step t (Local n) h = local_get h
  get_step t (Global n) h = global_get h

  pub set_step : (t : Target) (v : Variable) {w : ValType} {ts : List ValType} → Holds c t v w → Step c ls (set t v) (w ∷ ts) ts
  set_step t (Local n) h = local_set h
  set_step t (Global n) h = global_set h

  -- ---- branches and calls

  pub br_step : {l : ℕ} {t1 t2 : List ValType} → slice_get ls l ≡ Some None → Step c ls (Br l) t1 t2
  br_step {t1 = t1} e = record { by = λ known. (None, t1, e, refl) }

  pub br_if_step : {l : ℕ} {ts : List ValType} → slice_get ls l ≡ Some None → Step c ls (BrIf l) (vals.I32 ∷ ts) ts
  br_if_step {ts = ts} e = record { by = λ known. (None, ts, e, refl, refl) }

  pub return_step : (k : Option ValType) (ts : List ValType) {t2 : List ValType} → c.returns ≡ Some k
      → Step c ls Return (types k ++ ts) t2
  return_step k ts e = record { by = λ known. (k, ts, e, refl) }

  pub call_step : {n : ℕ} (ps : List ValType) (k : Option ValType) (ts : List ValType)
      → slice_get c.funcs n ≡ Some (Some (record { params = ps; results = types k }))
      → Step c ls (Call n) (reverse ps ++ ts) (types k ++ ts)
  call_step ps k ts e = record { by = λ known. (record { params = ps; results = types k }, e, (k, ts, refl, refl, refl)) }

  pub call_indirect_step : {n : ℕ} (ps : List ValType) (k : Option ValType) (ts : List ValType) → 0 < length c.tables
      → slice_get c.sigs n ≡ Some (record { params = ps; results = types k })
      → Step c ls (CallIndirect n) (vals.I32 ∷ (reverse ps ++ ts)) (types k ++ ts)
  call_indirect_step ps k ts one e = record
      { by = λ known. (record { params = ps; results = types k }, reverse ps ++ ts, one, e, refl, (k, ts, refl, refl, refl)) }

module _ {c : Context} {body : List (List Instr)} {ls : Labels} where
  pub tee_goes : (t : Target) (v : Variable) {w : ValType} {ts : List ValType} → Holds c t v w
      → Goes c body ls (tee t v) (w ∷ ts) (w ∷ ts)
  tee_goes t (Local n) h = does (local_tee h ▸ end)
  tee_goes t (Global n) h = does (global_set h ▸ global_get h ▸ end)
