-- All instructions: their opcodes (WebAssembly 1.0, 5.4), their keywords in texts (6.5), and what they are. Those on
-- handles and segments have the prefix E0 and a second byte.
use Rattle.std.specs.Prelude.{ℕ, ℤ, ◌==◌, ◌&&◌, ◌||◌, Bool, false, List, [], ◌∷◌, ◌++◌, Option, Some, None, codes, map, nat_le, if◌then◌else◌}
use Rattle.std.specs.List.{starts_with}
use Rattle.std.specs.Str.{bytes_eq}
use Rattle.ms_handle.specs.declared.handle.Kind.{Kind}
use Rattle.ms_types.specs.declared.types.ValType.{ValType}
use Rattle.ms_types.specs.declared.types.ValType.TheVariants.{I32, I64, Handle}
use Rattle.ms_module.specs.declared.numeric.Width.TheVariants.{W32, W64}
use Rattle.ms_module.specs.declared.numeric.UnOp.TheVariants.{Clz, Ctz, Popcnt}
use Rattle.ms_module.specs.declared.numeric.BinOp.TheVariants.{Add, Sub, Mul, DivS, DivU, RemS, RemU, And, Or, Xor, Shl, ShrS, ShrU, Rotl, Rotr}
use Rattle.ms_module.specs.declared.numeric.RelOp.TheVariants.{Eq, Ne, LtS, LtU, GtS, GtU, LeS, LeU, GeS, GeU}
use Rattle.ms_module.specs.declared.numeric.Numeric.{Numeric}
use Rattle.ms_module.specs.declared.numeric.Numeric.TheVariants.{Eqz, Compare, Unary, Binary, Wrap, ExtendS, ExtendU}
use Rattle.ms_module.specs.declared.access.LoadOp.{LoadOp}
use Rattle.ms_module.specs.declared.access.LoadOp.TheVariants.{I32Load, I64Load, I32Load8S, I32Load8U, I32Load16S, I32Load16U, I64Load8S, I64Load8U, I64Load16S, I64Load16U, I64Load32S, I64Load32U}
use Rattle.ms_module.specs.declared.access.StoreOp.{StoreOp}
use Rattle.ms_module.specs.declared.access.StoreOp.TheVariants.{I32Store, I64Store, I32Store8, I32Store16, I64Store8, I64Store16, I64Store32}
use Rattle.ms_module.specs.declared.access.Linear.TheVariants as linear
use Rattle.ms_module.specs.declared.access.Segment.TheVariants as segment
use Rattle.ms_module.specs.declared.br_table.Targets.{Targets}
use Rattle.ms_module.specs.declared.builder.Opening.{Opening}
use Rattle.ms_module.specs.declared.builder.Opening.TheVariants as opening
use Rattle.ms_module.specs.declared.instr.Instr.{Instr}
use Rattle.ms_module.specs.declared.instr.Instr.TheVariants as instr

-- a code, a keyword, and what they stand for
pub record Row (A : Type 0) : Type 0 where
  pub code : ℕ
  pub word : List ℕ
  pub item : A

abbrev pub row : {A : Type 0} → ℕ → List ℕ → A → Row A
row code word item = record { code = code; word = word; item = item }

-- the first item of a code, and of a keyword
abbrev pub by_code : {A : Type 0} → List (Row A) → ℕ → Option A
by_code [] code = None
by_code (r ∷ rs) code = if code == r.code then Some r.item else by_code rs code

abbrev pub by_word : {A : Type 0} → List (Row A) → List ℕ → Option A
by_word [] word = None
by_word (r ∷ rs) word = if bytes_eq word r.word then Some r.item else by_word rs word

-- ---- blocks (5.4.1)

unfoldable pub opening_rows : List (Row Opening)
opening_rows =
    row 0x02 (codes "block") opening.Block ∷
    row 0x03 (codes "loop") opening.Loop ∷
    row 0x04 (codes "if") opening.If ∷
    []

abbrev pub else_code : ℕ
else_code = 0x05

abbrev pub else_word : List ℕ
else_word = codes "else"

abbrev pub end_code : ℕ
end_code = 0x0B

abbrev pub end_word : List ℕ
end_word = codes "end"

-- ---- what stands behind an opcode, and the instruction that it makes

pub data Form : Type 0 where
  -- nothing
  Bare : Instr → Form
  -- the index of a label, a function, a type, a local or a global; a type's has the byte 00 behind it in binary
  Label : (ℕ → Instr) → Form
  Func : (ℕ → Instr) → Form
  Type_ : (ℕ → Instr) → Form
  Local : (ℕ → Instr) → Form
  Global : (ℕ → Instr) → Form
  -- labels, and the default one
  Labels : (Targets → Instr) → Form
  -- nothing; the byte 00 in binary
  Memory : Instr → Form
  -- a number of 32 bits, and of 64 bits
  Int32 : (ℤ → Instr) → Form
  Int64 : (ℤ → Instr) → Form
  -- `heap` or `frame`; 00 or 01 in binary
  KindOf : (Kind → Instr) → Form
  -- the scale of an index
  Scale : (ℕ → Instr) → Form

-- ---- control, parametric and variable instructions, the size of the memory, and constants (5.4.1 to 5.4.5)

unfoldable pub operand_rows : List (Row Form)
operand_rows =
    row 0x00 (codes "unreachable") (Bare instr.Unreachable) ∷
    row 0x01 (codes "nop") (Bare instr.Nop) ∷
    row 0x0C (codes "br") (Label instr.Br) ∷
    row 0x0D (codes "br_if") (Label instr.BrIf) ∷
    row 0x0E (codes "br_table") (Labels instr.BrTable) ∷
    row 0x0F (codes "return") (Bare instr.Return) ∷
    row 0x10 (codes "call") (Func instr.Call) ∷
    row 0x11 (codes "call_indirect") (Type_ instr.CallIndirect) ∷
    row 0x1A (codes "drop") (Bare instr.Drop) ∷
    row 0x1B (codes "select") (Bare instr.Select) ∷
    row 0x20 (codes "local.get") (Local instr.LocalGet) ∷
    row 0x21 (codes "local.set") (Local instr.LocalSet) ∷
    row 0x22 (codes "local.tee") (Local instr.LocalTee) ∷
    row 0x23 (codes "global.get") (Global instr.GlobalGet) ∷
    row 0x24 (codes "global.set") (Global instr.GlobalSet) ∷
    row 0x3F (codes "memory.size") (Memory (instr.Linear linear.Size)) ∷
    row 0x40 (codes "memory.grow") (Memory (instr.Linear linear.Grow)) ∷
    row 0x41 (codes "i32.const") (Int32 instr.I32Const) ∷
    row 0x42 (codes "i64.const") (Int64 instr.I64Const) ∷
    []

-- ---- numeric instructions (5.4.5)

unfoldable pub numeric_rows : List (Row Numeric)
numeric_rows =
    row 0x45 (codes "i32.eqz") (Eqz W32) ∷
    row 0x46 (codes "i32.eq") (Compare W32 Eq) ∷
    row 0x47 (codes "i32.ne") (Compare W32 Ne) ∷
    row 0x48 (codes "i32.lt_s") (Compare W32 LtS) ∷
    row 0x49 (codes "i32.lt_u") (Compare W32 LtU) ∷
    row 0x4A (codes "i32.gt_s") (Compare W32 GtS) ∷
    row 0x4B (codes "i32.gt_u") (Compare W32 GtU) ∷
    row 0x4C (codes "i32.le_s") (Compare W32 LeS) ∷
    row 0x4D (codes "i32.le_u") (Compare W32 LeU) ∷
    row 0x4E (codes "i32.ge_s") (Compare W32 GeS) ∷
    row 0x4F (codes "i32.ge_u") (Compare W32 GeU) ∷
    row 0x50 (codes "i64.eqz") (Eqz W64) ∷
    row 0x51 (codes "i64.eq") (Compare W64 Eq) ∷
    row 0x52 (codes "i64.ne") (Compare W64 Ne) ∷
    row 0x53 (codes "i64.lt_s") (Compare W64 LtS) ∷
    row 0x54 (codes "i64.lt_u") (Compare W64 LtU) ∷
    row 0x55 (codes "i64.gt_s") (Compare W64 GtS) ∷
    row 0x56 (codes "i64.gt_u") (Compare W64 GtU) ∷
    row 0x57 (codes "i64.le_s") (Compare W64 LeS) ∷
    row 0x58 (codes "i64.le_u") (Compare W64 LeU) ∷
    row 0x59 (codes "i64.ge_s") (Compare W64 GeS) ∷
    row 0x5A (codes "i64.ge_u") (Compare W64 GeU) ∷
    row 0x67 (codes "i32.clz") (Unary W32 Clz) ∷
    row 0x68 (codes "i32.ctz") (Unary W32 Ctz) ∷
    row 0x69 (codes "i32.popcnt") (Unary W32 Popcnt) ∷
    row 0x6A (codes "i32.add") (Binary W32 Add) ∷
    row 0x6B (codes "i32.sub") (Binary W32 Sub) ∷
    row 0x6C (codes "i32.mul") (Binary W32 Mul) ∷
    row 0x6D (codes "i32.div_s") (Binary W32 DivS) ∷
    row 0x6E (codes "i32.div_u") (Binary W32 DivU) ∷
    row 0x6F (codes "i32.rem_s") (Binary W32 RemS) ∷
    row 0x70 (codes "i32.rem_u") (Binary W32 RemU) ∷
    row 0x71 (codes "i32.and") (Binary W32 And) ∷
    row 0x72 (codes "i32.or") (Binary W32 Or) ∷
    row 0x73 (codes "i32.xor") (Binary W32 Xor) ∷
    row 0x74 (codes "i32.shl") (Binary W32 Shl) ∷
    row 0x75 (codes "i32.shr_s") (Binary W32 ShrS) ∷
    row 0x76 (codes "i32.shr_u") (Binary W32 ShrU) ∷
    row 0x77 (codes "i32.rotl") (Binary W32 Rotl) ∷
    row 0x78 (codes "i32.rotr") (Binary W32 Rotr) ∷
    row 0x79 (codes "i64.clz") (Unary W64 Clz) ∷
    row 0x7A (codes "i64.ctz") (Unary W64 Ctz) ∷
    row 0x7B (codes "i64.popcnt") (Unary W64 Popcnt) ∷
    row 0x7C (codes "i64.add") (Binary W64 Add) ∷
    row 0x7D (codes "i64.sub") (Binary W64 Sub) ∷
    row 0x7E (codes "i64.mul") (Binary W64 Mul) ∷
    row 0x7F (codes "i64.div_s") (Binary W64 DivS) ∷
    row 0x80 (codes "i64.div_u") (Binary W64 DivU) ∷
    row 0x81 (codes "i64.rem_s") (Binary W64 RemS) ∷
    row 0x82 (codes "i64.rem_u") (Binary W64 RemU) ∷
    row 0x83 (codes "i64.and") (Binary W64 And) ∷
    row 0x84 (codes "i64.or") (Binary W64 Or) ∷
    row 0x85 (codes "i64.xor") (Binary W64 Xor) ∷
    row 0x86 (codes "i64.shl") (Binary W64 Shl) ∷
    row 0x87 (codes "i64.shr_s") (Binary W64 ShrS) ∷
    row 0x88 (codes "i64.shr_u") (Binary W64 ShrU) ∷
    row 0x89 (codes "i64.rotl") (Binary W64 Rotl) ∷
    row 0x8A (codes "i64.rotr") (Binary W64 Rotr) ∷
    row 0xA7 (codes "i32.wrap_i64") (Wrap) ∷
    row 0xAC (codes "i64.extend_i32_s") (ExtendS) ∷
    row 0xAD (codes "i64.extend_i32_u") (ExtendU) ∷
    []

-- ---- accesses of the linear memory (5.4.4)

unfoldable pub load_rows : List (Row LoadOp)
load_rows =
    row 0x28 (codes "i32.load") I32Load ∷
    row 0x29 (codes "i64.load") I64Load ∷
    row 0x2C (codes "i32.load8_s") I32Load8S ∷
    row 0x2D (codes "i32.load8_u") I32Load8U ∷
    row 0x2E (codes "i32.load16_s") I32Load16S ∷
    row 0x2F (codes "i32.load16_u") I32Load16U ∷
    row 0x30 (codes "i64.load8_s") I64Load8S ∷
    row 0x31 (codes "i64.load8_u") I64Load8U ∷
    row 0x32 (codes "i64.load16_s") I64Load16S ∷
    row 0x33 (codes "i64.load16_u") I64Load16U ∷
    row 0x34 (codes "i64.load32_s") I64Load32S ∷
    row 0x35 (codes "i64.load32_u") I64Load32U ∷
    []

unfoldable pub store_rows : List (Row StoreOp)
store_rows =
    row 0x36 (codes "i32.store") I32Store ∷
    row 0x37 (codes "i64.store") I64Store ∷
    row 0x3A (codes "i32.store8") I32Store8 ∷
    row 0x3B (codes "i32.store16") I32Store16 ∷
    row 0x3C (codes "i64.store8") I64Store8 ∷
    row 0x3D (codes "i64.store16") I64Store16 ∷
    row 0x3E (codes "i64.store32") I64Store32 ∷
    []

-- ---- handles and segments, by the byte behind the prefix

abbrev pub prefix : ℕ
prefix = 0xE0

unfoldable pub segment_rows : List (Row Form)
segment_rows =
    row 0x00 (codes "handle.null") (Bare (instr.Segment segment.Null)) ∷
    row 0x01 (codes "segment.new") (KindOf (λ k. instr.Segment (segment.New k))) ∷
    row 0x02 (codes "segment.free") (KindOf (λ k. instr.Segment (segment.Free k))) ∷
    row 0x03 (codes "handle.add") (Scale (λ n. instr.Segment (segment.Add n))) ∷
    row 0x04 (codes "handle.slice") (Bare (instr.Segment segment.Slice)) ∷
    row 0x05 (codes "handle.eq") (Bare (instr.Segment segment.Eq)) ∷
    row 0x06 (codes "handle.is_null") (Bare (instr.Segment segment.IsNull)) ∷
    row 0x07 (codes "handle.diff") (Bare (instr.Segment segment.Diff)) ∷
    row 0x08 (codes "handle.load") (Bare (instr.Segment segment.LoadHandle)) ∷
    row 0x09 (codes "handle.store") (Bare (instr.Segment segment.StoreHandle)) ∷
    row 0x1D (codes "handle.seal") (Bare (instr.Segment segment.Seal)) ∷
    []

unfoldable pub segment_load_rows : List (Row LoadOp)
segment_load_rows =
    row 0x0A (codes "i32.segload") I32Load ∷
    row 0x0B (codes "i64.segload") I64Load ∷
    row 0x0C (codes "i32.segload8_s") I32Load8S ∷
    row 0x0D (codes "i32.segload8_u") I32Load8U ∷
    row 0x0E (codes "i32.segload16_s") I32Load16S ∷
    row 0x0F (codes "i32.segload16_u") I32Load16U ∷
    row 0x10 (codes "i64.segload8_s") I64Load8S ∷
    row 0x11 (codes "i64.segload8_u") I64Load8U ∷
    row 0x12 (codes "i64.segload16_s") I64Load16S ∷
    row 0x13 (codes "i64.segload16_u") I64Load16U ∷
    row 0x14 (codes "i64.segload32_s") I64Load32S ∷
    row 0x15 (codes "i64.segload32_u") I64Load32U ∷
    []

unfoldable pub segment_store_rows : List (Row StoreOp)
segment_store_rows =
    row 0x16 (codes "i32.segstore") I32Store ∷
    row 0x17 (codes "i64.segstore") I64Store ∷
    row 0x18 (codes "i32.segstore8") I32Store8 ∷
    row 0x19 (codes "i32.segstore16") I32Store16 ∷
    row 0x1A (codes "i64.segstore8") I64Store8 ∷
    row 0x1B (codes "i64.segstore16") I64Store16 ∷
    row 0x1C (codes "i64.segstore32") I64Store32 ∷
    []

-- ---- value types (5.3.1)

unfoldable pub value_rows : List (Row ValType)
value_rows =
    row 0x7F (codes "i32") I32 ∷
    row 0x7E (codes "i64") I64 ∷
    row 0x58 (codes "handle") Handle ∷
    []

-- ---- floating-point types and instructions

-- 7D and 7C
abbrev pub is_float_type : ℕ → Bool
is_float_type code = (code == 0x7D) || (code == 0x7C)

abbrev pub is_between : ℕ → ℕ → ℕ → Bool
is_between low high code = nat_le low code && nat_le code high

-- 2A, 2B, 38, 39, 43, 44, 5B to 66, 8B to A6, A8 to AB, AE to BF
abbrev pub is_float : ℕ → Bool
is_float code =
    is_between 0x2A 0x2B code || is_between 0x38 0x39 code || is_between 0x43 0x44 code || is_between 0x5B 0x66 code
    || is_between 0x8B 0xA6 code || is_between 0xA8 0xAB code || is_between 0xAE 0xBF code

abbrev pub begins_with : List ℕ → List ℕ → Bool
begins_with part word = starts_with (λ a b. a == b) word part

abbrev pub has_inside : List ℕ → List ℕ → Bool
has_inside part [] = false
has_inside part (b ∷ bs) = begins_with part (b ∷ bs) || has_inside part bs

-- f32, f64, one that begins with `f32.` or `f64.`, or has `_f32` or `_f64` in it
abbrev pub is_float_word : List ℕ → Bool
is_float_word word =
    bytes_eq word (codes "f32") || bytes_eq word (codes "f64")
    || begins_with (codes "f32.") word || begins_with (codes "f64.") word
    || has_inside (codes "_f32") word || has_inside (codes "_f64") word

-- ---- all of them

abbrev pub codes_of : {A : Type 0} → List (Row A) → List ℕ
codes_of rows = map (λ r. r.code) rows

abbrev pub words_of : {A : Type 0} → List (Row A) → List (List ℕ)
words_of rows = map (λ r. r.word) rows

-- all opcodes, all second bytes, and all keywords
unfoldable pub opcodes : List ℕ
opcodes = else_code ∷ end_code ∷ prefix ∷ (codes_of opening_rows ++ codes_of operand_rows ++ codes_of numeric_rows ++ codes_of load_rows ++ codes_of store_rows)

unfoldable pub second_bytes : List ℕ
second_bytes = codes_of segment_rows ++ codes_of segment_load_rows ++ codes_of segment_store_rows

unfoldable pub keywords : List (List ℕ)
keywords =
    else_word ∷ end_word ∷ (words_of opening_rows ++ words_of operand_rows ++ words_of numeric_rows ++ words_of load_rows ++ words_of store_rows
    ++ words_of segment_rows ++ words_of segment_load_rows ++ words_of segment_store_rows ++ words_of value_rows)

abbrev pub is_among : {A : Type 0} → (A → A → Bool) → A → List A → Bool
is_among same x [] = false
is_among same x (y ∷ ys) = same x y || is_among same x ys

-- whether something comes twice
abbrev pub has_twice : {A : Type 0} → (A → A → Bool) → List A → Bool
has_twice same [] = false
has_twice same (x ∷ xs) = is_among same x xs || has_twice same xs
