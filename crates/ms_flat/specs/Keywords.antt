-- Which row of the table an instruction has (`Instructions` of `ms_module`): the row of its keyword, which is put together from
-- the width of its type, what it does, and how.
use Rattle.std.specs.Prelude.{ℕ, List, [], ◌∷◌, ◌++◌, codes, if◌then◌else◌}
use Rattle.std.specs.Str.{bytes_eq}
use Rattle.ms_types.specs.declared.types.ValType.{ValType}
use Rattle.ms_types.specs.declared.types.ValType.TheVariants.{I32, I64, Handle}
use Rattle.ms_module.specs.declared.numeric.Width.{Width}
use Rattle.ms_module.specs.declared.numeric.Width.TheVariants.{W32, W64}
use Rattle.ms_module.specs.declared.numeric.UnOp.{UnOp}
use Rattle.ms_module.specs.declared.numeric.UnOp.TheVariants.{Clz, Ctz, Popcnt}
use Rattle.ms_module.specs.declared.numeric.BinOp.{BinOp}
use Rattle.ms_module.specs.declared.numeric.BinOp.TheVariants.{Add, Sub, Mul, DivS, DivU, RemS, RemU, And, Or, Xor, Shl, ShrS, ShrU, Rotl, Rotr}
use Rattle.ms_module.specs.declared.numeric.RelOp.{RelOp}
use Rattle.ms_module.specs.declared.numeric.RelOp.TheVariants.{Eq, Ne, LtS, LtU, GtS, GtU, LeS, LeU, GeS, GeU}
use Rattle.ms_module.specs.declared.numeric.Numeric.{Numeric}
use Rattle.ms_module.specs.declared.numeric.Numeric.TheVariants.{Eqz, Compare, Unary, Binary, Wrap, ExtendS, ExtendU}
use Rattle.ms_module.specs.declared.access.LoadOp.{LoadOp}
use Rattle.ms_module.specs.declared.access.LoadOp.TheVariants.{I32Load, I64Load, I32Load8S, I32Load8U, I32Load16S, I32Load16U, I64Load8S, I64Load8U, I64Load16S, I64Load16U, I64Load32S, I64Load32U}
use Rattle.ms_module.specs.declared.access.StoreOp.{StoreOp}
use Rattle.ms_module.specs.declared.access.StoreOp.TheVariants.{I32Store, I64Store, I32Store8, I32Store16, I64Store8, I64Store16, I64Store32}
use Rattle.ms_module.specs.declared.access.Linear.{Linear}
use Rattle.ms_module.specs.declared.access.Linear.TheVariants as linear
use Rattle.ms_module.specs.declared.access.Segment.{Segment}
use Rattle.ms_module.specs.declared.access.Segment.TheVariants as segment
use Rattle.ms_module.specs.declared.builder.Opening.{Opening}
use Rattle.ms_module.specs.declared.builder.Opening.TheVariants as opening
use Rattle.ms_module.specs.declared.instr.Instr.{Instr}
use Rattle.ms_module.specs.declared.instr.Instr.TheVariants as instr
use Rattle.ms_module.specs.Instructions.{Row}

-- the code of the row with a keyword
abbrev pub code_of : {A : Type 0} → List (Row A) → List ℕ → ℕ
code_of [] word = 0
code_of (r ∷ rs) word = if bytes_eq word r.word then r.code else code_of rs word

abbrev pub opening_word : Opening → List ℕ
opening_word opening.Block = codes "block"
opening_word opening.Loop = codes "loop"
opening_word opening.If = codes "if"

abbrev pub value_word : ValType → List ℕ
value_word I32 = codes "i32"
value_word I64 = codes "i64"
value_word Handle = codes "handle"

-- ---- numeric instructions

abbrev pub width_word : Width → List ℕ
width_word W32 = codes "i32."
width_word W64 = codes "i64."

abbrev pub unary_word : UnOp → List ℕ
unary_word Clz = codes "clz"
unary_word Ctz = codes "ctz"
unary_word Popcnt = codes "popcnt"

abbrev pub binary_word : BinOp → List ℕ
binary_word Add = codes "add"
binary_word Sub = codes "sub"
binary_word Mul = codes "mul"
binary_word DivS = codes "div_s"
binary_word DivU = codes "div_u"
binary_word RemS = codes "rem_s"
binary_word RemU = codes "rem_u"
binary_word And = codes "and"
binary_word Or = codes "or"
binary_word Xor = codes "xor"
binary_word Shl = codes "shl"
binary_word ShrS = codes "shr_s"
binary_word ShrU = codes "shr_u"
binary_word Rotl = codes "rotl"
binary_word Rotr = codes "rotr"

abbrev pub compare_word : RelOp → List ℕ
compare_word Eq = codes "eq"
compare_word Ne = codes "ne"
compare_word LtS = codes "lt_s"
compare_word LtU = codes "lt_u"
compare_word GtS = codes "gt_s"
compare_word GtU = codes "gt_u"
compare_word LeS = codes "le_s"
compare_word LeU = codes "le_u"
compare_word GeS = codes "ge_s"
compare_word GeU = codes "ge_u"

abbrev pub numeric_word : Numeric → List ℕ
numeric_word (Eqz w) = width_word w ++ codes "eqz"
numeric_word (Compare w op) = width_word w ++ compare_word op
numeric_word (Unary w op) = width_word w ++ unary_word op
numeric_word (Binary w op) = width_word w ++ binary_word op
numeric_word Wrap = codes "i32.wrap_i64"
numeric_word ExtendS = codes "i64.extend_i32_s"
numeric_word ExtendU = codes "i64.extend_i32_u"

-- ---- accesses: `load` and `store` of the linear memory, `segload` and `segstore` of a segment

abbrev pub load_word : List ℕ → LoadOp → List ℕ
load_word load I32Load = codes "i32." ++ load
load_word load I64Load = codes "i64." ++ load
load_word load I32Load8S = codes "i32." ++ load ++ codes "8_s"
load_word load I32Load8U = codes "i32." ++ load ++ codes "8_u"
load_word load I32Load16S = codes "i32." ++ load ++ codes "16_s"
load_word load I32Load16U = codes "i32." ++ load ++ codes "16_u"
load_word load I64Load8S = codes "i64." ++ load ++ codes "8_s"
load_word load I64Load8U = codes "i64." ++ load ++ codes "8_u"
load_word load I64Load16S = codes "i64." ++ load ++ codes "16_s"
load_word load I64Load16U = codes "i64." ++ load ++ codes "16_u"
load_word load I64Load32S = codes "i64." ++ load ++ codes "32_s"
load_word load I64Load32U = codes "i64." ++ load ++ codes "32_u"

abbrev pub store_word : List ℕ → StoreOp → List ℕ
store_word store I32Store = codes "i32." ++ store
store_word store I64Store = codes "i64." ++ store
store_word store I32Store8 = codes "i32." ++ store ++ codes "8"
store_word store I32Store16 = codes "i32." ++ store ++ codes "16"
store_word store I64Store8 = codes "i64." ++ store ++ codes "8"
store_word store I64Store16 = codes "i64." ++ store ++ codes "16"
store_word store I64Store32 = codes "i64." ++ store ++ codes "32"

abbrev pub linear_word : Linear → List ℕ
linear_word (linear.Load op arg) = load_word (codes "load") op
linear_word (linear.Store op arg) = store_word (codes "store") op
linear_word linear.Size = codes "memory.size"
linear_word linear.Grow = codes "memory.grow"

abbrev pub segment_word : Segment → List ℕ
segment_word segment.Null = codes "handle.null"
segment_word (segment.New kind) = codes "segment.new"
segment_word (segment.Free kind) = codes "segment.free"
segment_word (segment.Add scale) = codes "handle.add"
segment_word segment.Slice = codes "handle.slice"
segment_word segment.Eq = codes "handle.eq"
segment_word segment.IsNull = codes "handle.is_null"
segment_word segment.Diff = codes "handle.diff"
segment_word segment.LoadHandle = codes "handle.load"
segment_word segment.StoreHandle = codes "handle.store"
segment_word (segment.Load op) = load_word (codes "segload") op
segment_word (segment.Store op) = store_word (codes "segstore") op
segment_word segment.Seal = codes "handle.seal"

-- ---- all of them

abbrev pub instr_word : Instr → List ℕ
instr_word instr.Unreachable = codes "unreachable"
instr_word instr.Nop = codes "nop"
instr_word (instr.Block ty body) = codes "block"
instr_word (instr.Loop ty body) = codes "loop"
instr_word (instr.If ty first other) = codes "if"
instr_word (instr.Br l) = codes "br"
instr_word (instr.BrIf l) = codes "br_if"
instr_word (instr.BrTable targets) = codes "br_table"
instr_word instr.Return = codes "return"
instr_word (instr.Call x) = codes "call"
instr_word (instr.CallIndirect x) = codes "call_indirect"
instr_word instr.Drop = codes "drop"
instr_word instr.Select = codes "select"
instr_word (instr.LocalGet x) = codes "local.get"
instr_word (instr.LocalSet x) = codes "local.set"
instr_word (instr.LocalTee x) = codes "local.tee"
instr_word (instr.GlobalGet x) = codes "global.get"
instr_word (instr.GlobalSet x) = codes "global.set"
instr_word (instr.I32Const n) = codes "i32.const"
instr_word (instr.I64Const n) = codes "i64.const"
instr_word (instr.Numeric i) = numeric_word i
instr_word (instr.Linear i) = linear_word i
instr_word (instr.Segment i) = segment_word i
