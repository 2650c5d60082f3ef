-- Each instruction's code is that of its own row, and of no other one.
use Rattle.std.specs.Prelude.{◌≡◌, ◌==◌, ◌||◌, ℕ, Bool, false, Some, None, codes, refl}
use Rattle.ms_module.specs.declared.numeric.Width.TheVariants.{W32, W64}
use Rattle.ms_module.specs.declared.numeric.UnOp.TheVariants.{Clz, Ctz, Popcnt}
use Rattle.ms_module.specs.declared.numeric.BinOp.TheVariants.{Add, Sub, Mul, DivS, DivU, RemS, RemU, And, Or, Xor, Shl, ShrS, ShrU, Rotl, Rotr}
use Rattle.ms_module.specs.declared.numeric.RelOp.TheVariants.{Eq, Ne, LtS, LtU, GtS, GtU, LeS, LeU, GeS, GeU}
use Rattle.ms_module.specs.declared.numeric.Numeric.{Numeric}
use Rattle.ms_module.specs.declared.numeric.Numeric.TheVariants.{Eqz, Compare, Unary, Binary, Wrap, ExtendS, ExtendU}
use Rattle.ms_module.specs.declared.access.LoadOp.{LoadOp}
use Rattle.ms_module.specs.declared.access.LoadOp.TheVariants.{I32Load, I64Load, I32Load8S, I32Load8U, I32Load16S, I32Load16U, I64Load8S, I64Load8U, I64Load16S, I64Load16U, I64Load32S, I64Load32U}
use Rattle.ms_module.specs.declared.access.StoreOp.{StoreOp}
use Rattle.ms_module.specs.declared.access.StoreOp.TheVariants.{I32Store, I64Store, I32Store8, I32Store16, I64Store8, I64Store16, I64Store32}
use Rattle.ms_module.specs.Instructions.{by_code, load_rows, numeric_rows, operand_rows, segment_load_rows, segment_rows, segment_store_rows, store_rows}
use Rattle.ms_flat.specs.Keywords.{code_of, load_word, store_word}
use Rattle.ms_bin_write.specs.Instrs.{numeric_code}

-- the opcodes of blocks
abbrev pub is_block_code : ℕ → Bool
is_block_code c = (c == 0x02) || (c == 0x03) || (c == 0x04) || (c == 0x05) || (c == 0x0B)

abbrev pub IsNumericCode : Numeric → ℕ → Type 0
IsNumericCode i c = (is_block_code c ≡ false) × (by_code operand_rows c ≡ None) × (by_code numeric_rows c ≡ Some i)

pub numeric_found : (i : Numeric) → IsNumericCode i (numeric_code i)
unfolding numeric_code numeric_rows operand_rows
numeric_found (Eqz W32) = (refl, refl, refl)
numeric_found (Compare W32 Eq) = (refl, refl, refl)
numeric_found (Compare W32 Ne) = (refl, refl, refl)
numeric_found (Compare W32 LtS) = (refl, refl, refl)
numeric_found (Compare W32 LtU) = (refl, refl, refl)
numeric_found (Compare W32 GtS) = (refl, refl, refl)
numeric_found (Compare W32 GtU) = (refl, refl, refl)
numeric_found (Compare W32 LeS) = (refl, refl, refl)
numeric_found (Compare W32 LeU) = (refl, refl, refl)
numeric_found (Compare W32 GeS) = (refl, refl, refl)
numeric_found (Compare W32 GeU) = (refl, refl, refl)
numeric_found (Eqz W64) = (refl, refl, refl)
numeric_found (Compare W64 Eq) = (refl, refl, refl)
numeric_found (Compare W64 Ne) = (refl, refl, refl)
numeric_found (Compare W64 LtS) = (refl, refl, refl)
numeric_found (Compare W64 LtU) = (refl, refl, refl)
numeric_found (Compare W64 GtS) = (refl, refl, refl)
numeric_found (Compare W64 GtU) = (refl, refl, refl)
numeric_found (Compare W64 LeS) = (refl, refl, refl)
numeric_found (Compare W64 LeU) = (refl, refl, refl)
numeric_found (Compare W64 GeS) = (refl, refl, refl)
numeric_found (Compare W64 GeU) = (refl, refl, refl)
numeric_found (Unary W32 Clz) = (refl, refl, refl)
numeric_found (Unary W32 Ctz) = (refl, refl, refl)
numeric_found (Unary W32 Popcnt) = (refl, refl, refl)
numeric_found (Binary W32 Add) = (refl, refl, refl)
numeric_found (Binary W32 Sub) = (refl, refl, refl)
numeric_found (Binary W32 Mul) = (refl, refl, refl)
numeric_found (Binary W32 DivS) = (refl, refl, refl)
numeric_found (Binary W32 DivU) = (refl, refl, refl)
numeric_found (Binary W32 RemS) = (refl, refl, refl)
numeric_found (Binary W32 RemU) = (refl, refl, refl)
numeric_found (Binary W32 And) = (refl, refl, refl)
numeric_found (Binary W32 Or) = (refl, refl, refl)
numeric_found (Binary W32 Xor) = (refl, refl, refl)
numeric_found (Binary W32 Shl) = (refl, refl, refl)
numeric_found (Binary W32 ShrS) = (refl, refl, refl)
numeric_found (Binary W32 ShrU) = (refl, refl, refl)
numeric_found (Binary W32 Rotl) = (refl, refl, refl)
numeric_found (Binary W32 Rotr) = (refl, refl, refl)
numeric_found (Unary W64 Clz) = (refl, refl, refl)
numeric_found (Unary W64 Ctz) = (refl, refl, refl)
numeric_found (Unary W64 Popcnt) = (refl, refl, refl)
numeric_found (Binary W64 Add) = (refl, refl, refl)
numeric_found (Binary W64 Sub) = (refl, refl, refl)
numeric_found (Binary W64 Mul) = (refl, refl, refl)
numeric_found (Binary W64 DivS) = (refl, refl, refl)
numeric_found (Binary W64 DivU) = (refl, refl, refl)
numeric_found (Binary W64 RemS) = (refl, refl, refl)
numeric_found (Binary W64 RemU) = (refl, refl, refl)
numeric_found (Binary W64 And) = (refl, refl, refl)
numeric_found (Binary W64 Or) = (refl, refl, refl)
numeric_found (Binary W64 Xor) = (refl, refl, refl)
numeric_found (Binary W64 Shl) = (refl, refl, refl)
numeric_found (Binary W64 ShrS) = (refl, refl, refl)
numeric_found (Binary W64 ShrU) = (refl, refl, refl)
numeric_found (Binary W64 Rotl) = (refl, refl, refl)
numeric_found (Binary W64 Rotr) = (refl, refl, refl)
numeric_found Wrap = (refl, refl, refl)
numeric_found ExtendS = (refl, refl, refl)
numeric_found ExtendU = (refl, refl, refl)

abbrev pub IsLoadCode : LoadOp → ℕ → Type 0
IsLoadCode op c = (is_block_code c ≡ false) × (by_code operand_rows c ≡ None) × (by_code numeric_rows c ≡ None) × (by_code load_rows c ≡ Some op)

pub load_found : (op : LoadOp) → IsLoadCode op (code_of load_rows (load_word (codes "load") op))
unfolding load_rows numeric_rows operand_rows
load_found I32Load = (refl, refl, refl, refl)
load_found I64Load = (refl, refl, refl, refl)
load_found I32Load8S = (refl, refl, refl, refl)
load_found I32Load8U = (refl, refl, refl, refl)
load_found I32Load16S = (refl, refl, refl, refl)
load_found I32Load16U = (refl, refl, refl, refl)
load_found I64Load8S = (refl, refl, refl, refl)
load_found I64Load8U = (refl, refl, refl, refl)
load_found I64Load16S = (refl, refl, refl, refl)
load_found I64Load16U = (refl, refl, refl, refl)
load_found I64Load32S = (refl, refl, refl, refl)
load_found I64Load32U = (refl, refl, refl, refl)

abbrev pub IsStoreCode : StoreOp → ℕ → Type 0
IsStoreCode op c = (is_block_code c ≡ false) × (by_code operand_rows c ≡ None) × (by_code numeric_rows c ≡ None) × (by_code load_rows c ≡ None) × (by_code store_rows c ≡ Some op)

pub store_found : (op : StoreOp) → IsStoreCode op (code_of store_rows (store_word (codes "store") op))
unfolding load_rows store_rows numeric_rows operand_rows
store_found I32Store = (refl, refl, refl, refl, refl)
store_found I64Store = (refl, refl, refl, refl, refl)
store_found I32Store8 = (refl, refl, refl, refl, refl)
store_found I32Store16 = (refl, refl, refl, refl, refl)
store_found I64Store8 = (refl, refl, refl, refl, refl)
store_found I64Store16 = (refl, refl, refl, refl, refl)
store_found I64Store32 = (refl, refl, refl, refl, refl)

-- behind the prefix

abbrev pub IsSegmentLoadCode : LoadOp → ℕ → Type 0
IsSegmentLoadCode op c = (by_code segment_rows c ≡ None) × (by_code segment_load_rows c ≡ Some op)

pub segment_load_found : (op : LoadOp) → IsSegmentLoadCode op (code_of segment_load_rows (load_word (codes "segload") op))
unfolding segment_load_rows segment_rows
segment_load_found I32Load = (refl, refl)
segment_load_found I64Load = (refl, refl)
segment_load_found I32Load8S = (refl, refl)
segment_load_found I32Load8U = (refl, refl)
segment_load_found I32Load16S = (refl, refl)
segment_load_found I32Load16U = (refl, refl)
segment_load_found I64Load8S = (refl, refl)
segment_load_found I64Load8U = (refl, refl)
segment_load_found I64Load16S = (refl, refl)
segment_load_found I64Load16U = (refl, refl)
segment_load_found I64Load32S = (refl, refl)
segment_load_found I64Load32U = (refl, refl)

abbrev pub IsSegmentStoreCode : StoreOp → ℕ → Type 0
IsSegmentStoreCode op c = (by_code segment_rows c ≡ None) × (by_code segment_load_rows c ≡ None) × (by_code segment_store_rows c ≡ Some op)

pub segment_store_found : (op : StoreOp) → IsSegmentStoreCode op (code_of segment_store_rows (store_word (codes "segstore") op))
unfolding segment_load_rows segment_store_rows segment_rows
segment_store_found I32Store = (refl, refl, refl)
segment_store_found I64Store = (refl, refl, refl)
segment_store_found I32Store8 = (refl, refl, refl)
segment_store_found I32Store16 = (refl, refl, refl)
segment_store_found I64Store8 = (refl, refl, refl)
segment_store_found I64Store16 = (refl, refl, refl)
segment_store_found I64Store32 = (refl, refl, refl)
