-- Each keyword that is written stands in the table of instructions for what it is written of.
use Rattle.std.proofs.Common.{◌≡◌, refl}
use Rattle.std.specs.Prelude.{Some, codes}
use Rattle.ms_types.specs.declared.types.ValType.{ValType}
use Rattle.ms_types.specs.declared.types.ValType.TheVariants.{I32, I64, Handle}
use Rattle.ms_module.specs.declared.numeric.Width.TheVariants.{W32, W64}
use Rattle.ms_module.specs.declared.numeric.UnOp.TheVariants.{Clz, Ctz, Popcnt}
use Rattle.ms_module.specs.declared.numeric.BinOp.TheVariants.{Add, Sub, Mul, DivS, DivU, RemS, RemU, And, Or, Xor, Shl, ShrS, ShrU, Rotl, Rotr}
use Rattle.ms_module.specs.declared.numeric.RelOp.TheVariants.{Eq, Ne, LtS, LtU, GtS, GtU, LeS, LeU, GeS, GeU}
use Rattle.ms_module.specs.declared.numeric.Numeric.{Numeric}
use Rattle.ms_module.specs.declared.numeric.Numeric.TheVariants.{Eqz, Compare, Unary, Binary, Wrap, ExtendS, ExtendU}
use Rattle.ms_module.specs.declared.access.LoadOp.{LoadOp}
use Rattle.ms_module.specs.declared.access.LoadOp.TheVariants.{I32Load, I64Load, I32Load8S, I32Load8U, I32Load16S, I32Load16U, I64Load8S, I64Load8U, I64Load16S, I64Load16U, I64Load32S, I64Load32U}
use Rattle.ms_module.specs.declared.access.StoreOp.{StoreOp}
use Rattle.ms_module.specs.declared.access.StoreOp.TheVariants.{I32Store, I64Store, I32Store8, I32Store16, I64Store8, I64Store16, I64Store32}
use Rattle.ms_module.specs.Instructions.{by_word, load_rows, numeric_rows, segment_load_rows, segment_store_rows, store_rows, value_rows}
use Rattle.ms_flat.specs.Keywords.{load_word, numeric_word, store_word, value_word}

pub value_back : (ty : ValType) → by_word value_rows (value_word ty) ≡ Some ty
unfolding value_rows
value_back I32 = refl
value_back I64 = refl
value_back Handle = refl

pub numeric_back : (i : Numeric) → by_word numeric_rows (numeric_word i) ≡ Some i
unfolding numeric_rows
numeric_back (Eqz W32) = refl
numeric_back (Compare W32 Eq) = refl
numeric_back (Compare W32 Ne) = refl
numeric_back (Compare W32 LtS) = refl
numeric_back (Compare W32 LtU) = refl
numeric_back (Compare W32 GtS) = refl
numeric_back (Compare W32 GtU) = refl
numeric_back (Compare W32 LeS) = refl
numeric_back (Compare W32 LeU) = refl
numeric_back (Compare W32 GeS) = refl
numeric_back (Compare W32 GeU) = refl
numeric_back (Unary W32 Clz) = refl
numeric_back (Unary W32 Ctz) = refl
numeric_back (Unary W32 Popcnt) = refl
numeric_back (Binary W32 Add) = refl
numeric_back (Binary W32 Sub) = refl
numeric_back (Binary W32 Mul) = refl
numeric_back (Binary W32 DivS) = refl
numeric_back (Binary W32 DivU) = refl
numeric_back (Binary W32 RemS) = refl
numeric_back (Binary W32 RemU) = refl
numeric_back (Binary W32 And) = refl
numeric_back (Binary W32 Or) = refl
numeric_back (Binary W32 Xor) = refl
numeric_back (Binary W32 Shl) = refl
numeric_back (Binary W32 ShrS) = refl
numeric_back (Binary W32 ShrU) = refl
numeric_back (Binary W32 Rotl) = refl
numeric_back (Binary W32 Rotr) = refl
numeric_back (Eqz W64) = refl
numeric_back (Compare W64 Eq) = refl
numeric_back (Compare W64 Ne) = refl
numeric_back (Compare W64 LtS) = refl
numeric_back (Compare W64 LtU) = refl
numeric_back (Compare W64 GtS) = refl
numeric_back (Compare W64 GtU) = refl
numeric_back (Compare W64 LeS) = refl
numeric_back (Compare W64 LeU) = refl
numeric_back (Compare W64 GeS) = refl
numeric_back (Compare W64 GeU) = refl
numeric_back (Unary W64 Clz) = refl
numeric_back (Unary W64 Ctz) = refl
numeric_back (Unary W64 Popcnt) = refl
numeric_back (Binary W64 Add) = refl
numeric_back (Binary W64 Sub) = refl
numeric_back (Binary W64 Mul) = refl
numeric_back (Binary W64 DivS) = refl
numeric_back (Binary W64 DivU) = refl
numeric_back (Binary W64 RemS) = refl
numeric_back (Binary W64 RemU) = refl
numeric_back (Binary W64 And) = refl
numeric_back (Binary W64 Or) = refl
numeric_back (Binary W64 Xor) = refl
numeric_back (Binary W64 Shl) = refl
numeric_back (Binary W64 ShrS) = refl
numeric_back (Binary W64 ShrU) = refl
numeric_back (Binary W64 Rotl) = refl
numeric_back (Binary W64 Rotr) = refl
numeric_back Wrap = refl
numeric_back ExtendS = refl
numeric_back ExtendU = refl

pub load_back : (op : LoadOp) → by_word load_rows (load_word (codes "load") op) ≡ Some op
unfolding load_rows
load_back I32Load = refl
load_back I64Load = refl
load_back I32Load8S = refl
load_back I32Load8U = refl
load_back I32Load16S = refl
load_back I32Load16U = refl
load_back I64Load8S = refl
load_back I64Load8U = refl
load_back I64Load16S = refl
load_back I64Load16U = refl
load_back I64Load32S = refl
load_back I64Load32U = refl

pub segment_load_back : (op : LoadOp) → by_word segment_load_rows (load_word (codes "segload") op) ≡ Some op
unfolding segment_load_rows
segment_load_back I32Load = refl
segment_load_back I64Load = refl
segment_load_back I32Load8S = refl
segment_load_back I32Load8U = refl
segment_load_back I32Load16S = refl
segment_load_back I32Load16U = refl
segment_load_back I64Load8S = refl
segment_load_back I64Load8U = refl
segment_load_back I64Load16S = refl
segment_load_back I64Load16U = refl
segment_load_back I64Load32S = refl
segment_load_back I64Load32U = refl

pub store_back : (op : StoreOp) → by_word store_rows (store_word (codes "store") op) ≡ Some op
unfolding store_rows
store_back I32Store = refl
store_back I64Store = refl
store_back I32Store8 = refl
store_back I32Store16 = refl
store_back I64Store8 = refl
store_back I64Store16 = refl
store_back I64Store32 = refl

pub segment_store_back : (op : StoreOp) → by_word segment_store_rows (store_word (codes "segstore") op) ≡ Some op
unfolding segment_store_rows
segment_store_back I32Store = refl
segment_store_back I64Store = refl
segment_store_back I32Store8 = refl
segment_store_back I32Store16 = refl
segment_store_back I64Store8 = refl
segment_store_back I64Store16 = refl
segment_store_back I64Store32 = refl
